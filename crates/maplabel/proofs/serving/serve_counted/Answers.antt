use Rattle.std.proofs.Common.{rules}
use Rattle.ml_http.specs.Context.{state_of}
use Rattle.maplabel.proofs.serving.serve_counted.Goals as goal

pub returns-clause-served : goal.returns-clause-served
returns-clause-served g c =
    let served = rw (c.new-steps.ensures, c.requires.none) at c.serve-end.ensures.served in
    record {
      last = state_of c.serve-end.new.context;
      visits = served.0;
      end = c.serve-end.result;
      headline = served.1;
      printed = served.2;
      cause = c.serve-end.ensures.cause;
      at_port = c.serve-end.ensures.port;
      crowd_is = search rules;
      status_is = c.status_of_serving.ensures;
    }
