use Rattle.std.proofs.Common.{refl}
use Rattle.ml_http.specs.Link.{lent}
use Rattle.maplabel.proofs.serving.pipe_counted.Goals as goal

pub returns-clause-served : goal.returns-clause-served
returns-clause-served g c = record {
  last = lent c.serve_link-end.new.editor c.serve_link-end.new.crowd c.serve_link-end.new.tiles c.serve_link-end.new.steps;
  end = c.serve_link-end.result;
  served = rw (c.new-steps.ensures, c.requires.none) at c.serve_link-end.ensures.served;
  cause = c.serve_link-end.ensures.cause;
  crowd_is = refl;
  status_is = c.status_of_link.ensures;
}
