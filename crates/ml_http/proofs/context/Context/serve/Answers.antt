use Rattle.std.proofs.Common.{rules, arith, refl, [], ◌∙◌}
use Rattle.ml_request.proofs.lemmas.Takes.{takes_nothing}
use Rattle.ml_http.proofs.ConnectionLemmas.{served_after, served_starved}
use Rattle.ml_http.proofs.LinkLemmas.{idles, link_served, texts_stay, texts_served}
use Rattle.ml_http.proofs.context.Context.serve.Goals as goal

pub returns-in_default-clause-served : goal.returns-in_default-clause-served
returns-in_default-clause-served g c =
    link_served _ c.hear_nothing.ensures c.hear_twice.ensures _ _ _ _ _ (served_starved _ _ _ _ [] (takes_nothing _) _ _ (idles _) c.starve.ensures.starved)

pub requests-preserved : goal.requests-preserved
requests-preserved g c =
    let turn = rw c.in-Open.is at c.serve_request.ensures.turn in
    record {
      loan = grind rules;
      some = omega (arith, c.in-Open.ensures.open);
      texts = texts_stay c.held_tiles_stay_right.ensures _ _ _ turn.event turn.answer turn.steps c.requests.invariant.texts;
      reads = (rw c.in-Open.is at c.serve_request.ensures.cause.reads) ∙ c.requests.invariant.reads;
      writes = (rw c.in-Open.is at c.serve_request.ensures.cause.writes) ∙ c.requests.invariant.writes;
      whatever_follows = λ new source sink end later.
          c.requests.invariant.whatever_follows new source sink end
          (served_after _ _ _ _ _ _ _ _ end c.requests.invariant.some refl refl turn later);
    }

pub returns-in-Over-clause-served : goal.returns-in-Over-clause-served
returns-in-Over-clause-served g c =
    link_served _ c.hear_nothing.ensures c.hear_twice.ensures _ _ _ _ c.in-Over.end
    (c.requests.invariant.whatever_follows _ _ _ c.in-Over.end (rw c.in-Over.is at c.serve_request.ensures.turn))

pub returns-in-Over-clause-texts : goal.returns-in-Over-clause-texts
returns-in-Over-clause-texts g c =
    texts_served c.held_tiles_stay_right.ensures _ _ _ _ _ c.in-Over.end
    (c.requests.invariant.whatever_follows _ _ _ c.in-Over.end (rw c.in-Over.is at c.serve_request.ensures.turn)) c.requires.texts
