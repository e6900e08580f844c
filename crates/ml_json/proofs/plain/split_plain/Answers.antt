use Rattle.std.proofs.Common.{◌∙◌, ◌++◌, [], refl, sym, ap, subst}
use Rattle.std.specs.Prelude.{All}
use Rattle.std.proofs.lemmas.List.Elements.{All-nil, All-push}
use Rattle.ml_json.specs.Leaps.{IsPlain}
use Rattle.ml_json.proofs.LeapLemmas.{starts, front_more, front_taken, plain_ascii}
use Rattle.ml_json.proofs.plain.split_plain.Goals as goal

pub loop-rest-init : goal.loop-rest-init
loop-rest-init c = record { text = []; holds = All-nil IsPlain; split = refl }

pub loop-rest-preserved : goal.loop-rest-preserved
loop-rest-preserved c =
    front_more _ c.loop-rest.invariant (starts c.loop-rest.rest.now _ c.in-len1-up.len_at_least refl)
    (λ text plain. All-push IsPlain text _ plain (sym c.is_plain.ensures ∙ c.if-is_plain.true))

pub slice_bounds-text_of-count : goal.slice_bounds-text_of-count
slice_bounds-text_of-count c = (front_taken c.loop-rest.invariant).within

pub text_of-requires : goal.text_of-requires
text_of-requires c = plain_ascii _ (front_taken c.loop-rest.invariant).holds

pub returns-clause-plain : goal.returns-clause-plain
returns-clause-plain c = subst (All IsPlain) (sym c.text_of.ensures) (front_taken c.loop-rest.invariant).holds

pub returns-clause-split : goal.returns-clause-split
returns-clause-split c = (front_taken c.loop-rest.invariant).split ∙ ap (λ t. t ++ c.loop-rest.rest.now) (sym c.text_of.ensures)
