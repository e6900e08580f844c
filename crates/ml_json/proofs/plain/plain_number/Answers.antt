use Rattle.std.proofs.Common.{◌∙◌, ◌∷◌, ◌++◌, [], refl, sym, ap, subst}
use Rattle.ml_json.specs.State.{part_of}
use Rattle.ml_json.specs.Leaps.{Begins, first_byte, next_byte}
use Rattle.ml_json.proofs.LeapLemmas.{starts, front_more, front_taken, number_ascii}
use Rattle.ml_json.proofs.plain.plain_number.Goals as goal

pub loop-rest-init : goal.loop-rest-init
loop-rest-init c = record { text = _ ∷ []; holds = first_byte (sym c.in_ok-part.ensures); split = starts c.args.bytes.now _ c.in-len1-up.len_at_least refl }

pub loop-rest-preserved : goal.loop-rest-preserved
loop-rest-preserved c =
    front_more _ c.loop-rest.invariant (starts c.loop-rest.rest.now _ c.in-len1-up-rest.len_at_least refl) (λ text begins. next_byte _ begins (sym c.in-Some.ensures))

pub slice_bounds-text_of-count : goal.slice_bounds-text_of-count
slice_bounds-text_of-count c = (front_taken c.loop-rest.invariant).within

pub text_of-requires : goal.text_of-requires
text_of-requires c = number_ascii (front_taken c.loop-rest.invariant).holds

pub returns : goal.returns
returns c =
    let taken = front_taken c.loop-rest.invariant in (
      part_of c.loop-rest.part,
      subst (λ text. Begins text (part_of c.loop-rest.part)) (sym c.text_of.ensures) taken.holds,
      sym c.if-not-may_end.ensures,
      taken.split ∙ ap (λ t. t ++ c.loop-rest.rest.now) (sym c.text_of.ensures),
    )
