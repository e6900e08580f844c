use Rattle.std.proofs.Common.{◌≡◌, ℕ, List, Option, Some, None, true, false, not, inl, inr, refl, sym, ◌∙◌, ap, subst}
use Rattle.std.specs.Prelude.{MatchOption}
use Rattle.std.specs.Option.{is_some}
use Rattle.ml_cone.specs.declared.label.Label.{Label}
use Rattle.ml_cone.specs.Places.{find_place, IsNoId, IsPlaceOf}
use Rattle.ml_follow.specs.Changes.{HasId}
use Rattle.ml_follow.proofs.changes.push_gone.Goals as goal

gone : (o : Option ℕ) (labels : List Label) (id : List ℕ) → MatchOption o (IsNoId labels id) (IsPlaceOf labels id) → is_some o ≡ false → IsNoId labels id
gone None labels id h e = h
gone (Some j) labels id h e = absurd (let f : true ≡ false = e in cc)

known : (o : Option ℕ) (labels : List Label) (id : List ℕ) → MatchOption o (IsNoId labels id) (IsPlaceOf labels id) → is_some o ≡ true → HasId labels id
known None labels id h e = absurd (let f : false ≡ true = e in cc)
known (Some j) labels id h e = (j, h)

pub returns-in_ok-push_change : goal.returns-in_ok-push_change
returns-in_ok-push_change c =
    let new = c.args.new.now in
    let found = subst (λ (id : List ℕ). MatchOption (find_place new.places id) (IsNoId new.labels.now id) (IsPlaceOf new.labels.now id)) c.as_str.ensures.bytes
    (c.requires.new.finds c.as_str.result.now) in
    let place : find_place new.places c.args.id.now ≡ c.place_of.result = ap (find_place new.places) (sym c.as_str.ensures.bytes) ∙ sym c.place_of.ensures in
    let e : is_some (find_place new.places c.args.id.now) ≡ false = ap is_some place ∙ c.is_none.ensures ∙ ap not c.if-is_none.true in
    inr (gone (find_place new.places c.args.id.now) new.labels.now c.args.id.now found e, c.in_ok-push_change.ensures)

pub returns-else-is_none : goal.returns-else-is_none
returns-else-is_none c =
    let new = c.args.new.now in
    let found = subst (λ (id : List ℕ). MatchOption (find_place new.places id) (IsNoId new.labels.now id) (IsPlaceOf new.labels.now id)) c.as_str.ensures.bytes
    (c.requires.new.finds c.as_str.result.now) in
    let place : find_place new.places c.args.id.now ≡ c.place_of.result = ap (find_place new.places) (sym c.as_str.ensures.bytes) ∙ sym c.place_of.ensures in
    let e : is_some (find_place new.places c.args.id.now) ≡ true = ap is_some place ∙ c.is_none.ensures ∙ ap not c.if-is_none.false in
    inl (known (find_place new.places c.args.id.now) new.labels.now c.args.id.now found e, refl)
