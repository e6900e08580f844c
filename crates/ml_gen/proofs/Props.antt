-- The properties of towns.
use Rattle.std.proofs.Common.{◌≡◌, ℕ, List, [], ◌∷◌, true, All, codes, refl, arith}
use Rattle.std.specs.Ordering.{nat_cmp}
use Rattle.std.specs.List.{AllPairs}
use Rattle.std.specs.Cmp.Lexicographic.{slice_cmp}
use Rattle.std.specs.declared.cmp.Ordering.TheVariants.{Less}
use Rattle.std.proofs.lemmas.List.Elements.{All-nil, All-cons}
use Rattle.std.proofs.lemmas.List.Kept.{AllPairs-cons}
use Rattle.ml_ratio.specs.Feature.{IsScalar, HaveScalars, AreAscending}
use Rattle.ml_ratio.specs.JsonNumber.{is_between, IsNumber, plain_number, whole, no_fraction, no_exponent}
use Rattle.ml_ratio.specs.declared.feature.Prop.{Prop}
use Rattle.ml_gen.specs.Thing.{text_prop, number_prop, town_props}

-- a digit above 0 is a number
pub digit : (d : ℕ) → is_between 49 57 d ≡ true → IsNumber (d ∷ [])
digit d h = plain_number (d ∷ [], [], refl, whole h tt, ([], [], refl, no_fraction, no_exponent))

abbrev name_of_town : Prop
name_of_town = text_prop (codes "name") (codes "ab")

abbrev place_of_town : Prop
place_of_town = text_prop (codes "place") (codes "city")

abbrev pop_of_town : List ℕ → Prop
pop_of_town pop = number_prop (codes "pop") pop

abbrev is_scalar : Prop → Type 0
is_scalar p = IsScalar p.value

-- the properties of a town have scalars, where the number is one
pub town_scalars : (pop : List ℕ) → IsNumber pop → HaveScalars (town_props pop)
town_scalars pop number =
    let none : All is_scalar [] = All-nil is_scalar in
    let one : All is_scalar (pop_of_town pop ∷ []) = All-cons is_scalar (pop_of_town pop) [] ∣ number ∣₁ none in
    let two : All is_scalar (place_of_town ∷ pop_of_town pop ∷ []) = All-cons is_scalar place_of_town (pop_of_town pop ∷ []) (tt {0}) one in
    All-cons is_scalar name_of_town (place_of_town ∷ pop_of_town pop ∷ []) (tt {0}) two

abbrev before : Prop → Prop → Type 0
before p q = slice_cmp nat_cmp p.key q.key ≡ Less

no_pairs : AllPairs before []
no_pairs i j d less lt = absurd (omega (arith, lt))

-- and they stand in order
pub town_ascending : (pop : List ℕ) → AreAscending (town_props pop)
town_ascending pop =
    let last : AllPairs before (pop_of_town pop ∷ []) = AllPairs-cons before (pop_of_town pop) [] (All-nil (before (pop_of_town pop))) no_pairs in
    let behind : All (before place_of_town) (pop_of_town pop ∷ []) = All-cons (before place_of_town) (pop_of_town pop) [] refl (All-nil (before place_of_town)) in
    let both : AllPairs before (place_of_town ∷ pop_of_town pop ∷ []) = AllPairs-cons before place_of_town (pop_of_town pop ∷ []) behind last in
    let others : All (before name_of_town) (place_of_town ∷ pop_of_town pop ∷ []) =
    All-cons (before name_of_town) place_of_town (pop_of_town pop ∷ []) refl (All-cons (before name_of_town) (pop_of_town pop) [] refl (All-nil (before name_of_town))) in
    AllPairs-cons before name_of_town (place_of_town ∷ pop_of_town pop ∷ []) others both
