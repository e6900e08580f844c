-- Lists and their elements, as one comes or goes.
use Rattle.std.proofs.Common.{◌≡◌, ℕ, ◌<◌, List, length, get_or, Contains, inl, inr, sym, ◌∙◌, subst}
use Rattle.std.specs.Prelude.{All}
use Rattle.std.proofs.lemmas.List.{get_or_default}
use Rattle.std.proofs.lemmas.List.Elements.{All-contains, All-contains_itself, All-weaker}
use Rattle.ml_ratio.specs.Lists.{IsAdded}
use Rattle.ml_ratio.proofs.lemmas.Lists.{added_has, added_only}

-- what is true of each element of the longer list is true of the shorter one's, and of the new one
pub all_shorter : {A : Type 0} (P : A → Type 0) {x : A} {xs ys : List A} → IsAdded x xs ys → All P ys → All P xs
all_shorter {A} P {x} {xs} {ys} a h =
    All-weaker (Contains xs) P (λ y c. All-contains P ys y h (added_has a y c)) xs (All-contains_itself xs)

-- what is true of the new element and of each one of the shorter list is true of each one of the longer list
pub all_longer : {A : Type 0} (P : A → Type 0) {x : A} {xs ys : List A} → IsAdded x xs ys → P x → All P xs → All P ys
all_longer {A} P {x} {xs} {ys} a p h =
    All-weaker (Contains ys) P (λ y c. elim (added_only a y c) [
      | inl same ↦ subst P same p
      | inr old ↦ All-contains P xs y h old
    ]) ys (All-contains_itself ys)

-- a place read twice
pub read_again : {A : Type 0} (xs : List A) (i : ℕ) (x y : A) → i < length xs → x ≡ get_or xs i x → y ≡ get_or xs i y → x ≡ y
read_again xs i x y lt e f = e ∙ get_or_default xs i x y lt ∙ sym f
