-- What a binary search in a font's advances says of a character's advance.
use Rattle.std.proofs.Common.{◌≡◌, ℕ, ◌<◌, ◌≤◌, List, length, get_or, Option, None, false, arith, eqb, sym, ◌∙◌, ap, find, inl, inr, ◌⊎◌}
use Rattle.std.proofs.lemmas.Bool.Decides.{nat_tests}
use Rattle.std.proofs.lemmas.Bool.{cases_lt, cases_order}
use Rattle.std.specs.Ordering.{nat_cmp, ordering_index}
use Rattle.std.specs.Option.{option_map_or}
use Rattle.std.specs.List.Sorted.{IsNonDecreasingBy, IsPartitionPoint}
use Rattle.std.specs.declared.cmp.Ordering.TheVariants.{Less, Equal, Greater}
use Rattle.ml_style.specs.declared.advance.Advance.{Advance}
use Rattle.ml_style.specs.declared.font.Font.{Font}
use Rattle.ml_style.specs.Advances.{AreAscending}
use Rattle.ml_style.specs.Font.{advance_of}
use Rattle.ml_style.proofs.Searching.{found, found_none, sorted_below}

-- the advance at a place that has the character
pub own : (font : Font) (advances : List Advance) (i ch : ℕ) (d : Advance) → advances ≡ font.advances →
    i < length advances → nat_cmp (get_or advances i d).ch ch ≡ Equal → (get_or advances i d).width ≡ advance_of font ch
own font advances i ch d e l h =
    let same : (get_or font.advances i d).ch ≡ ch = rw e at (let k : (get_or advances i d).ch ≡ ch = grind (arith, nat_tests) in k) in
    let below : i < length font.advances = rw e at l in
    rw e (sym (ap (λ (o : Option Advance). option_map_or (λ a. a.width) o font.fallback) (found (λ (a : Advance). a.ch) font.advances i ch d font.ascending below same)))

index_rises : (x y ch : ℕ) → x ≤ y → ordering_index (nat_cmp x ch) ≤ ordering_index (nat_cmp y ch)
index_rises x y ch h =
    elim (cases_order x ch) [
      | inl same ↦ elim (cases_order y ch) [
        | inl e ↦ (let a : nat_cmp x ch ≡ Equal = grind (arith, nat_tests) in let b : nat_cmp y ch ≡ Equal = grind (arith, nat_tests) in rw (a, b) (omega arith))
        | inr (inl l) ↦ absurd (omega arith)
        | inr (inr m) ↦ (let a : nat_cmp x ch ≡ Equal = grind (arith, nat_tests) in let b : nat_cmp y ch ≡ Greater = grind (arith, nat_tests) in rw (a, b) (omega arith))
      ]
      | inr (inl less) ↦ (let a : nat_cmp x ch ≡ Less = grind (arith, nat_tests) in rw a (omega arith))
      | inr (inr more) ↦ (let a : nat_cmp y ch ≡ Greater = grind (arith, nat_tests) in let b : nat_cmp x ch ≡ Greater = grind (arith, nat_tests) in rw (a, b) (omega arith))
    ]

-- of two places the later has no smaller character
in_order : (xs : List Advance) (i j : ℕ) (d : Advance) → AreAscending xs → i ≤ j → j < length xs → (get_or xs i d).ch ≤ (get_or xs j d).ch
in_order xs i j d s h l =
    elim (cases_lt i j) [
      | inl less ↦ (let below : (get_or xs i d).ch < (get_or xs j d).ch = sorted_below (λ (a : Advance). a.ch) xs i j d s less l in omega arith)
      | inr same ↦ (let e : i ≡ j = omega arith in rw e (omega arith))
    ]

differs : (x ch : ℕ) → (nat_cmp x ch ≡ Less) ⊎ (nat_cmp x ch ≡ Greater) → eqb x ch ≡ false
differs x ch (inl less) = grind (arith, nat_tests)
differs x ch (inr more) = grind (arith, nat_tests)

-- where no place has the character, the fallback
pub fallback : (font : Font) (advances : List Advance) (i ch : ℕ) → advances ≡ font.advances →
    (IsNonDecreasingBy (λ y. ordering_index (nat_cmp y.ch ch)) advances → IsPartitionPoint (λ y. nat_cmp y.ch ch ≡ Less) (λ y. nat_cmp y.ch ch ≡ Greater) advances i) →
    font.fallback ≡ advance_of font ch
fallback font advances i ch e h =
    let parts = h (λ a b d x y. index_rises (get_or advances a d).ch (get_or advances b d).ch ch (in_order advances a b d (rw e font.ascending) x y)) in
    let none : find (λ (a : Advance). eqb a.ch ch) advances ≡ None = found_none (λ (a : Advance). a.ch) advances ch
    (λ k d l. differs (get_or advances k d).ch ch (elim (cases_lt k i) [ inl before ↦ inl (parts.0 k d (omega arith) before) | inr after ↦ inr (parts.1 k d after l) ])) in
    ap (λ (o : Option Advance). option_map_or (λ a. a.width) o font.fallback) (sym none) ∙ ap (λ (xs : List Advance). option_map_or (λ a. a.width) (find (λ a. eqb a.ch ch) xs) font.fallback) e
