-- Ascending lists of the same places are the same.
use Rattle.std.proofs.Common.{◌≡◌, ℕ, ◌<◌, List, length, get_or, Contains, subst, ◌∙◌, arith}
use Rattle.std.proofs.lemmas.List.{get_or_default}
use Rattle.ml_label.proofs.lemmas.SameLists.{one_list}

-- the elements of a list of places, read with 0 past its end
pub place_in : (places : List ℕ) (p : ℕ) → Contains places p → (k : ℕ) × (k < length places) × (get_or places k 0 ≡ p)
place_in places p there = (there.0, there.1, get_or_default places there.0 0 p there.1 ∙ there.2)

-- of two numbers one is less at most
no_less : (a b : ℕ) → a < b → b < a → ⊥
no_less a b lt gt = omega (arith, lt, gt)

ascending : (places : List ℕ) → ((k m : ℕ) → k < m → m < length places → get_or places k 0 < get_or places m 0) → (j i : ℕ) (d : ℕ) → j < i → i < length places → get_or places j d < get_or places i d
ascending places up j i d lt within =
    let before : j < length places = omega (arith, lt, within) in
    let at_j : get_or places j d ≡ get_or places j 0 = get_or_default places j d 0 before in
    let at_i : get_or places i d ≡ get_or places i 0 = get_or_default places i d 0 within in
    let less = up j i lt within in
    omega (arith, less, at_j, at_i)

module _ (P Q : ℕ → Type 0) (there : (p : ℕ) → P p → Q p) where
  -- a place that the one list has, the other has
  within : (ps qs : List ℕ) → ((k : ℕ) → k < length ps → P (get_or ps k 0)) → ((p : ℕ) → Q p → (k : ℕ) × (k < length qs) × (get_or qs k 0 ≡ p)) → (p : ℕ) → Contains ps p → Contains qs p
  within ps qs sound whole p in_ps =
      let at = place_in ps p in_ps in
      let found = whole p (there p (subst P at.2 (sound at.0 at.1))) in
      (found.0, found.1, get_or_default qs found.0 p 0 found.1 ∙ found.2)

-- lists that ascend, and have just the places of which one thing and the other holds, are the same where these hold together
pub same_listed : (P Q : ℕ → Type 0) (ps qs : List ℕ)
    → ((k m : ℕ) → k < m → m < length ps → get_or ps k 0 < get_or ps m 0) → ((k m : ℕ) → k < m → m < length qs → get_or qs k 0 < get_or qs m 0)
    → ((k : ℕ) → k < length ps → P (get_or ps k 0)) → ((k : ℕ) → k < length qs → Q (get_or qs k 0))
    → ((p : ℕ) → P p → (k : ℕ) × (k < length ps) × (get_or ps k 0 ≡ p)) → ((p : ℕ) → Q p → (k : ℕ) × (k < length qs) × (get_or qs k 0 ≡ p))
    → ((p : ℕ) → P p → Q p) → ((p : ℕ) → Q p → P p) → ps ≡ qs
same_listed P Q ps qs up_p up_q sound_p sound_q whole_p whole_q there back =
    one_list (λ a b. a < b) no_less ps qs (ascending ps up_p) (ascending qs up_q)
    (within P Q there ps qs sound_p whole_q) (within Q P back qs ps sound_q whole_p)
