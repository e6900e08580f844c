-- Marks: where stays begin and end, and a fraction just after each.
use Rattle.std.proofs.Common.{◌≡◌, ℕ, zero, suc, ◌+◌, ◌*◌, ◌<◌, ◌↔◌, List, [], ◌∷◌, length, get_or, map, arith, refl, sym, subst, true, inl, inr}
use Rattle.std.specs.Prelude.{Any, All, Contains, flat_map}
use Rattle.std.proofs.lemmas.Bool.{cases_lt}
use Rattle.std.proofs.lemmas.List.Elements.{All-cons, All-nil, All-weaker, Contains-append_cases}
use Rattle.std.proofs.Math.Nat.{mul-lt-mul_of_pos_right}
use Rattle.ml_ratio.specs.Fraction.{Fraction, value_of, IsLess, IsAtMost}
use Rattle.ml_ratio.proofs.lemmas.Fractions.{less_at_most, at_most_less, less_trans, at_most_trans, middle, middle_above, middle_below}
use Rattle.ml_flight.specs.Stay.{HoldsScale, HaveScale}
use Rattle.ml_flight.specs.Peak.{IsEndOf, IsMark, IsJustAfter}
use Rattle.ml_flight.specs.declared.stay.Stay.{Stay}
use Rattle.ml_ratio.proofs.lemmas.Intervals.{from_least, from_above}
use Rattle.ml_ratio.proofs.lemmas.Anys.{any_at, any_of, any_here, any_there}
use Rattle.ml_flight.proofs.Opens.{IsOpen}

-- an element of joined lists is one of some list; an element of a mapped list is the value of some element
pub contained_flat : {X Y : Type 0} (f : X → List Y) (xs : List X) (y : Y) → Contains (flat_map f xs) y → Any (λ x. Contains (f x) y) xs
contained_flat f [] y (k, lt, e) = absurd (omega arith)
contained_flat {X} f (x ∷ xs) y h =
    elim (Contains-append_cases (f x) (flat_map f xs) y h) [
      | inl here ↦ any_here (λ (z : X). Contains (f z) y) x xs here
      | inr there ↦ any_there (λ (z : X). Contains (f z) y) x xs (contained_flat f xs y there)
    ]

-- each element of a mapped list is the value of some element of the list
pub contained_map : {X Y : Type 0} (f : X → Y) (xs : List X) (y : Y) → Contains (map f xs) y → Any (λ x. f x ≡ y) xs
contained_map f [] y (k, lt, e) = absurd (omega arith)
contained_map {X} f (x ∷ xs) y (zero, lt, e) = any_here (λ (z : X). f z ≡ y) x xs e
contained_map {X} f (x ∷ xs) y (suc k, lt, e) = any_there (λ (z : X). f z ≡ y) x xs (contained_map f xs y (k, omega arith, e))

-- t is at most each end of the stay that lies above m
abbrev NoneBetween : Fraction → Fraction → Stay → Type 0
NoneBetween m t stay = (IsLess m (value_of stay.from) → IsAtMost t (value_of stay.from)) × (IsLess m (value_of stay.to) → IsAtMost t (value_of stay.to))

none_lower : (m t t' : Fraction) → IsAtMost t' t → (stay : Stay) → NoneBetween m t stay → NoneBetween m t' stay
none_lower m t t' le stay h = (λ k. at_most_trans t' t (value_of stay.from) le (h.0 k), λ k. at_most_trans t' t (value_of stay.to) le (h.1 k))

lower : (m e t : Fraction) → IsLess m t → (t' : Fraction) × IsLess m t' × IsAtMost t' t × (IsLess m e → IsAtMost t' e)
lower m e t above =
    elim (cases_lt (m.num * e.den) (e.num * m.den)) [
      | inl up ↦ elim (cases_lt (e.num * t.den) (t.num * e.den)) [
        | inl nearer ↦ (e, up, omega arith, λ _. omega arith)
        | inr further ↦ (t, above, omega arith, λ _. further)
      ]
      | inr down ↦ (t, above, omega arith, λ k. absurd (omega arith))
    ]

lower_list : (m t : Fraction) (stays : List Stay) → IsLess m t → (t' : Fraction) × IsLess m t' × IsAtMost t' t × All (NoneBetween m t') stays
lower_list m t [] above = (t, above, omega arith, All-nil (NoneBetween m t))
lower_list m t (x ∷ xs) above =
    let rest = lower_list m t xs above in
    let one = lower m (value_of x.from) rest.0 rest.1 in
    let two = lower m (value_of x.to) one.0 one.1 in (
      two.0,
      two.1,
      at_most_trans two.0 rest.0 t (at_most_trans two.0 one.0 rest.0 two.2 one.2) rest.2,
      All-cons (NoneBetween m two.0) x xs (λ k. at_most_trans two.0 one.0 (value_of x.from) two.2 (one.3 k), two.3)
          (All-weaker (NoneBetween m rest.0) (NoneBetween m two.0) (none_lower m rest.0 two.0 (at_most_trans two.0 one.0 rest.0 two.2 one.2)) xs rest.3),
    )

lower_all : (m t : Fraction) (all : List (List Stay)) → IsLess m t → (t' : Fraction) × IsLess m t' × IsAtMost t' t × All (λ stays. All (NoneBetween m t') stays) all
lower_all m t [] above = (t, above, omega arith, All-nil (λ (stays : List Stay). All (NoneBetween m t) stays))
lower_all m t (x ∷ xs) above =
    let rest = lower_all m t xs above in
    let one = lower_list m rest.0 x rest.1 in (
      one.0,
      one.1,
      at_most_trans one.0 rest.0 t one.2 rest.2,
      All-cons (λ (stays : List Stay). All (NoneBetween m one.0) stays) x xs one.3
          (All-weaker (λ (stays : List Stay). All (NoneBetween m rest.0) stays) (λ (stays : List Stay). All (NoneBetween m one.0) stays)
          (λ stays. All-weaker (NoneBetween m rest.0) (NoneBetween m one.0) (none_lower m rest.0 one.0 one.2) stays) xs rest.3),
    )

-- some fraction above m
beyond : (m : Fraction) → (t : Fraction) × IsLess m t
beyond m = (record { num = m.num + m.den; den = m.den; positive = m.positive }, (let p = m.positive in grow m.num m.den p))
  where
    grow : (n d : ℕ) → 0 < d → n * d < (n + d) * d
    grow n d p = mul-lt-mul_of_pos_right (omega arith) p

-- some fraction lies just after m
pub just_after : (all : List (List Stay)) (m : Fraction) → (s : Fraction) × IsJustAfter all m s
just_after all m =
    let far = beyond m in
    let near = lower_all m far.0 all far.1 in
    let s = middle m near.0 in (
      s,
      (middle_above m near.0 near.1, λ t mark above. less_at_most s near.0 t (middle_below m near.0 near.1) (next near.0 near.3 t mark above)),
    )
  where
    next : (u : Fraction) → All (λ stays. All (NoneBetween m u) stays) all → (t : Fraction) → IsMark all t → IsLess m t → IsAtMost u t
    next u none t (inl zero') above = absurd (let h : m.num * t.den < t.num * m.den = above in let k = rw zero' at h in omega arith)
    next u none t (inr (i, stays, lt, e, (j, stay, lt', e', end))) above =
        let these : All (NoneBetween m u) stays = subst (λ (l : List Stay). All (NoneBetween m u) l) e (none i stays lt) in
        let this : NoneBetween m u stay = subst (λ (a : Stay). NoneBetween m u a) e' (these j stay lt') in
        elim end [
          | inl same ↦ at_most_trans u (value_of stay.from) t (this.0 (less_at_most m t (value_of stay.from) above (omega arith))) (omega arith)
          | inr same ↦ at_most_trans u (value_of stay.to) t (this.1 (less_at_most m t (value_of stay.to) above (omega arith))) (omega arith)
        ]

-- the ends of a stay of some label are marks
pub mark_of_from : (all : List (List Stay)) (i j : ℕ) (stays : List Stay) (d : Stay) → i < length all → stays ≡ get_or all i stays → j < length stays → IsMark all (value_of (get_or stays j d).from)
mark_of_from all i j stays d lt e lt' = inr (i, stays, lt, sym e, any_of (IsEndOf (value_of (get_or stays j d).from)) stays j d lt' (inl refl))

-- the upper end of a stay of some label is a mark, too
pub mark_of_to : (all : List (List Stay)) (i j : ℕ) (stays : List Stay) (d : Stay) → i < length all → stays ≡ get_or all i stays → j < length stays → IsMark all (value_of (get_or stays j d).to)
mark_of_to all i j stays d lt e lt' = inr (i, stays, lt, sym e, any_of (IsEndOf (value_of (get_or stays j d).to)) stays j d lt' (inr refl))

-- a label is shown at every scale just after m exactly where one of its stays is open there
pub shown_after : (all : List (List Stay)) (m : Fraction) (i : ℕ) (stays : List Stay) → i < length all →
    stays ≡ get_or all i stays → ((s : Fraction) → IsJustAfter all m s → HaveScale stays s) ↔ Any (IsOpen m true) stays
shown_after all m i stays lt e = (forth, back)
  where
    forth : ((s : Fraction) → IsJustAfter all m s → HaveScale stays s) → Any (IsOpen m true) stays
    forth shown =
        let near = just_after all m in
        let s = near.0 in
        let any = shown s near.1 in
        let d : Stay = any.1 in
        let at = any_at (λ a. HoldsScale a s) stays d any in
        let a : Stay = get_or stays at.0 d in
        let held : HoldsScale a s = at.2 in
        let low : IsAtMost (value_of a.from) m =
        elim (cases_lt (m.num * a.from.den) (a.from.num * m.den)) [
          | inl later ↦
              let before : IsLess s (value_of a.from) = near.1.1 (value_of a.from) (mark_of_from all i at.0 stays d lt e at.1) later in
              let from : IsAtMost (value_of a.from) s = from_least a.from_in (value_of a.from) s held.0 in
              absurd (omega arith)
          | inr earlier ↦ earlier
        ] in
        any_of (IsOpen m true) stays at.0 d at.1 (low, less_trans m s (value_of a.to) near.1.0 held.1)

    back : Any (IsOpen m true) stays → (s : Fraction) → IsJustAfter all m s → HaveScale stays s
    back any s after =
        let d : Stay = any.1 in
        let at = any_at (IsOpen m true) stays d any in
        let a : Stay = get_or stays at.0 d in
        let open' : IsOpen m true a = at.2 in
        any_of (λ b. HoldsScale b s) stays at.0 d at.1
        (from_above a.from_in (value_of a.from) s (at_most_less (value_of a.from) m s open'.0 after.0), after.1 (value_of a.to) (mark_of_to all i at.0 stays d lt e at.1) open'.1)
