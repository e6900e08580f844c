-- Stays in the order in which they begin, joined one after another.
use Rattle.std.proofs.Common.{◌≡◌, ℕ, ◌+◌, ◌*◌, ◌<◌, ◌≤◌, ◌↔◌, List, [], ◌∷◌, ◌++◌, length, get_or, take, arith, sym, subst, ◌⊎◌, inl, inr}
use Rattle.std.specs.Prelude.{All, AllPairs}
use Rattle.std.proofs.lemmas.Bool.{cases_lt}
use Rattle.std.proofs.lemmas.List.{get_or_default}
use Rattle.std.proofs.lemmas.List.Elements.{All-push, All-nil}
use Rattle.std.proofs.lemmas.List.Quantifiers.{Any-push, all_pairs_push}
use Rattle.ml_ratio.specs.Fraction.{Fraction, value_of, IsLess}
use Rattle.ml_flight.specs.Stay.{HasBegun, HoldsScale, HaveScale, IsApart, AreApart, BeginsBy}
use Rattle.ml_flight.specs.declared.stay.Stay.{Stay}
use Rattle.ml_ratio.proofs.lemmas.Intervals.{from_up, not_both, before_else}
use Rattle.ml_ratio.proofs.lemmas.Anys.{any_of, any_none, any_left, any_push_cases, any_more_cases, any_whole}

-- two stays that meet make one: s lies below the later end
pub joined_holds : (a b : Stay) (s : Fraction) → BeginsBy a b → HasBegun b (value_of a.to) → HasBegun a s → (IsLess s (value_of a.to) ⊎ IsLess s (value_of b.to)) → HoldsScale a s ⊎ HoldsScale b s
joined_holds a b s order joins begun (inl less) = inl (begun, less)
joined_holds a b s order joins begun (inr less) =
    elim (cases_lt (s.num * a.to.den) (a.to.num * s.den)) [
      | inl here ↦ inl (begun, here)
      | inr more ↦ inr (from_up b.from_in (value_of b.from) (value_of a.to) s joins more, less)
    ]

-- the first i pieces are joined to the stays that are done and the current one
pub record Joining (pieces : List Stay) (i : ℕ) (done : List Stay) (current : Stay) : Type 0 where
  pub done_sound : (s : Fraction) → HaveScale done s → HaveScale pieces s
  pub sound : (s : Fraction) → HoldsScale current s → HaveScale pieces s
  pub whole : (s : Fraction) → HaveScale (take i pieces) s → HaveScale done s ⊎ HoldsScale current s
  pub apart : AreApart done
  pub last : All (λ a. IsApart a current) done
  pub begins : (k : ℕ) (d : Stay) → i ≤ k → k < length pieces → BeginsBy current (get_or pieces k d)

-- at first no stay is done, and the current one is the first piece, which begins no later than any
pub join_none : (pieces : List Stay) (first d : Stay) → 0 < length pieces → first ≡ get_or pieces 0 d → AllPairs BeginsBy pieces → Joining pieces 0 [] first
join_none pieces first d some is sorted = record {
  done_sound = λ s any. absurd (any_none (λ a. HoldsScale a s) any);
  sound = λ s h. any_of (λ a. HoldsScale a s) pieces 0 d some (subst (λ (a : Stay). HoldsScale a s) is h);
  whole = λ s any. absurd (any_none (λ a. HoldsScale a s) any);
  apart = λ i j e less lt. absurd (omega arith);
  last = All-nil (λ a. IsApart a first);
  begins = λ k e from lt.
      let at : first ≡ get_or pieces 0 e = (rw is (get_or_default pieces 0 d e some)) in
      elim (cases_lt 0 k) [
        | inl later ↦ subst (λ (a : Stay). BeginsBy a (get_or pieces k e)) (sym at) (sorted 0 k e later lt)
        | inr here ↦ let z : k ≡ 0 = omega arith in rw (z, at) (λ s h. h)
      ];
}

-- the next piece joins the current stay
pub join_more : (pieces : List Stay) (i : ℕ) (done : List Stay) (current next d : Stay) → Joining pieces i done current → i < length pieces →
    ((s : Fraction) → HoldsScale next s ↔ (HoldsScale current s ⊎ HoldsScale (get_or pieces i d) s)) → next.from ≡ current.from → next.from_in ≡ current.from_in → Joining pieces (i + 1) done next
join_more pieces i done current next d so_far lt same from from_in = record {
  done_sound = so_far.done_sound;
  sound = λ s h. elim ((same s).0 h) [
    | inl old ↦ so_far.sound s old
    | inr new ↦ any_of (λ a. HoldsScale a s) pieces i d lt new
  ];
  whole = λ s any. elim (any_more_cases (λ a. HoldsScale a s) pieces i d lt any) [
    | inl before ↦ elim (so_far.whole s before) [ inl old ↦ inl old | inr here ↦ inr ((same s).1 (inl here)) ]
    | inr new ↦ inr ((same s).1 (inr new))
  ];
  apart = so_far.apart;
  last = λ k e in'. rw (from, from_in) (so_far.last k e in');
  begins = λ k e more in' s h. rw (from, from_in) (so_far.begins k e (omega arith) in' s h);
}

-- the next piece does not join, and is the current stay from now on
pub join_next : (pieces : List Stay) (i : ℕ) (done : List Stay) (current d : Stay) → Joining pieces i done current → i < length pieces → AllPairs BeginsBy pieces →
    IsApart current (get_or pieces i d) → Joining pieces (i + 1) (done ++ current ∷ []) (get_or pieces i d)
join_next pieces i done current d so_far lt sorted apart = record {
  done_sound = λ s any. elim (any_push_cases (λ a. HoldsScale a s) done current any) [
    | inl old ↦ so_far.done_sound s old
    | inr here ↦ so_far.sound s here
  ];
  sound = λ s h. any_of (λ a. HoldsScale a s) pieces i d lt h;
  whole = λ s any. elim (any_more_cases (λ a. HoldsScale a s) pieces i d lt any) [
    | inl before ↦ elim (so_far.whole s before) [
      | inl old ↦ inl (any_left (λ a. HoldsScale a s) done (current ∷ []) old)
      | inr here ↦ inl (Any-push (λ a. HoldsScale a s) done current here)
    ]
    | inr new ↦ inr new
  ];
  apart = all_pairs_push IsApart done current so_far.apart (λ k e in'. so_far.last k e in');
  last = All-push (λ a. IsApart a (get_or pieces i d)) done current
      (λ k e in'.
      let a : Stay = get_or done k e in
      let b : Stay = get_or pieces i d in
      before_else b.from_in (value_of b.from) (value_of a.to)
      (λ h. not_both current.from_in (value_of current.from) (value_of a.to) (so_far.last k e in') (so_far.begins i d (omega arith) lt (value_of a.to) h)))
      apart;
  begins = λ k e more in'.
      let at = get_or_default pieces i d e lt in
      rw at (sorted i k e (omega arith) in');
}

-- at the end
pub join_scales : (pieces : List Stay) (i : ℕ) (done : List Stay) (current : Stay) → Joining pieces i done current →
    length pieces ≤ i → (s : Fraction) → HaveScale (done ++ current ∷ []) s ↔ HaveScale pieces s
join_scales pieces i done current so_far all s = (
  λ any. elim (any_push_cases (λ a. HoldsScale a s) done current any) [ inl old ↦ so_far.done_sound s old | inr here ↦ so_far.sound s here ],
  λ any. elim (so_far.whole s (any_whole (λ a. HoldsScale a s) pieces i all any)) [
    | inl old ↦ any_left (λ a. HoldsScale a s) done (current ∷ []) old
    | inr here ↦ Any-push (λ a. HoldsScale a s) done current here
  ],
)

-- no two of the stays that are done and the current one join
pub join_apart : (pieces : List Stay) (i : ℕ) (done : List Stay) (current : Stay) → Joining pieces i done current → AreApart (done ++ current ∷ [])
join_apart pieces i done current so_far = all_pairs_push IsApart done current so_far.apart (λ k e in'. so_far.last k e in')
