-- The steps of the search for the labels before a place that may bound the one there.
use Rattle.std.proofs.Common.{◌≡◌, ℕ, ◌<◌, List, [], ◌∷◌, ◌++◌, length, get_or, Contains, ◌⊎◌, inl, inr, refl, sym, subst, arith}
use Rattle.std.proofs.lemmas.List.{get_or_default}
use Rattle.std.proofs.lemmas.List.Elements.{Contains-append_left, Contains-append_right, All-append, All-cons, All-nil}
use Rattle.ml_ratio.specs.Fraction.{Fraction, value_of, IsAtMost}
use Rattle.ml_ratio.proofs.lemmas.Fractions.{at_most_trans, at_most_less}
use Rattle.ml_cone.specs.Choice.{IsLimit}
use Rattle.ml_cone.specs.Slots.{Rival, no_slot}
use Rattle.ml_cone.specs.declared.label.Label.{Label}
use Rattle.ml_cone.specs.declared.slot.Slot.{Slot}
use Rattle.ml_conflict.specs.Begin.{SetsNoneUpTo}
use Rattle.ml_pass.specs.Search.{rivals_in, IsSearched}

-- the rival at j sets no limit up to the bound
abbrev pub SetsNone : Label → (ℕ → Rival) → Fraction → ℕ → Type 0
SetsNone low rivals bound j = SetsNoneUpTo low (rivals j).label (value_of (rivals j).until) bound

module _ (low : Label) (rivals : ℕ → Rival) (n : ℕ) where
  -- nothing was found, and what was seen sets no limit
  pub searched_none : (seen : ℕ → Type 0) (bound : Fraction) (places : List ℕ) → ((j : ℕ) → seen j → j < n → SetsNone low rivals bound j) → IsSearched low rivals n seen bound bound places places
  searched_none seen bound places none = record {
    within = λ all. all;
    kept = λ j there. there;
    less = omega arith;
    leave = λ e e_end all most. most;
    others = λ j saw lt. inr (none j saw lt);
  }

  -- what was seen sets a limit
  pub searched_one : (j : ℕ) (bound next : Fraction) (places : List ℕ) → j < n → IsLimit low (rivals j).label (value_of (rivals j).until) next →
      IsAtMost next bound → IsSearched low rivals n (λ k. k ≡ j) bound next places (places ++ j ∷ [])
  searched_one j bound next places lt limit most = record {
    within = λ all. All-append (λ k. k < n) places (j ∷ []) all (All-cons (λ k. k < n) j [] lt (All-nil (λ k. k < n)));
    kept = λ k there. Contains-append_left places (j ∷ []) k there;
    less = most;
    leave = λ e e_end all upto. limit.greatest e e_end (all j here);
    others = λ k saw k_lt. inl (subst (Contains (places ++ j ∷ [])) (sym saw) here);
  }
    where
      here : Contains (places ++ j ∷ []) j
      here = Contains-append_right places (j ∷ []) j (0, omega arith, refl)

  -- no limit up to a bound is none up to a lesser one
  none_less : (j : ℕ) (bound next : Fraction) → IsAtMost next bound → SetsNone low rivals bound j → SetsNone low rivals next j
  none_less j bound next le none f limit below = at_most_less next bound f le (none f limit below)

  -- more was seen
  pub searched_more : (seen new all : ℕ → Type 0) (bound mid next : Fraction) (before during after : List ℕ) → IsSearched low rivals n seen bound mid before during →
      IsSearched low rivals n new mid next during after → ((j : ℕ) → all j → seen j ⊎ new j) → IsSearched low rivals n all bound next before after
  searched_more seen new all bound mid next before during after one two either = record {
    within = λ h. two.within (one.within h);
    kept = λ j there. two.kept j (one.kept j there);
    less = at_most_trans next mid bound two.less one.less;
    leave = λ e e_end each most. two.leave e e_end each (one.leave e e_end (λ j there. each j (two.kept j there)) most);
    others = λ j saw lt. elim (either j saw) [
      | inl old ↦ elim (one.others j old lt) [
        | inl there ↦ inl (two.kept j there)
        | inr none ↦ inr (none_less j mid next two.less none)
      ]
      | inr newer ↦ two.others j newer lt
    ];
  }

  -- what was not seen sets no limit
  pub searched_all : (seen all : ℕ → Type 0) (bound next : Fraction) (before after : List ℕ) → IsSearched low rivals n seen bound next before after →
      ((j : ℕ) → all j → j < n → seen j ⊎ SetsNone low rivals next j) → IsSearched low rivals n all bound next before after
  searched_all seen all bound next before after one either = record {
    within = one.within;
    kept = one.kept;
    less = one.less;
    leave = one.leave;
    others = λ j saw lt. elim (either j saw lt) [
      | inl old ↦ one.others j old lt
      | inr none ↦ inr none
    ];
  }

-- ---- a rival that a program reads

module _ (labels : List Label) (slots : List Slot) (low : Label) (place : ℕ) (a : Label) (s : Slot) (in' : place < length labels) (lt : place < length slots) where
  read_label : get_or labels place a ≡ get_or labels place low
  read_label = get_or_default labels place a low in'

  read_slot : get_or slots place s ≡ get_or slots place no_slot
  read_slot = get_or_default slots place s no_slot lt

  -- a rival that sets no limit up to the bound, as its label and slot are read, sets none as it stands in the search
  pub none_there : (bound : Fraction) → SetsNoneUpTo low (get_or labels place a) (value_of (get_or slots place s).until) bound → (j : ℕ) → j ≡ place → SetsNone low (rivals_in labels slots low) bound j
  none_there bound none j same =
      subst (SetsNone low (rivals_in labels slots low) bound) (sym same)
      (subst (λ (b : Label). SetsNoneUpTo low b (value_of (get_or slots place no_slot).until) bound) read_label
      (subst (λ (t : Slot). SetsNoneUpTo low (get_or labels place a) (value_of t.until) bound) read_slot none))

  -- the limit that a rival sets, as its label and slot are read, is the one that it sets as it stands in the search
  pub limit_there : (f : Fraction) → IsLimit low (get_or labels place a) (value_of (get_or slots place s).until) f →
      IsLimit low (rivals_in labels slots low place).label (value_of (rivals_in labels slots low place).until) f
  limit_there f limit =
      subst (λ (b : Label). IsLimit low b (value_of (get_or slots place no_slot).until) f) read_label
      (subst (λ (t : Slot). IsLimit low (get_or labels place a) (value_of t.until) f) read_slot limit)
