-- The gaps of labels, one label after another.
use Rattle.std.proofs.Common.{◌≡◌, ℕ, ◌+◌, ◌*◌, ◌<◌, ◌≤◌, ◌↔◌, List, [], ◌∷◌, ◌++◌, length, get_or, arith, refl, sym, ◌∙◌, ap, subst, inl, inr, length-append, false, is_lt, nat_cmp}
use Rattle.std.specs.Prelude.{All, AllPairs}
use Rattle.std.specs.List.Sorted.{IsSortedBy}
use Rattle.std.proofs.Math.ListN.{get_or-append}
use Rattle.std.proofs.lemmas.Bool.{cases_lt}
use Rattle.std.proofs.lemmas.Bool.Decides.{nat_tests}
use Rattle.std.proofs.lemmas.List.{get_or_default, get_or_push}
use Rattle.std.proofs.lemmas.List.Sorted.{ranks_by, sorted_far}
use Rattle.ml_ratio.specs.Fraction.{Fraction, value_of, IsLess, IsAtMost}
use Rattle.ml_ratio.specs.RatioOrder.{ratio_cmp, ratio_total}
use Rattle.ml_ratio.proofs.lemmas.Fractions.{less_at_most, less_trans, at_most_trans, middle, middle_above, middle_below}
use Rattle.ml_cone.specs.Choice.{ActiveUntil}
use Rattle.ml_cone.specs.Overlap.{Overlap}
use Rattle.ml_cone.specs.declared.label.Label.{Label}
use Rattle.ml_gaps.specs.Blocked.{IsBlocked, IsPairPiece, IsBlockedBy}
use Rattle.ml_gaps.specs.Gap.{IsGapOf}
use Rattle.ml_gaps.specs.Gaps.{IsFreeOf, IsFreeGap, IsLongestFree, AreGaps}
use Rattle.ml_gaps.specs.Longest.{IsClearGap, IsLongestOf}
use Rattle.ml_gaps.specs.Piece.{HoldsScale, HaveScale, AddsPieces}
use Rattle.ml_gaps.specs.declared.gap.Gap.{Gap}
use Rattle.ml_gaps.specs.declared.piece.Piece.{Piece}
use Rattle.ml_ratio.proofs.lemmas.Anys.{any_of, any_none, any_left, any_right, any_either}
use Rattle.ml_ratio.proofs.lemmas.Intervals.{from_above}

-- ---- pieces in the order in which they begin

not_less : (m n : ℕ) → is_lt (nat_cmp m n) ≡ false → n ≤ m
not_less m n h = grind (arith, nat_tests)

-- of pieces that are sorted, each begins no later than those behind it
pub sorted_pieces : (pieces : List Piece) → IsSortedBy (λ p q. is_lt (ratio_cmp p.from q.from)) pieces → AllPairs (λ p q. IsAtMost (value_of p.from) (value_of q.from)) pieces
sorted_pieces pieces sorted i j d less lt =
    let p : Piece = get_or pieces i d in
    let q : Piece = get_or pieces j d in
    not_less (q.from.num * p.from.den) (p.from.num * q.from.den)
    (sorted_far (λ (x : Piece) (y : Piece). is_lt (ratio_cmp x.from y.from)) (ranks_by ratio_total (λ (x : Piece). x.from)) pieces sorted i j d (omega arith) lt)

-- pieces that hold scales of the label's range alone begin before its maximum
pub begin_within : (a : Label) (pieces : List Piece) → ((s : Fraction) → HaveScale pieces s → ActiveUntil a (value_of a.max) s) → All (λ p. IsAtMost (value_of p.from) (value_of a.max)) pieces
begin_within a pieces within k d lt =
    let p : Piece = get_or pieces k d in
    let s = middle (value_of p.from) (value_of p.to) in
    let up : IsLess (value_of p.from) s = middle_above (value_of p.from) (value_of p.to) p.some in
    let held : HoldsScale p s = (from_above p.from_in (value_of p.from) s up, middle_below (value_of p.from) (value_of p.to) p.some) in
    let below : IsLess (value_of p.from) (value_of a.max) = less_trans (value_of p.from) s (value_of a.max) up (within s (any_of (λ q. HoldsScale q s) pieces k d lt held)).1 in
    omega arith

-- a set with the same elements leaves the same gaps
clear_like : (a : Label) (K M : Fraction → Type 0) → ((s : Fraction) → M s → K s) → (f u : Fraction) → IsClearGap a K f u → IsClearGap a M f u
clear_like a K M into f u gap = record { is_gap = gap.is_gap; clear = λ s active m. gap.clear s active (into s m) }

-- the longest range that one set leaves clear is that for a set of the same fractions
pub longest_like : (a : Label) (K M : Fraction → Type 0) → ((s : Fraction) → K s ↔ M s) → (f u : Fraction) → IsLongestOf a K f u → IsLongestOf a M f u
longest_like a K M same f u best = record {
  is_clear = clear_like a K M (λ s m. (same s).1 m) f u best.is_clear;
  longest = λ g v gap. best.longest g v (clear_like a M K (λ s k. (same s).0 k) g v gap);
  first = λ g v gap e. best.first g v (clear_like a M K (λ s k. (same s).0 k) g v gap) e;
}

-- ---- what the labels before block

-- before the first label there are no pieces, and nothing blocks
pub blocked_none : (a : Label) (labels : List Label) (gaps : List Gap) (pieces : List Piece) → pieces ≡ [] → (s : Fraction) → HaveScale pieces s ↔ IsBlockedBy a labels gaps 0 s
blocked_none a labels gaps pieces empty s = (
  λ h. absurd (any_none (λ p. HoldsScale p s) (subst (λ (l : List Piece). HaveScale l s) empty h)),
  λ (j, b, g, lt, e, e', blocked). absurd (omega arith),
)

-- with the pieces at which the next label blocks, they hold all scales at which one of the labels up to it does
pub blocked_more : (a : Label) (labels : List Label) (gaps : List Gap) (j most : ℕ) (old new : List Piece) (b : Label) (g : Gap) →
    b ≡ get_or labels j b → g ≡ get_or gaps j g → j < length labels → j < length gaps → AddsPieces (IsBlocked a b g) (IsPairPiece a b g) most old new →
    ((s : Fraction) → HaveScale old s ↔ IsBlockedBy a labels gaps j s) → (s : Fraction) → HaveScale new s ↔ IsBlockedBy a labels gaps (j + 1) s
blocked_more a labels gaps j most old new b g at at' lt lt' adds so_far s = (forth, back)
  where
    forth : HaveScale new s → IsBlockedBy a labels gaps (j + 1) s
    forth h =
        elim (any_either (λ p. HoldsScale p s) old adds.added (subst (λ (l : List Piece). HaveScale l s) adds.appended h)) [
          | inl before ↦ let (k, c, f, less, e, e', blocked) = (so_far s).0 before in (k, c, f, omega arith, e, e', blocked)
          | inr now ↦ (j, b, g, omega arith, sym at, sym at', (adds.union s).0 now)
        ]

    back : IsBlockedBy a labels gaps (j + 1) s → HaveScale new s
    back (k, c, f, less, e, e', blocked) =
        subst (λ (l : List Piece). HaveScale l s) (sym adds.appended) (
        elim (cases_lt k j) [
          | inl before ↦ any_left (λ p. HoldsScale p s) old adds.added ((so_far s).1 (k, c, f, before, e, e', blocked))
          | inr now ↦
              let z : k ≡ j = omega arith in
              let same : c ≡ b = sym e ∙ (ap (λ (n : ℕ). get_or labels n c) z ∙ (get_or_default labels j c b lt ∙ sym at)) in
              let same' : f ≡ g = sym e' ∙ (ap (λ (n : ℕ). get_or gaps n f) z ∙ (get_or_default gaps j f g lt' ∙ sym at')) in
              any_right (λ p. HoldsScale p s) old adds.added ((adds.union s).1 (subst (λ (x : Label). IsBlocked a x g s) same (subst (λ (y : Gap). IsBlocked a c y s) same' blocked)))
        ])

-- a label that blocks nowhere adds no piece
pub blocked_past : (a : Label) (labels : List Label) (gaps : List Gap) (j : ℕ) (pieces : List Piece) →
    ((b : Label) (g : Gap) (s : Fraction) → IsBlocked a (get_or labels j b) (get_or gaps j g) s → ⊥) →
    ((s : Fraction) → HaveScale pieces s ↔ IsBlockedBy a labels gaps j s) → (s : Fraction) → HaveScale pieces s ↔ IsBlockedBy a labels gaps (j + 1) s
blocked_past a labels gaps j pieces none so_far s = (forth, back)
  where
    forth : HaveScale pieces s → IsBlockedBy a labels gaps (j + 1) s
    forth h = let (k, b, g, less, e, e', blocked) = (so_far s).0 h in (k, b, g, omega arith, e, e', blocked)

    back : IsBlockedBy a labels gaps (j + 1) s → HaveScale pieces s
    back (k, b, g, less, e, e', blocked) =
        elim (cases_lt k j) [
          | inl before ↦ (so_far s).1 (k, b, g, before, e, e', blocked)
          | inr now ↦
              let z : k ≡ j = omega arith in
              let its : b ≡ get_or labels j b = sym e ∙ ap (λ (n : ℕ). get_or labels n b) z in
              let its' : g ≡ get_or gaps j g = sym e' ∙ ap (λ (n : ℕ). get_or gaps n g) z in
              absurd (none b g s (subst (λ (x : Label). IsBlocked a x (get_or gaps j g) s) its (subst (λ (y : Gap). IsBlocked a b y s) its' blocked)))
        ]

-- ---- free gaps are those that are clear of what the labels before block

module _ (labels : List Label) (gaps : List Gap) (i : ℕ) (a : Label) (own : (d : Label) → get_or labels i d ≡ a) (in' : i < length labels) (before : i ≤ length gaps) where
  clear_free : (f u : Fraction) → IsClearGap a (IsBlockedBy a labels gaps i) f u → IsFreeGap labels gaps i f u
  clear_free f u gap = record {
    is_gap = λ d. subst (λ (x : Label). IsGapOf x f u) (sym (own d)) gap.is_gap;
    free = λ j d e less s scale active active' overlap.
        let b : Label = get_or labels j d in
        let g : Gap = get_or gaps j e in
        let l = gap.is_gap in
        let overlap' : Overlap a b s = subst (λ (x : Label). Overlap x b s) (own d) overlap in
        gap.clear s active (
          j,
          b,
          g,
          less,
          get_or_default labels j b d (omega arith),
          get_or_default gaps j g e (omega arith),
          (scale, (at_most_trans (value_of a.min) f s l.low active.0, less_at_most s u (value_of a.max) active.1 l.high), active', overlap'),
        );
  }

  free_clear : (f u : Fraction) → IsFreeGap labels gaps i f u → IsClearGap a (IsBlockedBy a labels gaps i) f u
  free_clear f u gap = record {
    is_gap = subst (λ (x : Label). IsGapOf x f u) (own a) (gap.is_gap a);
    clear = λ s active (j, b, g, less, e, e', blocked).
        let free : IsFreeOf a f u b g = subst (λ (x : Label). IsFreeOf x f u b g) (own b) (subst (λ (y : Label). IsFreeOf (get_or labels i b) f u y g) e
        (subst (λ (z : Gap). IsFreeOf (get_or labels i b) f u (get_or labels j b) z) e' (gap.free j b g less))) in
        free s blocked.0 active blocked.2 blocked.3;
  }

  -- the longest range that is clear of what the labels before block is the longest free gap
  pub longest_free : (f u : Fraction) → IsLongestOf a (IsBlockedBy a labels gaps i) f u → IsLongestFree labels gaps i f u
  longest_free f u best = record {
    is_free = clear_free f u best.is_clear;
    longest = λ g v gap. best.longest g v (free_clear g v gap);
    first = λ g v gap same. best.first g v (free_clear g v gap) same;
  }

-- ---- one label more

-- the first i labels have their gaps
pub record Chosen (labels : List Label) (i : ℕ) (gaps : List Gap) : Type 0 where
  pub one_each : length gaps ≡ i
  pub longest : (k : ℕ) (e : Gap) → k < i → IsLongestFree labels gaps k (value_of (get_or gaps k e).from) (value_of (get_or gaps k e).until)

-- before the first label there is no gap
pub chosen_none : (labels : List Label) (gaps : List Gap) → gaps ≡ [] → Chosen labels 0 gaps
chosen_none labels gaps empty = record { one_each = rw empty refl; longest = λ k e lt. absurd (omega arith) }

free_other : (labels : List Label) (gaps others : List Gap) (k : ℕ) → ((j : ℕ) (e : Gap) → j < k → get_or gaps j e ≡ get_or others j e) →
    (f u : Fraction) → IsFreeGap labels gaps k f u → IsFreeGap labels others k f u
free_other labels gaps others k same f u gap = record {
  is_gap = gap.is_gap;
  free = λ j d e less. subst (λ (g : Gap). IsFreeOf (get_or labels k d) f u (get_or labels j d) g) (same j e less) (gap.free j d e less);
}

longest_other : (labels : List Label) (gaps others : List Gap) (k : ℕ) → ((j : ℕ) (e : Gap) → j < k → get_or gaps j e ≡ get_or others j e) →
    (f u : Fraction) → IsLongestFree labels gaps k f u → IsLongestFree labels others k f u
longest_other labels gaps others k same f u best = record {
  is_free = free_other labels gaps others k same f u best.is_free;
  longest = λ g v gap. best.longest g v (free_other labels others gaps k (λ j e less. sym (same j e less)) g v gap);
  first = λ g v gap e. best.first g v (free_other labels others gaps k (λ j e' less. sym (same j e' less)) g v gap) e;
}

-- with the longest free gap of the next label behind the others, the labels up to it have theirs
pub chosen_more : (labels : List Label) (i : ℕ) (gaps : List Gap) (gap : Gap) → Chosen labels i gaps →
    IsLongestFree labels gaps i (value_of gap.from) (value_of gap.until) → Chosen labels (i + 1) (gaps ++ gap ∷ [])
chosen_more labels i gaps gap so_far best = record {
  one_each = (let one = so_far.one_each in omega (arith, length-append gaps (gap ∷ [])));
  longest = λ k e lt. elim (cases_lt k i) [
    | inl before ↦
        let at = kept k e before in
        subst (λ (g : Gap). IsLongestFree labels (gaps ++ gap ∷ []) k (value_of g.from) (value_of g.until)) at
        (longest_other labels gaps (gaps ++ gap ∷ []) k (λ j e' less. kept j e' (omega arith)) (value_of (get_or gaps k e).from) (value_of (get_or gaps k e).until) (so_far.longest k e before))
    | inr now ↦
        let z : i ≡ k = omega arith in
        let at : gap ≡ get_or (gaps ++ gap ∷ []) i e = sym (get_or_push gaps gap e i so_far.one_each) in
        subst (λ (n : ℕ). IsLongestFree labels (gaps ++ gap ∷ []) n (value_of (get_or (gaps ++ gap ∷ []) n e).from) (value_of (get_or (gaps ++ gap ∷ []) n e).until)) z
        (subst (λ (g : Gap). IsLongestFree labels (gaps ++ gap ∷ []) i (value_of g.from) (value_of g.until)) at
        (longest_other labels gaps (gaps ++ gap ∷ []) i (λ j e' less. kept j e' less) (value_of gap.from) (value_of gap.until) best))
  ];
}
  where
    kept : (j : ℕ) (e : Gap) → j < i → get_or gaps j e ≡ get_or (gaps ++ gap ∷ []) j e
    kept j e less = sym (get_or-append gaps (gap ∷ []) e j (let one = so_far.one_each in omega arith))

-- once all labels have their longest free gaps, these are the gaps of the list
pub chosen_all : (labels : List Label) (i : ℕ) (gaps : List Gap) → i ≡ length labels → Chosen labels i gaps → AreGaps labels gaps
chosen_all labels i gaps e so_far = record {
  one_each = so_far.one_each ∙ e;
  longest = λ k f lt. so_far.longest k f (omega arith);
}
