-- The longest range that pieces leave, one piece after another.
use Rattle.std.proofs.Common.{◌≡◌, ℕ, ◌+◌, ◌*◌, ◌<◌, ◌≤◌, ◌↔◌, List, length, get_or, arith, sym, ◌∙◌, subst, ◌⊎◌, inl, inr}
use Rattle.std.specs.Prelude.{All, AllPairs}
use Rattle.std.proofs.lemmas.Bool.{cases_lt}
use Rattle.std.proofs.lemmas.List.{get_or_default}
use Rattle.std.proofs.Math.Nat.{mul-pos}
use Rattle.ml_ratio.specs.Fraction.{Fraction, value_of, IsLess, IsAtMost, IsSame}
use Rattle.ml_ratio.specs.declared.ratio.Ratio.{Ratio}
use Rattle.ml_ratio.proofs.lemmas.Fractions.{less_at_most, at_most_less, at_most_trans, middle, middle_above, middle_below, greater_of}
use Rattle.ml_ratio.proofs.lemmas.Intervals.{from_least, from_above}
use Rattle.ml_cone.specs.Range.{ActiveBetween}
use Rattle.ml_cone.specs.declared.label.Label.{Label}
use Rattle.ml_gaps.specs.Gap.{length_of, gap_length}
use Rattle.ml_gaps.specs.Longest.{IsClearGap, IsLongestOf}
use Rattle.ml_gaps.specs.Piece.{HoldsScale, HaveScale}
use Rattle.ml_gaps.specs.declared.gap.Gap.{Gap}
use Rattle.ml_gaps.specs.declared.piece.Piece.{Piece}
use Rattle.ml_ratio.proofs.lemmas.Anys.{any_at, any_of}
use Rattle.ml_gaps.proofs.Lengths.{empty_length, some_length, length_within, none_shorter}

-- below both of two
under_both : (u v : Fraction) → (t : Fraction) × IsAtMost t u × IsAtMost t v × ((x : Fraction) → IsLess x u → IsLess x v → IsLess x t)
under_both u v =
    elim (cases_lt (u.num * v.den) (v.num * u.den)) [
      | inl h ↦ (u, omega arith, omega arith, λ x p q. p)
      | inr h ↦ (v, h, omega arith, λ x p q. q)
    ]

-- a range that reaches into a piece from below its end has a fraction that the piece holds
shared : (piece : Piece) (f u : Fraction) → IsLess f u → IsLess f (value_of piece.to) → IsLess (value_of piece.from) u → (s : Fraction) × ActiveBetween f u s × HoldsScale piece s
shared piece f u room early late =
    let low = greater_of f (value_of piece.from) in
    let high = under_both u (value_of piece.to) in
    let l = low.0 in
    let h = high.0 in
    let inside : IsLess l h = high.3 l (below u room late) (below (value_of piece.to) early piece.some) in
    let s = middle l h in
    let up : IsLess l s = middle_above l h inside in
    let down : IsLess s h = middle_below l h inside in
    let from : IsLess f s = at_most_less f l s low.1 up in (
      s,
      ((let k : IsAtMost f s = omega arith in k), less_at_most s h u down high.1),
      (from_above piece.from_in (value_of piece.from) s (at_most_less (value_of piece.from) l s low.2 up), less_at_most s h (value_of piece.to) down high.2),
    )
  where
    below : (x : Fraction) → IsLess f x → IsLess (value_of piece.from) x → IsLess (greater_of f (value_of piece.from)).0 x
    below x p q = (greater_of f (value_of piece.from)).4 x p q

-- a range is no better than a gap: it is no longer, and where it is as long it begins no earlier
abbrev pub IsNoBetter : Fraction → Fraction → Gap → Type 0
IsNoBetter f u best = IsAtMost (length_of f u) (gap_length best) × (IsSame (length_of f u) (gap_length best) → IsAtMost (value_of best.from) f)

-- the first i pieces have been passed: all that they hold lies below `reach`, and the best of the ranges before it is known
pub record Swept (a : Label) (pieces : List Piece) (i : ℕ) (reach : Ratio) (best : Gap) : Type 0 where
  pub low : IsAtMost (value_of a.min) (value_of reach)
  pub passed : (k : ℕ) (d : Piece) → k < i → k < length pieces → IsAtMost (value_of (get_or pieces k d).to) (value_of reach)
  pub clear : IsClearGap a (HaveScale pieces) (value_of best.from) (value_of best.until)
  pub behind : IsAtMost (value_of best.from) (value_of reach)
  pub start : IsAtMost (value_of best.from) (value_of a.min) ⊎ IsLess (value_of best.from) (value_of best.until)
  pub others : (f u : Fraction) → IsClearGap a (HaveScale pieces) f u → IsLess f u → IsAtMost (value_of reach) f ⊎ IsNoBetter f u best

-- before the first piece the best gap is the empty one at the label's minimum, and all lies ahead
pub swept_none : (a : Label) (pieces : List Piece) (reach : Ratio) (best : Gap) → reach ≡ a.min → best.from ≡ a.min → best.until ≡ a.min → Swept a pieces 0 reach best
swept_none a pieces reach best is from until = record {
  low = rw is (omega arith);
  passed = λ k d lt in'. absurd (omega arith);
  clear = record {
    is_gap = record { low = rw from (omega arith); order = rw (from, until) (omega arith); high = (let r = a.range in rw until (omega arith)) };
    clear = λ s active any.
        let one = rw from at active.0 in
        let two = rw until at active.1 in
        omega arith;
  };
  behind = rw (is, from) (omega arith);
  start = inl (rw from (omega arith));
  others = λ f u gap room. inl (let l = gap.is_gap in rw is l.low);
}

-- what comes of the best gap and the range from `reach` until u
abbrev pub Outcome : Gap → Ratio → Ratio → Gap → Type 0
Outcome best reach u next =
    (IsLess (gap_length best) (length_of (value_of reach) (value_of u)) × (next ≡ record { from = reach; until = u }))
    ⊎ (IsAtMost (length_of (value_of reach) (value_of u)) (gap_length best) × (next ≡ best))

-- the range becomes the best gap where it is longer, and else the best gap stays
pub outcome : (best : Gap) (reach u : Ratio) (next : Gap) → (IsLess (gap_length best) (length_of (value_of reach) (value_of u)) → (next.from ≡ reach) × (next.until ≡ u)) →
    (IsAtMost (length_of (value_of reach) (value_of u)) (gap_length best) → next ≡ best) → Outcome best reach u next
outcome best reach u next longer kept =
    elim (cases_lt ((gap_length best).num * (length_of (value_of reach) (value_of u)).den) ((length_of (value_of reach) (value_of u)).num * (gap_length best).den)) [
      | inl more ↦ inl (more, (let e = longer more in (λ i. record { from = e.0 i; until = e.1 i })))
      | inr most ↦ inr (most, kept most)
    ]

module _ (a : Label) (pieces : List Piece) (i : ℕ) (reach : Ratio) (best : Gap) (so_far : Swept a pieces i reach best) (u : Ratio)
    (ahead : (k : ℕ) (d : Piece) → i ≤ k → k < length pieces → IsAtMost (value_of u) (value_of (get_or pieces k d).from)) (high : IsAtMost (value_of u) (value_of a.max)) where
  here : Gap
  here = record { from = reach; until = u }

  has_room : IsLess (gap_length best) (length_of (value_of reach) (value_of u)) → IsLess (value_of reach) (value_of u)
  has_room longer =
      elim (cases_lt (reach.num * u.den) (u.num * reach.den)) [
        | inl room ↦ room
        | inr none ↦ absurd (none_shorter (gap_length best) (length_of (value_of reach) (value_of u)) (empty_length (value_of reach) (value_of u) none) longer)
      ]

  here_clear : IsLess (value_of reach) (value_of u) → IsClearGap a (HaveScale pieces) (value_of reach) (value_of u)
  here_clear room = record {
    is_gap = record { low = so_far.low; order = omega arith; high = high };
    clear = λ s active any.
        let d : Piece = any.1 in
        let at = any_at (λ p. HoldsScale p s) pieces d any in
        let k = at.0 in
        let p : Piece = get_or pieces k d in
        let held : HoldsScale p s = at.2 in
        let from : IsAtMost (value_of p.from) s = from_least p.from_in (value_of p.from) s held.0 in
        elim (cases_lt k i) [
          | inl before ↦
              let below : IsLess s s = less_at_most s (value_of reach) s (less_at_most s (value_of p.to) (value_of reach) held.1 (so_far.passed k d before at.1)) active.0 in
              omega arith
          | inr after ↦
              let above : IsLess s s = less_at_most s (value_of p.from) s (less_at_most s (value_of u) (value_of p.from) active.1 (ahead k d after at.1)) from in
              omega arith
        ];
  }

  -- the gap that comes of it is clear of all pieces
  pub next_clear : (next : Gap) → Outcome best reach u next → IsClearGap a (HaveScale pieces) (value_of next.from) (value_of next.until)
  next_clear next (inl (longer, e)) = subst (λ (g : Gap). IsClearGap a (HaveScale pieces) (value_of g.from) (value_of g.until)) (sym e) (here_clear (has_room longer))
  next_clear next (inr (most, e)) = subst (λ (g : Gap). IsClearGap a (HaveScale pieces) (value_of g.from) (value_of g.until)) (sym e) so_far.clear

  -- the gap that comes of it begins no later than at `reach`
  pub next_behind : (next : Gap) → Outcome best reach u next → IsAtMost (value_of next.from) (value_of reach)
  next_behind next (inl (longer, e)) = subst (λ (g : Gap). IsAtMost (value_of g.from) (value_of reach)) (sym e) (let h : IsAtMost (value_of reach) (value_of reach) = omega arith in h)
  next_behind next (inr (most, e)) = subst (λ (g : Gap). IsAtMost (value_of g.from) (value_of reach)) (sym e) so_far.behind

  -- the gap that comes of it begins no later than the label's minimum, or is longer than 0
  pub next_start : (next : Gap) → Outcome best reach u next → IsAtMost (value_of next.from) (value_of a.min) ⊎ IsLess (value_of next.from) (value_of next.until)
  next_start next (inl (longer, e)) = subst (λ (g : Gap). IsAtMost (value_of g.from) (value_of a.min) ⊎ IsLess (value_of g.from) (value_of g.until)) (sym e) (inr (has_room longer))
  next_start next (inr (most, e)) = subst (λ (g : Gap). IsAtMost (value_of g.from) (value_of a.min) ⊎ IsLess (value_of g.from) (value_of g.until)) (sym e) so_far.start

  -- a range that lies from `reach` to u is no better
  pub within_next : (next : Gap) → Outcome best reach u next → (f v : Fraction) → IsLess f v → IsAtMost (value_of reach) f → IsAtMost v (value_of u) → IsNoBetter f v next
  within_next next out f v room from until = go out
    where
      le : IsAtMost f v
      le = omega arith

      inside : IsAtMost (length_of f v) (length_of (value_of reach) (value_of u))
      inside = length_within f v (value_of reach) (value_of u) from le until

      go : Outcome best reach u next → IsNoBetter f v next
      go (inl (longer, e)) = subst (λ (g : Gap). IsNoBetter f v g) (sym e) (inside, λ same. from)
      go (inr (most, e)) =
          subst (λ (g : Gap). IsNoBetter f v g) (sym e)
          (at_most_trans (length_of f v) (length_of (value_of reach) (value_of u)) (gap_length best) inside most, λ same. at_most_trans (value_of best.from) (value_of reach) f so_far.behind from)

  -- what was no better than the best is no better now
  pub kept_next : (next : Gap) → Outcome best reach u next → (f v : Fraction) → IsNoBetter f v best → IsNoBetter f v next
  kept_next next (inl (longer, e)) f v known =
      let less : IsLess (length_of f v) (length_of (value_of reach) (value_of u)) = at_most_less (length_of f v) (gap_length best) (length_of (value_of reach) (value_of u)) known.0 longer in
      subst (λ (g : Gap). IsNoBetter f v g) (sym e) ((let h : IsAtMost (length_of f v) (length_of (value_of reach) (value_of u)) = omega arith in h), λ same. absurd (omega arith))
  kept_next next (inr (most, e)) f v known = subst (λ (g : Gap). IsNoBetter f v g) (sym e) known

-- one piece more
pub swept_more : (a : Label) (pieces : List Piece) (i : ℕ) (reach : Ratio) (best : Gap) → Swept a pieces i reach best → (piece : Piece) → piece ≡ get_or pieces i piece → i < length pieces →
    AllPairs (λ p q. IsAtMost (value_of p.from) (value_of q.from)) pieces → All (λ p. IsAtMost (value_of p.from) (value_of a.max)) pieces → (next : Gap) → Outcome best reach piece.from next →
    (far : Ratio) → ((s : Fraction) → IsAtMost (value_of far) s ↔ (IsAtMost (value_of reach) s × IsAtMost (value_of piece.to) s)) → Swept a pieces (i + 1) far next
swept_more a pieces i reach best so_far piece at lt order within' next out far larger =
    record {
      low = at_most_trans (value_of a.min) (value_of reach) (value_of far) so_far.low both.0;
      passed = λ k d less in'. elim (cases_lt k i) [
        | inl before ↦ at_most_trans (value_of (get_or pieces k d).to) (value_of reach) (value_of far) (so_far.passed k d before in') both.0
        | inr now ↦
            let z : i ≡ k = omega arith in
            subst (λ (n : ℕ). IsAtMost (value_of (get_or pieces n d).to) (value_of far)) z (subst (λ (p : Piece). IsAtMost (value_of p.to) (value_of far)) (there d) both.1)
      ];
      clear = next_clear a pieces i reach best so_far piece.from ahead high next out;
      behind = at_most_trans (value_of next.from) (value_of reach) (value_of far) (next_behind a pieces i reach best so_far piece.from ahead high next out) both.0;
      start = next_start a pieces i reach best so_far piece.from ahead high next out;
      others = λ f u gap room. elim (so_far.others f u gap room) [
        | inr known ↦ inr (kept_next a pieces i reach best so_far piece.from ahead high next out f u known)
        | inl from ↦ elim (cases_lt (f.num * piece.to.den) (piece.to.num * f.den)) [
          | inl early ↦ inr (within_next a pieces i reach best so_far piece.from ahead high next out f u room from (clear_before f u gap room early))
          | inr late ↦ inl ((larger f).1 (from, late))
        ]
      ];
    }
  where
    both : IsAtMost (value_of reach) (value_of far) × IsAtMost (value_of piece.to) (value_of far)
    both = (larger (value_of far)).0 (let h : IsAtMost (value_of far) (value_of far) = omega arith in h)

    there : (d : Piece) → piece ≡ get_or pieces i d
    there d = at ∙ get_or_default pieces i piece d lt

    high : IsAtMost (value_of piece.from) (value_of a.max)
    high = subst (λ (p : Piece). IsAtMost (value_of p.from) (value_of a.max)) (sym at) (within' i piece lt)

    ahead : (k : ℕ) (d : Piece) → i ≤ k → k < length pieces → IsAtMost (value_of piece.from) (value_of (get_or pieces k d).from)
    ahead k d le in' = elim (cases_lt i k) [
      | inl less ↦ subst (λ (p : Piece). IsAtMost (value_of p.from) (value_of (get_or pieces k d).from)) (sym (there d)) (order i k d less in')
      | inr same ↦
          let z : i ≡ k = omega arith in
          subst (λ (n : ℕ). IsAtMost (value_of piece.from) (value_of (get_or pieces n d).from)) z
          (subst (λ (p : Piece). IsAtMost (value_of piece.from) (value_of p.from)) (there d) (let h : IsAtMost (value_of piece.from) (value_of piece.from) = omega arith in h))
    ]

    -- a range that the piece leaves clear, and that begins before its end, ends before it
    clear_before : (f u : Fraction) → IsClearGap a (HaveScale pieces) f u → IsLess f u → IsLess f (value_of piece.to) → IsAtMost u (value_of piece.from)
    clear_before f u gap room early =
        elim (cases_lt (piece.from.num * u.den) (u.num * piece.from.den)) [
          | inl into ↦
              let s = shared piece f u room early into in
              absurd (gap.clear s.0 s.1 (any_of (λ p. HoldsScale p s.0) pieces i piece lt (subst (λ (p : Piece). HoldsScale p s.0) at s.2)))
          | inr off ↦ off
        ]

-- at the end, with the range up to the label's maximum
pub swept_all : (a : Label) (pieces : List Piece) (i : ℕ) (reach : Ratio) (best : Gap) → Swept a pieces i reach best → length pieces ≤ i → (next : Gap) → Outcome best reach a.max next →
    IsLongestOf a (HaveScale pieces) (value_of next.from) (value_of next.until)
swept_all a pieces i reach best so_far all next out =
    record {
      is_clear = next_clear a pieces i reach best so_far a.max ahead high next out;
      longest = λ f u gap. elim (cases_lt (f.num * u.den) (u.num * f.den)) [
        | inl room ↦ (no_better f u gap room).0
        | inr none ↦ (let z = empty_length f u none in rw z (omega arith))
      ];
      first = λ f u gap same. elim (cases_lt (f.num * u.den) (u.num * f.den)) [
        | inl room ↦ (no_better f u gap room).1 same
        | inr none ↦ elim (next_start a pieces i reach best so_far a.max ahead high next out) [
          | inl low ↦ at_most_trans (value_of next.from) (value_of a.min) f low gap.is_gap.low
          | inr room ↦
              let z = empty_length f u none in
              let some = some_length (value_of next.from) (value_of next.until) room in
              let e : (length_of f u).num * (gap_length next).den ≡ (gap_length next).num * (length_of f u).den = same in
              let k = rw z at e in
              let p : 0 < (gap_length next).num * (length_of f u).den = mul-pos some (length_of f u).positive in
              absurd (omega arith)
        ]
      ];
    }
  where
    ahead : (k : ℕ) (d : Piece) → i ≤ k → k < length pieces → IsAtMost (value_of a.max) (value_of (get_or pieces k d).from)
    ahead k d le in' = absurd (omega arith)

    high : IsAtMost (value_of a.max) (value_of a.max)
    high = omega arith

    no_better : (f u : Fraction) → IsClearGap a (HaveScale pieces) f u → IsLess f u → IsNoBetter f u next
    no_better f u gap room =
        elim (so_far.others f u gap room) [
          | inr known ↦ kept_next a pieces i reach best so_far a.max ahead high next out f u known
          | inl from ↦ within_next a pieces i reach best so_far a.max ahead high next out f u room from gap.is_gap.high
        ]
