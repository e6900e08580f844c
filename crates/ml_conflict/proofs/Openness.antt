-- Sets of scales that are open intervals, and where they and their unions begin.
use Rattle.std.proofs.Common.{◌≡◌, ℕ, zero, suc, ◌+◌, ◌*◌, ◌↔◌, List, [], ◌∷◌, arith, ◌⊎◌, inl, inr, ap, lit<, Option, Some, None, ℤ, pos, negsuc, ◌*ℤ◌, ◌<ℤ◌, ◌-ℤ◌}
use Rattle.std.proofs.lemmas.Bool.{cases_lt}
use Rattle.std.proofs.lemmas.Int.{ints}
use borrow.Author.Differences.{up, down}
use Rattle.std.specs.Prelude.{Any}
use Rattle.ml_ratio.specs.Fraction.{Fraction, IsLess, IsAtMost, IsScale}
use Rattle.ml_conflict.specs.Begin.{Clear, Covers, Begins}
use Rattle.ml_cone.specs.Plane.{IsBelow, SidesMeet, edge}
use Rattle.ml_cone.specs.Overlap.{widened, RectanglesMeet, BoxesOverlap, BoxOverlaps, Overlap}
use Rattle.ml_cone.specs.declared.label.Label.{Label}
use Rattle.ml_cone.specs.declared.label.BoxPx.{BoxPx}
use Rattle.ml_ratio.proofs.lemmas.Fractions.{less_at_most, at_most_less, less_trans, at_most_trans, scale_above, greater_of}
use Rattle.ml_ratio.proofs.lemmas.Anys.{any_here, any_there, any_cases}

-- s is below the end; no end is beyond all
abbrev pub IsUnder : Option Fraction → Fraction → Type 0
IsUnder None s = Unit {0}
IsUnder (Some h) s = IsLess s h

-- an open interval of fractions: none, or with its ends
abbrev pub Interval : Type 0
Interval = Option (Fraction × Option Fraction)

-- the interval holds s
abbrev pub Holds : Interval → Fraction → Type 0
Holds None s = ⊥
Holds (Some i) s = IsLess i.0 s × IsUnder i.1 s

-- below u and below the end
pub under_both : (u : Fraction) (end : Option Fraction) → (t : Fraction) × ((s : Fraction) → IsLess s t → IsLess s u × IsUnder end s) × ((s : Fraction) → IsLess s u → IsUnder end s → IsLess s t)
under_both u None = (u, λ s h. (h, tt), λ s h k. h)
under_both u (Some e) =
    elim (cases_lt (u.num * e.den) (e.num * u.den)) [
      | inl h ↦ (u, λ s k. (k, less_trans s u e k h), λ s k l. k)
      | inr h ↦ (e, λ s k. (less_at_most s e u k h, k), λ s k l. l)
    ]

-- where a set of scales begins
unfoldable pub HasBeginning : (Fraction → Type 0) → Type 0
HasBeginning K = (start u bound : Fraction) → IsAtMost start bound → (f : Fraction) × Begins K start u bound f

-- K is an open interval of scales
unfoldable pub IsOpen : (Fraction → Type 0) → Type 0
IsOpen K = (o : Interval) × ((s : Fraction) → IsScale s → K s ↔ Holds o s)

module _ (K : Fraction → Type 0) (start u bound : Fraction) (ok : IsAtMost start bound) where
  -- a set without a scale from `start` on and below u begins at the bound, which stands for nowhere
  pub none_bound : ((s : Fraction) → IsScale s → IsAtMost start s → IsLess s u → ¬ (K s)) → Begins K start u bound bound
  unfolding Clear
  none_bound none = record { from = ok; to = omega arith; clear = λ s scale p q r. none s scale p r; covers = λ h. absurd (omega arith) }

  -- so such a set has a place where it begins
  pub none_begins : ((s : Fraction) → IsScale s → IsAtMost start s → IsLess s u → ¬ (K s)) → (f : Fraction) × Begins K start u bound f
  none_begins none = (bound, none_bound none)

  -- the set of all scales between a lower end and an upper one, or above a lower end alone, has a place where it begins
  pub some_begins : (lo : Fraction) (hi : Option Fraction) → ((s : Fraction) → IsScale s → K s ↔ (IsLess lo s × IsUnder hi s)) → (f : Fraction) × Begins K start u bound f
  unfolding Clear Covers
  some_begins lo hi says =
      let g = greater_of start lo in
      let t = under_both u hi in
      elim (cases_lt (g.0.num * t.0.den) (t.0.num * g.0.den)) [
        | inl room ↦
            elim (cases_lt (g.0.num * bound.den) (bound.num * g.0.den)) [
              | inl inside ↦ (
                g.0,
                record {
                  from = g.1;
                  to = omega arith;
                  clear = λ s scale p q r k. let w = (says s scale).0 k in let m : IsAtMost g.0 s = g.3 s p (omega arith) in omega arith;
                  covers = λ _. (
                    t.0,
                    room,
                    λ s above below.
                        let w = t.1 s below in
                        (w.0, (says s (scale_above g.0 s above)).1 (at_most_less lo g.0 s g.2 above, w.1)),
                  );
                },
              )
              | inr outside ↦ (
                bound,
                record {
                  from = ok;
                  to = omega arith;
                  clear = λ s scale p q r k.
                      let w = (says s scale).0 k in
                      let m : IsAtMost g.0 s = g.3 s p (omega arith) in
                      let n : IsLess s g.0 = less_at_most s bound g.0 q outside in
                      omega arith;
                  covers = λ h. absurd (omega arith);
                },
              )
            ]
        | inr closed ↦ none_begins (λ s scale p r k.
            let w = (says s scale).0 k in
            let m : IsAtMost g.0 s = g.3 s p (omega arith) in
            let n : IsLess s t.0 = t.2 s r w.1 in
            let l : IsLess s g.0 = less_at_most s t.0 g.0 n closed in
            omega arith)
      ]

-- each open interval of scales has a place where it begins, from any scale on
pub open_begins : (K : Fraction → Type 0) → IsOpen K → HasBeginning K
unfolding IsOpen HasBeginning
open_begins K (None, says) start u bound ok = none_begins K start u bound ok (λ s scale p r k. (says s scale).0 k)
open_begins K (Some i, says) start u bound ok = some_begins K start u bound ok i.0 i.1 says

-- the same scales
pub begins_like : (K M : Fraction → Type 0) (start u bound f : Fraction) → ((s : Fraction) → IsScale s → M s ↔ K s) → Begins K start u bound f → Begins M start u bound f
unfolding Clear Covers
begins_like K M start u bound f same b =
    record {
      from = b.from;
      to = b.to;
      clear = λ s scale p q r k. b.clear s scale p q r ((same s scale).0 k);
      covers = λ below.
          let w = b.covers below in
          (w.0, w.1, λ s p q. let h = w.2 s p q in (h.0, (same s (scale_above f s p)).1 h.1));
    }

-- a union begins where the first of its two parts begins
pub begins_union : (K M N : Fraction → Type 0) (start u bound f g : Fraction) → ((s : Fraction) → N s → K s ⊎ M s) →
    ((s : Fraction) → K s → N s) → ((s : Fraction) → M s → N s) → Begins K start u bound f → Begins M start u f g → Begins N start u bound g
unfolding Clear Covers
begins_union K M N start u bound f g split left right one two =
    record {
      from = two.from;
      to = at_most_trans g f bound two.to one.to;
      clear = λ s scale p q r n.
          elim (split s n) [
            | inl k ↦ one.clear s scale p (less_at_most s g f q two.to) r k
            | inr m ↦ two.clear s scale p q r m
          ];
      covers = λ below.
          elim (cases_lt (g.num * f.den) (f.num * g.den)) [
            | inl less ↦
                let w = two.covers less in
                (w.0, w.1, λ s p q. ((w.2 s p q).0, right s (w.2 s p q).1))
            | inr same ↦
                let w = one.covers (at_most_less f g bound same below) in (
                  w.0,
                  at_most_less g f w.0 two.to w.1,
                  λ s p q.
                      let p' : IsLess f s = at_most_less f g s same p in
                      ((w.2 s p' q).0, left s (w.2 s p' q).1),
                )
          ];
    }

-- a union begins where the first of its parts begins
pub any_begins : {X : Type 0} (P : X → Fraction → Type 0) (xs : List X) → ((x : X) → HasBeginning (P x)) → HasBeginning (λ s. Any (λ x. P x s) xs)
unfolding HasBeginning Clear Covers
any_begins P [] each start u bound ok =
    (bound, record { from = ok; to = omega arith; clear = λ s scale p q r (k, y, lt, e, h). omega arith; covers = λ h. absurd (omega arith) })
any_begins {X} P (x ∷ xs) each start u bound ok =
    let first = each x start u bound ok in
    let rest = any_begins P xs each start u first.0 first.1.from in (
      rest.0,
      begins_union (P x) (λ s. Any (λ y. P y s) xs) (λ s. Any (λ y. P y s) (x ∷ xs)) start u bound first.0 rest.0
          (λ s any. any_cases (λ y. P y s) x xs any) (λ s k. any_here (λ y. P y s) x xs k) (λ s k. any_there (λ y. P y s) x xs k)
          first.1 rest.1,
    )

-- one strict inequality
-- u < v * s
pub half_line : (u v : ℤ) → (o : Interval) × ((s : Fraction) → IsScale s → ((u *ℤ pos s.den) <ℤ (v *ℤ pos s.num)) ↔ Holds o s)
half_line (pos k) (pos zero) = (None, λ s scale. (λ h. omega (arith, ints), λ h. absurd h))
half_line (negsuc k) (pos zero) = (Some (record { num = 0; den = 1; positive = lit< tt }, None), λ s scale. (λ h. (omega arith, tt), λ h. let p = s.positive in omega (arith, ints)))
half_line (pos k) (pos (suc m)) = (Some (record { num = k; den = suc m; positive = omega arith }, None), λ s scale. (λ h. (omega (arith, ints), tt), λ h. omega (arith, ints)))
half_line (negsuc k) (pos (suc m)) = (Some (record { num = 0; den = 1; positive = lit< tt }, None), λ s scale. (λ h. (omega arith, tt), λ h. omega (arith, ints)))
half_line (pos k) (negsuc m) = (None, λ s scale. (λ h. omega (arith, ints), λ h. absurd h))
half_line (negsuc k) (negsuc m) = (
  Some (record { num = 0; den = 1; positive = lit< tt }, Some (record { num = suc k; den = suc m; positive = omega arith })),
  λ s scale. (λ h. (omega arith, omega (arith, ints)), λ h. omega (arith, ints)),
)

-- both of two open intervals
meet_ends : (a b : Option Fraction) → (o : Option Fraction) × ((s : Fraction) → IsUnder o s → IsUnder a s × IsUnder b s) × ((s : Fraction) → IsUnder a s → IsUnder b s → IsUnder o s)
meet_ends None b = (b, λ s h. (tt, h), λ s _ h. h)
meet_ends (Some a) b =
    let t = under_both a b in
    (Some t.0, t.1, t.2)

-- the scales that lie in both of two open intervals are an open interval
pub open_both : (K M : Fraction → Type 0) → IsOpen K → IsOpen M → IsOpen (λ s. K s × M s)
unfolding IsOpen
open_both K M (None, k) (o, m) = (None, λ s scale. (λ h. (k s scale).0 h.0, λ h. absurd h))
open_both K M (Some i, k) (None, m) = (None, λ s scale. (λ h. (m s scale).0 h.1, λ h. absurd h))
open_both K M (Some i, k) (Some j, m) =
    let g = greater_of i.0 j.0 in
    let t = meet_ends i.1 j.1 in (
      Some (g.0, t.0),
      λ s scale. (
        λ h.
            let a = (k s scale).0 h.0 in
            let b = (m s scale).0 h.1 in
            (g.4 s a.0 b.0, t.2 s a.1 b.1),
        λ h.
            let e = t.1 s h.1 in
            ((k s scale).1 (at_most_less i.0 g.0 s g.1 h.0, e.0), (m s scale).1 (at_most_less j.0 g.0 s g.2 h.0, e.1)),
      ),
    )

-- a set of the same scales as an open interval is one, too
pub open_like : (K M : Fraction → Type 0) → ((s : Fraction) → K s ↔ M s) → IsOpen M → IsOpen K
unfolding IsOpen
open_like K M same (o, m) = (o, λ s scale. (λ h. (m s scale).0 ((same s).0 h), λ h. (same s).1 ((m s scale).1 h)))

-- boxes
-- a difference times a natural number, for `omega`
pub difference_scaled : (x y : ℤ) (n : ℕ) → up ((x -ℤ y) *ℤ pos n) + down x * n + up y * n ≡ down ((x -ℤ y) *ℤ pos n) + up x * n + down y * n
difference_scaled x y n =
    let e : up (x -ℤ y) + down x + up y ≡ down (x -ℤ y) + up x + down y = omega (arith, ints) in
    omega (arith, ints, ap (λ (t : ℕ). t * n) e)

-- an edge lies below another where the distance is below the difference of the offsets
pub below_by_distance : (x u y v : ℤ) (s : Fraction) → IsBelow x u y v s ↔ (((x -ℤ y) *ℤ pos s.den) <ℤ ((v -ℤ u) *ℤ pos s.num))
unfolding IsBelow
below_by_distance x u y v s =
    let d = difference_scaled x y s.den in
    let e = difference_scaled v u s.num in
    (λ h. let k : edge x u s <ℤ edge y v s = h in omega (arith, ints, d, e), λ h. omega (arith, ints, d, e))

-- the scales at which one edge lies below another are an open interval
pub below_open : (x u y v : ℤ) → IsOpen (IsBelow x u y v)
unfolding IsOpen
below_open x u y v = open_like (IsBelow x u y v) (λ s. ((x -ℤ y) *ℤ pos s.den) <ℤ ((v -ℤ u) *ℤ pos s.num)) (below_by_distance x u y v) (half_line (x -ℤ y) (v -ℤ u))

rectangles_open : (a : Label) (p : BoxPx) (b : Label) (q : BoxPx) → IsOpen (RectanglesMeet a p b q)
rectangles_open a p b q =
    open_both (SidesMeet a.x p.l p.r b.x q.l q.r) (SidesMeet a.y p.b p.t b.y q.b q.t)
    (open_both (IsBelow a.x p.l b.x q.r) (IsBelow b.x q.l a.x p.r) (below_open a.x p.l b.x q.r) (below_open b.x q.l a.x p.r))
    (open_both (IsBelow a.y p.b b.y q.t) (IsBelow b.y q.b a.y p.t) (below_open a.y p.b b.y q.t) (below_open b.y q.b a.y p.t))

-- the scales at which two boxes, widened by the margins, overlap are an open interval
pub boxes_open : (a : Label) (p : BoxPx) (b : Label) (q : BoxPx) → IsOpen (BoxesOverlap a p b q)
unfolding BoxesOverlap
boxes_open a p b q =
    rectangles_open a (widened a p) b (widened b q)

-- the scales at which two labels overlap, by any two of their boxes, have a place where they begin
pub overlap_begins : (a b : Label) → HasBeginning (Overlap a b)
unfolding Overlap
overlap_begins a b =
    any_begins (λ p s. BoxOverlaps a p b s) a.boxes
    (λ p. any_begins (λ q s. BoxesOverlap a p b q s) b.boxes (λ q. open_begins (BoxesOverlap a p b q) (boxes_open a p b q)))
