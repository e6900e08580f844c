-- Limits: that they exist, and that the other label covers from them on.
use Rattle.std.proofs.Common.{◌*◌, ◌↔◌, arith, inl, inr, Some}
use Rattle.std.proofs.lemmas.Bool.{cases_lt}
use Rattle.ml_ratio.specs.Fraction.{Fraction, value_of, IsLess, IsAtMost, IsSame}
use Rattle.ml_cone.specs.Overlap.{Overlap}
use Rattle.ml_cone.specs.Near.{AreClear}
use Rattle.ml_cone.specs.Choice.{IsEnd, Allows, IsLimit, CoversFrom}
use Rattle.ml_conflict.specs.Begin.{Begins, Clear, Covers, IsBlock, SetsNoneUpTo}
use Rattle.ml_cone.specs.declared.label.Label.{Label}
use Rattle.ml_ratio.proofs.lemmas.Fractions.{less_at_most, at_most_less, at_most_trans, less_trans, middle, middle_above, middle_below, greater_of, scale_above}
use Rattle.ml_conflict.proofs.Greedy.{Allows-smaller}
use Rattle.ml_conflict.proofs.Openness.{under_both, HasBeginning, overlap_begins}

-- an end that is allowed, and from which on the other label covers, is the limit
pub limit_of_covers : (low high : Label) (u f : Fraction) → IsEnd low f → Allows low high u f → (IsLess f (value_of low.max) → CoversFrom low high u f) → IsLimit low high u f
unfolding Allows CoversFrom
limit_of_covers low high u f is_end allowed covers =
    record {
      is_end = is_end;
      allowed = allowed;
      greatest = λ e e_end e_allowed.
          elim (cases_lt (f.num * e.den) (e.num * f.den)) [
            | inl less ↦
                let w = covers (less_at_most f e (value_of low.max) less e_end.1) in
                let m = under_both w.0 (Some e) in
                let up : IsLess f m.0 = m.2 f w.1 less in
                let s : Fraction = middle f m.0 in
                let above : IsLess f s = middle_above f m.0 up in
                let under = m.1 s (middle_below f m.0 up) in
                let both = w.2 s above under.0 in
                let from : IsAtMost (value_of low.min) s = (let k : IsLess (value_of low.min) s = at_most_less (value_of low.min) f s is_end.0 above in omega arith) in
                absurd (e_allowed s (scale_above f s above) (from, under.1) both.0 both.1)
            | inr more ↦ more
          ];
    }

-- where the two overlap at no scale from where both ranges have begun on, below the bound and the other's end, the bound is allowed
pub clear_allows : (low high : Label) (u start bound last : Fraction) →
    ((s : Fraction) → IsAtMost start s ↔ (IsAtMost (value_of low.min) s × IsAtMost (value_of high.min) s)) →
    ((s : Fraction) → IsLess s last ↔ (IsLess s bound × IsLess s u)) → Clear (λ s. Overlap low high s) start last last → Allows low high u bound
unfolding Allows Clear
clear_allows low high u start bound last from below clear s scale a b =
    let under : IsLess s last = (below s).1 (a.1, b.1) in
    clear s scale ((from s).1 (a.0, b.0)) under under

-- where both ranges begin at or above the bound, the bound is allowed
pub apart_allows : (low high : Label) (u start bound : Fraction) →
    ((s : Fraction) → IsAtMost start s ↔ (IsAtMost (value_of low.min) s × IsAtMost (value_of high.min) s)) → IsAtMost bound start → Allows low high u bound
unfolding Allows
apart_allows low high u start bound from apart s scale a b o =
    let m : IsAtMost start s = (from s).1 (a.0, b.0) in
    let n : IsLess s start = less_at_most s bound start a.1 apart in
    omega arith

-- where the overlap begins, below a bound, is the limit; else the bound is allowed
module _ (low high : Label) (u start bound f : Fraction) (from : (s : Fraction) → IsAtMost start s ↔ (IsAtMost (value_of low.min) s × IsAtMost (value_of high.min) s))
    (within : IsAtMost bound (value_of low.max)) (b : Begins (λ s. Overlap low high s) start u bound f) where
  -- where the overlap begins is an end that the label may have
  pub begins_is_end : IsEnd low f
  begins_is_end =
      let k = (from start).0 (omega arith) in
      (at_most_trans (value_of low.min) start f k.0 b.from, at_most_trans f bound (value_of low.max) b.to within)

  -- the other label allows the end where the overlap begins
  pub begins_allows : Allows low high u f
  unfolding Allows Clear
  begins_allows s scale a c o = b.clear s scale ((from s).1 (a.0, c.0)) a.1 c.1 o

  -- just above where the overlap begins, if that is below the bound, the other label is active and overlaps
  pub begins_covers : IsLess f bound → CoversFrom low high u f
  unfolding CoversFrom Covers
  begins_covers h =
      let k = (from start).0 (omega arith) in
      let w = b.covers h in (
        w.0,
        w.1,
        λ s p q.
            let r = w.2 s p q in
            let from : IsAtMost (value_of high.min) f = at_most_trans (value_of high.min) start f k.1 b.from in
            let less : IsLess (value_of high.min) s = at_most_less (value_of high.min) f s from p in
            ((omega arith, r.0), r.1),
      )

  -- so where the overlap begins is the limit below the bound, or else the bound
  pub begins_block : IsBlock low high u bound f
  begins_block =
      record {
        to = b.to;
        limit = λ below. limit_of_covers low high u f begins_is_end begins_allows (λ _. begins_covers below);
        allowed = λ le. Allows-smaller low high u u bound f (omega arith) le begins_allows;
      }

-- there is such an end
pub limit_exists : (low high : Label) (u : Fraction) → (f : Fraction) × IsEnd low f × Allows low high u f × (IsLess f (value_of low.max) → CoversFrom low high u f)
unfolding HasBeginning
limit_exists low high u =
    let start = greater_of (value_of low.min) (value_of high.min) in
    let from : (s : Fraction) → IsAtMost start.0 s ↔ (IsAtMost (value_of low.min) s × IsAtMost (value_of high.min) s) =
    λ s. (λ h. (at_most_trans (value_of low.min) start.0 s start.1 h, at_most_trans (value_of high.min) start.0 s start.2 h), λ h. start.3 s h.0 h.1) in
    let range : IsLess (value_of low.min) (value_of low.max) = low.range in
    elim (cases_lt ((value_of low.max).num * start.0.den) (start.0.num * (value_of low.max).den)) [
      | inl apart ↦ (value_of low.max, (omega arith, omega arith), apart_allows low high u start.0 (value_of low.max) from (omega arith), λ h. absurd (omega arith))
      | inr near ↦
          let b = overlap_begins low high start.0 u (value_of low.max) near in
          let within : IsAtMost (value_of low.max) (value_of low.max) = omega arith in (
            b.0,
            begins_is_end low high u start.0 (value_of low.max) b.0 from within b.1,
            begins_allows low high u start.0 (value_of low.max) b.0 from within b.1,
            begins_covers low high u start.0 (value_of low.max) b.0 from within b.1,
          )
    ]

-- just above a limit that lies below the maximum, the other label is active and overlaps
pub covers_of_limit : (low high : Label) (u f : Fraction) → IsLimit low high u f → IsLess f (value_of low.max) → CoversFrom low high u f
unfolding CoversFrom
covers_of_limit low high u f limit below =
    let g = limit_exists low high u in
    let other = limit_of_covers low high u g.0 g.1 g.2 g.3 in
    let one : IsAtMost f g.0 = other.greatest f limit.is_end limit.allowed in
    let two : IsAtMost g.0 f = limit.greatest g.0 g.1 g.2 in
    let w = g.3 (at_most_less g.0 f (value_of low.max) two below) in
    (w.0, at_most_less f g.0 w.0 one w.1, λ s p q. w.2 s (at_most_less g.0 f s two p) q)

-- a limit exists
pub has_limit : (low high : Label) (u : Fraction) → (f : Fraction) × IsLimit low high u f
has_limit low high u =
    let g = limit_exists low high u in
    (g.0, limit_of_covers low high u g.0 g.1 g.2 g.3)

-- the same limit by another fraction of its value, and for another end of the other label of its value
pub limit_same : (low high : Label) (u v f g : Fraction) → IsSame u v → IsSame f g → IsLimit low high u f → IsLimit low high v g
limit_same low high u v f g same_u same_f limit =
    record {
      is_end = (at_most_trans (value_of low.min) f g limit.is_end.0 (omega arith), at_most_trans g f (value_of low.max) (omega arith) limit.is_end.1);
      allowed = Allows-smaller low high u v g f (omega arith) (omega arith) limit.allowed;
      greatest = λ e e_end e_allowed.
          at_most_trans e f g (limit.greatest e e_end (Allows-smaller low high v u e e (omega arith) (omega arith) e_allowed)) (omega arith);
    }

-- the same limit below the bound, for another end of the other label that has its value
pub block_same : (low high : Label) (u v bound f : Fraction) → IsSame u v → IsBlock low high u bound f → IsBlock low high v bound f
block_same low high u v bound f same block =
    record {
      to = block.to;
      limit = λ below. limit_same low high u v f f same (omega arith) (block.limit below);
      allowed = λ le. Allows-smaller low high u v bound bound (omega arith) (omega arith) (block.allowed le);
    }

-- both ranges have begun, by other fractions of the same values
pub start_from : (p q a b start : Fraction) → ((s : Fraction) → IsAtMost start s ↔ (IsAtMost a s × IsAtMost b s)) → ((s : Fraction) → IsAtMost a s ↔ IsAtMost p s) →
    ((s : Fraction) → IsAtMost b s ↔ IsAtMost q s) → (s : Fraction) → IsAtMost start s ↔ (IsAtMost p s × IsAtMost q s)
start_from p q a b start both one two s =
    (λ h. let k = (both s).0 h in ((one s).0 k.0, (two s).0 k.1), λ h. (both s).1 ((one s).1 h.0, (two s).1 h.1))

-- the bound itself is the block
pub block_none : (low high : Label) (u bound : Fraction) → Allows low high u bound → IsBlock low high u bound bound
block_none low high u bound allowed = record { to = omega arith; limit = λ h. absurd (omega arith); allowed = λ _. allowed }

-- ---- limits up to a bound

-- where the maximum is allowed, there is no limit below it
pub none_of_allowed : (low high : Label) (u bound : Fraction) → Allows low high u (value_of low.max) → SetsNoneUpTo low high u bound
none_of_allowed low high u bound allowed f limit below =
    let range : IsLess (value_of low.min) (value_of low.max) = low.range in
    let most : IsAtMost (value_of low.max) f = limit.greatest (value_of low.max) (omega arith, omega arith) allowed in
    absurd (omega arith)

-- where the limit lies above the bound, no limit is up to it
pub none_of_above : (low high : Label) (u bound g : Fraction) → IsLimit low high u g → IsLess bound g → SetsNoneUpTo low high u bound
none_of_above low high u bound g limit above f other below =
    less_at_most bound g f above (other.greatest g limit.is_end limit.allowed)

-- labels that overlap at no scale up to some one above the bound: no limit is up to the bound
pub none_of_clear : (low high : Label) (u bound : Fraction) → AreClear low high bound.num bound.den → SetsNoneUpTo low high u bound
unfolding Allows
none_of_clear low high u bound clear f limit below =
    let t = clear.0 in
    let above : IsLess bound t = clear.1 in
    elim (cases_lt (bound.num * f.den) (f.num * bound.den)) [
      | inl less ↦ less
      | inr upto ↦
          let up : IsLess f t = at_most_less f bound t upto above in
          let from : IsAtMost (value_of low.min) f = limit.is_end.0 in
          elim (cases_lt (t.num * low.max.den) (low.max.num * t.den)) [
            | inl inside ↦
                let e : IsEnd low t = (let k : IsLess (value_of low.min) t = at_most_less (value_of low.min) f t from up in omega arith, omega arith) in
                let most : IsAtMost t f = limit.greatest t e (λ s scale a b over. clear.2 s (omega (arith, a.1)) over) in
                absurd (omega arith)
            | inr past ↦
                let range : IsLess (value_of low.min) (value_of low.max) = low.range in
                let most : IsAtMost (value_of low.max) f = limit.greatest (value_of low.max) (omega arith, omega arith)
                (λ s scale a b over. clear.2 s (let k : IsLess s t = less_at_most s (value_of low.max) t a.1 past in omega arith) over) in
                absurd (omega arith)
          ]
    ]

-- labels that overlap at no scale up to some one above the end of the other: it sets no limit
pub none_of_ended : (low high : Label) (u bound : Fraction) → AreClear low high u.num u.den → SetsNoneUpTo low high u bound
unfolding Allows
none_of_ended low high u bound clear =
    none_of_allowed low high u bound (λ s scale a b over. clear.2 s (let ends : IsLess s u = b.1 in let above : IsLess u clear.0 = clear.1 in
    let past : IsLess s clear.0 = less_trans s u clear.0 ends above in omega (arith, past)) over)

-- a label that ends where it begins sets no limit
pub none_of_idle : (low high : Label) (u bound : Fraction) → IsAtMost u (value_of high.min) → SetsNoneUpTo low high u bound
unfolding Allows
none_of_idle low high u bound idle =
    none_of_allowed low high u bound (λ s scale a b over. let begun : IsAtMost (value_of high.min) s = b.0 in
    let ends : IsLess s u = b.1 in let past = less_at_most s u (value_of high.min) ends idle in absurd (omega arith))

-- a bound up to which no limit is set is allowed
pub allowed_up_to : (low high : Label) (u bound : Fraction) → IsAtMost bound (value_of low.max) → SetsNoneUpTo low high u bound → Allows low high u bound
allowed_up_to low high u bound most none =
    let g = has_limit low high u in
    elim (cases_lt (g.0.num * low.max.den) (low.max.num * g.0.den)) [
      | inl less ↦
          let above : IsLess bound g.0 = none g.0 g.1 less in
          Allows-smaller low high u u bound g.0 (omega arith) (omega arith) g.1.allowed
      | inr more ↦
          let upto : IsAtMost bound g.0 = at_most_trans bound (value_of low.max) g.0 most more in
          Allows-smaller low high u u bound g.0 (omega arith) upto g.1.allowed
    ]
