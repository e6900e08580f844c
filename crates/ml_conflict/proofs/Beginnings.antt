-- Where one interval begins, by the cases of the comparison.
use Rattle.std.proofs.Common.{◌↔◌, arith}
use Rattle.ml_ratio.specs.Fraction.{Fraction, IsLess, IsAtMost}
use Rattle.ml_conflict.specs.Begin.{Begins, Clear, Covers}
use Rattle.ml_ratio.proofs.lemmas.Fractions.{less_at_most, at_most_less}

module _ (K : Fraction → Type 0) (start u best lo : Fraction) (under : Fraction → Type 0) (says : (s : Fraction) → K s ↔ (IsLess lo s × under s)) where
  -- the interval begins at the greater of `start` and its lower end
  pub begins_here : (first last : Fraction) → ((s : Fraction) → IsAtMost first s ↔ (IsAtMost start s × IsAtMost lo s)) →
      ((s : Fraction) → IsLess s last ↔ (IsLess s u × under s)) → IsLess first last → IsLess first best → Begins K start u best first
  unfolding Clear Covers
  begins_here first last at_most below room inside =
      let ends = (at_most first).0 (omega arith) in
      record {
        from = ends.0;
        to = omega arith;
        clear = λ s scale p q r k.
            let w = (says s).0 k in
            let m : IsAtMost first s = (at_most s).1 (p, omega arith) in
            omega arith;
        covers = λ _. (
          last,
          room,
          λ s p q.
              let w = (below s).0 q in
              (w.0, (says s).1 (at_most_less lo first s ends.1 p, w.1)),
        );
      }

  -- it begins too late
  pub begins_late : (first : Fraction) → IsAtMost start best → ((s : Fraction) → IsAtMost first s ↔ (IsAtMost start s × IsAtMost lo s)) → IsAtMost best first → Begins K start u best best
  unfolding Clear
  begins_late first ok at_most late =
      record {
        from = ok;
        to = omega arith;
        clear = λ s scale p q r k.
            let w = (says s).0 k in
            let m : IsAtMost first s = (at_most s).1 (p, omega arith) in
            let n : IsLess s first = less_at_most s best first q late in
            omega arith;
        covers = λ h. absurd (omega arith);
      }

  -- it ends before it begins
  pub begins_never : (first last : Fraction) → IsAtMost start best → ((s : Fraction) → IsAtMost first s ↔ (IsAtMost start s × IsAtMost lo s)) →
      ((s : Fraction) → IsLess s last ↔ (IsLess s u × under s)) → IsAtMost last first → Begins K start u best best
  unfolding Clear
  begins_never first last ok at_most below closed =
      record {
        from = ok;
        to = omega arith;
        clear = λ s scale p q r k.
            let w = (says s).0 k in
            let m : IsAtMost first s = (at_most s).1 (p, omega arith) in
            let n : IsLess s last = (below s).1 (r, w.1) in
            let l : IsLess s first = less_at_most s last first n closed in
            omega arith;
        covers = λ h. absurd (omega arith);
      }
