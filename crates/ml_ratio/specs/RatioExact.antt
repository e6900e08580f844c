use Rattle.std.proofs.Common.{◌≡◌, ◌<◌, ◌≤◌, ◌^◌, ◌&&◌, true, eqb, ap, ◌∙◌, arith}
use Rattle.std.proofs.lemmas.Bool.Decides.{nat_tests}
use Rattle.std.proofs.Props.{props}
use mathlib.Core.HLevel.{is_prop→PathP}
use Rattle.std.specs.declared.cmp.Ordering.TheVariants.{Equal}
use Rattle.std.specs.Ordering.{is_eq}
use Rattle.ml_ratio.specs.Lowest.{IsLowest}
use Rattle.ml_ratio.specs.declared.ratio.Ratio.{Ratio}
use Rattle.ml_ratio.specs.RatioOrder.{ratio_cmp, ratio_matches_eq}

both_same : (x y : Ratio) → (eqb x.num y.num && eqb x.den y.den) ≡ true → (x.num ≡ y.num) × (x.den ≡ y.den)
both_same x y e = (grind (arith, nat_tests), grind (arith, nat_tests))

-- ratios with the same parts are the same: each fact of theirs has one proof at most
same_fields : (x y : Ratio) → x.num ≡ y.num → x.den ≡ y.den → x ≡ y
same_fields x y e f i =
    record {
      num = e i;
      den = f i;
      positive = is_prop→PathP (λ j. 0 < f j) (λ j. hlevel props) x.positive y.positive i;
      low_num = is_prop→PathP (λ j. e j ≤ 2 ^ 32) (λ j. hlevel props) x.low_num y.low_num i;
      low_den = is_prop→PathP (λ j. f j ≤ 2 ^ 16) (λ j. hlevel props) x.low_den y.low_den i;
      lowest = is_prop→PathP (λ j. IsLowest (e j) (f j)) (λ j. hlevel props) x.lowest y.lowest i;
    }

-- ratios that the order does not tell apart are the same
pub ratio_exact : (x y : Ratio) → ratio_cmp x y ≡ Equal → x ≡ y
ratio_exact x y e =
    let both = both_same x y (ratio_matches_eq x y ∙ ap is_eq e) in
    same_fields x y both.0 both.1
