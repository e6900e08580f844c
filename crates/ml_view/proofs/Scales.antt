-- Whether a fraction may be a view's scale rests on its value.
use Rattle.std.proofs.Common.{ℕ, ◌*◌, ◌^◌, ◌<◌, List, Some, arith, lit<}
use Rattle.ml_ratio.specs.Fraction.{Fraction, value_of, IsLess, IsSame}
use Rattle.ml_ratio.specs.Ratio.{ReadsRatio}
use Rattle.ml_ratio.specs.declared.ratio.Ratio.{Ratio}
use Rattle.ml_ratio.proofs.lemmas.Fractions.{less_at_most, at_most_less}
use Rattle.ml_ratio.proofs.lemmas.Numerals.{ratio_same}
use Rattle.ml_view.specs.Words.{IsScaleWord}

-- 0 and 2^28
abbrev none : Fraction
none = record { num = 0; den = 1; positive = lit< tt }

abbrev top : Fraction
top = record { num = 2 ^ 28; den = 1; positive = lit< tt }

-- where a word writes a view's scale, any ratio read from it is above 0 and below 2^28
pub scale_word : (word : List ℕ) (r s : Ratio) → ReadsRatio word (Some s) → IsScaleWord word r → (0 < s.num) × (s.num < 2 ^ 28 * s.den)
scale_word word r s reads is =
    let same : IsSame (value_of r) (value_of s) = ratio_same word r s is.reads reads in
    let low : IsLess none (value_of r) = (let a = is.above in omega arith) in
    let high : IsLess (value_of r) top = (let b = is.below in omega arith) in
    let above : IsLess none (value_of s) = less_at_most none (value_of r) (value_of s) low (omega arith) in
    let below : IsLess (value_of s) top = at_most_less (value_of s) (value_of r) top (omega arith) high in
    (omega arith, omega arith)
