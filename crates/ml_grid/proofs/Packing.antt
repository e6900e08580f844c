-- The fraction in a number that was made of one.
use Rattle.std.proofs.Common.{◌≡◌, ◌+◌, ◌*◌, ◌/◌, ◌%◌, ℕ, ap, ◌∙◌, refl}
use Rattle.ml_ratio.proofs.lemmas.Intervals.{equal_ratio}
use Rattle.ml_ratio.specs.declared.ratio.Ratio.{Ratio}
use Rattle.ml_grid.specs.End.{AreTerms, unpacked, packed, packed_num, packed_den}

pub packs : (parts : ℕ) (terms : AreTerms (parts / 131072) (parts % 131072)) (r : Ratio) → parts ≡ packed r → unpacked parts terms ≡ r
packs parts terms r e =
    let num : parts / 131072 ≡ r.num = ap (λ (n : ℕ). n / 131072) e ∙ packed_num r in
    let den : parts % 131072 ≡ r.den = ap (λ (n : ℕ). n % 131072) e ∙ packed_den r in
    equal_ratio (unpacked parts terms) r (rw (num, den) refl)
