use Rattle.ml_ratio.specs.Fraction.{value_of}
use Rattle.ml_ratio.proofs.lemmas.Fractions.{scale_above}
use Rattle.ml_gaps.proofs.block.block_pair.Goals as goal

pub returns-in-Some : goal.returns-in-Some
returns-in-Some c d s =
    let cut = c.cut.ensures s in (
      λ h.
          let w = cut.0 h in
          let scale = scale_above (value_of c.in-Some.between.0) s w.1.0 in
          (scale, w.0, (c.in-Some.ensures.scales d s scale).1 w.1),
      λ h. cut.1 (h.1, (c.in-Some.ensures.scales d s h.0).0 h.2),
    )
