use Rattle.std.specs.Prelude.{ℕ, ◌<◌, ◌+◌, ◌*◌, ◌^◌}
use Rattle.ml_ratio.specs.Fraction.{value_of, IsAtMost}
use Rattle.ml_ratio.specs.Band.{IsInBand}
use Rattle.ml_ratio.specs.declared.ratio.Ratio.{Ratio}
use Rattle.ml_cone.specs.Cell.{SeenCell}
use Rattle.ml_cone.specs.declared.label.Label.{Label}
use Rattle.ml_cone.specs.declared.view.View.{View}

-- the label, active until u, is near the view: its minimum is below the upper end of the band of the view's scale,
-- its end is at least that scale, and some cell of its hull in that band meets the window
pub record IsNear (a : Label) (u : Ratio) (v : View) : Type 0 where
  pub band : ℕ
  pub in_band : IsInBand (value_of v.scale) band
  pub begins : a.min.num < 2 ^ (band + 1) * a.min.den
  pub lasts : IsAtMost (value_of v.scale) (value_of u)
  pub cell : SeenCell a v band
