use Rattle.std.specs.Prelude.{Any}
use Rattle.ml_ratio.specs.Fraction.{Fraction, value_of, IsScale}
use Rattle.ml_cone.specs.Plane.{SideInWindow}
use Rattle.ml_cone.specs.Range.{ActiveBetween}
use Rattle.ml_cone.specs.Shown.{IsInView}
use Rattle.ml_cone.specs.declared.label.Label.{Label}
use Rattle.ml_cone.specs.declared.label.BoxPx.{BoxPx}
use Rattle.ml_cone.specs.declared.slot.Span.{Span}
use Rattle.ml_cone.specs.declared.view.View.{View}
use Rattle.ml_flight.specs.declared.window.Window.{Window}

-- at the scale s the box's open rectangle meets that of the window
unfoldable pub BoxInWindow : Label → Window → BoxPx → Fraction → Type 0
BoxInWindow a at p s = SideInWindow a.x p.l p.r at.cx at.w s × SideInWindow a.y p.b p.t at.cy at.h s

-- at the scale s some box of the label meets the window
unfoldable pub IsInWindow : Label → Window → Fraction → Type 0
IsInWindow a at s = Any (λ p. BoxInWindow a at p s) a.boxes

-- s lies in the span, its upper end left out
abbrev pub IsActive : Span → Fraction → Type 0
IsActive span s = ActiveBetween (value_of span.min) (value_of span.until) s

-- s is a scale at which the label with its span is shown in the window; a scale may be of any size
abbrev pub IsShownAt : Label → Span → Window → Fraction → Type 0
IsShownAt a span at s = IsScale s × IsActive span s × IsInWindow a at s

-- the view shows the label with its span
abbrev pub IsShownBy : Label → Span → View → Type 0
IsShownBy a span view = IsActive span (value_of view.scale) × IsInView a view
