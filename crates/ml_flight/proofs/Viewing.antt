-- A window at a scale is a view.
use Rattle.std.proofs.Common.{◌↔◌}
use Rattle.ml_ratio.specs.Fraction.{value_of}
use Rattle.ml_cone.specs.Shown.{BoxInView, IsInView}
use Rattle.ml_cone.specs.declared.label.Label.{Label}
use Rattle.ml_cone.specs.declared.slot.Span.{Span}
use Rattle.ml_cone.specs.declared.view.View.{View}
use Rattle.ml_flight.specs.Shown.{BoxInWindow, IsInWindow, IsShownAt, IsShownBy}
use Rattle.ml_flight.specs.Window.{IsViewThrough}
use Rattle.ml_flight.specs.declared.window.Window.{Window}

-- a label that is in the view is in its window at the view's scale
pub in_view_in_window : (a : Label) (at : Window) (view : View) → IsViewThrough at view → IsInView a view → IsInWindow a at (value_of view.scale)
unfolding BoxInView IsInView BoxInWindow IsInWindow
in_view_in_window a at view same (k, p, lt, e, h) = (k, p, lt, e, rw (same.cx_is, same.cy_is, same.w_is, same.h_is) h)

-- a label that is in the window at the view's scale is in the view
pub in_window_in_view : (a : Label) (at : Window) (view : View) → IsViewThrough at view → IsInWindow a at (value_of view.scale) → IsInView a view
unfolding BoxInView IsInView BoxInWindow IsInWindow
in_window_in_view a at view same (k, p, lt, e, h) = (k, p, lt, e, rw (← same.cx_is, ← same.cy_is, ← same.w_is, ← same.h_is) h)

-- what a view shows is what is shown at its scale
pub shown_by_view : (a : Label) (span : Span) (at : Window) (view : View) → IsViewThrough at view → IsShownBy a span view ↔ IsShownAt a span at (value_of view.scale)
shown_by_view a span at view same = (
  λ h. (view.above, h.0, in_view_in_window a at view same h.1),
  λ h. (h.1, in_window_in_view a at view same h.2),
)
