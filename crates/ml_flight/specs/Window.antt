use Rattle.std.specs.Prelude.{◌≡◌, ℕ, ℤ, Option, MatchOption}
use Rattle.ml_ratio.specs.World.{IsInWorld}
use Rattle.ml_cone.specs.View.{IsWindowSide}
use Rattle.ml_cone.specs.declared.view.View.{View}
use Rattle.ml_flight.specs.declared.window.Window.{Window}

-- a centre in the world, and a window's sides
pub record AreWindowParts (cx cy : ℤ) (w h : ℕ) : Type 0 where
  pub world_x : IsInWorld cx
  pub world_y : IsInWorld cy
  pub width : IsWindowSide w
  pub height : IsWindowSide h

-- the window has just these parts
pub record HasWindowParts (cx cy : ℤ) (w h : ℕ) (window : Window) : Type 0 where
  pub cx_is : window.cx ≡ cx
  pub cy_is : window.cy ≡ cy
  pub w_is : window.w ≡ w
  pub h_is : window.h ≡ h

-- the answer is the window of these parts, or none where they make no window
abbrev pub IsWindowOf : ℤ → ℤ → ℕ → ℕ → Option Window → Type 0
IsWindowOf cx cy w h answer =
    MatchOption answer (¬ (AreWindowParts cx cy w h)) (λ window. AreWindowParts cx cy w h × HasWindowParts cx cy w h window)

-- the view looks through the window, at some scale
abbrev pub IsViewThrough : Window → View → Type 0
IsViewThrough at view = HasWindowParts view.cx view.cy view.w view.h at
