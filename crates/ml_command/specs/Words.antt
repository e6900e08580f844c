-- Words that write a view, a window or a number.
use Rattle.std.specs.Prelude.{◌≡◌, ℕ, ◌≤◌, pos, List, [], ◌∷◌, codes, Some}
use Rattle.ml_cone.specs.declared.view.View.{View}
use Rattle.ml_flight.specs.Window.{HasWindowParts}
use Rattle.ml_flight.specs.declared.window.Window.{Window}
use Rattle.ml_ratio.specs.Number.{whole_number}
use Rattle.ml_view.specs.Words.{WritesView}

-- five words that write a view
pub record AreViewWords (words : List (List ℕ)) (view : View) : Type 0 where
  pub cx : List ℕ
  pub cy : List ℕ
  pub w : List ℕ
  pub h : List ℕ
  pub scale : List ℕ
  pub are : words ≡ cx ∷ cy ∷ w ∷ h ∷ scale ∷ []
  pub writes : WritesView cx cy w h scale view

-- four words that write a window: with any scale behind them, as 1, they write a view through it
pub record AreWindowWords (words : List (List ℕ)) (window : Window) : Type 0 where
  pub cx : List ℕ
  pub cy : List ℕ
  pub w : List ℕ
  pub h : List ℕ
  pub are : words ≡ cx ∷ cy ∷ w ∷ h ∷ []
  pub view : View
  pub writes : WritesView cx cy w h (codes "1") view
  pub through : HasWindowParts view.cx view.cy view.w view.h window

-- the word writes this number, which lies between two bounds
pub record IsNumberFrom (least most : ℕ) (word : List ℕ) (number : ℕ) : Type 0 where
  pub writes : whole_number word ≡ Some (pos number)
  pub low : least ≤ number
  pub high : number ≤ most
