use Rattle.std.specs.Prelude.{◌≡◌, ℕ, ℤ, ◌*◌, ◌^◌, ◌<◌, List, Some, pos}
use Prim.Native.Nat.{zero, suc}
use Rattle.ml_ratio.specs.Number.{whole_number}
use Rattle.ml_ratio.specs.Ratio.{ReadsRatio}
use Rattle.ml_ratio.specs.declared.ratio.Ratio.{Ratio}
use Rattle.ml_ratio.specs.World.{IsInWorld}
use Rattle.ml_cone.specs.View.{IsWindowSide}
use Rattle.ml_cone.specs.declared.view.View.{View}

-- the word is the whole number z, which lies in the world
abbrev pub IsCoordinate : List ℕ → ℤ → Type 0
IsCoordinate word z = (whole_number word ≡ Some z) × IsInWorld z

-- the word is the whole number n, which may be the side of a window
abbrev pub IsSideWord : List ℕ → ℕ → Type 0
IsSideWord word n = (whole_number word ≡ Some (pos n)) × IsWindowSide n

-- the word is the fraction r, which may be a view's scale: above 0 and below 2^28
pub record IsScaleWord (word : List ℕ) (r : Ratio) : Type 0 where
  pub reads : ReadsRatio word (Some r)
  pub above : 0 < r.num
  pub below : r.num < 2 ^ 28 * r.den

-- five words write the view: its centre, its window and its scale
pub record WritesView (cx cy w h scale : List ℕ) (view : View) : Type 0 where
  pub cx_is : IsCoordinate cx view.cx
  pub cy_is : IsCoordinate cy view.cy
  pub w_is : IsSideWord w view.w
  pub h_is : IsSideWord h view.h
  pub scale_is : IsScaleWord scale view.scale

-- the word is a coordinate, a window's side, a view's scale
abbrev pub SomeCoordinate : List ℕ → Type 0
SomeCoordinate word = (z : ℤ) × IsCoordinate word z

abbrev pub SomeSide : List ℕ → Type 0
SomeSide word = (n : ℕ) × IsSideWord word n

abbrev pub SomeScale : List ℕ → Type 0
SomeScale word = (r : Ratio) × IsScaleWord word r

-- of five words for a view, the one at this place is the first that is not what it should be
abbrev pub IsFirstBad : List ℕ → List ℕ → List ℕ → List ℕ → List ℕ → ℕ → Type 0
IsFirstBad cx cy w h scale zero = ¬ (SomeCoordinate cx)
IsFirstBad cx cy w h scale (suc zero) = SomeCoordinate cx × ¬ (SomeCoordinate cy)
IsFirstBad cx cy w h scale (suc (suc zero)) = SomeCoordinate cx × SomeCoordinate cy × ¬ (SomeSide w)
IsFirstBad cx cy w h scale (suc (suc (suc zero))) = SomeCoordinate cx × SomeCoordinate cy × SomeSide w × ¬ (SomeSide h)
IsFirstBad cx cy w h scale (suc (suc (suc (suc zero)))) = SomeCoordinate cx × SomeCoordinate cy × SomeSide w × SomeSide h × ¬ (SomeScale scale)
IsFirstBad cx cy w h scale (suc (suc (suc (suc (suc n))))) = ⊥
