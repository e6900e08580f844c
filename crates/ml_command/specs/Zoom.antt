-- The zoom timeline of labels, and its text.
use Rattle.std.specs.Prelude.{ℕ, ◌≡◌, ◌<◌, ◌≤◌, ◌↔◌, List, [], ◌∷◌, ◌++◌, length, slice_index_or, flat_map, codes, decimal, Contains, if◌then◌else◌}
use Rattle.ml_ratio.specs.Fraction.{value_of}
use Rattle.ml_ratio.specs.Ratio.{ratio_text}
use Rattle.ml_cone.specs.Shown.{AreShown}
use Rattle.ml_cone.specs.Slots.{AreSlots, ends}
use Rattle.ml_cone.specs.declared.label.Label.{Label}
use Rattle.ml_cone.specs.declared.slot.Slot.{Slot}
use Rattle.ml_cone.specs.declared.view.View.{View}
use Rattle.ml_watch.specs.Line.{id_text}
use Rattle.ml_flight.specs.Window.{IsViewThrough}
use Rattle.ml_flight.specs.Stay.{HaveScale}
use Rattle.ml_flight.specs.Peak.{IsPeak}
use Rattle.ml_flight.specs.Timelines.{AreTimelines}
use Rattle.ml_flight.specs.declared.place.Peak.{Peak}
use Rattle.ml_flight.specs.declared.stay.Stay.{Stay}
use Rattle.ml_flight.specs.declared.window.Window.{Window}

-- a stay: its lower end behind a bracket where it is counted in, and else behind a parenthesis, and its upper end
abbrev pub stay_text : Stay → List ℕ
stay_text stay = (if stay.from_in then codes "[" else codes "(") ++ (ratio_text stay.from ++ (codes "," ++ (ratio_text stay.to ++ codes ")")))

-- stays, each behind a blank
abbrev pub stays_text : List Stay → List ℕ
stays_text stays = flat_map (λ stay. codes " " ++ stay_text stay) stays

-- the line of a label with this id: the id and its stays; none where it has no stay
abbrev pub zoom_line : List ℕ → List Stay → List ℕ
zoom_line id [] = []
zoom_line id (stay ∷ stays) = id_text id ++ (stays_text (stay ∷ stays) ++ codes "\n")

-- the lines of labels
abbrev pub zoom_lines : List Label → List (List Stay) → List ℕ
zoom_lines [] all = []
zoom_lines (label ∷ labels) [] = []
zoom_lines (label ∷ labels) (stays ∷ all) = zoom_line label.order.id stays ++ zoom_lines labels all

-- where the peak is: at its mark, or just after it
abbrev pub peak_side : Peak → List ℕ
peak_side peak = if peak.after then codes "after" else codes "at"

-- the last line: the greatest number of labels, and the first place that has it
abbrev pub peak_line : Peak → List ℕ
peak_line peak = codes "peak " ++ (decimal peak.count ++ (codes " " ++ (peak_side peak ++ (codes " " ++ (ratio_text peak.mark ++ codes "\n")))))

-- a view shows just the labels of which a stay holds its scale, and they are no more than the peak's count
pub record ShowsStays (all : List (List Stay)) (n most : ℕ) (view : View) (places : List ℕ) : Type 0 where
  pub shown : (i : ℕ) → i < n → Contains places i ↔ HaveScale (slice_index_or all i []) (value_of view.scale)
  pub few : length places ≤ most

-- the text is the zoom timeline of labels in a window, each active as their longest choice says: the stays of each, and the peak; each view through the window shows the labels so
pub record IsZoomOf (labels : List Label) (window : Window) (text : List ℕ) : Type 0 where
  pub slots : List Slot
  pub all : List (List Stay)
  pub peak : Peak
  pub best : AreSlots (λ j. j) labels slots
  pub timelines : AreTimelines labels slots window all
  pub peaked : IsPeak all peak
  pub views : (view : View) (places : List ℕ) → IsViewThrough window view → AreShown labels (ends slots) view places →
      ShowsStays all (length labels) peak.count view places
  pub lines : text ≡ zoom_lines labels all ++ peak_line peak
