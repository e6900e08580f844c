-- What a command answers.
use Rattle.std.specs.Prelude.{◌≡◌, ℕ, List, Option}
use Rattle.ml_io.specs.Files.{FileSet}
use Rattle.ml_ratio.specs.declared.feature.Feature.{Feature}
use Rattle.ml_cone.specs.Shown.{AreShown}
use Rattle.ml_cone.specs.Slots.{AreSlots, ends}
use Rattle.ml_cone.specs.declared.label.Label.{Label}
use Rattle.ml_cone.specs.declared.slot.Slot.{Slot}
use Rattle.ml_cone.specs.declared.view.View.{View}
use Rattle.ml_flight.specs.declared.window.Window.{Window}
use Rattle.ml_label.specs.Labels.{AreLabelsOf}
use Rattle.ml_style.specs.declared.style.Style.{Style}
use Rattle.ml_pass.specs.SlotsText.{ids, slots_text}
use Rattle.ml_cert.specs.Judged.{IsVerdict}
use Rattle.ml_cert.specs.declared.verdict.Verdict.{Verdict}
use Rattle.ml_command.specs.VerdictText.{verdict_line}
use Rattle.ml_command.specs.Inputs.{HasTable, HasSlots}
use Rattle.ml_command.specs.MapInputs.{HasStyle, HasMap}
use Rattle.ml_command.specs.ViewLine.{view_line}
use Rattle.ml_command.specs.GapLines.{IsGapsOf, IsGapViewOf}
use Rattle.ml_command.specs.Zoom.{IsZoomOf}
use Rattle.ml_command.specs.declared.command.TableTask.{TableTask}
use Rattle.ml_command.specs.declared.command.TableTask.TheVariants.{Show, Slots, Gaps, GapView}
use Rattle.ml_command.specs.declared.command.MapTask.{MapTask}
use Rattle.ml_command.specs.declared.command.MapTask.TheVariants.{ViewMap, Zoom}

-- the text is the line of a view of labels: exactly those that are active at the scale, each until its end in the longest choice, and of which a box meets the window
pub record IsViewOf (labels : List Label) (view : View) (text : List ℕ) : Type 0 where
  pub slots : List Slot
  pub places : List ℕ
  pub best : AreSlots (λ j. j) labels slots
  pub shown : AreShown labels (ends slots) view places
  pub line : text ≡ view_line labels slots places view.scale

-- the text lists the ends and blockers of labels in their longest choice
pub record IsSlotsOf (labels : List Label) (text : List ℕ) : Type 0 where
  pub slots : List Slot
  pub best : AreSlots (λ j. j) labels slots
  pub lines : text ≡ slots_text labels slots

-- the text is what is asked of a table, of which these are the labels
abbrev pub IsTableText : List Label → TableTask → List ℕ → Type 0
IsTableText labels (Show view) text = IsViewOf labels view text
IsTableText labels Slots text = IsSlotsOf labels text
IsTableText labels Gaps text = IsGapsOf labels text
IsTableText labels (GapView view) text = IsGapViewOf labels view text

-- the text is the line of a view of the labels of features under a style
abbrev pub IsMapView : Style → List Feature → View → List ℕ → Type 0
IsMapView classes features view text = (labels : List Label) × AreLabelsOf classes features labels × IsViewOf labels view text

-- the text is the zoom timeline of the labels of features under a style
abbrev pub IsMapZoom : Style → List Feature → Window → List ℕ → Type 0
IsMapZoom classes features window text = (labels : List Label) × AreLabelsOf classes features labels × IsZoomOf labels window text

-- the text is what is asked of the labels of features under a style
abbrev pub IsTextOf : Style → List Feature → MapTask → List ℕ → Type 0
IsTextOf classes features (ViewMap view) text = IsMapView classes features view text
IsTextOf classes features (Zoom window) text = IsMapZoom classes features window text

-- the text is what is asked of the named table
abbrev pub IsTableAnswer : Option FileSet → List ℕ → TableTask → List ℕ → Type 0
IsTableAnswer told table task text = (labels : List Label) × HasTable told table labels × IsTableText labels task text

-- the text is what is asked of the labels of the named map's features under the named style
pub record IsMapAnswer (told : Option FileSet) (style map : List ℕ) (task : MapTask) (text : List ℕ) : Type 0 where
  pub classes : Style
  pub features : List Feature
  pub has_style : HasStyle told style classes
  pub has_map : HasMap told map features
  pub answered : IsTextOf classes features task text

-- the text is the line of the verdict on the slots that a file gives to the labels of a table
pub record IsVerdictTold (told : Option FileSet) (table slots : List ℕ) (verdict : Verdict) (text : List ℕ) : Type 0 where
  pub labels : List Label
  pub given : List Slot
  pub has : HasTable told table labels
  pub gives : HasSlots told labels slots given
  pub judged : IsVerdict labels given verdict
  pub line : text ≡ verdict_line (ids labels) verdict
