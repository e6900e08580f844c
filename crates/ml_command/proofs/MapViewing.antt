-- From the readers of styles and maps to what is asked of a map.
use Rattle.std.proofs.Common.{◌≡◌, ℕ, ◌<◌, List, length, Result, Ok, Err, IfErr, inr, sym, ap, ◌∙◌}
use Rattle.std.specs.Result.{IsErrAnd}
use Rattle.ml_ratio.specs.Limits.{most_labels}
use Rattle.ml_ratio.specs.Count.{one_more}
use Rattle.ml_io.specs.Files.{Seen, IsLoaded}
use Rattle.ml_ratio.specs.declared.feature.Feature.{Feature}
use Rattle.ml_style.specs.Answer.{IsRefusal}
use Rattle.ml_style.specs.declared.fault.StyleFault.{StyleFault}
use Rattle.ml_style.specs.declared.style.Style.{Style}
use Rattle.ml_geojson.specs.Map.{IsMap}
use Rattle.ml_command.specs.Inputs.{most_bytes, IsInputRefusal}
use Rattle.ml_command.specs.MapInputs.{IsStyleRefusal, IsStyleStop, HasStyle, IsMapStop, IsFullLine, IsMapAnswerStop}
use Rattle.ml_command.specs.declared.stop.Stop.{Stop}
use Rattle.ml_command.specs.declared.stop.Stop.TheVariants as stop

-- a refused style
pub style_stopped : (seen : Seen) (name bytes : List ℕ) (fault : StyleFault) (s : Stop) →
    IsLoaded seen.told name most_bytes bytes → IsRefusal bytes fault → IsStyleRefusal fault s → IsStyleStop seen name s
style_stopped seen name bytes fault (stop.StyleRefused line) loaded refused h = (bytes, fault, loaded, refused, h)
style_stopped seen name bytes fault (stop.InputRefused line) loaded refused h = absurd h
style_stopped seen name bytes fault stop.FileFault loaded refused h = absurd h
style_stopped seen name bytes fault stop.TooLong loaded refused h = absurd h
style_stopped seen name bytes fault stop.Memory loaded refused h = tt

-- a map of too many features
pub map_full : (seen : Seen) (name bytes : List ℕ) (features : List Feature) (s : Stop) → IsLoaded seen.told name most_bytes bytes →
    IsMap bytes features → most_labels < length features → IsInputRefusal IsFullLine s → IsMapStop seen name s
map_full seen name bytes features (stop.StyleRefused line) loaded is more h = absurd h
map_full seen name bytes features (stop.InputRefused line) loaded is more h = inr (bytes, features, loaded, is, more, h)
map_full seen name bytes features stop.FileFault loaded is more h = absurd h
map_full seen name bytes features stop.TooLong loaded is more h = absurd h
map_full seen name bytes features stop.Memory loaded is more h = tt

-- what a later call saw, from an earlier one on
abbrev pub since : Seen → Seen → Seen
since one two = record {
  told = one.told;
  faults_before = one.faults_before;
  faults_after = two.faults_after;
  name_before = one.name_before;
  name_after = two.name_after;
}

-- a load that failed since between failed since before, where none had failed between
map_earlier : (one two : Seen) (name : List ℕ) (s : Stop) → two.told ≡ one.told → two.faults_before ≡ one.faults_before → IsMapStop two name s → IsMapStop (since one two) name s
map_earlier one two name (stop.StyleRefused line) same calm h = h
map_earlier one two name (stop.InputRefused line) same calm h = rw same at h
map_earlier one two name stop.FileFault same calm h = (h.0 ∙ ap one_more calm, h.1)
map_earlier one two name stop.TooLong same calm h = rw same at h
map_earlier one two name stop.Memory same calm h = tt

-- a map that was not read after its style was
pub map_stopped : {A : Type 0} (one two : Seen) (style map : List ℕ) (classes : Style) (answer : Result A Stop) (s : Stop) →
    two.told ≡ one.told → two.faults_before ≡ one.faults_before → HasStyle one.told style classes →
    IsErrAnd answer (λ e. e ≡ s) → IsMapStop two map s → IfErr answer (IsMapAnswerStop (since one two) style map)
map_stopped one two style map classes (Ok a) s same calm has is h = tt
map_stopped one two style map classes (Err e) s same calm has is h = inr (classes, has, map_earlier one two map e same calm (rw (sym is) at h))
