-- A file that is accepted is not refused.
use Rattle.std.proofs.Common.{◌≡◌, ℕ, ◌<◌, List, length, Some, arith, ap, ◌∙◌, sym, inl, inr}
use Rattle.std.specs.Prelude.{◌≢◌}
use Rattle.ml_io.specs.Files.{FileSet, IsLoaded, IsTooLong}
use Rattle.ml_cert.specs.SlotsText.{AreSlotLines, IsSlotsFault}
use Rattle.ml_cert.specs.declared.fault.SlotsFault.TheVariants as slots_fault
use Rattle.ml_cone.specs.declared.label.Label.{Label}
use Rattle.ml_cone.specs.declared.slot.Slot.{Slot}
use Rattle.ml_follow.specs.States.{AreStates, IsStatesFault}
use Rattle.ml_follow.specs.declared.fault.StateFault.TheVariants as state_fault
use Rattle.ml_follow.specs.declared.state.State.{State}
use Rattle.ml_pass.specs.Table.{IsTable, IsTableFault}
use Rattle.ml_pass.specs.declared.fault.TableFault.{TableFault}
use Rattle.ml_pass.specs.declared.fault.TableFault.TheVariants as tables
use Rattle.ml_ratio.specs.declared.feature.Feature.{Feature}
use Rattle.ml_geojson.specs.Map.{IsMap, IsMapFault}
use Rattle.ml_geojson.specs.declared.fault.GeoFault.{GeoFault}
use Rattle.ml_geojson.specs.declared.fault.GeoFault.TheVariants as maps
use Rattle.ml_style.specs.Answer.{IsRefusal}
use Rattle.ml_style.specs.StyleTable.{IsStyle}
use Rattle.ml_style.specs.declared.fault.StyleFault.{StyleFault}
use Rattle.ml_style.specs.declared.fault.StyleFault.TheVariants as styles
use Rattle.ml_style.specs.declared.style.Style.{Style}
use Rattle.ml_command.specs.Following.{HasStates, AreNoStates}
use Rattle.ml_command.specs.Inputs.{most_bytes, HasTable, IsNoTable, IsTableLine, HasSlots, AreNoSlots}
use Rattle.maplabel.specs.Generating.{sample_style, IsSampleRefused}
use Rattle.ml_command.specs.MapInputs.{HasStyle, IsNoStyle, IsStyleLine, HasMap, IsNoMap, IsMapLine}

-- what the laws below say of files: what is accepted is refused only when memory runs out; a table has one reading, and a map file has the same features only
pub record KnownFiles : Type 0 where
  pub no_table_fault : (bytes : List ℕ) (labels : List Label) (fault : TableFault) → IsTable bytes labels → fault ≢ tables.Memory → ¬ (IsTableFault bytes fault)
  pub one_table : (bytes : List ℕ) (labels others : List Label) → IsTable bytes labels → IsTable bytes others → labels ≡ others
  pub no_slots_fault : (labels : List Label) (bytes : List ℕ) (slots : List Slot) (k : ℕ) → AreSlotLines labels bytes slots → ¬ (IsSlotsFault labels bytes (slots_fault.BadLine k))
  pub no_style_fault : (bytes : List ℕ) (style : Style) (fault : StyleFault) → IsStyle bytes style → IsRefusal bytes fault → fault ≡ styles.Memory
  pub no_map_fault : (bytes : List ℕ) (features : List Feature) (fault : GeoFault) → IsMap bytes features → IsMapFault bytes fault → fault ≡ maps.Memory
  pub one_map : (bytes : List ℕ) (features others : List Feature) → IsMap bytes features → IsMap bytes others → features ≡ others
  pub no_states_fault : (bytes : List ℕ) (states : List State) (k : ℕ) → AreStates bytes states → ¬ (IsStatesFault bytes (state_fault.BadState k))

-- a name has one file
same_file : (files : FileSet) (name one two : List ℕ) → files name ≡ Some one → files name ≡ Some two → one ≡ two
same_file files name one two e f = (let both : Some one ≡ Some two = sym e ∙ f in cc)

-- there is no line for out of memory
table_told : (fault : TableFault) (line : List ℕ) → IsTableLine fault line → fault ≢ tables.Memory
table_told fault line is e = (let none : IsTableLine tables.Memory line = rw e at is in none)

-- a file within the limit is not too long
pub not_too_long : (files : FileSet) (name bytes : List ℕ) → IsLoaded (Some files) name most_bytes bytes → ¬ (IsTooLong (Some files) name most_bytes)
not_too_long files name bytes loaded long = (let is = rw loaded.file at long in let short = loaded.short in let more : most_bytes < length bytes = is in absurd (omega arith))

module _ (known : KnownFiles) where
  -- a table that is accepted is not refused
  pub table_or_not : (files : FileSet) (name : List ℕ) (labels : List Label) (line : List ℕ) → HasTable (Some files) name labels → ¬ (IsNoTable (Some files) name line)
  table_or_not files name labels line has none =
      let same = same_file files name has.0 none.0 has.1.file none.2.file in
      known.no_table_fault none.0 labels none.1 (rw same at has.2) (table_told none.1 line none.4) none.3

  -- a named table has one list of labels
  pub same_labels : (files : FileSet) (name : List ℕ) (labels others : List Label) → HasTable (Some files) name labels → HasTable (Some files) name others → labels ≡ others
  same_labels files name labels others one two =
      let same = same_file files name one.0 two.0 one.1.file two.1.file in
      known.one_table two.0 labels others (rw same at one.2) two.2

  -- slots that are accepted are not refused
  pub slots_or_not : (files : FileSet) (labels : List Label) (name : List ℕ) (slots : List Slot) (line : List ℕ) →
      HasSlots (Some files) labels name slots → ¬ (AreNoSlots (Some files) labels name line)
  slots_or_not files labels name slots line has (bytes, slots_fault.BadLine k, loaded, fault, is) =
      let same = same_file files name has.0 bytes has.1.file loaded.file in
      known.no_slots_fault labels bytes slots k (rw same at has.2) fault
  slots_or_not files labels name slots line has (bytes, slots_fault.Memory, loaded, fault, is) = absurd is

  -- a style that is accepted is not refused
  pub style_or_not : (files : FileSet) (name : List ℕ) (classes : Style) (line : List ℕ) → HasStyle (Some files) name classes → ¬ (IsNoStyle (Some files) name line)
  style_or_not files name classes line has none =
      let same = same_file files name has.0 none.0 has.1.file none.2.file in
      let memory = known.no_style_fault none.0 classes none.1 (rw same at has.2) none.3 in
      let impossible : IsStyleLine styles.Memory line = rw memory at none.4 in
      impossible

  -- the sample style, where it is one
  pub sample_or_not : (style : Style) (line : List ℕ) → IsStyle sample_style style → ¬ (IsSampleRefused line)
  sample_or_not style line is none =
      let memory = known.no_style_fault sample_style style none.0 is none.1 in
      let impossible : IsStyleLine styles.Memory line = rw memory at none.2 in
      impossible

  -- a map that is accepted is not refused
  pub map_or_not : (files : FileSet) (name : List ℕ) (features : List Feature) (line : List ℕ) → HasMap (Some files) name features → ¬ (IsNoMap (Some files) name line)
  map_or_not files name features line has (inl none) =
      let same = same_file files name has.0 none.0 has.1.file none.2.file in
      let memory = known.no_map_fault none.0 features none.1 (rw same at has.2) none.3 in
      let impossible : IsMapLine maps.Memory line = rw memory at none.4 in
      impossible
  map_or_not files name features line has (inr full) =
      let same = same_file files name has.0 full.0 has.1.file full.2.file in
      let count = ap (λ (fs : List Feature). length fs) (known.one_map full.0 features full.1 (rw same at has.2) full.3) in
      let few = has.3 in
      let more = full.4 in
      absurd (omega arith)

  -- states that are accepted are not refused
  pub states_or_not : (files : FileSet) (name : List ℕ) (states : List State) (line : List ℕ) → HasStates (Some files) name states → ¬ (AreNoStates (Some files) name line)
  states_or_not files name states line has (bytes, state_fault.BadState k, loaded, fault, is) =
      let same = same_file files name has.0 bytes has.1.file loaded.file in
      known.no_states_fault bytes states k (rw same at has.2) fault
  states_or_not files name states line has (bytes, state_fault.Memory, loaded, fault, is) = absurd is
