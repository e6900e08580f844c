-- What is asked of a map, and why it is refused: of these faults the first that holds, in this order: RevMoved, Geo, Style, Duplicate, Unknown, Full, RevEnd.
use Rattle.std.specs.Prelude.{◌≡◌, ◌≢◌, ◌⊎◌, ℕ, List, length, Option, Some, None}
use Rattle.ml_ratio.specs.Limits.{most_labels}
use Rattle.ml_ratio.specs.declared.feature.Feature.{Feature}
use Rattle.ml_geojson.specs.Map.{IsFeature, IsFeatureFault}
use Rattle.ml_geojson.specs.declared.fault.GeoFault.{GeoFault}
use Rattle.ml_geojson.specs.declared.fault.GeoFault.TheVariants as geo
use Rattle.ml_style.specs.Answer.{IsRefusal}
use Rattle.ml_style.specs.StyleTable.{IsStyle}
use Rattle.ml_style.specs.declared.fault.StyleFault.{StyleFault}
use Rattle.ml_style.specs.declared.fault.StyleFault.TheVariants as styles
use Rattle.ml_style.specs.declared.style.Style.{Style}
use Rattle.ml_editor.specs.State.{State, HasFeature, IsAllowed, last_rev}
use Rattle.ml_editor.specs.declared.asked.Asked.{Asked}
use Rattle.ml_editor.specs.declared.asked.Asked.TheVariants as asked
use Rattle.ml_editor.specs.declared.edit.Edit.{Edit}
use Rattle.ml_editor.specs.declared.edit.Edit.TheVariants.{Add, Replace, Remove, Restyle}
use Rattle.ml_editor.specs.declared.fault.EditFault.{EditFault}
use Rattle.ml_editor.specs.declared.fault.EditFault.TheVariants.{RevMoved, Geo, Style as BadStyle, Duplicate, Unknown, Full, RevEnd, Memory}

-- what is asked: a body gives a feature to add, or one to put in place of that with its id; an id names the feature to remove; or a body gives the new style
pub data Wish : Type 0 where
  adds : List ℕ → Wish
  replaces : List ℕ → Wish
  removes : List ℕ → Wish
  restyles : List ℕ → Wish

-- the same as it is handed over, by reference
abbrev pub wish_of : Asked → Wish
wish_of (asked.Add body) = adds body.now
wish_of (asked.Replace body) = replaces body.now
wish_of (asked.Remove id) = removes id.now
wish_of (asked.Restyle body) = restyles body.now

-- the edit that is asked for
abbrev pub AsksFor : Wish → Edit → Type 0
AsksFor (adds body) edit = (f : Feature) × (edit ≡ Add f) × IsFeature body f
AsksFor (replaces body) edit = (f : Feature) × (edit ≡ Replace f) × IsFeature body f
AsksFor (removes id) edit = edit ≡ Remove id
AsksFor (restyles body) edit = (style : Style) × (edit ≡ Restyle style) × IsStyle body style

-- the body is no feature with an id, for this reason
abbrev pub IsNoFeature : List ℕ → EditFault → Type 0
IsNoFeature body fault = (why : GeoFault) × (fault ≡ Geo why) × (why ≢ geo.Memory) × IsFeatureFault body why

-- the body is no style, for this reason
abbrev pub IsNoStyle : List ℕ → EditFault → Type 0
IsNoStyle body fault = (why : StyleFault) × (fault ≡ BadStyle why) × (why ≢ styles.Memory) × IsRefusal body why

-- what is asked for is no edit, for this reason
abbrev pub IsUnread : Wish → EditFault → Type 0
IsUnread (adds body) fault = IsNoFeature body fault
IsUnread (replaces body) fault = IsNoFeature body fault
IsUnread (removes id) fault = ⊥
IsUnread (restyles body) fault = IsNoStyle body fault

-- another revision was asked for than the present one, which is told
abbrev pub IsMoved : State → Option ℕ → EditFault → Type 0
IsMoved s None fault = ⊥
IsMoved s (Some rev) fault = (rev ≢ s.rev) × (fault ≡ RevMoved s.rev)

-- no other revision was asked for than the present one
abbrev pub IsPresent : State → Option ℕ → Type 0
IsPresent s None = Unit {0}
IsPresent s (Some rev) = rev ≡ s.rev

-- there is no further revision
abbrev pub IsLast : State → Type 0
IsLast s = s.rev ≡ last_rev

-- a feature has the id, or there is no room for one more
abbrev pub IsBarred : List Feature → List ℕ → EditFault → Type 0
IsBarred features id fault = ((fault ≡ Duplicate id) × HasFeature features id) ⊎ ((fault ≡ Full) × ¬ (HasFeature features id) × (length features ≡ most_labels))

-- no feature has the id
abbrev pub IsMissing : List Feature → List ℕ → EditFault → Type 0
IsMissing features id fault = (fault ≡ Unknown id) × ¬ (HasFeature features id)

-- why the features do not allow the edit
abbrev pub IsDenied : List Feature → Edit → EditFault → Type 0
IsDenied features (Add f) fault = IsBarred features f.id fault
IsDenied features (Replace f) fault = IsMissing features f.id fault
IsDenied features (Remove id) fault = IsMissing features id fault
IsDenied features (Restyle style) fault = ⊥

-- why the edit is not made: the features do not allow it, or there is no further revision
abbrev pub IsRefused : State → Edit → EditFault → Type 0
IsRefused s edit fault = IsDenied s.features edit fault ⊎ ((fault ≡ RevEnd) × IsAllowed s.features edit × IsLast s)

-- why what is asked, if for a revision then for this one, is refused: the revision has moved; or else it is no edit; or else the edit is not made
abbrev pub IsFault : State → Option ℕ → Wish → EditFault → Type 0
IsFault s rev wish fault = IsMoved s rev fault ⊎ (IsPresent s rev × (IsUnread wish fault ⊎ ((edit : Edit) × AsksFor wish edit × IsRefused s edit fault)))

-- the fault is so, or out of memory
abbrev pub OrMemory : (EditFault → Type 0) → EditFault → Type 0
OrMemory Refuses fault = (fault ≡ Memory) ⊎ Refuses fault

-- nothing refuses what is asked, and this is the edit
pub record IsGranted (s : State) (rev : Option ℕ) (wish : Wish) (edit : Edit) : Type 0 where
  pub present : IsPresent s rev
  pub asked : AsksFor wish edit
  pub allowed : IsAllowed s.features edit
  pub not_last : ¬ (IsLast s)

-- one fault refuses at most, and none what is accepted
pub record ExcludeOneAnother (refuses : EditFault → Type 0) (accepts : Edit → Type 0) : Type 0 where
  pub one : (one other : EditFault) → refuses one → refuses other → one ≡ other
  pub none : (fault : EditFault) (edit : Edit) → accepts edit → ¬ (refuses fault)
