-- What an edit costs: how many labels have to be evaluated for it.
use Rattle.std.specs.Prelude.{ℕ, ◌≡◌, ◌+◌, ◌⊎◌, Bool, true, false, List}
use Rattle.ml_cone.specs.Places.{IsPlaceOf, IsNoId}
use Rattle.ml_cone.specs.declared.label.Label.{Label}
use Rattle.ml_repair.specs.Touched.{AreTouched}

-- n labels are touched as the label with the id comes, or else goes; none are where no label has the id
abbrev pub AreTouchedBy : List Label → List ℕ → Bool → ℕ → Type 0
AreTouchedBy labels id comes n = ((at : ℕ) × IsPlaceOf labels id at × AreTouched labels at comes n) ⊎ (IsNoId labels id × (n ≡ 0))

-- the cost of an edit between two label lists that are equal but for the label with the id: as many labels as are touched as that of the first list goes, and as that of the second comes
pub record IsCost (before after : List Label) (id : List ℕ) (n : ℕ) : Type 0 where
  pub gone : ℕ
  pub come : ℕ
  pub touched_gone : AreTouchedBy before id false gone
  pub touched_come : AreTouchedBy after id true come
  pub both : n ≡ gone + come
