use Rattle.std.specs.Prelude.{ℕ, ◌≡◌, ◌<◌, ◌⊎◌, Bool, IsTrue}
use Rattle.ml_ratio.specs.Fraction.{Fraction, value_of, IsSame}
use Rattle.ml_cone.specs.Choice.{Allows, IsLimit}
use Rattle.ml_cone.specs.Slots.{Rival, RivalAllows}
use Rattle.ml_cone.specs.declared.label.Label.{Label}

-- a test of places as a fact about each
abbrev pub holds : (ℕ → Bool) → ℕ → Type 0
holds test j = IsTrue (test j)

-- the rival sets no limit: it allows the label its maximum
abbrev pub SetsNoLimit : Label → Rival → Type 0
SetsNoLimit low r = Allows low r.label (value_of r.until) (value_of low.max)

-- the rival allows the end u and does not set it
abbrev pub IsBeyond : Label → Fraction → Rival → Type 0
IsBeyond low u r = RivalAllows low u r × ¬ (IsLimit low r.label (value_of r.until) u)

-- the two have one number and label, and one end by value
pub record AreSameRival (r s : Rival) : Type 0 where
  pub number : r.number ≡ s.number
  pub label : r.label ≡ s.label
  pub until : IsSame (value_of r.until) (value_of s.until)

-- linked rivals stand in the same order
abbrev pub IsOrdered : (ℕ → ℕ → Type 0) → Type 0
IsOrdered link = (j k i m : ℕ) → link j k → link i m → m < k → i < j

-- what sets a limit among the one sets it among the others, and in the same order
pub record AreCarried (low : Label) (rivals others : ℕ → Rival) (stands stays : ℕ → Type 0) (link : ℕ → ℕ → Type 0) : Type 0 where
  pub forth : (j : ℕ) → stands j → SetsNoLimit low (rivals j) ⊎ ((k : ℕ) × stays k × AreSameRival (rivals j) (others k) × link j k)
  pub back : (k : ℕ) → stays k → SetsNoLimit low (others k) ⊎ ((j : ℕ) × stands j × AreSameRival (rivals j) (others k) × link j k)
  pub order : IsOrdered link

-- the others are the rivals, in the same order, and besides such as allow the end u and do not set it
pub record AreJoined (low : Label) (u : Fraction) (rivals others : ℕ → Rival) (stands stays : ℕ → Type 0) (link : ℕ → ℕ → Type 0) : Type 0 where
  pub forth : (j : ℕ) → stands j → (k : ℕ) × stays k × AreSameRival (rivals j) (others k) × link j k
  pub back : (k : ℕ) → stays k → IsBeyond low u (others k) ⊎ ((j : ℕ) × stands j × AreSameRival (rivals j) (others k) × link j k)
  pub order : IsOrdered link
