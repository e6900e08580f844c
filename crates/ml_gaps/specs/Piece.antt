use Rattle.std.specs.Prelude.{ℕ, ◌≡◌, ◌++◌, ◌≤◌, ◌↔◌, MatchBool, All, Any, List, length, Option, Some, None}
use Rattle.ml_ratio.specs.Fraction.{Fraction, value_of, IsLess, IsAtMost}
use Rattle.ml_gaps.specs.declared.piece.Piece.{Piece}

-- the piece holds s: s lies above its lower end, or is that end where it is counted in, and below its upper end
abbrev pub HoldsScale : Piece → Fraction → Type 0
HoldsScale piece s =
    MatchBool piece.from_in (IsAtMost (value_of piece.from) s) (IsLess (value_of piece.from) s) × IsLess s (value_of piece.to)

-- the piece holds s, if there is one
abbrev pub HoldsIfSome : Option Piece → Fraction → Type 0
HoldsIfSome None s = ⊥
HoldsIfSome (Some piece) s = HoldsScale piece s

-- one of the pieces holds s
abbrev pub HaveScale : List Piece → Fraction → Type 0
HaveScale pieces s = Any (λ piece. HoldsScale piece s) pieces

-- pieces of a kind were appended, so many at the most, whose union is the set
pub record AddsPieces (S : Fraction → Type 0) (Kind : Piece → Type 0) (most : ℕ) (old new : List Piece) : Type 0 where
  pub added : List Piece
  pub appended : new ≡ old ++ added
  pub each : All Kind added
  pub union : (s : Fraction) → HaveScale added s ↔ S s
  pub few : length added ≤ most
