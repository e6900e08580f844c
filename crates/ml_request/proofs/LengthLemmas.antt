-- The length of a body, field by field.
use Rattle.std.proofs.Common.{◌≡◌, ℕ, Bool, true, false, List, [], ◌∷◌, Result, Ok, Err}
use Rattle.ml_request.specs.declared.request.Refusal.{Refusal}
use Rattle.ml_request.specs.declared.request.Refusal.TheVariants.{Request}
use Rattle.ml_request.specs.Heads.{body_length}

-- with no field so far the rest decides; with one, its length stands where none is left
abbrev pub IsLengthSoFar : Bool → Result ℕ Refusal → List (List ℕ) → List (List ℕ) → Type 0
IsLengthSoFar false length rest all = (length ≡ Ok 0) × (body_length rest ≡ body_length all)
IsLengthSoFar true length [] all = length ≡ body_length all
IsLengthSoFar true length (value ∷ rest) all = body_length all ≡ Err Request
