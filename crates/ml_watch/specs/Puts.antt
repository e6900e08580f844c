-- What a writer of a text leaves in a sink.
use Rattle.std.specs.Prelude.{ℕ, ◌≤◌, List, ◌++◌, length, take, Option, Some, None, Result, OnOk, OnErr}
use Rattle.ml_io.specs.Causes.{HasCause, Appends}

-- the text was put whole; or a first part of it, and the sink failed once
pub record Puts {E : Type 0} (old new : Option (List ℕ)) (before now : ℕ) (text : List ℕ) (result : Result (Unit {0}) E) : Type 0 where
  pub ok : OnOk result (Appends old new text)
  pub err : OnErr result ((n : ℕ) × (n ≤ length text) × Appends old new (take n text))
  pub cause : HasCause before now result

-- what a sink tells with the bytes that are held back for it behind that
abbrev pub with_held : Option (List ℕ) → List ℕ → Option (List ℕ)
with_held None held = None
with_held (Some bytes) held = Some (bytes ++ held)

-- bytes were put at the end
abbrev pub Grows : Option (List ℕ) → Option (List ℕ) → Type 0
Grows old new = (piece : List ℕ) × Appends old new piece

-- the text was put so into a sink and the bytes that are held back for it: its bytes stand in the one or in the other
pub record HeldPuts {E : Type 0} (old new : Option (List ℕ)) (held kept : List ℕ) (before now : ℕ) (text : List ℕ) (result : Result (Unit {0}) E) : Type 0 where
  pub grows : Grows old new
  pub puts : Puts (with_held old held) (with_held new kept) before now text result
