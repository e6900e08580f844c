-- Plain tokens at the front of bytes, and the machine's way over many bytes. No public clause speaks of it.
use Rattle.std.specs.Prelude.{◌≡◌, ℕ, ◌≤◌, List, [], ◌∷◌, ◌++◌, ◌==◌, ◌⊎◌, true, Option, Some, All, if◌then◌else◌}
use Rattle.std.specs.Borrow.{Bor}
use Rattle.ml_json.specs.Tree.{Tree, num, str}
use Rattle.ml_json.specs.Strings.{is_plain}
use Rattle.ml_json.specs.Machine as m
use Rattle.ml_json.specs.Machine.{in_list, at_key, State, Part, minus, go_on, may_end, step, open_of}
use Rattle.ml_json.specs.State.{mode_of, frames_of}
use Rattle.ml_json.specs.declared.state.Mode.{Mode}
use Rattle.ml_json.specs.declared.state.Frame.{Frame}

-- the byte stands for itself in a string
abbrev pub IsPlain : ℕ → Type 0
IsPlain b = is_plain b ≡ true

-- the bytes begin with a string of this plain text, in its quotes, and the rest follows
abbrev pub PlainString : List ℕ → List ℕ → List ℕ → Type 0
PlainString text bytes rest = All IsPlain text × (bytes ≡ 34 ∷ (text ++ 34 ∷ rest))

-- what a number's first byte makes: it is a minus sign, or may stand behind one
abbrev pub first_part : ℕ → Option Part
first_part b = if b == 45 then Some minus else go_on minus b

-- a number begins with the text, and so much has come of it
pub data Begins : List ℕ → Part → Type 0 where
  first_byte : {b : ℕ} {part : Part} → first_part b ≡ Some part → Begins (b ∷ []) part
  next_byte : {text : List ℕ} {part next : Part} (b : ℕ) → Begins text part → go_on part b ≡ Some next → Begins (text ++ b ∷ []) next

-- the bytes begin with a number of this text, which may end there, and the rest follows
abbrev pub PlainNumber : List ℕ → List ℕ → List ℕ → Type 0
PlainNumber text bytes rest = (part : Part) × Begins text part × (may_end part ≡ true) × (bytes ≡ text ++ rest)

-- the bytes begin with such a string or number, which is this tree, and the rest follows
pub data PlainScalar : Tree → List ℕ → List ℕ → Type 0 where
  a_string : {text bytes rest : List ℕ} → PlainString text bytes rest → PlainScalar (str text) bytes rest
  a_number : {text bytes rest : List ℕ} → PlainNumber text bytes rest → PlainScalar (num text) bytes rest

-- a list or map goes on by the byte behind a value, or ends by it
abbrev pub IsTaken : m.Frame → ℕ → Type 0
IsTaken (in_list ws) b = (b ≡ 44) ⊎ (b ≡ 93)
IsTaken (at_key ps k) b = (b ≡ 44) ⊎ (b ≡ 125)

-- the innermost list or map does, if one is open
abbrev pub TakesByte : List m.Frame → ℕ → Type 0
TakesByte [] b = ⊥
TakesByte (frame ∷ frames) b = IsTaken frame b

-- the machine goes over bytes from one state to another, where the rest of them is left, and at no place are more than 64 lists and maps open
pub data Passes : State → List ℕ → State → List ℕ → Type 0 where
  here : {x : State} {s : List ℕ} → Passes x s x s
  on : {x y z : State} {b : ℕ} {s r : List ℕ} → step x.0 x.1 b ≡ Some y → open_of y.0 y.1 ≤ 64 → Passes y s z r → Passes x (b ∷ s) z r

-- so it goes from the state that the reader's mode and frames stand for to the one that these stand for behind a leap
abbrev pub Leaps : Mode → List Frame → List ℕ → Mode → List Frame → Bor (List ℕ) → Type 0
Leaps old frames bytes new frames' rest = Passes (mode_of old, frames_of frames) bytes (mode_of new, frames_of frames') rest.now
