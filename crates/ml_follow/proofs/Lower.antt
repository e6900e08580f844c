-- The laws of lower crates that proofs here stand on.
use Rattle.std.proofs.Common.{◌≡◌, ◌≤◌, ℕ, List, IsUtf8}
use Rattle.std.specs.Prelude.{All}
use Rattle.std.specs.List.{AllZip}
use Rattle.ml_cone.specs.declared.label.BoxPx.{BoxPx}
use Rattle.ml_watch.specs.Line.{id_text}
use Rattle.ml_watch.specs.Spelling.{Spells}
use Rattle.ml_pass.specs.Row.{ReadsBox}

-- a text spells one id at most
abbrev pub OneSpelling : Type 0
OneSpelling = (text id other : List ℕ) → Spells text id → Spells text other → id ≡ other

-- texts write one list of boxes at most
abbrev pub OneList : Type 0
OneList = (texts : List (List ℕ)) (boxes others : List BoxPx) → AllZip ReadsBox texts boxes → AllZip ReadsBox texts others → boxes ≡ others

-- an id that is a text stands in a line as visible ASCII alone
abbrev pub VisibleIds : Type 0
VisibleIds = (id : List ℕ) → IsUtf8 id → All (λ byte. (35 ≤ byte) × (byte ≤ 126)) (id_text id)
