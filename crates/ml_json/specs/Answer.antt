-- What each answer of the reader says of the bytes.
use Rattle.std.specs.Prelude.{◌≡◌, ℕ, ◌+◌, ◌<◌, ◌≤◌, ◌⊎◌, List, length, take, Result, Ok, Err}
use Rattle.ml_json.specs.Tree.{Tree}
use Rattle.ml_json.specs.Grammar.{Reads, IsGood, IsPrefix}
use Rattle.ml_json.specs.Depth.{depth, IsShallow}
use Rattle.ml_json.specs.declared.value.JsonFault.{JsonFault}
use Rattle.ml_json.specs.declared.value.JsonFault.TheVariants as faults

-- a good text of the tree, of depth at most 64
pub record IsText (bytes : List ℕ) (tree : Tree) : Type 0 where
  pub reads : Reads bytes tree
  pub shallow : IsShallow bytes (length bytes)

-- no byte before the place opens depth 65; the bytes before it begin a good text; those up to and including it begin none, or the bytes end there and are no good text
pub record IsNotJson (bytes : List ℕ) (at : ℕ) : Type 0 where
  pub within : at ≤ length bytes
  pub shallow : IsShallow bytes at
  pub begins : IsPrefix (take at bytes)
  pub stops : ((at < length bytes) × (IsPrefix (take (at + 1) bytes) → ⊥)) ⊎ ((at ≡ length bytes) × (IsGood bytes → ⊥))

-- every byte before the place opens at most depth 64; the bytes up to and including it begin a good text; the byte there opens depth 65
pub record IsDeep (bytes : List ℕ) (at : ℕ) : Type 0 where
  pub within : at < length bytes
  pub shallow : IsShallow bytes at
  pub begins : IsPrefix (take (at + 1) bytes)
  pub opens : depth (take (at + 1) bytes) ≡ 65

-- what a refusal says of the bytes; out of memory says nothing
abbrev pub Refuses : JsonFault → List ℕ → Type 0
Refuses (faults.NotJson at) bytes = IsNotJson bytes at
Refuses (faults.Deep at) bytes = IsDeep bytes at
Refuses faults.Memory bytes = Unit {0}

-- what an answer says of the bytes, by the trees of values
abbrev pub Answers : {V : Type 0} → (V → Tree) → Result V JsonFault → List ℕ → Type 0
Answers tree_of (Ok v) bytes = IsText bytes (tree_of v)
Answers tree_of (Err e) bytes = Refuses e bytes

-- the answer is a value of this tree, or out of memory
abbrev pub GivesTree : {V : Type 0} → (V → Tree) → Result V JsonFault → Tree → Type 0
GivesTree tree_of (Ok v) tree = tree_of v ≡ tree
GivesTree tree_of (Err (faults.NotJson at)) tree = ⊥
GivesTree tree_of (Err (faults.Deep at)) tree = ⊥
GivesTree tree_of (Err faults.Memory) tree = Unit {0}
