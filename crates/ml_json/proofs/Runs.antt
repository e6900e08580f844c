-- The machine over many bytes.
use Rattle.std.proofs.Common.{ℕ, List, [], ◌∷◌, Option, Some, None}
use Rattle.ml_json.specs.Tree.{Tree, Trees, none, more}
use Rattle.ml_json.specs.Machine.{Mode, Frame, State, step, finish, snoc}

-- from a step on, to the tree
abbrev pub goes : (Mode → List Frame → Option Tree) → Option State → Option Tree
goes go None = None
goes go (Some x) = go x.0 x.1

-- the tree that the bytes lead to
unfoldable pub run : List ℕ → Mode → List Frame → Option Tree
run [] m st = finish m st
run (b ∷ bs) m st = goes (run bs) (step m st b)

-- from a step on, to the state
abbrev pub reaches : (Mode → List Frame → Option State) → Option State → Option State
reaches go None = None
reaches go (Some x) = go x.0 x.1

-- the state that the bytes lead to
unfoldable pub reach : List ℕ → Mode → List Frame → Option State
reach [] m st = Some (m, st)
reach (b ∷ bs) m st = reaches (reach bs) (step m st b)

-- the trees with others behind them
abbrev pub snoc_all : Trees → Trees → Trees
snoc_all vs none = vs
snoc_all vs (more w ws) = snoc_all (snoc vs w) ws
