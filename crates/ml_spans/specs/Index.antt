use Rattle.std.specs.Prelude.{◌≡◌, ℕ, ◌+◌, ◌≤◌, length}
use Rattle.std.specs.declared.cmp.Ordering.{Ordering}
use Rattle.ml_spans.specs.Order.{entry_order, IsRising}
use Rattle.ml_spans.specs.Sound.{entries, IsSound}
use Rattle.ml_spans.specs.declared.shape.Tree.{Tree}

-- what always holds of an index's parts: the tree is sound and in order, it is counted, and there is room to keep all nodes as spare ones
pub record IsIndex {K E V : Type 0} (keys : K → K → Ordering) (ends : E → E → Ordering) (values : V → V → Ordering) (root : Tree K E V) (count spare room : ℕ) : Type 0 where
  pub sound : IsSound ends root
  pub rising : IsRising (entry_order keys ends values) (entries root)
  pub counted : count ≡ length (entries root)
  pub room_for_all : spare + count ≤ room
