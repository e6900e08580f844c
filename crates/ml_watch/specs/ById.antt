-- Changes of different ids.
use Rattle.std.specs.Prelude.{◌≢◌, List, AllPairs}
use Rattle.ml_watch.specs.declared.change.Change.{Change}

-- no two changes are of one id
abbrev pub HaveOwnIds : List Change → Type 0
HaveOwnIds changes = AllPairs (λ one other. one.id ≢ other.id) changes
