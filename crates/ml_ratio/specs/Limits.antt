use Rattle.std.specs.Prelude.{ℕ}

-- how many labels there are at most: in a table, in a state and on a map, which has as many features at most; numbers of live labels are below it
abbrev pub most_labels : ℕ
most_labels = 32768
