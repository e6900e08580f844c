use Rattle.std.specs.Prelude.{ℕ, Option, Some, None}

-- how many pairs of blocker and blocked a label with this blocker has
abbrev pub pair_count : Option ℕ → ℕ
pair_count None = 0
pair_count (Some blocker) = 1
