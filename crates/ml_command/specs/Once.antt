-- Commands that are one.
use Rattle.std.specs.Borrow.{Bor}
use Rattle.std.specs.Prelude.{ℕ, List}
use Rattle.ml_command.specs.declared.command.Command.{Command}
use Rattle.ml_command.specs.declared.command.Command.TheVariants.{OnTable, Check, OnMap, Live, Gen, Follow}

-- a name, without where it stands in memory
abbrev pub plain_name : Bor (List ℕ) → Bor (List ℕ)
plain_name name = record { ref_ptr = (0, 0); now = name.now }

-- a command with its arguments, without where its names stand in memory
abbrev pub plain : Command → Command
plain (OnTable table task) = OnTable (plain_name table) task
plain (Check table slots) = Check (plain_name table) (plain_name slots)
plain (OnMap style map task) = OnMap (plain_name style) (plain_name map) task
plain (Live style map task) = Live (plain_name style) (plain_name map) task
plain (Gen groups seed) = Gen groups seed
plain (Follow states) = Follow (plain_name states)
