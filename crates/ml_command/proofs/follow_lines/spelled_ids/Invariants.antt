use Rattle.std.proofs.Common.{◌≡◌, ◌++◌, drop}
use Rattle.ml_command.specs.FollowLines.{spelled_ids}
use Rattle.ml_command.proofs.follow_lines.spelled_ids.Given as goal

abbrev pub invariant-loop-label : goal.invariant-loop-label
invariant-loop-label l = l.ids ++ spelled_ids (drop l.label-index l.labels) ≡ spelled_ids l.labels
