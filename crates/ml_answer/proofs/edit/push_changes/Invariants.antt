use Rattle.std.proofs.Common.{◌≡◌, ◌++◌, false, map, drop}
use Rattle.serde_json.specs.View.{items_of}
use Rattle.serde_json.specs.Written.{items_text}
use Rattle.ml_answer.specs.Edit.{change_data}
use Rattle.ml_answer.proofs.edit.push_changes.Given as goal

-- with the rest of the changes, what stands there is what stood there with all of them
abbrev pub invariant-loop-change : goal.invariant-loop-change
invariant-loop-change l =
    l.text.items ++ items_text l.later (items_of (map change_data (drop l.change-index l.changes)))
    ≡ l.fn.text.items ++ items_text false (items_of (map change_data l.changes))
