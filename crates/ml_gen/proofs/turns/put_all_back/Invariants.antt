use Rattle.std.proofs.Common.{◌≡◌, ℕ, ◌+◌, ◌<◌, ◌≤◌, length, get_or, take, map}
use Rattle.ml_editor.specs.State.{HasFeature}
use Rattle.ml_gen.specs.Turn.{comes, Run}
use Rattle.ml_gen.specs.declared.group.Group.{Group}
use Rattle.ml_gen.proofs.Runs.{town_id}
use Rattle.ml_gen.proofs.turns.put_all_back.Given as goal

abbrev pub invariant-loop-group : goal.invariant-loop-group
invariant-loop-group g l =
    record {
      run : Run l.fn.editor.state (map comes (take l.group-index l.groups)) l.each.items l.editor.state;
      gone : (j : ℕ) (d : Group) → l.group-index ≤ j → j < length l.groups → ¬ (HasFeature l.editor.state.features (town_id (get_or l.groups j d)));
      longer : length l.editor.state.features ≡ length l.fn.editor.state.features + l.group-index;
      rev : l.editor.state.rev ≡ l.fn.editor.state.rev + l.group-index;
    }
