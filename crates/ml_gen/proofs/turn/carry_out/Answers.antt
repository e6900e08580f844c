use Rattle.std.proofs.Common.{List, length, ap, ◌∙◌}
use Rattle.ml_watch.specs.declared.change.Change.{Change}
use Rattle.ml_gen.proofs.Made.{made}
use Rattle.ml_gen.proofs.turn.carry_out.Goals as goal

pub returns : goal.returns
returns g c = record {
  made =
      made c.args.ready c.args.group.now c.args.editor.now c.commit.new.self c.in_ok-shown.shown c.len-changes.result c.evaluated-evaluated.result
      c.rev-rev.ensures.holds c.commit.ensures.holds c.requires.of_state c.commit.ensures.step c.commit.ensures.changes
      (c.len-changes.ensures ∙ ap (λ (changes : List Change). length changes) c.changes.ensures) c.evaluated-evaluated.ensures c.in_ok-shown.ensures;
}
