use Rattle.std.proofs.Common.{◌≡◌, rules, sym, subst}
use Rattle.std.proofs.lemmas.Result.{IfOk-weaker}
use Rattle.ml_editor.specs.State.{HasFeature}
use Rattle.ml_editor.specs.declared.edit.Edit.TheVariants.{Remove}
use Rattle.ml_editor.specs.declared.fault.EditFault.TheVariants.{Memory}
use Rattle.ml_gen.specs.Turn.{IsMade}
use Rattle.ml_gen.specs.declared.counts.Counts.{Counts}
use Rattle.ml_gen.proofs.Made.{removal_granted, gone_out}
use Rattle.ml_gen.proofs.turn.take_out.Goals as goal

pub unreachable-requires : goal.unreachable-requires
unreachable-requires g c =
    let there = subst (HasFeature c.args.editor.now.state.features) (sym c.in_ok-id.ensures) c.requires.there in
    let granted = removal_granted c.args.editor.now.state c.in_ok-id.id there c.requires.early in
    let known : c.in-Err.field-0 ≡ Memory = c.in-Err.ensures.outcome.accepted (Remove c.in_ok-id.id) granted in
    search (rules, known)

pub returns : goal.returns
returns g c =
    let outcome = c.in-Ok.ensures.outcome in
    let done = λ (counts : Counts) (made : IsMade c.in-Ok.ready.edit c.args.group.now c.prepare_remove.new.self.state counts c.carry_out.new.editor.state).
    gone_out c.args.group.now c.args.editor.now.state c.prepare_remove.new.self.state c.carry_out.new.editor.state c.in-Ok.ready.edit c.in_ok-id.id counts
    outcome.same.state outcome.ok.asked c.in_ok-id.ensures made in
    record {
      turn = IfOk-weaker c.carry_out.result _ _ (λ counts made. (done counts made).0) c.carry_out.ensures.made;
      state = IfOk-weaker c.carry_out.result _ _ (λ counts made. (done counts made).1) c.carry_out.ensures.made;
    }
