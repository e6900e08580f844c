use Rattle.std.proofs.Common.{◌≡◌, ℕ, List, codes, rules, sym, ap, subst, ◌∙◌}
use Rattle.ml_geojson.specs.Map.{IsFeature}
use Rattle.ml_geojson.specs.Text.{feature_text}
use Rattle.std.proofs.lemmas.Result.{IfOk-weaker}
use Rattle.ml_editor.specs.State.{HasFeature}
use Rattle.ml_editor.specs.declared.edit.Edit.TheVariants.{Add}
use Rattle.ml_editor.specs.declared.fault.EditFault.TheVariants.{Memory}
use Rattle.ml_gen.specs.Thing.{Thing, id_of}
use Rattle.ml_gen.specs.Turn.{IsMade}
use Rattle.ml_gen.specs.declared.counts.Counts.{Counts}
use Rattle.ml_gen.proofs.Made.{addition_granted, come_back}
use Rattle.ml_gen.proofs.turn.put_back.Goals as goal

pub unreachable-requires : goal.unreachable-requires
unreachable-requires g c =
    let town = c.in_ok-town.town in
    let id : c.in_ok-town.town.id ≡ id_of c.args.group.now (codes "a") = ap (λ (t : Thing). t.id) c.in_ok-town.ensures in
    let gone : ¬ (HasFeature c.args.editor.now.state.features c.in_ok-town.town.id) = subst (λ (i : List ℕ). ¬ (HasFeature c.args.editor.now.state.features i)) (sym id) c.requires.gone in
    let is : IsFeature c.as_slice.result.now c.in_ok-town.town = subst (λ (bytes : List ℕ). IsFeature bytes c.in_ok-town.town) (sym c.as_slice.ensures) c.in_ok-body.ensures.back in
    let granted = addition_granted c.args.editor.now.state c.as_slice.result.now c.in_ok-town.town is gone c.requires.few c.requires.early in
    let known : c.in-Err.field-0 ≡ Memory = c.in-Err.ensures.outcome.accepted (Add c.in_ok-town.town) granted in
    search (rules, known)

pub returns : goal.returns
returns g c =
    let town = c.in_ok-town.town in
    let body = c.as_slice.result.now in
    let text : c.as_slice.result.now ≡ feature_text c.in_ok-town.town = c.as_slice.ensures ∙ c.in_ok-body.ensures.ok in
    let is : IsFeature c.as_slice.result.now c.in_ok-town.town = subst (λ (bytes : List ℕ). IsFeature bytes c.in_ok-town.town) (sym c.as_slice.ensures) c.in_ok-body.ensures.back in
    let outcome = c.in-Ok.ensures.outcome in
    let done = λ (counts : Counts) (made : IsMade c.in-Ok.ready.edit c.args.group.now c.prepare_add.new.self.state counts c.carry_out.new.editor.state).
    come_back c.args.group.now c.args.editor.now.state c.prepare_add.new.self.state c.carry_out.new.editor.state c.in-Ok.ready.edit body town counts
    c.one_feature.ensures outcome.same.state outcome.ok.asked text is c.in_ok-town.ensures made in
    record {
      turn = IfOk-weaker c.carry_out.result _ _ (λ counts made. (done counts made).0) c.carry_out.ensures.made;
      state = IfOk-weaker c.carry_out.result _ _ (λ counts made. (done counts made).1) c.carry_out.ensures.made;
    }
