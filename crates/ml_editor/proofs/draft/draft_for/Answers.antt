use Rattle.std.proofs.Common.{◌≡◌, ℕ, List, Option, Some, refl, sym, subst, arith}
use Rattle.std.specs.Prelude.{IfSome}
use Rattle.ml_cone.specs.declared.label.Label.{Label}
use Rattle.ml_store.specs.Rows.{labels_in, HasId}
use Rattle.ml_editor.proofs.Unchanged.{has_id}
use Rattle.ml_editor.proofs.Works.{drawn_so, no_work}
use Rattle.ml_editor.proofs.draft.draft_for.Goals as goal

-- the label that comes has the id
its_id : (given : Option Label) (label : Label) (id : List ℕ) → given ≡ Some label → IfSome given (λ l. l.order.id ≡ id) → label.order.id ≡ id
its_id given label id is = subst (λ o. IfSome o (λ l. l.order.id ≡ id)) is

pub plan_replace-requires : goal.plan_replace-requires
plan_replace-requires g c =
    let P : List ℕ → Type 0 = λ id. HasId (labels_in c.args.engine.now.rows) id in
    let there = has_id c.args.engine.now.rows c.args.id.now c.in-Some-number_of.field-0 c.in-Some-number_of.ensures in
    record { live = subst P (sym (its_id c.args.come c.in-Some.coming c.args.id.now c.in-Some.is c.requires.id)) there }

pub plan_add-requires-clause-new_id : goal.plan_add-requires-clause-new_id
plan_add-requires-clause-new_id g c =
    let P : List ℕ → Type 0 = λ id. ¬ (HasId (labels_in c.args.engine.now.rows) id) in
    subst P (sym (its_id c.args.come c.in-Some.coming c.args.id.now c.in-Some.is c.requires.id)) c.in-None-number_of.ensures

pub plan_remove-requires : goal.plan_remove-requires
plan_remove-requires g c = record { live = has_id c.args.engine.now.rows c.args.id.now c.in-Some-number_of-2.field-0 c.in-Some-number_of-2.ensures }

pub returns-in-Some-number_of : goal.returns-in-Some-number_of
returns-in-Some-number_of g c =
    let own = its_id c.args.come c.in-Some.coming c.args.id.now c.in-Some.is c.requires.id in
    drawn_so _ _ _ _ _ _ _ _ _ c.in-Some.is own c.in_ok-key.ensures c.in_ok-label.ensures _ _ c.drawn.ensures c.plan_replace.ensures

pub returns-in-None-number_of : goal.returns-in-None-number_of
returns-in-None-number_of g c =
    let own = its_id c.args.come c.in-Some.coming c.args.id.now c.in-Some.is c.requires.id in
    drawn_so _ _ _ _ _ _ _ _ _ c.in-Some.is own c.in_ok-key.ensures c.in_ok-label.ensures _ _ c.drawn-in-None-number_of.ensures c.plan_add.ensures

pub returns-in-Some-number_of-2 : goal.returns-in-Some-number_of-2
returns-in-Some-number_of-2 g c =
    drawn_so _ _ _ _ _ _ _ _ _ c.in-None.is refl c.in_ok-key.ensures c.in_ok-label.ensures _ _ c.drawn-in-Some-number_of-2.ensures c.plan_remove.ensures

pub returns-in-None-number_of-2 : goal.returns-in-None-number_of-2
returns-in-None-number_of-2 g c = record {
  key = c.in_ok-key.ensures;
  label = c.in_ok-label.ensures;
  work = no_work c.args.engine.now.rows c.args.id.now c.new.result c.args.come c.new.ensures c.in-None.is c.in-None-number_of-2.ensures c.requires.settled;
  spent = omega arith;
}
