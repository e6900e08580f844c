use Rattle.std.proofs.Common.{◌≡◌, ◌≢◌, List, ℕ, Option, None, sym, ap, ◌∙◌, subst}
use Rattle.std.specs.Prelude.{MatchOption}
use Rattle.std.specs.Option.{option_copied}
use Rattle.std.proofs.lemmas.Bool.{false≢true}
use Rattle.ml_cone.specs.declared.label.Label.{Label}
use Rattle.ml_repair.specs.Edit.{IsEdited}
use Rattle.ml_store.specs.Rows.{labels_in}
use Rattle.std.proofs.lemmas.Slice.Eq.{bytes_eq-Decides}
use Rattle.ml_editor.specs.Editing.{IsLabelWith, rows_after}
use Rattle.ml_http.proofs.Dropping.{forgotten, other_label}
use Rattle.ml_http.proofs.forget.forget_after.Goals.{then-eq, else-eq}
use Rattle.ml_http.proofs.forget.forget_after.Goals as goal

pub returns : goal.returns
returns c =
    let rows = c.args.editor.now.engine.rows in
    let after = rows_after c.args.ready.now.work rows in
    let come : Option Label = c.args.ready.now.label in
    let id : List ℕ = c.args.id.now in
    let own : List ℕ = c.args.change.now.id in
    let P : Option (List ℕ) → Type 0 = λ o. MatchOption o (come ≡ None) (IsLabelWith (labels_in after) come) in
    let Q : Option (List ℕ) → Type 0 = λ o. MatchOption o (Unit {0}) (λ i. IsEdited i come (labels_in rows) (labels_in after)) in
    let came : IsLabelWith (labels_in after) come id = subst P c.requires.id c.requires.of_state.label in
    let edited : IsEdited id come (labels_in rows) (labels_in after) = subst Q c.requires.id c.requires.of_state.edited in
    let L : Option Label → Type 0 = λ l. IsLabelWith (labels_in after) l own in
    let with_id : IsLabelWith (labels_in after) (option_copied c.if-eq.label) own = elim c.if-eq.branch [
      | then-eq w ↦
          let same : own ≡ id = (bytes_eq-Decides own id).0 (sym c.eq.ensures ∙ w.if-eq.true) in
          subst L (sym (ap option_copied w.label-is ∙ w.edited-label.ensures)) (subst (λ (i : List ℕ). IsLabelWith (labels_in after) come i) (sym same) came)
      | else-eq w ↦
          let differ : own ≢ id = λ e. false≢true (sym w.if-eq.false ∙ c.eq.ensures ∙ (bytes_eq-Decides own id).1 e) in
          subst L (sym (ap option_copied w.label-is))
          (other_label (labels_in rows) (labels_in after) id own come (option_copied w.label_with-label.result) edited came differ w.label_with-label.ensures.label)
    ] in
    forgotten c.one_label_an_id.ensures after c.requires.of_state.settled own (option_copied c.if-eq.label) c.args.change.now.after _ _ c.requires.told with_id c.forget_label.ensures
