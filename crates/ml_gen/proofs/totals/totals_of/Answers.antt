use Rattle.std.proofs.Common.{refl, sym, ◌∙◌}
use Rattle.std.proofs.lemmas.List.{length-map}
use Rattle.ml_store.specs.Rows.{labels_in}
use Rattle.ml_store.specs.declared.row.Row.{Row}
use Rattle.ml_gen.proofs.totals.totals_of.Goals as goal

pub returns : goal.returns
returns c = record {
  groups = refl;
  numbers = record {
    features_are = c.features.ensures;
    all = labels_in c.args.editor.now.engine.rows;
    all_are = c.rev.ensures.holds.labels;
    labels_are = c.labels.ensures ∙ sym (length-map c.args.editor.now.engine.rows (λ (r : Row). r.label));
    rev_is = c.rev.ensures.rev;
  };
  sums = record { edits_are = refl; shown_are = c.all_shown.ensures; changes_are = c.all_changes.ensures; evaluated_are = c.all_evaluated.ensures };
}
