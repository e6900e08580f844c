use Rattle.std.proofs.Common.{sym, ◌∙◌, ap, Some, codes, w32, rules}
use Rattle.std.proofs.lemmas.Int.{to_z-of_z}
use Rattle.std.proofs.lemmas.Result.{err_from_is_err_and}
use Rattle.toml.specs.View.{table_view}
use Rattle.ml_style.specs.Fonts.{names_of}
use Rattle.ml_style.specs.ClassTable.{ref_for, offset_for}
use Rattle.ml_style.specs.ClassFaults.{look_faults, placing_faults, range_faults, margin_faults}
use Rattle.ml_style.proofs.ClassLemmas.{after_look, after_placing, after_range, after_margin, for_kind}
use Rattle.ml_style.proofs.Refusals.{refuses_on}
use Rattle.ml_style.proofs.class_table.read_fields.Goals as goal

pub returns-in_err-kind : goal.returns-in_err-kind
returns-in_err-kind c =
    rw ((err_from_is_err_and c.from_residual.result c.from_residual.ensures.1).1, (err_from_is_err_and c.from_residual.result c.from_residual.ensures.1).2)
    (refuses_on c.in_err-kind.field-0.0 (look_faults c.args.k (table_view c.args.table.now)) _ c.in_err-kind.ensures)

pub returns-in_err-scale_ref : goal.returns-in_err-scale_ref
returns-in_err-scale_ref c =
    rw (
      (err_from_is_err_and c.from_residual-in_err-scale_ref.result c.from_residual-in_err-scale_ref.ensures.1).1,
      (err_from_is_err_and c.from_residual-in_err-scale_ref.result c.from_residual-in_err-scale_ref.ensures.1).2,
    )
    (rw (after_look c.args.version (names_of c.args.fonts.now) c.args.k (table_view c.args.table.now) c.in_ok-kind.field-0.kind c.in_ok-kind.ensures.0 c.in_ok-kind.ensures.1.kind)
    (refuses_on c.in_err-scale_ref.field-0.0 (placing_faults c.args.k (Some c.in_ok-kind.field-0.kind) (table_view c.args.table.now)) _ c.in_err-scale_ref.ensures))

pub returns-in_err-min : goal.returns-in_err-min
returns-in_err-min c =
    rw ((err_from_is_err_and c.from_residual-in_err-min.result c.from_residual-in_err-min.ensures.1).1, (err_from_is_err_and c.from_residual-in_err-min.result c.from_residual-in_err-min.ensures.1).2)
    (rw (after_placing c.args.version (names_of c.args.fonts.now) c.args.k
    (table_view c.args.table.now) c.in_ok-kind.field-0.kind c.in_ok-kind.ensures.0 c.in_ok-kind.ensures.1.kind c.in_ok-scale_ref.ensures.0)
    (refuses_on c.in_err-min.field-0.0 (range_faults c.args.k (table_view c.args.table.now)) _ c.in_err-min.ensures.range))

pub returns-in_err-margin : goal.returns-in_err-margin
returns-in_err-margin c =
    rw (
      (err_from_is_err_and c.from_residual-in_err-margin.result c.from_residual-in_err-margin.ensures.1).1,
      (err_from_is_err_and c.from_residual-in_err-margin.result c.from_residual-in_err-margin.ensures.1).2,
    )
    (rw (after_range c.args.version (names_of c.args.fonts.now) c.args.k (table_view c.args.table.now) c.in_ok-kind.field-0.kind
    c.in_ok-kind.ensures.0 c.in_ok-kind.ensures.1.kind c.in_ok-scale_ref.ensures.0 c.in_ok-min.ensures.range.0)
    (refuses_on c.in_err-margin.field-0.0 (margin_faults c.args.version c.args.k (table_view c.args.table.now)) _ c.in_err-margin.ensures.margin))

pub returns-in_err-check : goal.returns-in_err-check
returns-in_err-check c =
    rw (
      (err_from_is_err_and c.from_residual-in_err-check.result c.from_residual-in_err-check.ensures.1).1,
      (err_from_is_err_and c.from_residual-in_err-check.result c.from_residual-in_err-check.ensures.1).2,
    )
    (rw (after_margin c.args.version (names_of c.args.fonts.now) c.args.k (table_view c.args.table.now) c.in_ok-kind.field-0.kind c.in_ok-kind.field-0.font.now
    c.in_ok-min.min c.in_ok-min.max c.in_ok-kind.ensures.0 c.in_ok-kind.ensures.1.kind c.in_ok-scale_ref.ensures.0 c.in_ok-min.ensures.range.0
    c.in_ok-margin.ensures.margin.0 c.in_ok-kind.ensures.1.font c.in_ok-min.ensures.range.1.min c.in_ok-min.ensures.range.1.max) c.in_err-check.ensures)

pub invariant_of-result : goal.invariant_of-result
invariant_of-result c = record {
  text_rule = c.in_ok-kind.field-0.text_rule;
  some_size = c.in_ok-kind.field-0.some_size;
  low_size = c.in_ok-kind.field-0.low_size;
  low_priority = c.in_ok-kind.field-0.low_priority;
  some_ref = c.in_ok-scale_ref.field-0.some_ref;
  low_ref = c.in_ok-scale_ref.field-0.low_ref;
  low_dx = rw (to_z-of_z w32 c.in_ok-scale_ref.field-0.dx (search rules)) c.in_ok-scale_ref.field-0.low_dx;
  low_dy = rw (to_z-of_z w32 c.in_ok-scale_ref.field-0.dy (search rules)) c.in_ok-scale_ref.field-0.low_dy;
  range = c.in_ok-check.ensures.1.range;
  low_max = c.in_ok-min.ensures.low;
  low_margin = c.in_ok-margin.ensures.low;
}

pub returns : goal.returns
returns c = (
  after_margin c.args.version (names_of c.args.fonts.now) c.args.k (table_view c.args.table.now) c.in_ok-kind.field-0.kind c.in_ok-kind.field-0.font.now
      c.in_ok-min.min c.in_ok-min.max c.in_ok-kind.ensures.0 c.in_ok-kind.ensures.1.kind c.in_ok-scale_ref.ensures.0 c.in_ok-min.ensures.range.0
      c.in_ok-margin.ensures.margin.0 c.in_ok-kind.ensures.1.font c.in_ok-min.ensures.range.1.min c.in_ok-min.ensures.range.1.max ∙ c.in_ok-check.ensures.0,
  (
    record {
      kind = c.in_ok-kind.ensures.1.kind;
      rule = c.in_ok-kind.ensures.1.rule;
      font = c.in_ok-kind.ensures.1.font ∙ ap Some (sym c.in_ok-of.ensures);
      size = c.in_ok-kind.ensures.1.size;
      priority = c.in_ok-kind.ensures.1.priority;
      scale_ref = for_kind (λ o. ref_for o (table_view c.args.table.now))
          (table_view c.args.table.now) c.in_ok-kind.field-0.kind c.in_ok-scale_ref.field-0.scale_ref c.in_ok-kind.ensures.1.kind c.in_ok-scale_ref.ensures.1.scale_ref;
      dx = for_kind (λ o. offset_for o (codes "dx") (table_view c.args.table.now)) (table_view c.args.table.now) c.in_ok-kind.field-0.kind c.in_ok-scale_ref.field-0.dx
          c.in_ok-kind.ensures.1.kind c.in_ok-scale_ref.ensures.1.dx ∙ ap Some (sym (to_z-of_z w32 c.in_ok-scale_ref.field-0.dx (search rules)));
      dy = for_kind (λ o. offset_for o (codes "dy") (table_view c.args.table.now)) (table_view c.args.table.now) c.in_ok-kind.field-0.kind c.in_ok-scale_ref.field-0.dy
          c.in_ok-kind.ensures.1.kind c.in_ok-scale_ref.ensures.1.dy ∙ ap Some (sym (to_z-of_z w32 c.in_ok-scale_ref.field-0.dy (search rules)));
      min = c.in_ok-min.ensures.range.1.min;
      max = c.in_ok-min.ensures.range.1.max;
      margin = c.in_ok-margin.ensures.margin.1;
    },
    rw c.in_ok-of.ensures c.in_ok-check.ensures.1.known,
  ),
)
