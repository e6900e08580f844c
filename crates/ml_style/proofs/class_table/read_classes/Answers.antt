use Rattle.std.proofs.Common.{◌≡◌, [], drop, arith, append-nil, sym}
use Rattle.std.proofs.Math.ListN.{drop_of_length-le}
use Rattle.std.proofs.lemmas.List.Elements.{All-push}
use Rattle.std.proofs.lemmas.Result.{err_from_is_err_and}
use Rattle.toml.specs.View.{view, items_view}
use Rattle.ml_style.specs.Fonts.{names_of, HasFont}
use Rattle.ml_style.proofs.ClassesLemmas.{at_place, past_faults, refused_at, one_more_class}
use Rattle.ml_style.proofs.class_table.read_classes.Goals as goal

pub returns-in_err-read_class-clause-classes : goal.returns-in_err-read_class-clause-classes
returns-in_err-read_class-clause-classes c =
    let here = at_place c.args.values.now c.loop-k.k c.index-values-k.result (omega arith) c.index-values-k.is in
    rw ((err_from_is_err_and c.from_residual.result c.from_residual.ensures.1).1, (err_from_is_err_and c.from_residual.result c.from_residual.ensures.1).2)
    (refused_at c.args.version (names_of c.args.fonts.now) c.loop-k.k _ _ (view c.index-values-k.result) here c.in_err-read_class.field-0.0 _ c.loop-k.invariant.faults c.in_err-read_class.ensures)

pub loop-k-preserved : goal.loop-k-preserved
loop-k-preserved c =
    let here = at_place c.args.values.now c.loop-k.k c.index-values-k.result (omega arith) c.index-values-k.is in
    record {
      faults = past_faults c.args.version (names_of c.args.fonts.now) c.loop-k.k _ _ (view c.index-values-k.result) here _ c.loop-k.invariant.faults c.in_ok-read_class.ensures.0;
      classes = rw c.in_ok-push.ensures.ok (one_more_class c.args.version (items_view c.args.values.now) _ _
          (view c.index-values-k.result) c.loop-k.classes c.in_ok-read_class.field-0 here c.in_ok-read_class.ensures.1.0 c.loop-k.invariant.classes);
      known = rw c.in_ok-push.ensures.ok (All-push (HasFont c.args.fonts.now) c.loop-k.classes c.in_ok-read_class.field-0 c.loop-k.invariant.known c.in_ok-read_class.ensures.1.1);
    }

pub returns-clause-classes : goal.returns-clause-classes
returns-clause-classes c =
    let none : drop c.loop-k.k c.args.values.now ≡ [] = drop_of_length-le c.args.values.now (omega arith) in
    let faults = rw none at c.loop-k.invariant.faults in
    let all = rw none at c.loop-k.invariant.classes in
    (sym faults, rw append-nil at (all [] tt))
