use Rattle.std.proofs.Common.{[], append-nil, sym, ◌∙◌}
use Rattle.std.proofs.lemmas.Result.{err_from_is_err_and}
use Rattle.toml.specs.View.{table_view, view}
use Rattle.ml_style.specs.Fonts.{AreFonts}
use Rattle.ml_style.proofs.FontLemmas.{fonts_ascend, refused_font, past_font, sorted_rest, one_more_font}
use Rattle.ml_style.proofs.fonts.read_fonts.Goals as goal

pub returns : goal.returns
returns c =
    let none = rw c.in-None.ensures.steps.0 at c.loop-name.invariant.faults in
    let all = rw c.in-None.ensures.steps.0 at c.loop-name.invariant.fonts in
    let fonts : AreFonts (table_view c.args.table.now) c.loop-name.fonts = rw append-nil at (all [] tt) in
    record { fonts = (sym none, fonts); ascending = fonts_ascend c.args.table.now.entries c.loop-name.fonts c.iter-name-items.ensures.ordered fonts }

pub returns-in_err-named_font-clause-fonts : goal.returns-in_err-named_font-clause-fonts
returns-in_err-named_font-clause-fonts c =
    let sorted = rw c.in-Some.ensures.steps at c.loop-name.invariant.sorted in
    let all = rw c.in-Some.ensures.steps at c.loop-name.invariant.faults in
    let here = rw c.as_str.ensures.value at c.in_err-named_font.ensures in
    rw ((err_from_is_err_and c.from_residual.result c.from_residual.ensures.1).1, (err_from_is_err_and c.from_residual.result c.from_residual.ensures.1).2)
    (rw (← all) (refused_font c.in_err-named_font.field-0.0 (c.in-Some.name.now, c.in-Some.value.now) c.next.new.self sorted here))

pub loop-name-preserved : goal.loop-name-preserved
loop-name-preserved c =
    let sorted = rw c.in-Some.ensures.steps at c.loop-name.invariant.sorted in
    let faults = rw c.in-Some.ensures.steps at c.loop-name.invariant.faults in
    let fonts = rw c.in-Some.ensures.steps at c.loop-name.invariant.fonts in
    let here = rw c.as_str.ensures.value at c.in_ok-named_font.ensures in
    record {
      sorted = sorted_rest (c.in-Some.name.now, c.in-Some.value.now) c.next.new.self sorted;
      faults = sym (past_font (c.in-Some.name.now, c.in-Some.value.now) c.next.new.self here.0) ∙ faults;
      fonts = rw c.in_ok-push.ensures.ok (one_more_font (table_view c.args.table.now) _ _ (view c.in-Some.value.now) c.loop-name.fonts c.in_ok-named_font.field-0 here.1.0 here.1.1 fonts);
    }
