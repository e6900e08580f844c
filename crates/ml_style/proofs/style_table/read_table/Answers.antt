use Rattle.std.proofs.Common.{sym, ◌∙◌}
use Rattle.std.proofs.lemmas.Result.{err_from_is_err_and}
use Rattle.toml.specs.View.{table_view}
use Rattle.ml_style.proofs.StyleLemmas.{after_fonts}
use Rattle.ml_style.proofs.style_table.read_table.Goals as goal

pub returns-in_err-classes : goal.returns-in_err-classes
returns-in_err-classes c =
    rw (
      (err_from_is_err_and c.from_residual-in_err-classes.result c.from_residual-in_err-classes.ensures.1).1,
      (err_from_is_err_and c.from_residual-in_err-classes.result c.from_residual-in_err-classes.ensures.1).2,
    )
    (rw (after_fonts (table_view c.args.table.now) c.in-Some.version c.in_ok-fonts.fonts
    (sym c.in-Some.ensures.value) c.in_ok-fonts.ensures.fonts.0 c.in_ok-fonts.ensures.fonts.1) c.in_err-classes.ensures.classes)

pub returns : goal.returns
returns c = (
  after_fonts (table_view c.args.table.now) c.in-Some.version c.in_ok-fonts.fonts
      (sym c.in-Some.ensures.value) c.in_ok-fonts.ensures.fonts.0 c.in_ok-fonts.ensures.fonts.1 ∙ c.in_ok-classes.ensures.classes.0,
  record {
    version = c.in-Some.version;
    version_is = sym c.in-Some.ensures.value;
    name_key = c.in_ok-name_key.ensures;
    rank_key = c.in_ok-rank_key.ensures;
    fonts = c.in_ok-fonts.ensures.fonts.1;
    classes = c.in_ok-classes.ensures.classes.1;
  },
)
