use Rattle.std.proofs.Common.{refl, ◌≡◌, true, false, le-leb}
use Rattle.ml_style.specs.ClassFaults.{is_at_most}
use Rattle.ml_style.proofs.ClassLemmas.{known_if, is_found, not_at_most}
use Rattle.ml_style.proofs.class_table.check.Goals as goal

pub returns-then-is_none : goal.returns-then-is_none
returns-then-is_none c = rw (known_if c.args.fonts.now c.args.font.now c.find_font.result false c.find_font.ensures c.if-is_none.ensures) refl

pub returns-then-not-is_less : goal.returns-then-not-is_less
returns-then-not-is_less c =
    let t : is_at_most c.args.max.now c.args.min.now ≡ true = le-leb _ _ c.if-not-is_less.ensures in
    rw (known_if c.args.fonts.now c.args.font.now c.find_font.result true c.find_font.ensures c.if-is_none.ensures, t) refl

pub returns : goal.returns
returns c =
    let less = c.if-not-is_less.ensures in
    let t : is_at_most c.args.max.now c.args.min.now ≡ false = not_at_most c.args.min.now c.args.max.now less in (
      rw (known_if c.args.fonts.now c.args.font.now c.find_font.result true c.find_font.ensures c.if-is_none.ensures, t) refl,
      record { known = is_found c.args.fonts.now c.args.font.now c.find_font.result c.find_font.ensures c.if-is_none.ensures; range = less },
    )
