use Rattle.std.proofs.Common.{◌≡◌, true, false, refl, rules, to_z, of_z, w32}
use Rattle.ml_style.specs.Offset.{IsOffset}
use Rattle.ml_label.specs.Placing.{shift}
use Rattle.ml_label.proofs.Setting.{too_wide, in_box}
use Rattle.ml_label.proofs.placing.text_box.Goals as goal

pub returns-then-is_too_wide : goal.returns-then-is_too_wide
returns-then-is_too_wide c =
    let x : to_z w32 (of_z w32 c.shift_of-dx.result.0) ≡ shift c.args.class.now.kind c.args.class.now.dx = search rules in
    too_wide c.args.font.now c.args.class.now c.args.text.now (to_z w32 (of_z w32 c.shift_of-dx.result.0)) c.width-wide.result x c.width-wide.ensures.value (c.if-is_too_wide.ensures.0 refl)

pub returns-else-is_too_wide : goal.returns-else-is_too_wide
returns-else-is_too_wide c =
    let x : to_z w32 (of_z w32 c.shift_of-dx.result.0) ≡ shift c.args.class.now.kind c.args.class.now.dx = search rules in
    let y : to_z w32 (of_z w32 c.shift_of-dx.result.1) ≡ shift c.args.class.now.kind c.args.class.now.dy = search rules in
    let moved : IsOffset (to_z w32 (of_z w32 c.shift_of-dx.result.0)) = search rules in
    in_box c.args.font.now c.args.class.now c.args.text.now (to_z w32 (of_z w32 c.shift_of-dx.result.0))
    (to_z w32 (of_z w32 c.shift_of-dx.result.1)) c.width-wide.result c.straight_box.result moved x y c.width-wide.ensures.value
    (λ wide. let f : false ≡ true = c.if-is_too_wide.ensures.1 wide in cc) c.straight_box.ensures.straight c.straight_box.ensures.good
