use Rattle.std.proofs.Common.{rules, ◌≡◌, List, [], ap, ◌∙◌, FitsSigned}
use Rattle.std.proofs.lemmas.Int.{to_z-of_z}
use Rattle.std.proofs.lemmas.List.{get_or_read}
use mir.Syntax.{w128}
use Rattle.ml_ratio.specs.declared.geometry.Pos.{Pos}
use Rattle.ml_anchor.specs.Ring.{box_area}
use Rattle.ml_anchor.specs.Anchor.{outer, part_area}
use Rattle.ml_anchor.proofs.BestLemmas.{best_first, value_takes, value_keeps}
use Rattle.ml_anchor.proofs.anchor.largest_part.Goals as goal
use Rattle.ml_anchor.proofs.anchor.largest_part.Goals.{then-area-best_area, else-area-best_area}

pub loop-i-init : goal.loop-i-init
loop-i-init c =
    let f : FitsSigned w128 c.outer_area-best_area.result = search rules in
    let e : c.outer_area-best_area.result ≡ part_area c.args.parts.now 0 = c.outer_area-best_area.ensures
    ∙ ap (λ (rings : List (List Pos)). box_area (outer rings)) (get_or_read c.args.parts.now 0 c.index-parts-0.result c.requires.some c.index-parts-0.is []) in
    (best_first (part_area c.args.parts.now), simp to_z-of_z e)

pub loop-i-preserved : goal.loop-i-preserved
loop-i-preserved c =
    let f : FitsSigned w128 c.outer_area-area.result = search rules in
    let e : c.outer_area-area.result ≡ part_area c.args.parts.now c.loop-i.i = c.outer_area-area.ensures
    ∙ ap (λ (rings : List (List Pos)). box_area (outer rings)) (get_or_read c.args.parts.now c.loop-i.i c.index-parts-i.result c.loop-i-test.true c.index-parts-i.is []) in
    let inv = c.loop-i.invariant in
    elim c.if-area-best_area.branch [
      | then-area-best_area w ↦ value_takes w128 (part_area c.args.parts.now) c.loop-i.i c.loop-i.best _ _ c.outer_area-area.result _ f inv.0 inv.1 e w.if-area-best_area.true w.best-is w.best_area-is
      | else-area-best_area w ↦ value_keeps w128 (part_area c.args.parts.now) c.loop-i.i c.loop-i.best _ _ c.outer_area-area.result _ f inv.0 inv.1 e w.if-area-best_area.false w.best-is w.best_area-is
    ]
