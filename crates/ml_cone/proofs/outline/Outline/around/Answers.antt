use Rattle.std.proofs.Common.{inl, sym, subst, rules, arith, w32, FitsSigned, ◌≤ℤ◌}
use Rattle.std.proofs.lemmas.Int.{to_z-of_z}
use Rattle.ml_cone.specs.Hull.{IsExtent}
use Rattle.ml_cone.specs.declared.label.BoxPx.{BoxPx}
use Rattle.ml_cone.proofs.Hulls.{reach_extent}
use Rattle.ml_cone.proofs.Outlines.{kept_about, kept_in_hull, few_about, wide_area}
use Rattle.ml_cone.proofs.outline.Outline.around.Goals as goal

pub meeting_area-area-requires-clause-own : goal.meeting_area-area-requires-clause-own
meeting_area-area-requires-clause-own c = subst IsExtent (sym c.extent.ensures) (reach_extent c.args.label.now)

pub returns-in-Some-clause-few : goal.returns-in-Some-clause-few
returns-in-Some-clause-few c =
    let o = c.args.self.now in
    let area = c.meeting_area-area.result in
    let own : IsExtent c.extent.result = subst IsExtent (sym c.extent.ensures) (reach_extent c.args.label.now) in
    let some : area.l ≤ℤ area.r = subst (λ (p : BoxPx). p.l ≤ℤ p.r) (sym c.meeting_area-area.ensures.area) (wide_area c.extent.result o.reach own o.extent) in
    let fits : FitsSigned w32 c.width_of.result = search rules in
    let is = simp to_z-of_z at c.in-Some.ensures in
    rw (c.cells_about.ensures) (few_about c.args.label.now.x area.l area.r c.args.band c.in-Some.finer some (rw (c.width_of.ensures) at is.few))

pub returns-in-Some-clause-whole : goal.returns-in-Some-clause-whole
returns-in-Some-clause-whole c a within over =
    let upto = c.in-Some.ensures.upto in
    let low = c.requires in
    rw (c.cells_about.ensures, c.meeting_area-area.ensures.area, c.extent.ensures)
    (kept_about c.args.self.now c.args.label.now a c.args.band c.args.band c.in-Some.finer c.in-Some.ensures.from (omega arith) (inl c.in-Some.ensures.upto) (omega arith) within over)

pub returns-in-None-clause-whole : goal.returns-in-None-clause-whole
returns-in-None-clause-whole c a within over = rw (c.hull.ensures.hull) (kept_in_hull c.args.label.now a c.args.band over)
