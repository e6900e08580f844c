use Rattle.std.proofs.Common.{sym, subst, rules, arith, w32, FitsSigned, ◌≤◌, ◌≤ℤ◌, ◌⊎◌, inl, inr}
use Rattle.std.proofs.lemmas.Int.{to_z-of_z}
use Rattle.std.proofs.lemmas.Bool.{cases_lt}
use Rattle.ml_cone.specs.Hull.{IsExtent}
use Rattle.ml_cone.specs.declared.label.BoxPx.{BoxPx}
use Rattle.ml_cone.proofs.Hulls.{reach_extent}
use Rattle.ml_cone.proofs.Outlines.{kept_about, few_about, wide_area}
use Rattle.ml_cone.proofs.outline.Outline.across.Goals as goal

pub meeting_area-area-requires-clause-own : goal.meeting_area-area-requires-clause-own
meeting_area-area-requires-clause-own c = subst IsExtent (sym c.extent.ensures) (reach_extent c.args.label.now)

pub returns-then-finer-max-clause-few : goal.returns-then-finer-max-clause-few
returns-then-finer-max-clause-few c =
    let o = c.args.self.now in
    let area = c.meeting_area-area.result in
    let own : IsExtent c.extent.result = subst IsExtent (sym c.extent.ensures) (reach_extent c.args.label.now) in
    let some : area.l ≤ℤ area.r = subst (λ (p : BoxPx). p.l ≤ℤ p.r) (sym c.meeting_area-area.ensures.area) (wide_area c.extent.result o.reach own o.extent) in
    let fits : FitsSigned w32 c.width_of.result = search rules in
    let is = simp to_z-of_z at c.in_ok-finer.ensures in
    rw (c.cells_about.ensures) (few_about c.args.label.now.x area.l area.r c.args.upto c.in_ok-finer.finer some (rw (c.width_of.ensures) at is.few))

pub returns-then-finer-max-clause-whole : goal.returns-then-finer-max-clause-whole
returns-then-finer-max-clause-whole c a n within from upto over =
    let low = c.if-finer-max.true in
    let most = c.max.ensures in
    let finer = c.in_ok-finer.ensures.upto in
    let last = c.requires in
    let early : (c.in_ok-finer.finer ≤ n) ⊎ (c.in_ok-finer.finer ≤ c.args.self.now.first_end) =
    elim (cases_lt c.args.self.now.first_end c.in_ok-finer.finer) [
      | inl above ↦ inl (omega arith)
      | inr before ↦ inr before
    ] in
    rw (c.cells_about.ensures, c.meeting_area-area.ensures.area, c.extent.ensures)
    (kept_about c.args.self.now c.args.label.now a n c.args.upto c.in_ok-finer.finer c.in_ok-finer.ensures.from (omega arith) early upto within over)
