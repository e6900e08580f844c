use Rattle.std.proofs.Common.{ℕ, ◌≤◌, sym, subst, arith, Option}
use Rattle.std.specs.Prelude.{IfSome}
use denote.Ref.{Bor}
use Rattle.std.proofs.lemmas.List.Elements.{All-weaker}
use Rattle.ml_cone.specs.Cell.{IsLastBand}
use Rattle.ml_store.specs.declared.row.Row.{Row}
use Rattle.ml_repair.proofs.NearRosters.{ends_from, last_after}
use Rattle.ml_repair.proofs.roster.Roster.first_end.Goals as goal

pub returns-in-Some-clause-ends : goal.returns-in-Some-clause-ends
returns-in-Some-clause-ends c =
    let i = c.self.inside in
    let row : Bor Row = c.in-Some.row in
    let least = c.min.ensures in
    rw (← c.self.view_is)
    (ends_from i.come i.at i.gone i.store.now.rows c.min.result c.self.invariant.1 c.self.invariant.2
    (All-weaker (λ (r : Row). (k : ℕ) → IsLastBand r.label k → c.first_end-first.result ≤ k) (λ (r : Row). (k : ℕ) → IsLastBand r.label k → c.min.result ≤ k)
    (λ r h k last. (let e = h k last in omega arith)) i.store.now.rows c.first_end-first.ensures.ends)
    (subst (λ (come : Option (Bor Row)). IfSome come (λ it. (k : ℕ) → IsLastBand it.now.label k → c.min.result ≤ k)) (sym c.in-Some.is)
    (λ k last. (let e = last_after row.now.label c.last_band.result k c.last_band.ensures.low c.last_band.ensures.reaches last in omega arith))))

pub returns-in-None-clause-ends : goal.returns-in-None-clause-ends
returns-in-None-clause-ends c =
    let i = c.self.inside in
    rw (← c.self.view_is)
    (ends_from i.come i.at i.gone i.store.now.rows c.first_end-first.result c.self.invariant.1 c.self.invariant.2 c.first_end-first.ensures.ends
    (subst (λ (come : Option (Bor Row)). IfSome come (λ it. (k : ℕ) → IsLastBand it.now.label k → c.first_end-first.result ≤ k)) (sym c.in-None.is) tt))
