use Rattle.std.proofs.Common.{ℕ, ◌≤◌, arith}
use Rattle.std.proofs.lemmas.List.Elements.{All-weaker}
use Rattle.ml_cone.specs.Cell.{IsLastBand}
use Rattle.ml_cone.specs.Outline.{IsWithin}
use Rattle.ml_store.specs.declared.row.Row.{Row}
use Rattle.ml_store.proofs.store.Store.first_end.Goals as goal

pub returns-clause-ends : goal.returns-clause-ends
returns-clause-ends c =
    let o = c.self.inside.outline in
    rw (← c.self.view_is)
    (All-weaker (λ (r : Row). IsWithin o r.label) (λ (r : Row). (k : ℕ) → IsLastBand r.label k → c.min.result ≤ k)
    (λ r h k last. (let e = h.ends k last in let first = c.first_end.ensures in let least = c.min.ensures in omega arith))
    _ c.self.invariant.1)
