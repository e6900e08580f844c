use Rattle.std.proofs.Common.{◌≤◌, sym, ◌∙◌, arith}
use Rattle.std.specs.Prelude.{IsSome}
use Rattle.std.proofs.lemmas.Bool.{false≢true}
use Rattle.ml_repair.proofs.NearRosters.{clear_before}
use Rattle.ml_repair.proofs.roster.Roster.is_clear.Goals as goal
use Rattle.ml_repair.proofs.roster.Roster.is_clear.Goals.{else-is_some-via-then-is_some+else-self-before, else-is_some-via-else-is_some}

pub returns-then-self-before : goal.returns-then-self-before
returns-then-self-before c holds = absurd (false≢true holds)

pub returns : goal.returns
returns c holds =
    let i = c.self.inside in
    let behind : IsSome i.come → c.args.before ≤ i.at = λ some.
    elim c.else-is_some.branch [
      | else-is_some-via-then-is_some+else-self-before w ↦ (let h = w.if-self-before.false in omega arith)
      | else-is_some-via-else-is_some w ↦ absurd (false≢true (sym w.if-is_some.false ∙ c.is_some.ensures ∙ some))
    ] in
    rw (← c.self.view_is) (clear_before i.come i.at i.gone i.store.now.rows c.args.label.now c.args.before c.args.band
    c.args.upto c.args.scale.now c.self.invariant.1 c.self.invariant.2 behind (c.is_clear.ensures holds))
