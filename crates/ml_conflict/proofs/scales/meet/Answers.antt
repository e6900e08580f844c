use Rattle.ml_conflict.proofs.scales.meet.Goals as goal

pub returns-clause-same : goal.returns-clause-same
returns-clause-same c s =
    let a = c.larger.ensures.above s in
    let b = c.nearer.ensures.same s in
    (λ h. (((a.0 h.0).0, (b.0 h.1).0), ((a.0 h.0).1, (b.0 h.1).1)), λ h. (a.1 (h.0.0, h.1.0), b.1 (h.0.1, h.1.1)))
