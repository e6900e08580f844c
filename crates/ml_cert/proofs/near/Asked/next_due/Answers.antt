use Rattle.std.proofs.Common.{inl, refl}
use Rattle.ml_cert.proofs.near.Asked.next_due.Goals as goal

pub returns-in-Aside : goal.returns-in-Aside
returns-in-Aside c = record { allowed = λ lt. (c.in-Aside.ensures lt).0; first = inl (λ lt. (c.in-Aside.ensures lt).1, refl) }
