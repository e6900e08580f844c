use Rattle.std.proofs.Common.{ap}
use Rattle.ml_cone.specs.declared.slot.Span.{Span}
use Rattle.ml_store.proofs.parts.put_parts.Goals as goal

pub returns-clause-entries : goal.returns-clause-entries
returns-clause-entries c = rw (ap (λ (s : Span). s.until) c.span.ensures) at c.add.ensures.entries
