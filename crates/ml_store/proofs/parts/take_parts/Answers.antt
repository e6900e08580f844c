use Rattle.std.proofs.Common.{ap}
use Rattle.ml_cone.specs.declared.slot.Span.{Span}
use Rattle.ml_store.proofs.parts.take_parts.Goals as goal

pub drop_label-requires-clause-its : goal.drop_label-requires-clause-its
drop_label-requires-clause-its c = rw (ap (λ (s : Span). s.until) c.span.ensures) c.requires.its

pub returns-clause-entries : goal.returns-clause-entries
returns-clause-entries c = rw (ap (λ (s : Span). s.until) c.span.ensures) at c.drop_label.ensures.entries
