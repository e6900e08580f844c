use Rattle.std.proofs.Common.{◌≡◌, ◌+◌, ◌≤◌, vec_len, vec_capacity}
use Rattle.ml_spans.proofs.span_tree.add_spares.Given as goal

abbrev pub invariant-loop-added : goal.invariant-loop-added
invariant-loop-added g l = record {
  grown : vec_len l.spares ≡ vec_len l.initial.spares + l._added;
  room : vec_len l.initial.spares + (l.missing + l.used) ≤ vec_capacity l.spares;
}
