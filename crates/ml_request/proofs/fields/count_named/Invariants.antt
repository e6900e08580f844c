use Rattle.std.proofs.Common.{◌≡◌, ◌≤◌, ◌+◌, map, length, drop}
use Rattle.httparse.specs.Spans.{header_bytes}
use Rattle.ml_request.specs.Heads.{values_of}
use Rattle.ml_request.proofs.fields.count_named.Given as goal

abbrev pub invariant-loop-header : goal.invariant-loop-header
invariant-loop-header l = record {
  counted : l.count + length (values_of l.name (map (header_bytes l.bytes) (drop l.header-index l.headers))) ≡ length (values_of l.name (map (header_bytes l.bytes) l.headers));
  few : l.count ≤ l.header-index;
}
