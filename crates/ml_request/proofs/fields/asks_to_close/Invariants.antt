use Rattle.std.proofs.Common.{◌≡◌, map, drop, codes}
use Rattle.std.specs.List.{list_any}
use Rattle.httparse.specs.Spans.{header_bytes}
use Rattle.ml_request.specs.Heads.{values_of, lists_close}
use Rattle.ml_request.proofs.fields.asks_to_close.Given as goal

abbrev pub invariant-loop-header : goal.invariant-loop-header
invariant-loop-header l =
    list_any lists_close (values_of (codes "connection") (map (header_bytes l.bytes) (drop l.header-index l.headers)))
    ≡ list_any lists_close (values_of (codes "connection") (map (header_bytes l.bytes) l.headers))
