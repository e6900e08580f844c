use Rattle.std.proofs.Common.{map, drop, codes}
use Rattle.httparse.specs.Spans.{header_bytes}
use Rattle.ml_request.specs.Heads.{values_of}
use Rattle.ml_request.proofs.LengthLemmas.{IsLengthSoFar}
use Rattle.ml_request.proofs.fields.length_of_body.Given as goal

abbrev pub invariant-loop-header : goal.invariant-loop-header
invariant-loop-header l =
    IsLengthSoFar l.found l.length
    (values_of (codes "content-length") (map (header_bytes l.bytes) (drop l.header-index l.headers)))
    (values_of (codes "content-length") (map (header_bytes l.bytes) l.headers))
