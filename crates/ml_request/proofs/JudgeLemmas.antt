-- A head is judged as its fields say.
use Rattle.std.proofs.Common.{◌≡◌, ℕ, List, map, take, Some, Result, ap, ◌∙◌}
use Rattle.httparse.specs.declared.spans.HeaderSpan.{HeaderSpan}
use Rattle.httparse.specs.declared.spans.RequestSpans.{RequestSpans}
use Rattle.httparse.specs.Grammar.{RequestHead}
use Rattle.httparse.specs.Spans.{IsRequestAt, span_bytes, header_bytes, name_and_value}
use Rattle.ml_request.specs.declared.request.Refusal.{Refusal}
use Rattle.ml_request.specs.declared.request.Framing.{Framing}
use Rattle.ml_request.specs.Heads.{framing_of, parts_of, judgement}

-- what the rules say of the parts of a head as they are read is the judgement of that head
pub judged : (bytes : List ℕ) (headers fields : List HeaderSpan) (spans : RequestSpans) (h : RequestHead) (method target : List ℕ) (r : Result Framing Refusal) →
    IsRequestAt bytes headers spans h → method ≡ span_bytes bytes spans.method → target ≡ span_bytes bytes spans.path → fields ≡ take spans.headers headers →
    r ≡ framing_of target spans.version (map (header_bytes bytes) fields) → parts_of method target r ≡ judgement (Some h)
judged bytes headers fields spans h method target r at a b c is =
    let methods : method ≡ h.method = a ∙ at.method in
    let targets : target ≡ h.target = b ∙ at.path in
    let pairs : map (header_bytes bytes) fields ≡ map name_and_value h.fields = ap (map (header_bytes bytes)) c ∙ at.fields in
    let framings : r ≡ framing_of h.target h.minor (map name_and_value h.fields) =
    is ∙ ap (λ t. framing_of t spans.version (map (header_bytes bytes) fields)) targets
    ∙ ap (λ m. framing_of h.target m (map (header_bytes bytes) fields)) at.version ∙ ap (framing_of h.target h.minor) pairs in
    ap (λ m. parts_of m target r) methods ∙ ap (λ t. parts_of h.method t r) targets ∙ ap (parts_of h.method h.target) framings
