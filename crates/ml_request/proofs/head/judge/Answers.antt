use Rattle.std.proofs.Common.{Some, map, sym, ap, refl, ◌∙◌}
use Rattle.httparse.specs.Spans.{header_bytes}
use Rattle.ml_request.specs.Heads.{framing_of}
use Rattle.ml_request.proofs.JudgeLemmas.{judged}
use Rattle.ml_request.proofs.head.judge.Goals as goal

pub returns-in_ok-from_slice-in-Ok-2 : goal.returns-in_ok-from_slice-in-Ok-2
returns-in_ok-from_slice-in-Ok-2 c =
    let found = c.in-Some.ensures.head in (
      Some found.0,
      found.1,
      judged c.args.bytes.now _ _ c.in-Some.spans found.0 _ _ _ found.2
          (c.in_ok-from_slice-in-Ok.ensures.items ∙ c.of.ensures) (c.in_ok-from_slice-in-Ok-2.ensures.items ∙ c.of-target.ensures) c.split_at.ensures.front
          (c.in-Ok.ensures ∙ ap (λ t. framing_of t c.in-Some.spans.version (map (header_bytes c.args.bytes.now) c.split_at.result.0.now)) (sym c.in_ok-from_slice-in-Ok-2.ensures.items)),
    )

pub returns-in-Err : goal.returns-in-Err
returns-in-Err c =
    let found = c.in-Some.ensures.head in (
      Some found.0,
      found.1,
      judged c.args.bytes.now _ _ c.in-Some.spans found.0 _ _ _ found.2
          refl c.of-target.ensures c.split_at.ensures.front c.in-Err.ensures,
    )
