use Rattle.std.proofs.Common.{arith, sym, ◌∙◌, drop, length-drop}
use Rattle.ml_ratio.proofs.LineLemmas.{ended_before, ended_none}
use Rattle.ml_ratio.proofs.lines.next_ended.Goals as goal

pub returns-in-Some : goal.returns-in-Some
returns-in-Some c =
    let found = sym c.newline_at.ensures ∙ c.in-Some.is in
    let ended = ended_before c.args.bytes.now c.in-Some.end found in (
      rw (c.split_at.ensures.front, c.split_at-in-Some.ensures.back, c.split_at.ensures.back) ended.0,
      rw (c.split_at-in-Some.ensures.back, c.split_at.ensures.back) (omega (arith, ended.1, length-drop 1 (drop c.in-Some.end c.args.bytes.now), length-drop c.in-Some.end c.args.bytes.now)),
    )

pub returns-in-None : goal.returns-in-None
returns-in-None c = ended_none c.args.bytes.now (sym c.newline_at.ensures ∙ c.in-None.is)
