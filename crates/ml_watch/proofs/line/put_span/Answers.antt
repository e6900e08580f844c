use Rattle.std.specs.Prelude.{decimal}
use Rattle.ml_watch.proofs.Putting.{span_pieces, held_so}
use Rattle.ml_watch.proofs.line.put_span.Goals as goal

pub returns : goal.returns
returns g c =
    let span = c.in-Some.span in
    let put = simp (c.format.ensures.text, c.format-2.ensures.text, c.format-3.ensures.text, c.format-4.ensures.text, c.num.ensures, c.den.ensures, c.num-2.ensures, c.den-2.ensures)
    at c.put_pieces.ensures in
    rw (c.in-Some.is) (held_so _ (span_pieces (decimal span.min.num) (decimal span.min.den) (decimal span.until.num) (decimal span.until.den)) put)
