use Rattle.ml_repair.proofs.wake.is_later_rival.Goals as goal

pub returns-then-i-k : goal.returns-then-i-k
returns-then-i-k c =
    let own = c.args.own.now in (
      λ t. (c.if-i-k.true, λ d. rw (c.row.ensures.label d, c.requires.own d) (c.are_rivals.ensures.0 t)),
      λ h. c.are_rivals.ensures.1 (rw (c.row.ensures.label own, c.requires.own own) at (h.1 own)),
    )
