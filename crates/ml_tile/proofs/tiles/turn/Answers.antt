use Rattle.std.proofs.Common.{◌≡◌, ◌∙◌, ap, inl, inr}
use Rattle.ml_tile.proofs.Held.{popped, promoted_last}
use Rattle.ml_tile.proofs.tiles.turn.Goals as goal

pub returns-then-shows-clause-turned : goal.returns-then-shows-clause-turned
returns-then-shows-clause-turned c =
    let last = c.in-Some.ensures in
    let key = c.in-Some.key in
    inr (last.0, (key, last.1), last.2, inl (c.if-shows.ensures, ap (λ l. l.entries) c.pop_lru-gone.ensures.entries ∙ popped c.args.held.now.entries last.0 (key, last.1) last.2))

pub returns-else-shows-clause-turned : goal.returns-else-shows-clause-turned
returns-else-shows-clause-turned c =
    let last = c.in-Some.ensures in
    let key = c.in-Some.key in
    inr (
      last.0,
      (key, last.1),
      last.2,
      inr (c.if-shows.ensures, ap (λ l. l.entries) c.promote-there.ensures.entries ∙ promoted_last c.args.held.now.entries last.0 key last.1 c.len-count.ensures.valid.0 last.2),
    )
