use Rattle.std.proofs.Common.{◌≡◌, ◌∙◌, ap, rules}
use Rattle.ml_tile.proofs.Held.{put_new}
use Rattle.ml_tile.proofs.tiles.store.Goals as goal

pub returns-in-Ok-clause-ok : goal.returns-in-Ok-clause-ok
returns-in-Ok-clause-ok c =
    let body : c.of_vec.result ≡ c.args.body.now = search rules in
    ap (λ l. l.entries) c.in-Ok.ensures.entries ∙ put_new c.args.held.now c.args.key c.of_vec.result c.requires.new c.requires.most ∙ rw body search rules
