use Rattle.std.proofs.Common.{◌≡◌, ◌∙◌, ap, sym, subst, ℕ, List, Option, Some, None, Bor, Contains}
use Rattle.std.specs.Prelude.{MatchOption}
use Rattle.std.specs.Option.{option_copied}
use Rattle.std.specs.Map.{lookup}
use Rattle.lru.proofs.CallerLemmas.{Contains-lookup}
use Rattle.ml_tile.specs.Cache.{HeldTile, IsHeld}
use Rattle.ml_tile.specs.declared.key.TileKey.{TileKey}
use Rattle.ml_tile.proofs.Keys.{same_key, key_of_same}
use Rattle.ml_tile.proofs.Held.{look_by}
use Rattle.ml_tile.proofs.tiles.Tiles.peek.Goals as goal

peeked : (key : TileKey) (es : List HeldTile) (o : Option (Bor (List ℕ))) → option_copied o ≡ lookup (same_key key) es → MatchOption o (¬ (IsHeld key es)) (λ body. Contains es (key, body.now))
peeked key es None e = look_by key es None (sym e)
peeked key es (Some b) e =
    let there = Contains-lookup (same_key key) es b.now (sym e) in
    subst (λ k. Contains es (k, b.now)) (sym (key_of_same key there.0 there.2)) there.1

pub returns : goal.returns
returns c = peeked c.args.key.now c.args.self.now.tiles c.peek.result (c.peek.ensures ∙ ap (λ t. lookup (same_key c.args.key.now) t.tiles) c.self.view_is)
