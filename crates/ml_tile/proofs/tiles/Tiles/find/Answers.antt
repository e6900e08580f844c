use Rattle.std.proofs.Common.{◌≡◌, ◌∙◌, ap, sym, subst, ℕ, List, Option, Some, None, Bor, refl, Contains}
use Rattle.std.specs.Prelude.{MatchOption}
use Rattle.std.specs.Option.{option_copied}
use Rattle.std.specs.Map.{lookup}
use Rattle.ml_tile.specs.Cache.{Cache, IsHeld, IsHit}
use Rattle.ml_tile.specs.Ends.{IsFound}
use Rattle.ml_tile.specs.declared.key.TileKey.{TileKey}
use Rattle.ml_tile.proofs.Keys.{same_key}
use Rattle.ml_tile.proofs.Held.{first_found, was_held}
use Rattle.ml_tile.proofs.tiles.Tiles.find.Goals as goal

found_by : (key : TileKey) (old new : Cache) (o : Option (Bor (List ℕ))) (body : List ℕ) → option_copied o ≡ Some body → IsHit key body old new →
    IsFound key old o new × MatchOption o (¬ (IsHeld key old.tiles)) (λ b. Contains old.tiles (key, b.now))
found_by key old new None body e hit = cc
found_by key old new (Some b) body e hit =
    let same : body ≡ b.now = cc in
    (subst (λ t. IsHit key t old new) same hit, subst (λ t. Contains old.tiles (key, t)) same (was_held key body old.tiles new.tiles hit.tiles))

pub returns : goal.returns
returns c =
    let hit = c.if-not-touch.ensures in
    let new = c.touch.new.self in
    let found = first_found c.args.key.now hit.0 c.args.self.now.tiles new.tiles hit.1.tiles in
    let copied : option_copied c.peek.result ≡ Some hit.0 = c.peek.ensures ∙ ap (λ t. lookup (same_key c.args.key.now) t.tiles) c.self.view_is ∙ found in
    let both = found_by c.args.key.now c.args.self.now new c.peek.result hit.0 copied hit.1 in
    ((refl, λ _. tt, subst (IsFound c.args.key.now c.args.self.now c.peek.result) (sym c.self.view_is) both.0), record { ends = tt; held = both.1 })
