use Rattle.std.proofs.Common.{◌≡◌, ◌∙◌, sym, ap, subst, List, [], ◌∷◌, ◌++◌, Option, Some, None, option_map}
use Rattle.std.specs.Prelude.{MatchOption}
use Rattle.lru.specs.LruCache.{last_entry}
use Rattle.ml_tile.specs.Cache.{HeldTile}
use Rattle.ml_tile.proofs.Held.{ends}
use Rattle.ml_tile.proofs.tiles.last_key.Goals as goal

at_end : (es : List HeldTile) (o : Option HeldTile) → o ≡ last_entry es → MatchOption o (es ≡ []) (λ last. (front : List HeldTile) × (es ≡ front ++ last ∷ []))
at_end es o e = subst (λ p. MatchOption p (es ≡ []) (λ last. (front : List HeldTile) × (es ≡ front ++ last ∷ []))) (sym e) (ends es)

pub returns-in-Some : goal.returns-in-Some
returns-in-Some c =
    let last = at_end c.args.held.now.entries (Some (c.in-Some.key.now, c.in-Some._body.now)) (ap (option_map (λ p. (p.0.now, p.1.now))) (sym c.in-Some.is) ∙ c.peek_lru.ensures) in
    (last.0, c.in-Some._body.now, last.1)

pub returns-in-None : goal.returns-in-None
returns-in-None c = at_end c.args.held.now.entries None (ap (option_map (λ p. (p.0.now, p.1.now))) (sym c.in-None.is) ∙ c.peek_lru.ensures)
