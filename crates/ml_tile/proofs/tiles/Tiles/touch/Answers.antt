use Rattle.std.proofs.Common.{◌≡◌, ◌∙◌, ap, sym, subst, rules, not, true, false, Bool, ℕ, List, refl}
use Rattle.ml_ratio.specs.Count.{one_more}
use Rattle.ml_tile.specs.Cache.{Cache, HeldTile, ComesFirst, IsHit, IsHeld}
use Rattle.ml_tile.proofs.Held.{hit_of, miss_of}
use Rattle.ml_tile.proofs.tiles.Tiles.touch.Goals as goal

pub returns-then-not-promote : goal.returns-then-not-promote
returns-then-not-promote c =
    let i = c.self.inside in
    let off : c.promote.result ≡ false = search rules in
    let m = miss_of c.args.key.now i.held.entries c.promote.result c.promote.ensures.value off in (
      subst (λ t. ¬ (IsHeld c.args.key.now t)) (ap (λ t. t.tiles) c.self.view_is) m.0,
      ap (λ es. let r : Cache = record { tiles = es; hits = i.hits; skips = i.skips } in r) (ap (λ l. l.entries) c.promote.ensures.entries ∙ m.1) ∙ c.self.view_is,
    )

pub returns : goal.returns
returns c =
    let i = c.self.inside in
    let on : c.promote.result ≡ true = search rules in
    let h = hit_of c.args.key.now i.held.entries c.promote.result c.promote.ensures.value on in (
      h.0,
      record {
        tiles = subst (λ t. ComesFirst c.args.key.now h.0 t c.promote.new.self.entries) (ap (λ t. t.tiles) c.self.view_is)
            (subst (λ t. ComesFirst c.args.key.now h.0 i.held.entries t) (sym (ap (λ l. l.entries) c.promote.ensures.entries)) h.1);
        hits = c.saturating_add-self-inside.ensures ∙ ap one_more (ap (λ t. t.hits) c.self.view_is);
        skips = ap (λ t. t.skips) c.self.view_is;
      },
    )
