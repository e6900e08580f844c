use Rattle.std.proofs.Common.{◌≡◌, ◌∙◌, ◌+◌, ◌-◌, ap, sym, refl, arith, subst, ℕ, length}
use Rattle.ml_tile.specs.Cache.{ShowsIn}
use Rattle.ml_tile.proofs.Turning.{Turned, turned_none, turned_more, turned_all}
use Rattle.ml_tile.proofs.tiles.Tiles.forget.Goals as goal

pub loop-tile-init : goal.loop-tile-init
loop-tile-init c =
    let same = ap (λ t. t.tiles) c.self.view_is in
    let count : c.len-tile-end.result - 0 ≡ length c.self.inside.held.entries = (let e = c.len-tile-end.ensures.len in omega arith) in (
      subst (λ old. Turned (ShowsIn c.args.label.now c.args.span.now) old c.self.inside.held.entries (c.len-tile-end.result - 0)) same
          (turned_none (ShowsIn c.args.label.now c.args.span.now) c.self.inside.held.entries (c.len-tile-end.result - 0) count),
      (refl, (refl, (ap (λ t. t.hits) c.self.view_is, (ap (λ t. t.skips) c.self.view_is, c.self.invariant)))),
    )

pub loop-tile-preserved : goal.loop-tile-preserved
loop-tile-preserved c =
    let i = c.loop-tile.invariant in
    let left : ℕ = c.len-tile-end.result - c.loop-tile._tile in
    let fewer : left - 1 ≡ c.len-tile-end.result - (c.loop-tile._tile + 1) = omega arith in (
      subst (λ n. Turned (ShowsIn c.args.label.now c.args.span.now) c.args.self.now.tiles c.turn.new.held.entries n) fewer
          (turned_more (ShowsIn c.args.label.now c.args.span.now) c.args.self.now.tiles c.loop-tile.self-inside.held.entries c.turn.new.held.entries left (omega arith) i.0 c.turn.ensures.turned),
      (refl, (refl, (i.1.1.1.0, (i.1.1.1.1.0, c.turn.ensures.most ∙ i.1.1.1.1.1)))),
    )

pub returns-clause-tiles : goal.returns-clause-tiles
returns-clause-tiles c =
    let i = c.loop-tile.invariant in
    let none : c.len-tile-end.result - c.loop-tile._tile ≡ 0 = omega arith in
    turned_all (ShowsIn c.args.label.now c.args.span.now) c.args.self.now.tiles c.loop-tile.self-inside.held.entries (c.len-tile-end.result - c.loop-tile._tile) none i.0
