use Rattle.std.proofs.Common.{◌≡◌, ℕ, ◌+◌, ◌^◌, ◌<◌, max, ap, ◌∙◌, arith}
use Rattle.ml_river.specs.Chain.{edge, half_width, left, right}
use Rattle.ml_river.proofs.BoxLemmas.{raised_along, side}
use Rattle.ml_river.proofs.chain.cluster_box.Goals as goal

pub returns : goal.returns
returns c =
    let s = c.edge_at-start.ensures in
    let e = c.edge_at-end.ensures in
    let far : c.max-far.result ≡ max (edge c.args.class c.args.advances.now (c.args.k + 1)) (edge c.args.class c.args.advances.now c.args.k + 1) =
    c.max-far.ensures ∙ (ap (λ (n : ℕ). max n (c.edge_at-start.result + 1)) e.value ∙ ap (λ (n : ℕ). max (edge c.args.class c.args.advances.now (c.args.k + 1)) (n + 1)) s.value) in
    let bound : c.max-far.result < 2 ^ 58 = omega (arith, c.max-far.ensures, s.bound, e.bound) in
    raised_along c.args.class c.args.run.now c.args.anchor.x c.args.anchor.y _ _ (left c.args.class c.args.advances.now c.args.k) (right c.args.class c.args.advances.now c.args.k) c.raised_box.result
    (side c.edge_at-start.result c.args.half (edge c.args.class c.args.advances.now c.args.k) (half_width c.args.class c.args.advances.now)
    (omega (arith, s.bound)) (omega (arith, c.requires.half_bound)) s.value c.requires.half)
    (side c.max-far.result c.args.half (max (edge c.args.class c.args.advances.now (c.args.k + 1)) (edge c.args.class c.args.advances.now c.args.k + 1))
    (half_width c.args.class c.args.advances.now) bound (omega (arith, c.requires.half_bound)) far c.requires.half)
    c.raised_box.ensures
