-- How wide a chain is.
use Rattle.std.proofs.Common.{◌≡◌, ℕ, ◌+◌, ◌-◌, ◌/◌, ◌<◌, ◌≤◌, max, List, length, sum, get_or, ℤ, pos, ◌-ℤ◌, ◌≤ℤ◌, refl, sym, ap, arith}
use Rattle.std.proofs.lemmas.Int.{ints}
use Rattle.std.proofs.lemmas.List.{take_all}
use Rattle.ml_ratio.specs.declared.geometry.Pos.{Pos}
use Rattle.ml_cone.specs.declared.label.BoxPx.{BoxPx}
use Rattle.ml_river.specs.declared.class.RiverClass.{RiverClass}
use Rattle.ml_river.specs.Chain.{width, edge, IsChain}
use Rattle.ml_river.proofs.ChainLemmas.{edge_end}

-- what reaches so far is no more than 1024 pixels wide
reach : (w e f : ℕ) (r : ℤ) → w ≡ e → r ≡ (pos (max e f) -ℤ pos (w / 2)) → r ≤ℤ pos 512 → w ≤ 1024
reach w e f r same is low = omega (arith, ints)

-- a chain of some boxes is at most 1024 pixels wide
pub chain_narrow : (c : RiverClass) (run : List Pos) (x y : ℤ) (advances : List ℕ) (boxes : List BoxPx) → 0 < length advances → IsChain c run x y advances boxes → width c (sum advances) ≤ 1024
chain_narrow c run x y advances boxes some chain =
    let k = length advances - 1 in
    let d : BoxPx = record { l = pos 0; b = pos 0; r = pos 0; t = pos 0 } in
    let there : k < length boxes = (let e = chain.one_each in omega arith) in
    let last = chain.each k d there in
    let good = chain.good k d there in
    let ended : width c (sum advances) ≡ edge c advances (k + 1) =
    edge_end c advances (k + 1) (sum advances) (width c (sum advances)) (omega arith) (ap sum (sym (take_all (k + 1) advances (omega arith)))) refl in
    reach (width c (sum advances)) (edge c advances (k + 1)) (edge c advances k + 1) ((get_or boxes k d).r) ended last.right_is good.0.1.1
