use Rattle.std.proofs.Common.{◌≡◌, ℕ, ◌<◌, length, get_or, arith, ◌∙◌}
use Rattle.std.proofs.lemmas.List.{get_or_default}
use Rattle.ml_gaps.proofs.Strips.{among_none, among_more, among_all}
use Rattle.ml_gaps.proofs.choice.pieces_of.Goals as goal

pub loop-k-init : goal.loop-k-init
loop-k-init c = among_none c.args.label.now c.args.before.now.labels.now c.args.before.now.gaps.now c.args.before.now.places.now _ (c.of_vec-pieces.ensures ∙ c.requires.empty)

pub loop-k-preserved : goal.loop-k-preserved
loop-k-preserved c =
    let a = c.args.label.now in
    let labels = c.args.before.now.labels.now in
    let gaps = c.args.before.now.gaps.now in
    let places = c.args.before.now.places.now in
    let k = c.loop-k.k in
    let j : ℕ = get_or places k 0 in
    let at : j ≡ get_or places k j = get_or_default places k 0 j c.loop-k-test.true in
    let lt : j < length gaps = c.requires.enough.within k 0 c.loop-k-test.true in
    let few = c.requires.few in
    let in' : j < length labels = omega arith in
    let label = get_or labels j c.index-before-j-in-loop-k.result in
    let gap = get_or gaps j c.index-before-j-in-loop-k-2.result in
    among_more a labels gaps places k j at c.loop-k-test.true _ c.loop-k.pieces c.add_blocked.new.pieces label gap
    (get_or_default labels j c.index-before-j-in-loop-k.result label in') (get_or_default gaps j c.index-before-j-in-loop-k-2.result gap lt) in' lt c.in_ok-add_blocked.ensures c.loop-k.invariant

pub returns : goal.returns
returns c s =
    let e : c.loop-k.k ≡ length c.args.before.now.places.now = omega arith in
    let same = among_all c.args.label.now c.args.before.now.labels.now c.args.before.now.gaps.now c.args.before.now.places.now c.requires.enough c.loop-k.k e s in
    let is = c.loop-k.invariant s in
    rw c.into_vec.ensures ((λ h. same.0 (is.0 h)), (λ h. is.1 (same.1 h)))
