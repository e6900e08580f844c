use Rattle.std.proofs.Common.{◌≡◌, ◌+◌, ◌-◌, ◌<◌, ℕ, take, drop, length, sym, subst, arith}
use Rattle.std.proofs.lemmas.List.{drop_all}
use Rattle.ml_json.specs.Tree.{pair, put}
use Rattle.ml_json.specs.Lent.{lent_pairs_view}
use Rattle.ml_json.specs.Sorted.{onto}
use Rattle.ml_json.proofs.Ascending.{First}
use Rattle.ml_json.proofs.PlaceLemmas.{compared, first_here, put_at, put_between, put_front}
use Rattle.ml_json.proofs.sorted.place_of.Goals as goal

pub loop-place-init : goal.loop-place-init
loop-place-init c = record {
  within = omega arith;
  above = rw (drop_all (length c.args.pairs.now) c.args.pairs.now (omega arith)) tt;
}

pub loop-place-preserved : goal.loop-place-preserved
loop-place-preserved c =
    let at : ℕ = c.loop-place.place - 1 in
    let lt : at < length c.args.pairs.now = omega arith in
    record {
      within = omega arith;
      above = first_here c.args.key.now c.args.pairs.now at _ lt (compared c.args.key.now _ c.cmp.ensures c.in-Less.is);
    }

pub returns-in-Equal : goal.returns-in-Equal
returns-in-Equal c =
    let at : ℕ = c.loop-place.place - 1 in
    let lt : at < length c.args.pairs.now = omega arith in
    (lt, λ v. put_at c.args.key.now c.args.pairs.now at _ lt c.requires v (compared c.args.key.now _ c.cmp.ensures c.in-Equal.is))

pub returns-in-Greater : goal.returns-in-Greater
returns-in-Greater c =
    let k = c.args.key.now in
    let ps = c.args.pairs.now in
    let at : ℕ = c.loop-place.place - 1 in
    let lt : at < length ps = omega arith in
    let next : at + 1 ≡ c.loop-place.place = omega arith in
    let first = subst (λ (n : ℕ). First k (lent_pairs_view (drop n ps))) (sym next) c.loop-place.invariant.above in (
      c.loop-place.invariant.within,
      λ v. subst (λ (n : ℕ). put k v (lent_pairs_view ps) ≡ onto (take n ps) (pair k v (lent_pairs_view (drop n ps)))) next
          (put_between k ps at _ lt c.requires v (compared k _ c.cmp.ensures c.in-Greater.is) first),
    )

pub returns : goal.returns
returns c =
    let k = c.args.key.now in
    let ps = c.args.pairs.now in
    let none : 0 ≡ c.loop-place.place = omega arith in
    let first = subst (λ (n : ℕ). First k (lent_pairs_view (drop n ps))) (sym none) c.loop-place.invariant.above in
    (c.loop-place.invariant.within, λ v. subst (λ (n : ℕ). put k v (lent_pairs_view ps) ≡ onto (take n ps) (pair k v (lent_pairs_view (drop n ps)))) none (put_front k v ps first))
