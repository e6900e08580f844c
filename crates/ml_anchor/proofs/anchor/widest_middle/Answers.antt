use Rattle.std.proofs.Common.{rules, ◌≡◌, ℤ, pos, ◌+ℤ◌, List, ◌+◌, ◌*◌, ◌<◌, length, subst, ap, refl, arith, w64, FitsSigned, of_z, to_z}
use Rattle.std.proofs.lemmas.Int.{ints, to_z-of_z}
use Rattle.std.proofs.lemmas.List.{get_or_read}
use Rattle.ml_ratio.specs.World.{IsInWorld}
use Rattle.ml_ratio.specs.Floor.{floor}
use Rattle.ml_anchor.specs.Scan.{crossings}
use Rattle.ml_anchor.specs.Pairs.{at, IsMiddle}
use Rattle.ml_anchor.proofs.AnchorLemmas.{sorted_in, middle_from_sort}
use Rattle.ml_anchor.proofs.anchor.widest_middle.Goals as goal

pub widest-k-requires-clause-world : goal.widest-k-requires-clause-world
widest-k-requires-clause-world c =
    sorted_in (to_z w64 (of_z w64 c.args.h)) c.args.rings.now c.in_ok-found.found.items c.sort.new.self.items
    c.deref.result.now c.in_ok-found.ensures c.in_ok-sort.ensures.permutation c.deref.ensures.value

pub half-requires-clause-a_in_world : goal.half-requires-clause-a_in_world
half-requires-clause-a_in_world c =
    let all = sorted_in (to_z w64 (of_z w64 c.args.h)) c.args.rings.now c.in_ok-found.found.items
    c.sort.new.self.items c.sort.new.self.items c.in_ok-found.ensures c.in_ok-sort.ensures.permutation refl in
    let there : 2 * c.widest-k.result < length c.sort.new.self.items = omega (arith, c.widest-k.ensures.there, ap (λ (l : List ℤ). length l) c.deref.ensures.value) in
    let x : IsInWorld c.index.result.now = rw c.index.ensures (all (2 * c.widest-k.result) c.index.result.now there) in
    let f : FitsSigned w64 c.index.result.now = omega (arith, ints, x.0, x.1) in
    simp to_z-of_z x

pub half-requires-clause-b_in_world : goal.half-requires-clause-b_in_world
half-requires-clause-b_in_world c =
    let all = sorted_in (to_z w64 (of_z w64 c.args.h)) c.args.rings.now c.in_ok-found.found.items
    c.sort.new.self.items c.sort.new.self.items c.in_ok-found.ensures c.in_ok-sort.ensures.permutation refl in
    let there : 2 * c.widest-k.result + 1 < length c.sort.new.self.items = omega (arith, c.widest-k.ensures.there, ap (λ (l : List ℤ). length l) c.deref.ensures.value) in
    let x : IsInWorld c.index-2.result.now = rw c.index-2.ensures (all (2 * c.widest-k.result + 1) c.index-2.result.now there) in
    let f : FitsSigned w64 c.index-2.result.now = omega (arith, ints, x.0, x.1) in
    simp to_z-of_z x

pub returns-clause-ok : goal.returns-clause-ok
returns-clause-ok c =
    let all = sorted_in (to_z w64 (of_z w64 c.args.h)) c.args.rings.now c.in_ok-found.found.items
    c.sort.new.self.items c.sort.new.self.items c.in_ok-found.ensures c.in_ok-sort.ensures.permutation refl in
    let there : 2 * c.widest-k.result < length c.sort.new.self.items = omega (arith, c.widest-k.ensures.there, ap (λ (l : List ℤ). length l) c.deref.ensures.value) in
    let x : IsInWorld c.index.result.now = rw c.index.ensures (all (2 * c.widest-k.result) c.index.result.now there) in
    let f : FitsSigned w64 c.index.result.now = omega (arith, ints, x.0, x.1) in
    let there2 : 2 * c.widest-k.result + 1 < length c.sort.new.self.items = omega (arith, c.widest-k.ensures.there, ap (λ (l : List ℤ). length l) c.deref.ensures.value) in
    let x2 : IsInWorld c.index-2.result.now = rw c.index-2.ensures (all (2 * c.widest-k.result + 1) c.index-2.result.now there2) in
    let f2 : FitsSigned w64 c.index-2.result.now = omega (arith, ints, x2.0, x2.1) in
    let r : FitsSigned w64 c.half.result = search rules in
    let m : c.half.result ≡ floor (c.index.result.now +ℤ c.index-2.result.now) (pos 2) = simp to_z-of_z at c.half.ensures.value in
    let low : c.index.result.now ≡ at c.sort.new.self.items (2 * c.widest-k.result) = get_or_read c.sort.new.self.items (2 * c.widest-k.result) c.index.result.now there c.index.ensures (pos 0) in
    let high : c.index-2.result.now ≡ at c.sort.new.self.items (2 * c.widest-k.result + 1) =
    get_or_read c.sort.new.self.items (2 * c.widest-k.result + 1) c.index-2.result.now there2 c.index-2.ensures (pos 0) in
    let done : IsMiddle (crossings (to_z w64 (of_z w64 c.args.h)) c.args.rings.now) c.half.result = middle_from_sort (to_z w64 (of_z w64 c.args.h))
    c.args.rings.now c.in_ok-found.found.items c.sort.new.self.items c.deref.result.now c.widest-k.result c.index.result.now c.index-2.result.now
    c.half.result c.in_ok-found.ensures c.in_ok-sort.ensures.permutation c.in_ok-sort.ensures.sorted c.deref.ensures.value c.widest-k.ensures low high m in
    let h : FitsSigned w64 c.args.h = c.ranges.h in
    let done' : IsMiddle (crossings c.args.h c.args.rings.now) c.half.result = subst (λ (z : ℤ). IsMiddle (crossings z c.args.rings.now) c.half.result) (to_z-of_z w64 c.args.h h) done in
    simp to_z-of_z done'
