-- Names put in order of their ids.
use Rattle.std.proofs.Common.{◌≡◌, ◌≢◌, ℕ, ◌<◌, List, length, get_or, map, sym, ap, ◌∙◌, subst, arith}
use Rattle.std.specs.Prelude.{AllPairs}
use Rattle.std.specs.List.Sorted.{IsPermutation}
use Rattle.std.proofs.lemmas.List.{get_or-map, length-map}
use Rattle.std.proofs.lemmas.List.Sorted.{Contains-permutation, IsPermutation-map, IsPermutation-sym}
use Rattle.std.proofs.lemmas.Simd.{map-map}
use Rattle.ml_ratio.proofs.lemmas.Lists.{pick}
use Rattle.ml_store.specs.Named.{name_of}
use Rattle.ml_store.specs.Names.{Name, naming_of, names_in, AreByName, IsIdBefore}
use Rattle.ml_store.specs.Rows.{HaveOwnIds}
use Rattle.ml_store.specs.declared.row.Row.{Row}
use Rattle.ml_store.specs.declared.sorted.Named.{Named}

all_pairs_map : {A B : Type 0} (f : A → B) (R : B → B → Type 0) (xs : List A) → AllPairs (λ x y. R (f x) (f y)) xs → AllPairs R (map f xs)
all_pairs_map f R xs h i j d below within =
    let long = length-map xs f in
    let far : j < length xs = omega arith in
    let x = pick xs j far in
    rw (get_or-map f xs i x d (omega arith), get_or-map f xs j x d far) (h i j x below far)

-- names of rows with ids of their own have such ids
pub ids_differ : (names : List Named) (rows : List Row) → map name_of names ≡ names_in rows → HaveOwnIds rows → AllPairs (λ one other. one.id.now ≢ other.id.now) names
ids_differ names rows are differ i j d below within same =
    let long = length-map names name_of in
    let many = length-map rows naming_of in
    let equal = ap length are in
    let far : j < length rows = omega arith in
    let r = pick rows j far in
    let read : (k : ℕ) → k < length rows → (get_or names k d).id.now ≡ (get_or rows k r).label.order.id =
    (λ k lt. ap (λ (n : Name). n.id) (sym (get_or-map name_of names k d (name_of d) (omega arith)) ∙ ap (λ ns. get_or ns k (name_of d)) are ∙ get_or-map naming_of rows k r (name_of d) lt)) in
    differ i j r below far (sym (read i (omega arith)) ∙ same ∙ read j far)

-- names in order of their ids, which are those of the rows
pub are_by_name : (names sorted : List Named) (rows : List Row) (numbers : List ℕ) → map name_of names ≡ names_in rows → IsPermutation names sorted →
    AllPairs (λ one other. IsIdBefore one.id.now other.id.now) sorted → numbers ≡ map (λ n. n.number) sorted → AreByName (names_in rows) numbers
are_by_name names sorted rows numbers are moved up numbers_are = record {
  sorted = map name_of sorted;
  ascending = all_pairs_map name_of (λ one other. IsIdBefore one.id other.id) sorted up;
  members =
      let same : IsPermutation (names_in rows) (map name_of sorted) = subst (λ ns. IsPermutation ns (map name_of sorted)) are (IsPermutation-map name_of names sorted moved) in
      λ name. (Contains-permutation _ _ name (IsPermutation-sym _ _ same), Contains-permutation _ _ name same);
  numbers_are = numbers_are ∙ sym (map-map (λ (name : Name). name.number) name_of sorted);
}
