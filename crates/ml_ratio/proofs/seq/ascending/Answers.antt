use Rattle.std.proofs.Common.{◌≡◌, eqb, subst, sym, List, ℕ}
use Rattle.std.specs.Prelude.{Contains}
use Rattle.std.specs.List.{dedup}
use Rattle.std.specs.List.Sorted.{IsStrictlyIncreasing}
use Rattle.std.proofs.lemmas.List.Filters.{dedup_is}
use Rattle.std.proofs.lemmas.List.Kept.{Contains-dedup_nat, Contains-from_dedup}
use Rattle.std.proofs.lemmas.List.Sorted.{Contains-permutation, IsPermutation-sym}
use Rattle.std.proofs.lemmas.Map.Keys.{IsStrictlyIncreasing-dedup}
use Rattle.ml_ratio.proofs.seq.ascending.Goals as goal

pub returns-clause-ascending : goal.returns-clause-ascending
returns-clause-ascending c =
    let e : c.dedup.new.self.items ≡ dedup eqb c.sort_unstable.new.self.items = dedup_is eqb _ _ c.dedup.ensures.filtered in
    subst IsStrictlyIncreasing (sym e) (IsStrictlyIncreasing-dedup c.sort_unstable.new.self.items c.sort_unstable.ensures.sorted)

pub returns-clause-same : goal.returns-clause-same
returns-clause-same c n =
    let e : c.dedup.new.self.items ≡ dedup eqb c.sort_unstable.new.self.items = dedup_is eqb _ _ c.dedup.ensures.filtered in
    let all = c.into_vec-sorted.ensures in (
      λ h.
          let a = Contains-from_dedup eqb c.sort_unstable.new.self.items n (subst (λ (xs : List ℕ). Contains xs n) e h) in
          subst (λ (xs : List ℕ). Contains xs n) all
          (Contains-permutation c.sort_unstable.new.self.items c.into_vec-sorted.result.items n (IsPermutation-sym _ _ c.sort_unstable.ensures.permutation) a),
      λ h.
          let a = Contains-permutation c.into_vec-sorted.result.items c.sort_unstable.new.self.items n c.sort_unstable.ensures.permutation (subst (λ (xs : List ℕ). Contains xs n) (sym all) h) in
          subst (λ (xs : List ℕ). Contains xs n) (sym e) (Contains-dedup_nat c.sort_unstable.new.self.items n a),
    )
