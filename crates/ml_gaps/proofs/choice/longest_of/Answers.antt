use Rattle.std.proofs.Common.{◌≡◌, ◌↔◌, List, rules, subst, sym, is_lt}
use Rattle.std.specs.Prelude.{All, AllPairs}
use Rattle.std.specs.List.Sorted.{IsSortedBy}
use Rattle.std.proofs.lemmas.List.Sorted.{answers_always, IsPermutation-sym}
use Rattle.ml_ratio.specs.Fraction.{Fraction, value_of, IsAtMost}
use Rattle.ml_ratio.specs.RatioOrder.{ratio_cmp}
use Rattle.ml_gaps.specs.Piece.{HoldsScale, HaveScale}
use Rattle.ml_gaps.specs.declared.piece.Piece.{Piece}
use Rattle.ml_ratio.proofs.lemmas.Anys.{any_permutation}
use Rattle.ml_gaps.proofs.Choosing.{sorted_pieces, begin_within, longest_like}
use Rattle.ml_gaps.proofs.choice.longest_of.Goals as goal

pub longest-requires-clause-order : goal.longest-requires-clause-order
longest-requires-clause-order c =
    let after = c.sort_unstable_by_key.new.self.items in
    let sorted : IsSortedBy (λ p q. is_lt (ratio_cmp p.from q.from)) after =
    c.sort_unstable_by_key.ensures.sorted (λ (p : Piece). p.from) (answers_always _ (λ a r. r ≡ a.0.now.from) _ (λ f a r f' k. search rules)) in
    subst (λ (l : List Piece). AllPairs (λ p q. IsAtMost (value_of p.from) (value_of q.from)) l) (sym c.as_slice.ensures.value) (sorted_pieces after sorted)

pub longest-requires-clause-within : goal.longest-requires-clause-within
longest-requires-clause-within c =
    let before = c.args.pieces.now.items in
    let after = c.sort_unstable_by_key.new.self.items in
    subst (λ (l : List Piece). All (λ p. IsAtMost (value_of p.from) (value_of c.args.label.now.max)) l) (sym c.as_slice.ensures.value)
    (begin_within c.args.label.now after (λ s h. c.requires s (any_permutation (λ p. HoldsScale p s) after before (IsPermutation-sym before after c.sort_unstable_by_key.ensures.permutation) h)))

pub returns : goal.returns
returns c =
    let before = c.args.pieces.now.items in
    let after = c.sort_unstable_by_key.new.self.items in
    let same : (s : Fraction) → HaveScale c.as_slice.result.now s ↔ HaveScale before s =
    λ s. rw c.as_slice.ensures.value (
      any_permutation (λ p. HoldsScale p s) after before (IsPermutation-sym before after c.sort_unstable_by_key.ensures.permutation),
      any_permutation (λ p. HoldsScale p s) before after c.sort_unstable_by_key.ensures.permutation,
    ) in
    longest_like c.args.label.now (HaveScale c.as_slice.result.now) (HaveScale before) same (value_of c.longest.result.from) (value_of c.longest.result.until) c.longest.ensures
