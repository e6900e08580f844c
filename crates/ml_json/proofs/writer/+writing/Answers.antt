use Rattle.std.proofs.Common.{◌≡◌, ℕ, suc, ◌+◌, ◌-◌, ◌<◌, List, [], ◌∷◌, ◌++◌, length, take, drop, get_or, ◌∙◌, sym, ap, subst, append_assoc, add-one}
use Rattle.std.proofs.Math.Seq.{drop-cons}
use Rattle.ml_json.specs.View.{pair_of, pairs_view}
use Rattle.ml_json.specs.Canonical.{string_on, tree_on, more_on, AllPairsHaveUtf8}
use Rattle.ml_json.specs.declared.value.Pair.{Pair}
use Rattle.ml_json.proofs.writer.+writing.Goals as goal

next_pair : (pairs : List Pair) (i : ℕ) (p : Pair) → i < length pairs → p ≡ get_or pairs i p → drop i pairs ≡ p ∷ drop (i + 1) pairs
next_pair pairs i p h e = drop-cons pairs i p h ∙ ap (λ x. x ∷ drop (suc i) pairs) (sym e) ∙ ap (λ n. p ∷ drop n pairs) (sym (add-one i))

pub put_members-loop-pair-preserved : goal.put_members-loop-pair-preserved
put_members-loop-pair-preserved t c =
    let others = take (length c.args.pairs.now - 1) (drop 1 c.args.pairs.now) in
    let i = c.loop-pair.pair-index in
    let p = c.pair-item.result in
    let rest : drop i others ≡ p ∷ drop (i + 1) others = next_pair others i p c.loop-pair-test.true c.pair-item.is in
    let wrote = c.in_ok-put_member-in-len1-up-2.ensures in
    record {
      text = λ r. (
          let after = more_on (pairs_view (drop (i + 1) others)) r in
          let member = string_on (pair_of p).0 (58 ∷ tree_on (pair_of p).1 after) in
          wrote.text after ∙ ap (λ s. s ++ member) c.in_ok-push-in-len1-up-2.ensures.items ∙ append_assoc c.loop-pair.out.items (44 ∷ []) member
          ∙ ap (λ ps. c.loop-pair.out.items ++ more_on (pairs_view ps) r) (sym rest) ∙ c.loop-pair.invariant.text r);
      utf8 = λ h. c.loop-pair.invariant.utf8 (subst (λ ps. AllPairsHaveUtf8 (pairs_view ps)) (sym rest) (wrote.utf8.0, wrote.utf8.1, h));
    }
