use Rattle.std.proofs.Common.{◌≡◌, ℕ, Option, subst, sym}
use Rattle.ml_store.specs.Store.{Pair, IsPairBy}
use Rattle.ml_store.proofs.Index.{moved_free, moved_both, moved_none, pair_by_number}
use Rattle.ml_store.proofs.pairs.change_pair.Goals as goal

pub put_pair-requires-clause-new : goal.put_pair-requires-clause-new
put_pair-requires-clause-new c p its there =
    moved_free (λ (q : Pair). q.value) c.args.number (IsPairBy c.args.number c.args.from) (IsPairBy c.args.number c.args.to) c.args.pairs.now.entries c.requires.its
    c.take_pair.new.pairs.entries c.take_pair.ensures.pairs p there (pair_by_number c.args.number c.args.to p its)

pub returns-then-not-same_blockers-clause-pairs : goal.returns-then-not-same_blockers-clause-pairs
returns-then-not-same_blockers-clause-pairs c =
    moved_both (λ (q : Pair). q.value) c.args.number (IsPairBy c.args.number c.args.from) (IsPairBy c.args.number c.args.to) c.args.pairs.now.entries c.requires.its
    c.take_pair.new.pairs.entries c.put_pair.new.pairs.entries c.take_pair.ensures.pairs c.put_pair.ensures.pairs

pub returns-else-not-same_blockers-clause-pairs : goal.returns-else-not-same_blockers-clause-pairs
returns-else-not-same_blockers-clause-pairs c =
    let same : c.args.from ≡ c.args.to = rw c.if-not-same_blockers.false at c.same_blockers.ensures in
    moved_none (λ (q : Pair). q.value) c.args.number (IsPairBy c.args.number c.args.from) (IsPairBy c.args.number c.args.to) c.args.pairs.now.entries c.requires.its
    (λ p. (λ h. subst (λ (b : Option ℕ). IsPairBy c.args.number b p) (sym same) h, λ h. subst (λ (b : Option ℕ). IsPairBy c.args.number b p) same h))
