use Rattle.std.proofs.Common.{◌≡◌, rules, is_lt, arith, length, subst, ℕ}
use Rattle.std.specs.Ordering.{int_cmp}
use Rattle.std.specs.List.Sorted.{IsSortedBy}
use Rattle.std.proofs.lemmas.List.Sorted.{answers_always}
use Rattle.ml_conflict.specs.declared.spot.Spot.{Spot}
use Rattle.ml_conflict.proofs.Spots.{AreWritten, written_none, written_more, field_of}
use Rattle.ml_conflict.proofs.field.arrange_spots.Goals as goal

pub loop-i-init : goal.loop-i-init
loop-i-init c = written_none c.args.labels.now _

pub loop-i-preserved : goal.loop-i-preserved
loop-i-preserved c =
    let room = c.requires.room in
    written_more c.args.labels.now c.loop-i.i c.loop-i.spots c.spot_of.result (omega arith) c.loop-i.invariant c.spot_of.ensures.spot c.spot_of.ensures.place

pub returns : goal.returns
returns c =
    let room = c.requires.room in
    let after = c.sort_unstable_by_key.new.self in
    let sorted : IsSortedBy (λ p q. is_lt (int_cmp p.x q.x)) after =
    c.sort_unstable_by_key.ensures.sorted (λ (s : Spot). s.x) (answers_always _ (λ a r. r ≡ a.0.now.x) _ (λ f a r f' k. search rules)) in
    let all : c.loop-i.i ≡ length c.args.labels.now = omega arith in
    field_of c.args.labels.now c.loop-i.spots after c.greatest_reach.result (omega arith) (subst (λ (n : ℕ). AreWritten c.args.labels.now n c.loop-i.spots)
    all c.loop-i.invariant) c.greatest_reach.ensures.reaches c.greatest_reach.ensures.low c.sort_unstable_by_key.ensures.permutation sorted
