use Rattle.std.proofs.Common.{◌+◌, ◌-◌, ◌/◌, ◌<◌, refl, arith, length}
use Rattle.std.proofs.lemmas.Bool.{false≢true}
use Rattle.ml_store.specs.Rows.{labels_in}
use Rattle.ml_repair.proofs.Placing.{before_more, after_more}
use Rattle.ml_repair.proofs.Present.{length-labels}
use Rattle.ml_repair.proofs.place.place_for.Goals as goal

pub loop-low-preserved-then-is_before : goal.loop-low-preserved-then-is_before
loop-low-preserved-then-is_before c =
    let many = length-labels c.args.roster.now in
    let b = c.loop-low.invariant.bound in
    let middle = c.loop-low.low + (c.loop-low.high - c.loop-low.low) / 2 in
    let lt : middle < length (labels_in c.args.roster.now) = omega arith in
    record {
      in_order = omega arith;
      bound = b;
      before = before_more (labels_in c.args.roster.now) c.args.order.now middle c.requires lt (λ d. (c.if-is_before.ensures d).0 refl);
      after = c.loop-low.invariant.after;
    }

pub loop-low-preserved : goal.loop-low-preserved
loop-low-preserved c =
    let many = length-labels c.args.roster.now in
    let b = c.loop-low.invariant.bound in
    let middle = c.loop-low.low + (c.loop-low.high - c.loop-low.low) / 2 in
    let lt : middle < length (labels_in c.args.roster.now) = omega arith in
    record {
      in_order = omega arith;
      bound = omega arith;
      before = c.loop-low.invariant.before;
      after = λ k d le in'. after_more (labels_in c.args.roster.now) c.args.order.now middle c.requires lt (λ d h. false≢true ((c.if-is_before.ensures d).1 h)) k d le (omega arith);
    }
