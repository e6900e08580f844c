use Rattle.std.proofs.Common.{◌<◌, List, arith, length, rules, subst}
use Rattle.ml_cone.specs.Slots.{IsOwnSlot}
use Rattle.ml_cone.specs.declared.slot.Slot.{Slot}
use Rattle.ml_pass.specs.Search.{rivals_in, AreHeld}
use Rattle.ml_pass.proofs.Assigning.{assigned_none, assigned_more, assigned_all, held_none, held_more}
use Rattle.ml_pass.proofs.Placed.{blockers_placed}
use Rattle.ml_pass.proofs.pass.choose.Goals as goal

pub loop-i-init : goal.loop-i-init
loop-i-init g c = record {
  so_far = assigned_none c.args.labels.now _ c.in_ok-slots.ensures.items;
  some = c.in_ok-field.ensures.some;
  strips = c.in_ok-field.ensures.good;
  blocks = search rules;
  held = held_none c.args.labels.now _ c.in_ok-field.field.strips.items c.in_ok-slots.ensures.items;
  empty = search rules;
  spent = omega arith;
}

pub loop-i-preserved : goal.loop-i-preserved
loop-i-preserved g c =
    let low = c.index-labels-i.result in
    let own = subst (λ (l : List Slot). IsOwnSlot (rivals_in c.args.labels.now l low) (λ j. j < length l) low c.in_ok-slot.slot) c.deref.ensures.value c.in_ok-slot.ensures.own in
    let i = c.loop-i.invariant in
    let many = c.stand.ensures.many in
    record {
      so_far = rw c.in_ok-push.ensures.items
          (assigned_more c.same_rivals.ensures c.args.labels.now c.loop-i.i c.loop-i.slots.items c.in_ok-slot.slot low c.loop-i-test.true c.index-labels-i.is i.so_far own);
      some = λ some. let h = i.some some in omega arith;
      strips = c.in_ok-stand.ensures.strips;
      blocks = search rules;
      held = rw c.in_ok-push.ensures.items (held_more c.args.labels.now c.loop-i.slots.items c.loop-i.field.strips.items c.stand.new.field.strips.items c.in_ok-slot.slot c.spot_of-spot.result.place
          (let one = i.so_far.one_each in let at = c.spot_of-spot.ensures.place in omega arith) i.held c.in_ok-stand.ensures.kept c.in_ok-stand.ensures.here);
      empty = c.in_ok-slot.ensures.cleared;
      spent = omega (arith, c.in_ok-slot.ensures.spent, i.spent);
    }

pub slot_of-requires-clause-some : goal.slot_of-requires-clause-some
slot_of-requires-clause-some g c = c.loop-i.invariant.some (omega arith)

pub slot_of-requires-clause-held : goal.slot_of-requires-clause-held
slot_of-requires-clause-held g c = subst (λ (l : List Slot). AreHeld c.args.labels.now l c.loop-i.field.strips.items) (search rules) c.loop-i.invariant.held

pub stand-requires-clause-some : goal.stand-requires-clause-some
stand-requires-clause-some g c = c.loop-i.invariant.some (omega arith)

pub returns-clause-slots : goal.returns-clause-slots
returns-clause-slots g c = rw c.of_vec.ensures ((c.own_slots.ensures (λ j. j) c.args.labels.now c.loop-i.slots.items).0
    (assigned_all c.args.labels.now c.loop-i.i c.loop-i.slots.items (omega arith) c.loop-i.invariant.so_far))

pub returns-clause-placed : goal.returns-clause-placed
returns-clause-placed g c =
    rw c.of_vec.ensures
    (blockers_placed c.args.labels.now c.loop-i.slots.items
    ((c.own_slots.ensures (λ j. j) c.args.labels.now c.loop-i.slots.items).0 (assigned_all c.args.labels.now c.loop-i.i c.loop-i.slots.items (omega arith) c.loop-i.invariant.so_far)))
