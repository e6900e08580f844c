use Rattle.std.proofs.Common.{◌∙◌, ◌-◌, sym, ap, arith}
use Rattle.ml_store.specs.declared.moved.Moved.{Moved}
use Rattle.ml_repair.specs.Moves.{IsFoundAt}
use Rattle.ml_repair.proofs.Moving.{none_there, one_there, slot_kept, slot_new}
use Rattle.ml_repair.proofs.moves.Moves.slot.Goals as goal

pub returns-then-at-gt0 : goal.returns-then-at-gt0
returns-then-at-gt0 c =
    let moved = c.self.inside.moved.items in
    let found : IsFoundAt moved c.args.number c.find-at.result = rw (← c.self.view_is) at c.find-at.ensures in
    let there = one_there moved c.args.number c.find-at.result found (let t = c.if-at-gt0.true in omega arith) in
    let m : Moved = c.index.result.now in
    rw (← c.self.view_is) (ap (λ (x : Moved). x.slot) c.index.ensures ∙ sym (slot_new c.args.number c.args.own moved (c.find-at.result - 1) m c.self.invariant.differ there.0 there.1))

pub returns-else-at-gt0 : goal.returns-else-at-gt0
returns-else-at-gt0 c =
    let moved = c.self.inside.moved.items in
    let found : IsFoundAt moved c.args.number c.find-at.result = rw (← c.self.view_is) at c.find-at.ensures in
    rw (← c.self.view_is) (sym (slot_kept c.args.number c.args.own moved (none_there moved c.args.number c.find-at.result found (omega arith))))
