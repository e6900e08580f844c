use Rattle.std.proofs.Common.{◌≡◌, ◌∙◌, ◌++◌, List, ap, sym, reverse, length, get_or, arith}
use Rattle.std.specs.Prelude.{box_value}
use Rattle.std.proofs.lemmas.List.{length-map}
use Rattle.ml_cone.specs.declared.label.Label.{Label}
use Rattle.ml_cone.specs.declared.slot.Slot.{Slot}
use Rattle.ml_store.specs.Boxes.{unboxed}
use Rattle.ml_store.specs.Rows.{labels_in}
use Rattle.ml_repair.proofs.Building.{next_coming, next_few, next_slots}
use Rattle.ml_repair.proofs.build.rows_of.Goals as goal

pub loop-label-preserved : goal.loop-label-preserved
loop-label-preserved c =
    let boxes = c.loop-label.rows.items in
    let rows = unboxed boxes in
    let long = length-map boxes box_value in
    let coming = ap (λ (ls : List Label). labels_in rows ++ reverse ls) (sym c.in-Some.ensures.items) ∙ c.loop-label.invariant.labels in
    let slot : Slot = c.index-slots-len.result in
    let read : slot ≡ get_or c.args.slots.now (length rows) slot = c.index-slots-len.is ∙ ap (λ k. get_or c.args.slots.now k slot) (let n = c.len-in-Some.ensures in omega arith) in
    record {
      in_turn = c.in_ok-push_row.ensures.in_turn;
      labels = rw c.in_ok-push_row.ensures.labels (next_coming rows c.pop.new.self.items c.in-Some.label c.args.labels.items coming);
      slots =
          next_slots rows (unboxed c.push_row.new.rows.items) c.args.slots.now slot
          (next_few rows c.pop.new.self.items c.in-Some.label c.args.labels.items coming (length c.args.slots.now) (let one = c.requires.one_slot in omega arith))
          read c.loop-label.invariant.slots c.in_ok-push_row.ensures.slots;
    }
