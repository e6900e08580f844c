use Rattle.std.proofs.Common.{arith}
use Rattle.ml_spans.proofs.Entries.{entry_total}
use Rattle.ml_spans.proofs.Replaced.{alike, rises_set, there_set, length_set, members_set}
use Rattle.ml_spans.proofs.span_tree.SpanTree.set_end.Goals as goal

pub invariant_of-self : goal.invariant_of-self
invariant_of-self g c =
    let o = entry_total g.met.K.Key.total g.met.E.Key.total g.met.V.Key.total in
    let place = alike g.E.Key.order g.met.K.Key.exact g.met.V.Key.exact _ _ _ _ _ (rw (← c.self.view_is) at c.requires.place) in
    record {
      sound = c.set_in.ensures.sound;
      rising = rises_set o _ _ _ _ c.set_in.result c.set_in.ensures.found place c.self.invariant.rising;
      counted = omega (arith, length_set o _ _ _ _ c.set_in.result c.set_in.ensures.found, c.self.invariant.counted);
      room_for_all = c.self.invariant.room_for_all;
    }

pub returns-clause-there : goal.returns-clause-there
returns-clause-there g c =
    let o = entry_total g.met.K.Key.total g.met.E.Key.total g.met.V.Key.total in
    rw (← c.self.view_is) (there_set o _ _ _ _ c.set_in.result c.set_in.ensures.found)

pub returns-clause-rising : goal.returns-clause-rising
returns-clause-rising g c =
    let o = entry_total g.met.K.Key.total g.met.E.Key.total g.met.V.Key.total in
    let place = alike g.E.Key.order g.met.K.Key.exact g.met.V.Key.exact _ _ _ _ _ (rw (← c.self.view_is) at c.requires.place) in
    rises_set o _ _ _ _ c.set_in.result c.set_in.ensures.found place c.self.invariant.rising

pub returns-clause-members : goal.returns-clause-members
returns-clause-members g c =
    let o = entry_total g.met.K.Key.total g.met.E.Key.total g.met.V.Key.total in
    rw (← c.self.view_is) (members_set o _ _ _ _ c.set_in.result c.set_in.ensures.found c.self.invariant.rising)
