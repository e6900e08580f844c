use Rattle.std.proofs.Common.{ap, length, sym, ◌∙◌}
use Rattle.std.proofs.lemmas.List.{length-map}
use Rattle.ml_spans.proofs.Entries.{entry_total}
use Rattle.ml_spans.proofs.Renewed.{renewed_rises}
use Rattle.ml_spans.proofs.span_tree.SpanTree.renew_ends.Goals as goal

pub invariant_of-self : goal.invariant_of-self
invariant_of-self g c =
    let o = entry_total g.met.K.Key.total g.met.E.Key.total g.met.V.Key.total in
    let apart = rw (← c.self.view_is) at c.requires in
    record {
      sound = c.renew_all.ensures.sound;
      rising = rw c.renew_all.ensures.entries (renewed_rises g.K.Key.order g.E.Key.order g.V.Key.order o g.met.K.Key.exact g.met.V.Key.exact _ _ apart c.self.invariant.rising);
      counted = c.self.invariant.counted ∙ sym (ap length c.renew_all.ensures.entries ∙ length-map _ _);
      room_for_all = c.self.invariant.room_for_all;
    }

pub returns-clause-rising : goal.returns-clause-rising
returns-clause-rising g c =
    let o = entry_total g.met.K.Key.total g.met.E.Key.total g.met.V.Key.total in
    let apart = rw (← c.self.view_is) at c.requires in
    rw c.renew_all.ensures.entries (renewed_rises g.K.Key.order g.E.Key.order g.V.Key.order o g.met.K.Key.exact g.met.V.Key.exact _ _ apart c.self.invariant.rising)
