use Rattle.std.proofs.Common.{rules, arith}
use Rattle.ml_spans.proofs.Depth.{low_from_count}
use Rattle.ml_spans.proofs.Entries.{entry_total}
use Rattle.ml_ratio.proofs.lemmas.Lists.{contained, goes_out}
use Rattle.ml_spans.proofs.Found.{stays_out}
use Rattle.ml_spans.proofs.Members.{absent_from_new, rises_without, length_added, new_without}
use Rattle.ml_spans.proofs.span_tree.SpanTree.remove.Goals as goal

pub take-root-requires-clause-low : goal.take-root-requires-clause-low
take-root-requires-clause-low g c =
    rw c.replace-root.ensures.value (low_from_count g.E.Key.order _ _ c.self.invariant.sound c.self.invariant.counted (omega arith))

pub invariant_of-self-in-Some : goal.invariant_of-self-in-Some
invariant_of-self-in-Some g c =
    let added = rw (c.in-Some.is, c.replace-root.ensures.value) at c.take-root.ensures.found in
    record {
      sound = c.take-root.ensures.sound;
      rising = rises_without _ added c.self.invariant.rising;
      counted = omega (arith, length_added added, c.self.invariant.counted);
      room_for_all = omega (arith, length_added added, c.self.invariant.counted, c.self.invariant.room_for_all, c.push_reserved.ensures.len, c.push_reserved.ensures.capacity);
    }

pub returns-in-None-clause-there : goal.returns-in-None-clause-there
returns-in-None-clause-there g c =
    let found = rw (c.in-None.is, c.replace-root.ensures.value) at c.take-root.ensures.found in
    let absent = absent_from_new _ (entry_total g.met.K.Key.total g.met.E.Key.total g.met.V.Key.total) _ _ found.1 in
    (λ h. absurd (search rules), λ h. absurd (absent (rw (← c.self.view_is) at h)))

pub returns-in-Some-clause-there : goal.returns-in-Some-clause-there
returns-in-Some-clause-there g c =
    let added = rw (c.in-Some.is, c.replace-root.ensures.value) at c.take-root.ensures.found in
    (λ h. rw (← c.self.view_is) (contained added), λ h. search rules)

pub returns-in-Some-clause-rising : goal.returns-in-Some-clause-rising
returns-in-Some-clause-rising g c =
    let added = rw (c.in-Some.is, c.replace-root.ensures.value) at c.take-root.ensures.found in
    rises_without _ added c.self.invariant.rising

pub returns-in-None-clause-members : goal.returns-in-None-clause-members
returns-in-None-clause-members g c =
    let found = rw (c.in-None.is, c.replace-root.ensures.value) at c.take-root.ensures.found in
    let absent = absent_from_new _ (entry_total g.met.K.Key.total g.met.E.Key.total g.met.V.Key.total) _ _ found.1 in
    rw (← c.self.view_is) (stays_out _ _ _ found.0 absent)

pub returns-in-Some-clause-members : goal.returns-in-Some-clause-members
returns-in-Some-clause-members g c =
    let added = rw (c.in-Some.is, c.replace-root.ensures.value) at c.take-root.ensures.found in
    let o = entry_total g.met.K.Key.total g.met.E.Key.total g.met.V.Key.total in
    rw (← c.self.view_is) (goes_out added (absent_from_new _ o _ _ (new_without _ o added c.self.invariant.rising)))
