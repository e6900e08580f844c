use Rattle.std.proofs.Common.{List, ℕ, subst}
use Rattle.ml_follow.specs.Changes.{ranged, IsStateOf}
use Rattle.ml_follow.proofs.Changing.{no_change, one_change}
use Rattle.ml_follow.proofs.changes.change_of.Goals as goal

pub returns-then-both_alike : goal.returns-then-both_alike
returns-then-both_alike c =
    let old = c.args.old.now in
    let new = c.args.new.now in
    let was = subst (λ (id : List ℕ). IsStateOf old.labels.now old.slots.now id (ranged c.ranged_label_of-was.result)) c.as_str.ensures.bytes c.ranged_label_of-was.ensures in
    let is = subst (λ (id : List ℕ). IsStateOf new.labels.now new.slots.now id (ranged c.ranged_label_of-is.result)) c.as_str-2.ensures.bytes c.ranged_label_of-is.ensures in
    no_change old new c.requires.old c.requires.new c.args.id.now (ranged c.ranged_label_of-was.result) (ranged c.ranged_label_of-is.result) was is c.if-both_alike.ensures

pub returns : goal.returns
returns c =
    let old = c.args.old.now in
    let new = c.args.new.now in
    let was = subst (λ (id : List ℕ). IsStateOf old.labels.now old.slots.now id (ranged c.ranged_label_of-was.result)) c.as_str.ensures.bytes c.ranged_label_of-was.ensures in
    let is = subst (λ (id : List ℕ). IsStateOf new.labels.now new.slots.now id (ranged c.ranged_label_of-is.result)) c.as_str-2.ensures.bytes c.ranged_label_of-is.ensures in
    one_change old new c.requires.old c.requires.new c.args.id.now (ranged c.ranged_label_of-was.result) (ranged c.ranged_label_of-is.result) was is c.if-both_alike.ensures
    (record { id = c.in_ok-id.id; before = c.span_of.result; after = c.span_of-2.result }) c.in_ok-id.ensures c.span_of.ensures c.span_of-2.ensures
