use Rattle.std.proofs.Common.{length}
use Rattle.ml_repair.proofs.Answered.{if_ok}
use Rattle.ml_repair.proofs.Seeing.{sorted_within, shown_numbers_are, shown_apart, overlap_turned, near_count, live_at, settled_ends}
use Rattle.ml_repair.proofs.shown.shown_numbers.Goals as goal

pub seen-requires : goal.seen-requires
seen-requires g c = settled_ends c.args.store.now.rows c.requires

pub numbers_of-requires : goal.numbers_of-requires
numbers_of-requires g c = rw c.deref.ensures.value
    (sorted_within c.args.store.now.rows c.args.view.now c.requires c.in_ok-near.near c.in_ok-shown_among.field-0 c.ascending-places.result.items c.in_ok-near.ensures.shown
    (rw c.as_slice.ensures at c.in_ok-shown_among.ensures) c.ascending-places.ensures.ascending c.ascending-places.ensures.same)

pub returns-clause-shown : goal.returns-clause-shown
returns-clause-shown g c = if_ok c.numbers_of.result _ _
    (λ numbers e. shown_numbers_are c.args.store.now.rows c.args.view.now c.requires c.in_ok-near.near c.in_ok-shown_among.field-0 c.ascending-places.result.items c.in_ok-near.ensures.shown
    (rw c.as_slice.ensures at c.in_ok-shown_among.ensures) c.ascending-places.ensures.ascending c.ascending-places.ensures.same numbers e) (rw c.deref.ensures.value at c.numbers_of.ensures)

pub returns-clause-live : goal.returns-clause-live
returns-clause-live g c = if_ok c.numbers_of.result _ _ (λ numbers e. live_at c.args.store.now.rows c.ascending-places.result.items numbers
    (sorted_within c.args.store.now.rows c.args.view.now c.requires c.in_ok-near.near c.in_ok-shown_among.field-0 c.ascending-places.result.items c.in_ok-near.ensures.shown
    (rw c.as_slice.ensures at c.in_ok-shown_among.ensures) c.ascending-places.ensures.ascending c.ascending-places.ensures.same) e) (rw c.deref.ensures.value at c.numbers_of.ensures)

pub returns-clause-apart : goal.returns-clause-apart
returns-clause-apart g c = if_ok c.numbers_of.result _ _ (λ numbers e. shown_apart c.args.store.now.rows c.args.view.now c.requires c.in_ok-near.near
    c.in_ok-shown_among.field-0 c.ascending-places.result.items c.in_ok-near.ensures.shown (rw c.as_slice.ensures at c.in_ok-shown_among.ensures)
    c.ascending-places.ensures.ascending c.ascending-places.ensures.same overlap_turned numbers e) (rw c.deref.ensures.value at c.numbers_of.ensures)

pub returns-clause-looks : goal.returns-clause-looks
returns-clause-looks g c =
    if_ok c.numbers_of.result _ _ (λ numbers e. (
      length c.in_ok-near.near,
      near_count c.args.store.now.rows c.args.view.now c.in_ok-near.near c.requires.own_numbers c.in_ok-near.ensures.near,
      c.in_ok-near.ensures.spent,
    )) c.numbers_of.ensures
