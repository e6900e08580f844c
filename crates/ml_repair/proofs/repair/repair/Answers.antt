use Rattle.std.proofs.Common.{◌≡◌, ℕ, ◌+◌, ◌-◌, ◌<◌, ◌≤◌, ◌≢◌, arith, get_or, refl, sym, subst, ap, ◌∙◌, length, true, false, inl, inr, replicate}
use Rattle.std.specs.Prelude.{IsTrue}
use Rattle.std.proofs.lemmas.List.{get_or-replicate}
use Rattle.std.proofs.lemmas.List.{length-map}
use Rattle.ml_store.specs.Rows.{numbers_in, number_at, labels_in}
use Rattle.ml_store.specs.declared.row.Row.{Row}
use Rattle.ml_repair.specs.Repair.{present_slots}
use Rattle.ml_repair.specs.Waiting.{NoneWaits}
use Rattle.ml_repair.proofs.Present.{length-labels, length-present}
use Rattle.ml_repair.proofs.Repairing.{Repairing}
use Rattle.ml_repair.proofs.RepairSteps.{repairing_start, repairing_ends, repairing_skip, repairing_moved, repairing_still, repaired_own, repaired_size, first_count}
use Rattle.ml_repair.proofs.repair.repair.Goals as goal
use Rattle.ml_repair.proofs.repair.repair.Goals.{then-comes, else-comes, then-branch+in_ok-note, else-branch}
use Rattle.ml_ratio.proofs.lemmas.Fractions.{same_trans}
use Rattle.ml_ratio.proofs.lemmas.Lists.{same_place}
use Rattle.ml_cone.specs.Slots.{IsOwnSlot, row, ends}
use Rattle.ml_repair.specs.Repair.{Stands}
use Rattle.ml_repair.proofs.KeptBlockers.{noted_start, noted_skip, noted_still, noted_more, end_kept, end_from, pushed_one}

pub loop-i-init : goal.loop-i-init
loop-i-init g c =
    let rows = c.args.roster.now in
    let labels = labels_in rows in
    let old = present_slots rows c.args.moves.now in
    let many = length-labels rows in
    let at_in : c.args.at < length labels = omega arith in
    let off : c.in_ok-waiting.waiting ≡ replicate (length rows) false = rw c.len-many.ensures.count at c.in_ok-waiting.ensures in
    let idle : (k : ℕ) → k < length rows → get_or c.in_ok-waiting.waiting k false ≡ false = λ k k_in. rw off (get_or-replicate (length rows) k false false k_in) in
    let start = repairing_start c.rivals_or_free.ensures c.smaller_ends.ensures c.carried.ensures (number_at rows) labels old c.args.at c.args.comes at_in c.requires.was
    (λ k. IsTrue (get_or c.wake.new.waiting k false)) c.requires.here
    (λ k k_in lt.
    let w = c.in_ok-wake.ensures.woken k (omega arith) in
    (λ t. elim (w.0 t) [ inl a ↦ absurd (let e : false ≡ true = sym (idle k (omega arith)) ∙ a in cc) | inr b ↦ b ], λ b. w.1 (inr b))) in
    elim c.if-comes.branch [
      | then-comes w ↦ (
        c.len-many.ensures.count,
        record {
          repairing = rw w.evaluated-is (subst (Repairing (number_at rows) labels old c.args.at c.args.comes (c.args.at + 1) old
              (λ k. IsTrue (get_or c.wake.new.waiting k false))) (ap first_count w.if-comes.true) start);
          one_wait = c.in_ok-wake.ensures.one_each;
          spent = rw (w.evaluated-is, w.if-comes.true) refl;
          few = rw w.evaluated-is (omega arith);
          far = omega arith;
          kept = λ own. refl;
          noted = noted_start c.args.at c.args.comes (ends old) c.in_ok-changed.changed.items c.in_ok-changed.ensures;
        },
      )
      | else-comes w ↦ (
        c.len-many.ensures.count,
        record {
          repairing = rw w.evaluated-is (subst (Repairing (number_at rows) labels old c.args.at c.args.comes (c.args.at + 1) old
              (λ k. IsTrue (get_or c.wake.new.waiting k false))) (ap first_count w.if-comes.false) start);
          one_wait = c.in_ok-wake.ensures.one_each;
          spent = rw (w.evaluated-is, w.if-comes.false) refl;
          few = rw w.evaluated-is (omega arith);
          far = omega arith;
          kept = λ own. refl;
          noted = noted_start c.args.at c.args.comes (ends old) c.in_ok-changed.changed.items c.in_ok-changed.ensures;
        },
      )
    ]

pub renew-requires-clause-ends : goal.renew-requires-clause-ends
renew-requires-clause-ends g c =
    let rows = c.args.roster.now in
    let many = length-labels rows in
    repairing_ends c.rivals_or_free.ensures c.smaller_ends.ensures c.carried.ensures (number_at rows)
    (labels_in rows) (present_slots rows c.args.moves.now) c.args.at c.args.comes (omega arith) c.requires.was
    c.loop-i.i (present_slots rows c.loop-i.moves) (λ k. IsTrue (get_or c.loop-i.waiting k false)) c.loop-i.evaluated c.loop-i.invariant.1.repairing (omega arith)

pub renew-requires-clause-known : goal.renew-requires-clause-known
renew-requires-clause-known g c =
    let rows = c.args.roster.now in
    let many = length-labels rows in
    let so_far = c.loop-i.invariant.1.repairing in
    let from = so_far.from in
    record {
      was = present_slots rows c.args.moves.now;
      own = λ d.
          subst (IsOwnSlot (row (number_at rows) (labels_in rows) (present_slots rows c.args.moves.now) d)
          (Stands c.args.comes false c.args.at c.loop-i.i) (get_or (labels_in rows) c.loop-i.i d)) (sym (so_far.rest c.loop-i.i (omega arith)))
          (c.requires.was.own d c.loop-i.i (omega arith) (λ e. absurd (let f : c.loop-i.i ≡ c.args.at = e in omega arith)));
      changed_are = rw c.deref.ensures.value c.loop-i.invariant.1.noted;
    }

pub loop-i-preserved-then-has : goal.loop-i-preserved-then-has
loop-i-preserved-then-has g c =
    let rows = c.args.roster.now in
    let labels = labels_in rows in
    let old = present_slots rows c.args.moves.now in
    let slots = present_slots rows c.loop-i.moves in
    let many = length-labels rows in
    let at_in : c.args.at < length labels = omega arith in
    let so_far = c.loop-i.invariant.1.repairing in
    let one_wait = c.loop-i.invariant.1.one_wait in
    let few = c.loop-i.invariant.1.few in
    let before = c.loop-i.invariant.1.spent in
    let i_in : c.loop-i.i < length labels = omega arith in
    let waited : get_or c.loop-i.waiting c.loop-i.i false ≡ true = sym c.has.ensures ∙ c.if-has.true in
    let next = present_slots rows c.renew.new.moves in
    let len = length-present rows c.renew.new.moves in
    let spent = c.in_ok-renew.ensures.spent in
    let numbers = length-map rows (λ (r : Row). r.number) in
    let apart : number_at rows c.args.at ≢ number_at rows c.loop-i.i =
    (λ e. let f = same_place (numbers_in rows) c.args.at c.loop-i.i 0 c.len-many.ensures.numbered.differ (omega arith) (omega arith) e in let beyond = so_far.from in omega arith) in
    elim c.if-branch.branch [
      | then-branch+in_ok-note w' ↦ (
        c.loop-i.invariant.0,
        record {
          repairing = rw w'.waiting-is
              (repairing_moved c.rivals_or_free.ensures c.smaller_ends.ensures c.carried.ensures (number_at rows) labels old c.args.at c.args.comes at_in c.requires.was c.loop-i.i slots
              (λ k. IsTrue (get_or c.loop-i.waiting k false)) c.loop-i.evaluated so_far next i_in (omega arith) c.in_ok-renew.ensures.others c.in_ok-renew.ensures.own waited
              (λ k. IsTrue (get_or w'.note.new.waiting k false)) (rw w'.if-branch.true at c.in_ok-renew.ensures.moved)
              (λ k k_in lt. w'.in_ok-note.ensures.woken k (omega arith)));
          one_wait = rw w'.waiting-is w'.in_ok-note.ensures.one_each;
          spent = omega arith;
          few = omega arith;
          far = omega arith;
          kept = (λ own. c.in_ok-renew.ensures.same (number_at rows c.args.at) own apart ∙ c.loop-i.invariant.1.kept own);
          noted = rw w'.changed-is
              (noted_more c.args.at c.args.comes (ends old) (ends slots) (ends next) c.loop-i.i c.loop-i.changed.items w'.note.new.changed.items
              so_far.from c.loop-i.invariant.1.noted (λ k lt. end_kept slots next k (c.in_ok-renew.ensures.others k (λ e. omega arith)))
              (pushed_one c.loop-i.changed.items c.loop-i.i w'.note.new.changed.items w'.in_ok-note.ensures.noted) same_trans);
        },
      )
      | else-branch w' ↦ (
        c.loop-i.invariant.0,
        record {
          repairing = rw w'.waiting-is
              (repairing_still c.rivals_or_free.ensures c.smaller_ends.ensures c.carried.ensures (number_at rows) labels old c.args.at c.args.comes at_in c.requires.was c.loop-i.i slots
              (λ k. IsTrue (get_or c.loop-i.waiting k false)) c.loop-i.evaluated so_far next i_in (omega arith) c.in_ok-renew.ensures.others c.in_ok-renew.ensures.own waited
              (rw w'.if-branch.false at c.in_ok-renew.ensures.moved));
          one_wait = rw w'.waiting-is one_wait;
          spent = omega arith;
          few = omega arith;
          far = omega arith;
          kept = (λ own. c.in_ok-renew.ensures.same (number_at rows c.args.at) own apart ∙ c.loop-i.invariant.1.kept own);
          noted = rw w'.changed-is
              (noted_still c.args.at c.args.comes (ends old) (ends slots) (ends next) c.loop-i.i c.loop-i.changed.items c.loop-i.invariant.1.noted
              (λ k lt. end_kept slots next k (c.in_ok-renew.ensures.others k (λ e. omega arith)))
              (end_from slots old c.loop-i.i (ends next c.loop-i.i) (so_far.rest c.loop-i.i (omega arith)) (rw w'.if-branch.false at c.in_ok-renew.ensures.moved)) same_trans);
        },
      )
    ]

pub loop-i-preserved : goal.loop-i-preserved
loop-i-preserved g c =
    let rows = c.args.roster.now in
    let labels = labels_in rows in
    let old = present_slots rows c.args.moves.now in
    let slots = present_slots rows c.loop-i.moves in
    let many = length-labels rows in
    let at_in : c.args.at < length labels = omega arith in
    let so_far = c.loop-i.invariant.1.repairing in
    let one_wait = c.loop-i.invariant.1.one_wait in
    let few = c.loop-i.invariant.1.few in
    let before = c.loop-i.invariant.1.spent in
    let i_in : c.loop-i.i < length labels = omega arith in
    let idle : NoneWaits c.loop-i.waiting c.loop-i.i c.next-i.result = c.next-i.ensures.idle in
    let within : c.next-i.result ≤ length rows = (let w = c.next-i.ensures.within in omega arith) in
    let behind = c.next-i.ensures.behind in
    let on : c.loop-i.i + (c.next-i.result - c.loop-i.i) ≡ c.next-i.result = omega arith in (
      c.loop-i.invariant.0,
      record {
        repairing = subst (λ (j : ℕ). Repairing (number_at rows) labels old c.args.at c.args.comes j slots (λ k. IsTrue (get_or c.loop-i.waiting k false)) c.loop-i.evaluated) on
            (repairing_skip c.rivals_or_free.ensures c.smaller_ends.ensures c.carried.ensures
            (number_at rows) labels old c.args.at c.args.comes at_in c.requires.was (c.next-i.result - c.loop-i.i) c.loop-i.i slots
            (λ k. IsTrue (get_or c.loop-i.waiting k false)) c.loop-i.evaluated (omega arith) (λ k a b. idle k a (omega arith)) so_far);
        one_wait = one_wait;
        spent = before;
        few = omega arith;
        far = within;
        kept = c.loop-i.invariant.1.kept;
        noted = noted_skip c.args.at c.args.comes (ends old) (ends slots) c.loop-i.i c.next-i.result c.loop-i.changed.items behind c.loop-i.invariant.1.noted
            (λ j from. end_from slots old j (ends slots j) (so_far.rest j from) refl);
      },
    )

pub returns-clause-own : goal.returns-clause-own
returns-clause-own g c =
    let rows = c.args.roster.now in
    let many = length-labels rows in
    let e : c.loop-i.i ≡ length (labels_in rows) = (let m = c.loop-i.invariant.0 in let far = c.loop-i.invariant.1.far in let done = c.loop-i-test.false in omega arith) in
    repaired_own c.rivals_or_free.ensures c.smaller_ends.ensures c.carried.ensures (number_at rows)
    (labels_in rows) (present_slots rows c.args.moves.now) c.args.at c.args.comes (omega arith) c.requires.was
    (present_slots rows c.loop-i.moves) (λ k. IsTrue (get_or c.loop-i.waiting k false)) c.loop-i.evaluated (rw e at c.loop-i.invariant.1.repairing)

pub returns-clause-touched : goal.returns-clause-touched
returns-clause-touched g c =
    let rows = c.args.roster.now in
    let many = length-labels rows in
    let e : c.loop-i.i ≡ length (labels_in rows) = (let m = c.loop-i.invariant.0 in let far = c.loop-i.invariant.1.far in let done = c.loop-i-test.false in omega arith) in
    repaired_size c.rivals_or_free.ensures c.smaller_ends.ensures c.carried.ensures (number_at rows)
    (labels_in rows) (present_slots rows c.args.moves.now) c.args.at c.args.comes (omega arith) c.requires.was
    (present_slots rows c.loop-i.moves) (λ k. IsTrue (get_or c.loop-i.waiting k false)) c.loop-i.evaluated (rw e at c.loop-i.invariant.1.repairing)
