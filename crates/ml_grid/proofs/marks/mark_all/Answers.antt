use Rattle.std.proofs.Common.{◌≡◌, arith, ℕ, subst, ◌+◌, inl, inr}
use Rattle.ml_grid.specs.Entry.{Adds, IsEntryOf}
use Rattle.ml_grid.specs.Placed.{IsEntryAt}
use Rattle.ml_grid.proofs.Partial.{IsEntryBelow}
use Rattle.ml_grid.proofs.Sets.{adds_none, adds_both, adds_same, none_below, below_more, below_all}
use Rattle.ml_grid.specs.Marks.{end_by, marked}
use Rattle.ml_grid.proofs.marks.mark_all.Goals as goal

pub loop-band-init : goal.loop-band-init
loop-band-init c = record {
  apart = c.requires.apart;
  entries = adds_none (IsEntryBelow c.args.number c.args.label.now (end_by c.args.ends.now c.args.number) 0)
      (marked c.args.ends.now c.args.marks.now.items) (none_below c.args.number c.args.label.now (end_by c.args.ends.now c.args.number));
}

pub mark_band-requires-clause-new : goal.mark_band-requires-clause-new
mark_band-requires-clause-new c e here there =
    elim ((c.loop-band.invariant.entries e).0 there) [
      | inl old ↦ c.requires.free e old here.0.its_number
      | inr before ↦ let a = before.1 in let b = here.1 in omega arith
    ]

pub loop-band-preserved : goal.loop-band-preserved
loop-band-preserved c = record {
  apart = c.in_ok-mark_band.ensures.apart;
  entries = adds_both (IsEntryBelow c.args.number c.args.label.now (end_by c.args.ends.now c.args.number) c.loop-band.band)
      (IsEntryAt c.args.number c.args.label.now (end_by c.args.ends.now c.args.number) c.loop-band.band)
      (IsEntryBelow c.args.number c.args.label.now (end_by c.args.ends.now c.args.number) (c.loop-band.band + 1))
      (marked c.args.ends.now c.args.marks.now.items) (marked c.args.ends.now c.loop-band.marks.items)
      (marked c.args.ends.now c.mark_band.new.marks.items) c.loop-band.invariant.entries c.in_ok-mark_band.ensures.entries
      (below_more c.args.number c.args.label.now (end_by c.args.ends.now c.args.number) c.loop-band.band);
}

pub returns-clause-entries : goal.returns-clause-entries
returns-clause-entries c =
    let e : c.loop-band.band ≡ 28 = omega arith in
    let h : Adds (IsEntryBelow c.args.number c.args.label.now (end_by c.args.ends.now c.args.number) 28)
    (marked c.args.ends.now c.args.marks.now.items) (marked c.args.ends.now c.loop-band.marks.items) =
    subst (λ (n : ℕ). Adds (IsEntryBelow c.args.number c.args.label.now (end_by c.args.ends.now c.args.number) n)
    (marked c.args.ends.now c.args.marks.now.items) (marked c.args.ends.now c.loop-band.marks.items)) e c.loop-band.invariant.entries in
    adds_same (IsEntryBelow c.args.number c.args.label.now (end_by c.args.ends.now c.args.number) 28)
    (IsEntryOf c.args.number c.args.label.now (end_by c.args.ends.now c.args.number)) (marked c.args.ends.now c.args.marks.now.items)
    (marked c.args.ends.now c.loop-band.marks.items) h (below_all c.args.number c.args.label.now (end_by c.args.ends.now c.args.number))
