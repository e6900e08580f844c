use Rattle.std.proofs.Common.{◌≡◌, ap, arith, ℕ, subst, ◌+◌, inl, inr}
use Rattle.ml_grid.specs.Count.{entries_below}
use Rattle.ml_grid.specs.Entry.{Adds, IsEntryOf}
use Rattle.ml_grid.specs.Placed.{IsEntryAt}
use Rattle.ml_grid.proofs.Partial.{IsEntryBelow}
use Rattle.ml_grid.proofs.Sums.{below_none, below_next, below_mono, count_all}
use Rattle.ml_grid.proofs.Sets.{adds_none, adds_both, adds_same, none_below, below_more, below_all}
use Rattle.ml_grid.proofs.keep.add_all.Goals as goal

pub loop-band-init : goal.loop-band-init
loop-band-init c = record {
  entries = adds_none (IsEntryBelow c.args.number c.args.label.now c.args.until 0) c.args.tree.now.entries (none_below c.args.number c.args.label.now c.args.until);
  spare = let n = below_none c.args.label.now in omega arith;
}

pub add_band-requires-clause-room : goal.add_band-requires-clause-room
add_band-requires-clause-room c =
    let n = below_next c.args.label.now c.loop-band.band in
    let m = below_mono c.args.label.now (c.loop-band.band + 1) 28 (omega arith) in
    let k = count_all c.args.label.now in
    let r = c.requires.room in
    let s = c.loop-band.invariant.spare in omega arith

pub add_band-requires-clause-new : goal.add_band-requires-clause-new
add_band-requires-clause-new c e here there =
    elim ((c.loop-band.invariant.entries e).0 there) [
      | inl old ↦ c.requires.free e old here.0.its_number
      | inr before ↦ let a = before.1 in let b = here.1 in omega arith
    ]

pub loop-band-preserved : goal.loop-band-preserved
loop-band-preserved c = record {
  entries = adds_both (IsEntryBelow c.args.number c.args.label.now c.args.until c.loop-band.band)
      (IsEntryAt c.args.number c.args.label.now c.args.until c.loop-band.band) (IsEntryBelow c.args.number c.args.label.now c.args.until (c.loop-band.band + 1))
      c.args.tree.now.entries c.loop-band.tree.entries c.add_band.new.tree.entries c.loop-band.invariant.entries c.add_band.ensures.entries
      (below_more c.args.number c.args.label.now c.args.until c.loop-band.band);
  spare = let n = below_next c.args.label.now c.loop-band.band in let s = c.loop-band.invariant.spare in let t = c.add_band.ensures.spare in omega arith;
}

pub returns-clause-entries : goal.returns-clause-entries
returns-clause-entries c =
    let e : c.loop-band.band ≡ 28 = omega arith in
    let h : Adds (IsEntryBelow c.args.number c.args.label.now c.args.until 28) c.args.tree.now.entries c.loop-band.tree.entries =
    subst (λ (n : ℕ). Adds (IsEntryBelow c.args.number c.args.label.now c.args.until n) c.args.tree.now.entries c.loop-band.tree.entries) e c.loop-band.invariant.entries in
    adds_same (IsEntryBelow c.args.number c.args.label.now c.args.until 28)
    (IsEntryOf c.args.number c.args.label.now c.args.until) c.args.tree.now.entries c.loop-band.tree.entries h (below_all c.args.number c.args.label.now c.args.until)

pub returns-clause-spare : goal.returns-clause-spare
returns-clause-spare c =
    let e : c.loop-band.band ≡ 28 = omega arith in
    let n = ap (entries_below c.args.label.now) e in
    let k = count_all c.args.label.now in
    let s = c.loop-band.invariant.spare in omega arith
