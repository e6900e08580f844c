use Rattle.std.proofs.Common.{◌≡◌, sym, subst}
use Rattle.ml_grid.specs.Entry.{Entry, IsEntryOf}
use Rattle.ml_ratio.specs.declared.ratio.Ratio.{Ratio}
use Rattle.ml_store.proofs.Index.{moved_as, moved_none}
use Rattle.ml_store.proofs.entries.move_entries.Goals as goal

pub returns-then-not-same_ends-clause-entries : goal.returns-then-not-same_ends-clause-entries
returns-then-not-same_ends-clause-entries c =
    moved_as (λ (e : Entry). e.value) c.args.number (IsEntryOf c.args.number c.args.label.now c.args.from) (IsEntryOf c.args.number c.args.label.now c.args.to) c.args.grid.now.entries c.requires.its
    c.move_label.new.self.entries c.move_label.ensures.entries

pub returns-else-not-same_ends-clause-entries : goal.returns-else-not-same_ends-clause-entries
returns-else-not-same_ends-clause-entries c =
    let same : c.args.from ≡ c.args.to = rw c.if-not-same_ends.false at c.same_ends.ensures in
    moved_none (λ (e : Entry). e.value) c.args.number (IsEntryOf c.args.number c.args.label.now c.args.from) (IsEntryOf c.args.number c.args.label.now c.args.to) c.args.grid.now.entries c.requires.its
    (λ e. (λ h. subst (λ (u : Ratio). IsEntryOf c.args.number c.args.label.now u e) (sym same) h, λ h. subst (λ (u : Ratio). IsEntryOf c.args.number c.args.label.now u e) same h))
