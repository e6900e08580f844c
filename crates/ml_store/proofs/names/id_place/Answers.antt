use Rattle.std.proofs.Common.{◌∙◌, ◌+◌, ◌-◌, ◌/◌, ◌<◌, sym, refl, arith, length}
use Rattle.std.proofs.lemmas.Bool.{false≢true}
use Rattle.ml_store.specs.Names.{names_in, IsIdBefore}
use Rattle.ml_store.proofs.Naming.{unique_names, number_there}
use Rattle.ml_store.proofs.ByName.{some_name, before_more, after_more}
use Rattle.ml_store.proofs.names.id_place.Goals as goal

pub is_before-requires : goal.is_before-requires
is_before-requires c =
    let rows = c.args.rows.now in
    let own = unique_names rows c.requires.differ in
    let middle = c.loop-low.low + (c.loop-low.high - c.loop-low.low) / 2 in
    let b = c.loop-low.invariant.bound in
    let some = some_name (names_in rows) c.args.ids.now own c.requires.by_name middle (omega arith) in
    record { live = rw (c.at-number.ensures, some.2) (number_there rows some.0 some.1) }

pub loop-low-preserved-then-is_before : goal.loop-low-preserved-then-is_before
loop-low-preserved-then-is_before c =
    let rows = c.args.rows.now in
    let own = unique_names rows c.requires.differ in
    let middle = c.loop-low.low + (c.loop-low.high - c.loop-low.low) / 2 in
    let b = c.loop-low.invariant.bound in
    let lt : middle < length c.args.ids.now = omega arith in
    let some = some_name (names_in rows) c.args.ids.now own c.requires.by_name middle lt in
    let yes = (c.if-is_before.ensures some.0 some.1 (sym (c.at-number.ensures ∙ some.2))).0 refl in
    record {
      in_order = omega arith;
      bound = b;
      before = before_more (names_in rows) c.args.ids.now own c.requires.by_name c.args.id.now middle some.0 lt some.1 some.2 yes;
      after = c.loop-low.invariant.after;
    }

pub loop-low-preserved : goal.loop-low-preserved
loop-low-preserved c =
    let rows = c.args.rows.now in
    let own = unique_names rows c.requires.differ in
    let middle = c.loop-low.low + (c.loop-low.high - c.loop-low.low) / 2 in
    let b = c.loop-low.invariant.bound in
    let lt : middle < length c.args.ids.now = omega arith in
    let some = some_name (names_in rows) c.args.ids.now own c.requires.by_name middle lt in
    let not : ¬ (IsIdBefore some.0.id c.args.id.now) = λ h. false≢true ((c.if-is_before.ensures some.0 some.1 (sym (c.at-number.ensures ∙ some.2))).1 h) in
    record {
      in_order = omega arith;
      bound = omega arith;
      before = c.loop-low.invariant.before;
      after = after_more (names_in rows) c.args.ids.now own c.requires.by_name c.args.id.now middle some.0 lt some.1 some.2 not;
    }
