use Rattle.std.proofs.Common.{◌≡◌, ℕ, ◌+◌, List, ◌++◌, length, map, flat_map, All, codes, sym, ap, subst, ◌∙◌, arith}
use Rattle.ml_editor.specs.State.{State, HasFeature, first_state}
use Rattle.ml_gen.specs.Group.{groups_in, order, IsGroupPlace, HaveOwnNumbers}
use Rattle.ml_gen.specs.Thing.{id_of, things_in}
use Rattle.ml_gen.specs.Turn.{goes, comes, turns}
use Rattle.ml_gen.specs.Totals.{AreRead}
use Rattle.ml_gen.specs.declared.counts.Counts.{Counts}
use Rattle.ml_gen.specs.declared.group.Group.{Group}
use Rattle.ml_gen.proofs.Orders.{groups_long, order_long, order_all}
use Rattle.ml_gen.proofs.Runs.{twice_long, run_same}
use Rattle.ml_gen.proofs.generate.make_counted.Goals as goal

pub load_generated-requires : goal.load_generated-requires
load_generated-requires g c =
    let is = c.deref.ensures.value in
    let long : length c.deref.result.now ≡ c.args.groups = ap (λ (gs : List Group). length gs) (c.deref.ensures.value ∙ c.in_ok-all.ensures.groups) ∙ groups_long c.args.groups c.args.seed in
    record {
      placed = subst (All IsGroupPlace) (sym is) c.in_ok-all.ensures.placed;
      own = subst HaveOwnNumbers (sym is) c.in_ok-all.ensures.own;
      few = (let few = c.requires.few in omega (arith, long, few));
    }

pub order_of-requires : goal.order_of-requires
order_of-requires g c =
    let is = c.deref-2.ensures.value in
    let long : length c.deref-2.result.now ≡ c.args.groups = ap (λ (gs : List Group). length gs) (c.deref-2.ensures.value ∙ c.in_ok-all.ensures.groups) ∙ groups_long c.args.groups c.args.seed in
    record {
      all = c.deref-2.ensures.value ∙ c.in_ok-all.ensures.groups ∙ ap (λ (n : ℕ). groups_in n c.args.seed) (sym long);
      placed = subst (All IsGroupPlace) (sym is) c.in_ok-all.ensures.placed;
      few = (let few = c.requires.few in omega (arith, long, few));
    }

pub edit_all-requires : goal.edit_all-requires
edit_all-requires g c =
    let P : Group → Type 0 = λ group. HasFeature c.in_ok-editor.editor.state.features (id_of group (codes "a")) in
    let long : length c.deref.result.now ≡ c.args.groups = ap (λ (gs : List Group). length gs) (c.deref.ensures.value ∙ c.in_ok-all.ensures.groups) ∙ groups_long c.args.groups c.args.seed in
    let long_again : length c.deref-2.result.now ≡ c.args.groups = ap (λ (gs : List Group). length gs) (c.deref-2.ensures.value ∙ c.in_ok-all.ensures.groups) ∙ groups_long c.args.groups c.args.seed in
    let whole : c.deref-2.result.now ≡ groups_in (length c.deref-2.result.now) c.args.seed =
    c.deref-2.ensures.value ∙ c.in_ok-all.ensures.groups ∙ ap (λ (n : ℕ). groups_in n c.args.seed) (sym long_again) in
    let in_order : c.deref-3.result.now ≡ order (length c.deref-2.result.now) c.args.seed = c.deref-3.ensures.value ∙ c.in_ok-order.ensures.order in
    let each : All P c.deref-2.result.now = subst (All P) (c.deref.ensures.value ∙ sym c.deref-2.ensures.value) c.in_ok-editor.ensures.there in
    let order_is : length c.deref-3.result.now ≡ length c.deref-2.result.now = ap (λ (gs : List Group). length gs) in_order ∙ order_long (length c.deref-2.result.now) c.args.seed in
    let few = c.requires.few in
    let many = c.in_ok-editor.ensures.number in
    let first : c.in_ok-editor.editor.state.rev ≡ 0 = ap (λ (s : State). s.rev) c.in_ok-editor.ensures.state.2 in
    record {
      placed = subst (All IsGroupPlace) (sym c.deref-3.ensures.value) c.in_ok-order.ensures.placed;
      own = subst HaveOwnNumbers (sym c.deref-3.ensures.value) c.in_ok-order.ensures.own;
      there = subst (All P) (sym in_order) (order_all P c.deref-2.result.now c.args.seed whole each);
      few = omega (arith, long, few, many);
      early = omega (arith, first, order_is, long_again, few);
    }

pub totals_of-totals-requires : goal.totals_of-totals-requires
totals_of-totals-requires g c =
    let long_again : length c.deref-2.result.now ≡ c.args.groups = ap (λ (gs : List Group). length gs) (c.deref-2.ensures.value ∙ c.in_ok-all.ensures.groups) ∙ groups_long c.args.groups c.args.seed in
    let in_order : c.deref-3.result.now ≡ order (length c.deref-2.result.now) c.args.seed = c.deref-3.ensures.value ∙ c.in_ok-order.ensures.order in
    let order_is : length c.deref-3.result.now ≡ length c.deref-2.result.now = ap (λ (gs : List Group). length gs) in_order ∙ order_long (length c.deref-2.result.now) c.args.seed in
    let as_many : length c.in_ok-each.each.items ≡ length c.deref-3.result.now + length c.deref-3.result.now =
    twice_long c.in_ok-editor.editor.state c.edit_all.new.editor.state c.deref-3.result.now c.in_ok-each.each.items c.in_ok-each.ensures.run in
    let is : length c.deref-4.result.now ≡ length c.in_ok-each.each.items = ap (λ (cs : List Counts). length cs) c.deref-4.ensures.value in
    let few = c.requires.few in
    omega (arith, long_again, order_is, as_many, is, few)

pub returns : goal.returns
returns g c =
    let long_again : length c.deref-2.result.now ≡ c.args.groups = ap (λ (gs : List Group). length gs) (c.deref-2.ensures.value ∙ c.in_ok-all.ensures.groups) ∙ groups_long c.args.groups c.args.seed in
    let in_order : c.deref-3.result.now ≡ order c.args.groups c.args.seed = c.deref-3.ensures.value ∙ c.in_ok-order.ensures.order ∙ ap (λ (n : ℕ). order n c.args.seed) long_again in
    let read = c.in_ok-editor.ensures.state.0 in
    record {
      read = read;
      are_read = subst (λ (gs : List Group). AreRead (flat_map things_in gs) read) (c.deref.ensures.value ∙ c.in_ok-all.ensures.groups) c.in_ok-editor.ensures.state.1;
      each = c.deref-4.result.now;
      last = c.edit_all.new.editor.state;
      run =
          run_same c.in_ok-editor.editor.state (first_state c.args.style read) c.edit_all.new.editor.state
          (map goes c.deref-3.result.now ++ map comes c.deref-3.result.now) (turns c.args.groups c.args.seed)
          c.in_ok-each.each.items c.deref-4.result.now c.in_ok-editor.ensures.state.2
          (ap (λ (gs : List Group). map goes gs ++ map comes gs) in_order) (sym c.deref-4.ensures.value) c.in_ok-each.ensures.run;
      groups = c.totals_of-totals.ensures.groups;
      numbers = c.totals_of-totals.ensures.numbers;
      sums = c.totals_of-totals.ensures.sums;
    }
