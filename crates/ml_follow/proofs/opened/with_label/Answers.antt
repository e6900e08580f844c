use Rattle.std.proofs.Common.{◌≡◌, ℕ, List, refl, sym, ap, subst, ◌∙◌}
use Rattle.std.specs.BTreeSet.{contains_by, Updates}
use Rattle.std.specs.Cmp.Lexicographic.{slice_cmp}
use Rattle.std.specs.Ordering.{nat_cmp}
use Rattle.ml_cone.specs.declared.label.Label.{Label}
use Rattle.ml_follow.specs.Reading.{HasIds}
use Rattle.ml_follow.proofs.Ids.{known_id, new_id, ids_more}
use Rattle.ml_follow.proofs.opened.with_label.Goals as goal

pub returns-then-contains : goal.returns-then-contains
returns-then-contains c =
    let found = c.contains.ensures ∙ ap (λ (id : List ℕ). contains_by (slice_cmp nat_cmp id) c.args.opened.taken) c.id.ensures in
    known_id c.args.opened.state.labels c.args.opened.taken c.args.label.order.id c.contains.result c.requires found c.if-contains.true

pub returns : goal.returns
returns c =
    let found = c.contains.ensures ∙ ap (λ (id : List ℕ). contains_by (slice_cmp nat_cmp id) c.args.opened.taken) c.id.ensures in
    let new = new_id c.args.opened.state.labels c.args.opened.taken c.args.label.order.id c.contains.result c.requires found c.if-contains.false in
    let own : c.in_ok-copy.field-0 ≡ c.args.label.order.id = c.in_ok-copy.ensures ∙ c.id-2.ensures in
    let updates = subst (λ (id : List ℕ). Updates (slice_cmp nat_cmp) c.args.opened.taken c.insert.new.self id _) own c.in_ok-insert.ensures.updates in
    let more = ids_more c.args.opened.state.labels c.args.label c.args.opened.taken c.insert.new.self c.requires updates in (
      new,
      record {
        labels_are = c.in_ok-push.ensures.ok;
        slots_are = c.in_ok-push-2.ensures.ok;
        ids = subst (λ (ls : List Label). HasIds ls c.insert.new.self) (sym c.in_ok-push.ensures.ok) more;
        same_count = refl;
        same_rev = refl;
      },
    )
