use Rattle.std.proofs.Common.{◌≡◌, arith, length, get_or, sym, ap, ◌∙◌}
use Rattle.std.proofs.lemmas.List.{get_or_default}
use Rattle.std.proofs.lemmas.Map.Text.{btree_map_updates_str}
use Rattle.ml_cone.specs.declared.label.Label.{Label}
use Rattle.ml_cert.proofs.PlaceLemmas.{before_more, before_all}
use Rattle.ml_cert.proofs.places.places_of.Goals as goal

pub loop-i-preserved : goal.loop-i-preserved
loop-i-preserved c =
    let labels = c.args.labels.now in
    let its_id : (d : Label) → (get_or labels c.loop-i.i d).order.id ≡ c.as_str.result.now =
    (λ (d : Label). ap (λ (a : Label). a.order.id) (get_or_default labels c.loop-i.i d c.index-labels-i.result c.loop-i-test.true ∙ sym c.index-labels-i.is)
    ∙ sym c.id.ensures ∙ sym c.as_str.ensures.bytes) in
    before_more labels c.loop-i.i c.as_str.result.now c.index-labels-i.result its_id c.loop-i.places c.insert.new.self
    (btree_map_updates_str c.as_str.result.now c.loop-i.places c.insert.new.self _ c.in_ok-insert.ensures.updates) c.loop-i.invariant

pub returns : goal.returns
returns c = let last : c.loop-i.i ≡ length c.args.labels.now = omega arith in before_all c.args.labels.now c.loop-i.places (rw last at c.loop-i.invariant)
