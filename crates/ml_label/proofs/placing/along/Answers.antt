use Rattle.std.proofs.Common.{◌≡◌, ◌<◌, length, refl, sym, ◌∙◌}
use Rattle.ml_river.specs.declared.river.Shape.TheVariants.{Chain, Straight}
use Rattle.ml_text.specs.Cluster.{clusters_of}
use Rattle.ml_label.proofs.Names.{some_clusters}
use Rattle.ml_label.proofs.Setting.{chain_fits, chained, straight_answer}
use Rattle.ml_label.proofs.placing.along.Goals as goal

pub invariant_of-result : goal.invariant_of-result
invariant_of-result c =
    let lies = c.in_ok-anchor.lies-is in
    let chain = c.in-Chain.is in
    let shape : c.in_ok-anchor.field-0.shape ≡ Chain c.in-Chain.boxes = cc in
    let all : c.as_slice-in-Chain.result.now ≡ clusters_of c.args.font.now c.args.text = c.as_slice-in-Chain.ensures ∙ c.in_ok-clusters.ensures.value in
    let some : 0 < length c.as_slice-in-Chain.result.now =
    rw (sym c.as_slice-in-Chain.ensures) at (some_clusters c.in_ok-clusters.clusters c.args.text c.in_ok-clusters.ensures.joined c.requires.some) in
    let fits = chain_fits c.args.font.now c.args.class.now c.args.shape.now c.args.text c.in_ok-anchor.field-0 c.in_ok-anchor.ensures
    c.in-Chain.boxes c.as_slice-in-Chain.result.now c.in_ok-pieces_of-in-Chain.field-0 shape all some c.in_ok-pieces_of-in-Chain.ensures in
    record { some_box = fits.0; few_boxes = fits.1; good_boxes = fits.2; one_piece_each = fits.3 }

pub returns-in_ok-pieces_of-in-Chain : goal.returns-in_ok-pieces_of-in-Chain
returns-in_ok-pieces_of-in-Chain c =
    let lies = c.in_ok-anchor.lies-is in
    let chain = c.in-Chain.is in
    let shape : c.in_ok-anchor.field-0.shape ≡ Chain c.in-Chain.boxes = cc in
    let all : c.as_slice-in-Chain.result.now ≡ clusters_of c.args.font.now c.args.text = c.as_slice-in-Chain.ensures ∙ c.in_ok-clusters.ensures.value in
    chained c.args.font.now c.args.class.now c.args.shape.now c.args.text c.in_ok-anchor.field-0 c.in_ok-anchor.ensures
    c.in-Chain.boxes c.as_slice-in-Chain.result.now _ shape all refl refl c.in_ok-pieces_of-in-Chain.ensures

pub returns-in-Straight : goal.returns-in-Straight
returns-in-Straight c =
    let lies = c.in_ok-anchor.lies-is in
    let straight = c.in-Straight.is in
    let shape : c.in_ok-anchor.field-0.shape ≡ Straight = cc in
    straight_answer c.args.font.now c.args.class.now c.args.shape.now c.args.text c.in_ok-anchor.field-0 c.in_ok-anchor.ensures
    c.args.straight c.one_box.result shape c.requires.straight c.one_box.ensures.anchor c.one_box.ensures.one
