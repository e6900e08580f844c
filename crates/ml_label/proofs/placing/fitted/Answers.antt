use Rattle.std.proofs.Common.{refl, ◌∙◌}
use Rattle.ml_label.proofs.Setting.{short, along_is}
use Rattle.ml_label.proofs.placing.fitted.Goals as goal

pub chain_of-requires-clause-short : goal.chain_of-requires-clause-short
chain_of-requires-clause-short c =
    short c.args.font.now c.args.class.now c.args.text.now c.args.clusters.now c.as_slice.result.now c.requires.its_kind c.requires.narrow c.requires.total
    (c.as_slice.ensures.value ∙ c.in_ok-advances.ensures)

pub returns : goal.returns
returns c =
    along_is c.args.font.now c.args.class.now c.args.shape.now c.args.text.now _ c.args.clusters.now c.as_slice.result.now c.in_ok-placed.field-0 c.in-Some.placed
    (refl, refl, refl) c.requires.clusters (c.as_slice.ensures.value ∙ c.in_ok-advances.ensures) c.in_ok-placed.ensures c.in-Some.is
