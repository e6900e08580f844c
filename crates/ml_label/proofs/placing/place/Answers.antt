use Rattle.ml_label.proofs.Along.{TextLaws, no_place}
use Rattle.ml_label.proofs.placing.place.Goals as goal

pub returns-in_default : goal.returns-in_default
returns-in_default c =
    let laws : TextLaws = record { reach = c.clusters_reach.ensures; narrow = c.chains_are_narrow.ensures } in
    no_place laws c.args.font.now c.args.class.now c.args.shape.now c.args.text c.requires.utf8 c.in_default.ensures
