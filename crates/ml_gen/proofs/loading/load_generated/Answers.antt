use Rattle.std.proofs.Common.{List, get_or, codes, sym, ap, subst}
use Rattle.ml_ratio.specs.declared.feature.Feature.{Feature}
use Rattle.ml_editor.specs.State.{State, HasFeature}
use Rattle.ml_gen.specs.Thing.{id_of}
use Rattle.ml_gen.proofs.loading.load_generated.Goals as goal

pub returns-in-Ok-clause-there : goal.returns-in-Ok-clause-there
returns-in-Ok-clause-there c k d lt =
    subst (λ (fs : List Feature). HasFeature fs (id_of (get_or c.args.groups.now k d) (codes "a"))) (sym (ap (λ (s : State). s.features) c.in-Ok.ensures.ok)) (c.in_ok-read.ensures.there k d lt)
