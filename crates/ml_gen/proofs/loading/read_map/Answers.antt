use Rattle.std.proofs.Common.{◌≡◌, ◌*◌, List, length, get_or, map, flat_map, Contains, sym, ap, subst, ◌∙◌}
use Rattle.std.proofs.lemmas.List.{length-map, get_or_default}
use Rattle.std.proofs.lemmas.Result.{IfOk-weaker}
use Rattle.ml_ratio.specs.declared.feature.Feature.{Feature}
use Rattle.ml_editor.specs.State.{HasFeature}
use Rattle.ml_gen.specs.Thing.{Thing, thing_of, first_town, things_in}
use Rattle.ml_gen.specs.Totals.{AreReadBack, AreRead}
use Rattle.ml_gen.proofs.Differ.{features_differ}
use Rattle.ml_gen.proofs.Gone.{made_have, town_there, five_each}
use Rattle.ml_gen.proofs.loading.read_map.Goals as goal

pub read_back-requires : goal.read_back-requires
read_back-requires c = features_differ c.args.groups.now c.in_ok-made.made c.requires.placed c.requires.own c.in_ok-made.ensures

pub returns-clause-read : goal.returns-clause-read
returns-clause-read c =
    IfOk-weaker c.read_back.result (AreReadBack c.in_ok-made.made) (AreRead (flat_map things_in c.args.groups.now))
    (λ read back. record { made = c.in_ok-made.made; are = c.in_ok-made.ensures; back = back }) c.read_back.ensures.read

pub returns-clause-there : goal.returns-clause-there
returns-clause-there c =
    IfOk-weaker c.read_back.result (λ read. read ≡ c.in_ok-made.made) _
    (λ read same k d lt.
    (let group = get_or c.args.groups.now k d in
    let there : Contains (map thing_of c.in_ok-made.made) (first_town (get_or c.args.groups.now k d)) =
    subst (λ (things : List Thing). Contains things (first_town (get_or c.args.groups.now k d))) (sym c.in_ok-made.ensures)
    (town_there c.args.groups.now (get_or c.args.groups.now k d) (k, lt, get_or_default c.args.groups.now k (get_or c.args.groups.now k d) d lt)) in
    subst (λ (fs : List Feature). HasFeature fs (first_town (get_or c.args.groups.now k d)).id) (sym same) (made_have c.in_ok-made.made (first_town (get_or c.args.groups.now k d)) there)))
    c.read_back.ensures.same

pub returns-clause-number : goal.returns-clause-number
returns-clause-number c =
    IfOk-weaker c.read_back.result (λ read. read ≡ c.in_ok-made.made) (λ read. length read ≡ length c.args.groups.now * 5)
    (λ read same. ap (λ (fs : List Feature). length fs) same ∙ sym (length-map c.in_ok-made.made thing_of)
    ∙ ap (λ (things : List Thing). length things) c.in_ok-made.ensures ∙ five_each c.args.groups.now)
    c.read_back.ensures.same
