use Rattle.std.proofs.Common.{◌≡◌, [], ◌∷◌, ◌++◌, refl, sym, ap, subst, ◌∙◌}
use Rattle.std.proofs.lemmas.List.{map-append}
use Rattle.ml_ratio.specs.declared.feature.Feature.{Feature}
use Rattle.ml_geojson.specs.Ids.{is_among}
use Rattle.ml_geojson.specs.Taken.{is_taken, HasIds}
use Rattle.ml_geojson.specs.Map.{ids}
use Rattle.ml_geojson.proofs.MadeLemmas.{id_by, has_ids_more}
use Rattle.ml_geojson.proofs.reader.push_feature.Goals as goal

pub returns-clause-added : goal.returns-clause-added
returns-clause-added c = record {
  feature = _;
  behind = c.in_ok-push.ensures.ok;
  made = record { shape = refl; props = refl };
  named = id_by (is_taken c.args.taken.now) (is_among (ids c.args.features.now)) c.requires _ c.in_ok-id.id c.args.draft.own (rw c.len.ensures at c.in_ok-id.ensures.id);
}

pub returns-clause-taken : goal.returns-clause-taken
returns-clause-taken c =
    let more : ids c.push.new.self ≡ ids c.args.features.now ++ c.in_ok-id.id ∷ [] =
    ap ids c.in_ok-push.ensures.ok ∙ map-append (λ (f : Feature). f.id) c.args.features.now _ in
    subst (λ texts. HasIds texts c.take_id.new.taken) (sym more) (has_ids_more c.args.taken.now c.take_id.new.taken (ids c.args.features.now) c.in_ok-id.id c.requires c.in_ok-id.ensures.taken)
