use Rattle.std.proofs.Common.{sym}
use Rattle.ml_json.specs.Lent.{lents_view}
use Rattle.ml_geojson.specs.Collection.{features}
use Rattle.ml_geojson.specs.Draft.{parts_of}
use Rattle.ml_geojson.proofs.MadeLemmas.{orderly_at, so_far_more}
use Rattle.ml_geojson.proofs.reader.read_items.Goals as goal

pub read_draft-requires : goal.read_draft-requires
read_draft-requires c = orderly_at c.args.items.now c.loop-k.k c.index-items-k.result c.requires c.loop-k-test.true (sym c.index-items-k.is)

pub loop-k-preserved : goal.loop-k-preserved
loop-k-preserved c =
    so_far_more c.args.items.now c.loop-k.k (features 0 (lents_view c.args.items.now)) c.index-items-k.result c.loop-k-test.true
    (sym c.index-items-k.is) c.loop-k.features c.loop-k.taken c.loop-k.invariant (parts_of c.in-Ok.draft) c.push_feature.new.features
    c.push_feature.new.taken c.in-Ok.ensures c.in_ok-push_feature-in-Ok.ensures.added c.in_ok-push_feature-in-Ok.ensures.taken
