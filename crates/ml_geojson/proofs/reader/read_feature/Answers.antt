use Rattle.std.proofs.Common.{Err, IfErr, sym, ap, subst, rules}
use Rattle.ml_ratio.specs.declared.feature.Feature.{Feature}
use Rattle.ml_json.specs.Lent.{lent_of}
use Rattle.ml_geojson.specs.Collection.{feature}
use Rattle.ml_geojson.specs.Map.{IsRead, IsFeatureFault}
use Rattle.ml_geojson.proofs.FaultLemmas.{feature_answered, text_refused_feature}
use Rattle.ml_geojson.proofs.Exact.{IsAnswerTo, ReadsText, feature_reads, feature_not_json, feature_deep}
use Rattle.ml_geojson.proofs.Exact.{feature_not_feature, feature_bad_geometry, feature_out_of_range, feature_short_ring, feature_no_id}
use Rattle.ml_geojson.proofs.reader.read_feature.Goals as goal

pub returns-in-Ok : goal.returns-in-Ok
returns-in-Ok c =
    let reads : ReadsText c.args.bytes.now c.lend.result = record { text = c.lend.ensures.text; not_json = c.lend.ensures.not_json; deep = c.lend.ensures.deep } in
    let from : IsAnswerTo IsRead (feature 0) c.lend.result c.read_named.result = subst (λ f. IsAnswerTo IsRead (feature 0) f c.read_named.result) (sym c.in-Ok.is) c.read_named.ensures in
    let cause : IfErr c.read_named.result (IsFeatureFault c.args.bytes.now) = feature_answered c.args.bytes.now (lent_of c.in-Ok.json) c.in-Ok.ensures.ok c.read_named.result c.read_named.ensures in
    record {
      ok = search rules;
      fault = cause;
      reads = feature_reads c.args.bytes.now c.lend.result reads c.read_named.result from cause;
      not_json = feature_not_json c.args.bytes.now c.lend.result reads c.read_named.result from cause;
      deep = feature_deep c.args.bytes.now c.lend.result reads c.read_named.result from cause;
      not_feature = feature_not_feature c.args.bytes.now c.lend.result reads c.read_named.result from cause;
      bad_geometry = feature_bad_geometry c.args.bytes.now c.lend.result reads c.read_named.result from cause;
      out_of_range = feature_out_of_range c.args.bytes.now c.lend.result reads c.read_named.result from cause;
      short_ring = feature_short_ring c.args.bytes.now c.lend.result reads c.read_named.result from cause;
      no_id = feature_no_id c.args.bytes.now c.lend.result reads c.read_named.result from cause;
    }

pub returns-in-Err : goal.returns-in-Err
returns-in-Err c =
    let reads : ReadsText c.args.bytes.now c.lend.result = record { text = c.lend.ensures.text; not_json = c.lend.ensures.not_json; deep = c.lend.ensures.deep } in
    let from : IsAnswerTo IsRead (feature 0) c.lend.result (Err c.from.result) = subst (λ f. IsAnswerTo IsRead (feature 0) f (Err c.from.result)) (sym c.in-Err.is) (ap Err c.from.ensures) in
    let cause : IfErr {T = Feature} (Err c.from.result) (IsFeatureFault c.args.bytes.now) =
    rw c.from.ensures (text_refused_feature c.args.bytes.now c.lend.result c.lend.ensures.not_json c.lend.ensures.deep c.in-Err.fault c.in-Err.is) in
    record {
      ok = tt;
      fault = cause;
      reads = feature_reads c.args.bytes.now c.lend.result reads (Err c.from.result) from cause;
      not_json = feature_not_json c.args.bytes.now c.lend.result reads (Err c.from.result) from cause;
      deep = feature_deep c.args.bytes.now c.lend.result reads (Err c.from.result) from cause;
      not_feature = feature_not_feature c.args.bytes.now c.lend.result reads (Err c.from.result) from cause;
      bad_geometry = feature_bad_geometry c.args.bytes.now c.lend.result reads (Err c.from.result) from cause;
      out_of_range = feature_out_of_range c.args.bytes.now c.lend.result reads (Err c.from.result) from cause;
      short_ring = feature_short_ring c.args.bytes.now c.lend.result reads (Err c.from.result) from cause;
      no_id = feature_no_id c.args.bytes.now c.lend.result reads (Err c.from.result) from cause;
    }
