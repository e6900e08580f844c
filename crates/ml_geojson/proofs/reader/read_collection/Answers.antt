use Rattle.std.proofs.Common.{List, Err, IfErr, sym, ap, subst, rules}
use Rattle.ml_ratio.specs.declared.feature.Feature.{Feature}
use Rattle.ml_json.specs.Lent.{lent_of}
use Rattle.ml_geojson.specs.Collection.{collection}
use Rattle.ml_geojson.specs.Map.{AreRead, IsMapFault}
use Rattle.ml_geojson.proofs.FaultLemmas.{map_answered, text_refused_map}
use Rattle.ml_geojson.proofs.Differing.{read_differs}
use Rattle.ml_geojson.proofs.Exact.{IsAnswerTo, ReadsText, map_reads, map_not_json, map_deep, map_not_collection, map_not_feature, map_bad_geometry, map_out_of_range, map_short_ring}
use Rattle.ml_geojson.proofs.reader.read_collection.Goals as goal

pub returns-in-Ok : goal.returns-in-Ok
returns-in-Ok c =
    let reads : ReadsText c.args.bytes.now c.lend.result = record { text = c.lend.ensures.text; not_json = c.lend.ensures.not_json; deep = c.lend.ensures.deep } in
    let from : IsAnswerTo AreRead collection c.lend.result c.read_tree.result = subst (λ f. IsAnswerTo AreRead collection f c.read_tree.result) (sym c.in-Ok.is) c.read_tree.ensures in
    let cause : IfErr c.read_tree.result (IsMapFault c.args.bytes.now) = map_answered c.args.bytes.now (lent_of c.in-Ok.json) c.in-Ok.ensures.ok c.read_tree.result c.read_tree.ensures in
    record {
      ok = search rules;
      different_ids = read_differs c.read_tree.result (collection (lent_of c.in-Ok.json)) c.read_tree.ensures;
      fault = cause;
      reads = map_reads c.args.bytes.now c.lend.result reads c.read_tree.result from cause;
      not_json = map_not_json c.args.bytes.now c.lend.result reads c.read_tree.result from cause;
      deep = map_deep c.args.bytes.now c.lend.result reads c.read_tree.result from cause;
      not_collection = map_not_collection c.args.bytes.now c.lend.result reads c.read_tree.result from cause;
      not_feature = map_not_feature c.args.bytes.now c.lend.result reads c.read_tree.result from cause;
      bad_geometry = map_bad_geometry c.args.bytes.now c.lend.result reads c.read_tree.result from cause;
      out_of_range = map_out_of_range c.args.bytes.now c.lend.result reads c.read_tree.result from cause;
      short_ring = map_short_ring c.args.bytes.now c.lend.result reads c.read_tree.result from cause;
    }

pub returns-in-Err : goal.returns-in-Err
returns-in-Err c =
    let reads : ReadsText c.args.bytes.now c.lend.result = record { text = c.lend.ensures.text; not_json = c.lend.ensures.not_json; deep = c.lend.ensures.deep } in
    let from : IsAnswerTo AreRead collection c.lend.result (Err c.from.result) = subst (λ f. IsAnswerTo AreRead collection f (Err c.from.result)) (sym c.in-Err.is) (ap Err c.from.ensures) in
    let cause : IfErr {T = List Feature} (Err c.from.result) (IsMapFault c.args.bytes.now) =
    rw c.from.ensures (text_refused_map c.args.bytes.now c.lend.result c.lend.ensures.not_json c.lend.ensures.deep c.in-Err.fault c.in-Err.is) in
    record {
      ok = tt;
      different_ids = tt;
      fault = cause;
      reads = map_reads c.args.bytes.now c.lend.result reads (Err c.from.result) from cause;
      not_json = map_not_json c.args.bytes.now c.lend.result reads (Err c.from.result) from cause;
      deep = map_deep c.args.bytes.now c.lend.result reads (Err c.from.result) from cause;
      not_collection = map_not_collection c.args.bytes.now c.lend.result reads (Err c.from.result) from cause;
      not_feature = map_not_feature c.args.bytes.now c.lend.result reads (Err c.from.result) from cause;
      bad_geometry = map_bad_geometry c.args.bytes.now c.lend.result reads (Err c.from.result) from cause;
      out_of_range = map_out_of_range c.args.bytes.now c.lend.result reads (Err c.from.result) from cause;
      short_ring = map_short_ring c.args.bytes.now c.lend.result reads (Err c.from.result) from cause;
    }
