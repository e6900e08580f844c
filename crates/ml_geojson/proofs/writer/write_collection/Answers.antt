use Rattle.std.proofs.Common.{◌≡◌, ◌∙◌, sym, ap, subst, [], ◌++◌, append-nil}
use Rattle.ml_json.specs.Answer.{IsText}
use Rattle.ml_json.specs.Canonical.{canonical, settled}
use Rattle.ml_geojson.specs.Text.{collection_tree}
use Rattle.ml_geojson.proofs.Written.{collection_written}
use Rattle.ml_geojson.proofs.writer.write_collection.Goals as goal

pub returns : goal.returns
returns c =
    let laws = c.trees_read_back.ensures in
    let features = c.args.features.now in
    let tree = collection_tree features in
    let text : c.of_vec.result ≡ canonical tree = c.of_vec.ensures ∙ sym (append-nil c.put_collection.new.out.items)
    ∙ c.in_ok-put_collection.ensures.text [] ∙ ap (λ s. s ++ canonical tree) c.new-out.ensures.items in
    let canonical_reads = c.printed_reads_back.ensures tree (laws.collection_prints features) c.in_ok-put_collection.ensures.utf8 in
    let reads = subst (λ s. IsText s (settled tree)) (sym text) canonical_reads in
    record {
      ok = text;
      back = collection_written features c.requires c.of_vec.result reads (laws.collection_reads features);
    }
