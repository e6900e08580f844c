use Rattle.std.proofs.Common.{◌≡◌, ◌∙◌, sym, ap, subst, [], ◌++◌, append-nil}
use Rattle.ml_json.specs.Answer.{IsText}
use Rattle.ml_json.specs.Canonical.{canonical, settled}
use Rattle.ml_geojson.specs.Text.{feature_tree}
use Rattle.ml_geojson.proofs.Written.{feature_written}
use Rattle.ml_geojson.proofs.writer.write_feature.Goals as goal

pub returns : goal.returns
returns c =
    let laws = c.trees_read_back.ensures in
    let feature = c.args.feature.now in
    let tree = feature_tree feature in
    let text : c.of_vec.result ≡ canonical tree = c.of_vec.ensures ∙ sym (append-nil c.put_text.new.out.items)
    ∙ c.in_ok-put_text.ensures.text [] ∙ ap (λ s. s ++ canonical tree) c.new-out.ensures.items in
    let canonical_reads = c.printed_reads_back.ensures tree (laws.feature_prints feature) c.in_ok-put_text.ensures.utf8 in
    let reads = subst (λ s. IsText s (settled tree)) (sym text) canonical_reads in
    record {
      ok = text;
      back = feature_written feature c.of_vec.result reads (laws.feature_reads feature);
    }
