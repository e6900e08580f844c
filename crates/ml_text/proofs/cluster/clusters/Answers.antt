use Rattle.std.proofs.Common.{◌≡◌, ◌<◌, ◌≤◌, ◌*◌, map, length, sum_by}
use Rattle.std.specs.List.{concat}
use Rattle.ml_text.specs.Width.{advance_sum}
use Rattle.ml_text.proofs.ClusterLaws.{clusters_joined, clusters_low, clusters_total, of_answer}
use Rattle.ml_text.proofs.cluster.clusters.Goals as goal

pub returns-clause-joined : goal.returns-clause-joined
returns-clause-joined c =
    of_answer (λ all. concat (map (λ x. x.text) all) ≡ c.args.text.now) c.args.font.now c.args.text.now c.as_str.result.now c.cut.result c.as_str.ensures.bytes
    (clusters_joined c.args.font.now c.args.text.now c.as_str.ensures.utf8) c.cut.ensures

pub returns-clause-low : goal.returns-clause-low
returns-clause-low c =
    of_answer (λ all. sum_by (λ x. x.advance) all ≤ 65535 * length c.args.text.now) c.args.font.now c.args.text.now c.as_str.result.now c.cut.result c.as_str.ensures.bytes
    (clusters_low c.args.font.now c.args.text.now c.as_str.ensures.utf8) c.cut.ensures

pub returns-clause-total : goal.returns-clause-total
returns-clause-total c =
    of_answer (λ all. advance_sum c.args.font.now c.args.text.now < 18446744073709551616 → sum_by (λ x. x.advance) all ≡ advance_sum c.args.font.now c.args.text.now)
    c.args.font.now c.args.text.now c.as_str.result.now c.cut.result c.as_str.ensures.bytes
    (clusters_total c.args.font.now c.args.text.now c.as_str.ensures.utf8) c.cut.ensures
