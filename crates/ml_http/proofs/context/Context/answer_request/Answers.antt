use Rattle.std.proofs.Common.{ap, map, ◌∙◌}
use Rattle.std.proofs.lemmas.Result.{IfOk-weaker}
use Rattle.ml_http.specs.Routes.{pair_bytes, query_pairs}
use Rattle.ml_http.proofs.StepLemmas.{read_answered, tile_answered, no_route_answered}
use Rattle.ml_http.proofs.context.Context.answer_request.Goals as goal

pub returns-in_ok-pairs-in-Ok-Read-clause-ok : goal.returns-in_ok-pairs-in-Ok-Read-clause-ok
returns-in_ok-pairs-in-Ok-Read-clause-ok g c =
    let pairs = c.in_ok-pairs-in-Ok-Read.ensures ∙ ap query_pairs c.query_asked.ensures in
    IfOk-weaker c.read.result _ _
    (λ bytes read. read_answered _ c.hear_nothing.ensures c.args.request.now _ c.in-Ok-Read.route c.closes.result (map pair_bytes c.deref.result.now) _ bytes.items
    (rw c.in-Ok-Read.field-0-is at c.in-Ok-Read.ensures) c.closes.ensures (ap (map pair_bytes) c.deref.ensures.value ∙ pairs) read)
    c.read.ensures

pub returns-in_ok-pairs-in-Ok-Tile-clause-ok : goal.returns-in_ok-pairs-in-Ok-Tile-clause-ok
returns-in_ok-pairs-in-Ok-Tile-clause-ok g c =
    let pairs = c.in_ok-pairs-in-Ok-Tile.ensures ∙ ap query_pairs c.query_asked-in-Ok-Tile.ensures in
    IfOk-weaker c.tile_reply.result _ _
    (λ bytes told. tile_answered _ c.hear_nothing.ensures c.args.request.now _ c.closes-in-Ok-Tile.result (map pair_bytes c.deref-in-Ok-Tile.result.now) told.0 _ _ bytes.items
    (rw c.in-Ok-Tile.field-0-is at c.in-Ok-Tile.ensures) c.closes-in-Ok-Tile.ensures (ap (map pair_bytes) c.deref-in-Ok-Tile.ensures.value ∙ pairs) told.1 told.2)
    c.tile_reply.ensures.ok

pub returns-in-Err-clause-ok : goal.returns-in-Err-clause-ok
returns-in-Err-clause-ok g c =
    IfOk-weaker c.no_route_reply.result _ _
    (λ bytes text. no_route_answered _ c.hear_nothing.ensures c.args.request.now _ c.in-Err.none c.closes-in-Err.result _ bytes.items
    c.in-Err.ensures c.closes-in-Err.ensures text)
    c.no_route_reply.ensures
