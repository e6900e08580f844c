use Rattle.std.proofs.Common.{rules, ◌∙◌, ap, sym, refl, append-nil}
use Rattle.ml_spans.specs.Query.{wanted}
use Rattle.ml_spans.proofs.Forks.{top_of}
use Rattle.ml_spans.proofs.Results.{first_failed, last_failed, last_of_two_failed}
use Rattle.ml_spans.proofs.Wanted.{none_late, left_rising, right_rising, wanted_left, wanted_right, wanted_parts}
use Rattle.ml_spans.proofs.search.+collect.Goals as goal

pub returns-then-not-is_reached-clause-ok : goal.returns-then-not-is_reached-clause-ok
returns-then-not-is_reached-clause-ok g t c =
    let top = top_of c.in-Fork.is c.as_ref-node.ensures c.content_of-content.ensures c.requires.sound in
    rw (none_late g.K.Key.order g.E.Key.order c.args.query.now g.met.E.Key.total _ _ top.greatest (sym c.is_reached.ensures ∙ c.if-not-is_reached.true)) (sym (append-nil _))

pub collect-requires : goal.collect-requires
collect-requires g t c κs within =
    let top = top_of c.in-Fork.is c.as_ref-node.ensures c.content_of-content.ensures c.requires.sound in
    let rising = right_rising g.K.Key.order g.E.Key.order c.args.query.now g.V.Key.order g.met.K.Key.total g.met.E.Key.total g.met.V.Key.total _ _ _ _ top.parts c.requires.rising in
    search rules

pub collect-requires-in-Greater : goal.collect-requires-in-Greater
collect-requires-in-Greater g t c κs within =
    let top = top_of c.in-Fork.is c.as_ref-node.ensures c.content_of-content.ensures c.requires.sound in
    let rising = left_rising g.K.Key.order g.E.Key.order c.args.query.now g.V.Key.order g.met.K.Key.total g.met.E.Key.total g.met.V.Key.total _ _ _ _ top.parts c.requires.rising in
    search rules

pub collect-requires-in-Equal : goal.collect-requires-in-Equal
collect-requires-in-Equal g t c κs within =
    let top = top_of c.in-Fork.is c.as_ref-node.ensures c.content_of-content.ensures c.requires.sound in
    let rising = right_rising g.K.Key.order g.E.Key.order c.args.query.now g.V.Key.order g.met.K.Key.total g.met.E.Key.total g.met.V.Key.total _ _ _ _ top.parts c.requires.rising in
    search rules

pub collect-requires-in-Equal-2 : goal.collect-requires-in-Equal-2
collect-requires-in-Equal-2 g t c κs within =
    let top = top_of c.in-Fork.is c.as_ref-node.ensures c.content_of-content.ensures c.requires.sound in
    let rising = left_rising g.K.Key.order g.E.Key.order c.args.query.now g.V.Key.order g.met.K.Key.total g.met.E.Key.total g.met.V.Key.total _ _ _ _ top.parts c.requires.rising in
    search rules

pub collect-requires-in-Equal-2-2 : goal.collect-requires-in-Equal-2-2
collect-requires-in-Equal-2-2 g t c κs within =
    let top = top_of c.in-Fork.is c.as_ref-node.ensures c.content_of-content.ensures c.requires.sound in
    let rising = right_rising g.K.Key.order g.E.Key.order c.args.query.now g.V.Key.order g.met.K.Key.total g.met.E.Key.total g.met.V.Key.total _ _ _ _ top.parts c.requires.rising in
    search rules

pub returns-in-Less-clause-ok : goal.returns-in-Less-clause-ok
returns-in-Less-clause-ok g t c =
    let top = top_of c.in-Fork.is c.as_ref-node.ensures c.content_of-content.ensures c.requires.sound in
    let same = wanted_right g.K.Key.order g.E.Key.order c.args.query.now g.V.Key.order g.met.K.Key.total g.met.E.Key.total g.met.V.Key.total _ _ _ _ top.parts c.requires.rising c.in-Less.ensures in
    rw same c.collect.ensures.ok

pub returns-in-Less-clause-err : goal.returns-in-Less-clause-err
returns-in-Less-clause-err g t c =
    let top = top_of c.in-Fork.is c.as_ref-node.ensures c.content_of-content.ensures c.requires.sound in
    let same = wanted_right g.K.Key.order g.E.Key.order c.args.query.now g.V.Key.order g.met.K.Key.total g.met.E.Key.total g.met.V.Key.total _ _ _ _ top.parts c.requires.rising c.in-Less.ensures in
    rw same c.collect.ensures.err

pub returns-in-Greater-clause-ok : goal.returns-in-Greater-clause-ok
returns-in-Greater-clause-ok g t c =
    let top = top_of c.in-Fork.is c.as_ref-node.ensures c.content_of-content.ensures c.requires.sound in
    let same = wanted_left g.K.Key.order g.E.Key.order c.args.query.now g.V.Key.order g.met.K.Key.total g.met.E.Key.total g.met.V.Key.total _ _ _ _ top.parts c.requires.rising c.in-Greater.ensures in
    rw same c.collect-in-Greater.ensures.ok

pub returns-in_err-keep-in-Equal-clause-err : goal.returns-in_err-keep-in-Equal-clause-err
returns-in_err-keep-in-Equal-clause-err g t c = first_failed c.from_residual.result _ _ _ c.in_err-keep-in-Equal.ensures.err

pub returns-in_ok-keep-in-Equal-clause-err : goal.returns-in_ok-keep-in-Equal-clause-err
returns-in_ok-keep-in-Equal-clause-err g t c =
    let top = top_of c.in-Fork.is c.as_ref-node.ensures c.content_of-content.ensures c.requires.sound in
    let parts = wanted_parts g.K.Key.order g.E.Key.order c.args.query.now g.V.Key.order g.met.K.Key.total g.met.E.Key.total g.met.V.Key.total _ _ _ _ top.parts in
    let none = ap (wanted g.K.Key.order g.E.Key.order c.args.query.now) (c.if-is_leaf.ensures refl) in
    last_of_two_failed c.collect-in-Equal.result _ _ _ _ _ _ _ parts none c.in_ok-keep-in-Equal.ensures.ok c.collect-in-Equal.ensures.err

pub returns-in_ok-keep-in-Equal-2-clause-err : goal.returns-in_ok-keep-in-Equal-2-clause-err
returns-in_ok-keep-in-Equal-2-clause-err g t c =
    let top = top_of c.in-Fork.is c.as_ref-node.ensures c.content_of-content.ensures c.requires.sound in
    let parts = wanted_parts g.K.Key.order g.E.Key.order c.args.query.now g.V.Key.order g.met.K.Key.total g.met.E.Key.total g.met.V.Key.total _ _ _ _ top.parts in
    last_failed c.collect-in-Equal-2-2.result _ _ _ _ _ _ _ _ parts c.in_ok-collect-in-Equal-2.ensures.ok c.in_ok-keep-in-Equal-2.ensures.ok c.collect-in-Equal-2-2.ensures.err
