use Rattle.std.proofs.Common.{rules, ◌∙◌, sym}
use Rattle.ml_spans.proofs.Forks.{top_of}
use Rattle.ml_spans.proofs.Wanted.{none_late, left_rising, right_rising, wanted_left, wanted_right, found_left, found_middle}
use Rattle.ml_spans.proofs.search.+has_wanted.Goals as goal

pub returns-then-not-is_reached : goal.returns-then-not-is_reached
returns-then-not-is_reached g t c =
    let top = top_of c.in-Fork.is c.as_ref-node.ensures c.content_of-content.ensures c.requires.sound in
    none_late g.K.Key.order g.E.Key.order c.args.query.now g.met.E.Key.total _ _ top.greatest (sym c.is_reached.ensures ∙ c.if-not-is_reached.true)

pub has_wanted-requires : goal.has_wanted-requires
has_wanted-requires g t c κs within =
    let top = top_of c.in-Fork.is c.as_ref-node.ensures c.content_of-content.ensures c.requires.sound in
    let rising = right_rising g.K.Key.order g.E.Key.order c.args.query.now g.V.Key.order g.met.K.Key.total g.met.E.Key.total g.met.V.Key.total _ _ _ _ top.parts c.requires.rising in
    search rules

pub has_wanted-requires-in-Greater : goal.has_wanted-requires-in-Greater
has_wanted-requires-in-Greater g t c κs within =
    let top = top_of c.in-Fork.is c.as_ref-node.ensures c.content_of-content.ensures c.requires.sound in
    let rising = left_rising g.K.Key.order g.E.Key.order c.args.query.now g.V.Key.order g.met.K.Key.total g.met.E.Key.total g.met.V.Key.total _ _ _ _ top.parts c.requires.rising in
    search rules

pub has_wanted-requires-in-Equal-2 : goal.has_wanted-requires-in-Equal-2
has_wanted-requires-in-Equal-2 g t c κs within =
    let top = top_of c.in-Fork.is c.as_ref-node.ensures c.content_of-content.ensures c.requires.sound in
    let rising = left_rising g.K.Key.order g.E.Key.order c.args.query.now g.V.Key.order g.met.K.Key.total g.met.E.Key.total g.met.V.Key.total _ _ _ _ top.parts c.requires.rising in
    search rules

pub has_wanted-requires-else-has_wanted : goal.has_wanted-requires-else-has_wanted
has_wanted-requires-else-has_wanted g t c κs within =
    let top = top_of c.in-Fork.is c.as_ref-node.ensures c.content_of-content.ensures c.requires.sound in
    let rising = right_rising g.K.Key.order g.E.Key.order c.args.query.now g.V.Key.order g.met.K.Key.total g.met.E.Key.total g.met.V.Key.total _ _ _ _ top.parts c.requires.rising in
    search rules

pub returns-in-Less : goal.returns-in-Less
returns-in-Less g t c =
    let top = top_of c.in-Fork.is c.as_ref-node.ensures c.content_of-content.ensures c.requires.sound in
    rw (wanted_right g.K.Key.order g.E.Key.order c.args.query.now g.V.Key.order g.met.K.Key.total g.met.E.Key.total
    g.met.V.Key.total _ _ _ _ top.parts c.requires.rising c.in-Less.ensures) c.has_wanted.ensures

pub returns-in-Greater : goal.returns-in-Greater
returns-in-Greater g t c =
    let top = top_of c.in-Fork.is c.as_ref-node.ensures c.content_of-content.ensures c.requires.sound in
    rw (wanted_left g.K.Key.order g.E.Key.order c.args.query.now g.V.Key.order g.met.K.Key.total g.met.E.Key.total
    g.met.V.Key.total _ _ _ _ top.parts c.requires.rising c.in-Greater.ensures) c.has_wanted-in-Greater.ensures

pub returns-in-Equal : goal.returns-in-Equal
returns-in-Equal g t c =
    let top = top_of c.in-Fork.is c.as_ref-node.ensures c.content_of-content.ensures c.requires.sound in
    found_middle g.K.Key.order g.E.Key.order c.args.query.now g.V.Key.order g.met.K.Key.total g.met.E.Key.total g.met.V.Key.total _ _ _ _ top.parts c.in-Equal.ensures (sym c.if-is_reached.ensures)

pub returns-then-has_wanted : goal.returns-then-has_wanted
returns-then-has_wanted g t c =
    let top = top_of c.in-Fork.is c.as_ref-node.ensures c.content_of-content.ensures c.requires.sound in
    let found = found_left g.K.Key.order g.E.Key.order c.args.query.now g.V.Key.order g.met.K.Key.total g.met.E.Key.total g.met.V.Key.total _ _ _ _ top.parts in
    search rules
