use Rattle.std.proofs.Common.{rules, refl}
use Rattle.ml_spans.specs.Order.{entry_order}
use Rattle.ml_spans.proofs.Entries.{entry_total, entry_exact}
use Rattle.ml_spans.proofs.Placed.{placed, left_rises, right_rises, take_left, take_right, take_middle}
use Rattle.ml_spans.proofs.Raised.{greatest_removed}
use Rattle.ml_spans.proofs.removal.+take.Goals as goal

pub take-left-requires : goal.take-left-requires
take-left-requires g t c κs within =
    let o = entry_total g.met.K.Key.total g.met.E.Key.total g.met.V.Key.total in
    let p = placed c.in-Fork.is c.opened-top.ensures.sides c.deref.ensures c.place_of.ensures in
    let rises = left_rises o p c.requires.rising in
    search rules

pub take-right-requires : goal.take-right-requires
take-right-requires g t c κs within =
    let o = entry_total g.met.K.Key.total g.met.E.Key.total g.met.V.Key.total in
    let p = placed c.in-Fork.is c.opened-top.ensures.sides c.deref.ensures c.place_of.ensures in
    let rises = right_rises o p c.requires.rising in
    search rules

pub shrunk-requires-clause-greatest : goal.shrunk-requires-clause-greatest
shrunk-requires-clause-greatest g t c =
    let o = entry_total g.met.K.Key.total g.met.E.Key.total g.met.V.Key.total in
    let p = placed c.in-Fork.is c.opened-top.ensures.sides c.deref.ensures c.place_of.ensures in
    let left = take_left o p _ _ _ c.in-Less.is c.requires.rising c.take-left.ensures.found refl in
    greatest_removed g.E.Key.order (entry_order g.K.Key.order g.E.Key.order g.V.Key.order) c.args.entry.now _ _ _ _ left (rw c.in-Fork.is c.opened-top.ensures.sides.greatest)

pub shrunk-requires-in-Greater-clause-greatest : goal.shrunk-requires-in-Greater-clause-greatest
shrunk-requires-in-Greater-clause-greatest g t c =
    let o = entry_total g.met.K.Key.total g.met.E.Key.total g.met.V.Key.total in
    let p = placed c.in-Fork.is c.opened-top.ensures.sides c.deref.ensures c.place_of.ensures in
    let left = take_right o p _ _ _ c.in-Greater.is c.requires.rising c.take-right.ensures.found refl in
    greatest_removed g.E.Key.order (entry_order g.K.Key.order g.E.Key.order g.V.Key.order) c.args.entry.now _ _ _ _ left (rw c.in-Fork.is c.opened-top.ensures.sides.greatest)

pub returns-in-Less-clause-found : goal.returns-in-Less-clause-found
returns-in-Less-clause-found g t c =
    let o = entry_total g.met.K.Key.total g.met.E.Key.total g.met.V.Key.total in
    let p = placed c.in-Fork.is c.opened-top.ensures.sides c.deref.ensures c.place_of.ensures in
    take_left o p _ _ _ c.in-Less.is c.requires.rising c.take-left.ensures.found c.shrunk.ensures.entries

pub returns-in-Greater-clause-found : goal.returns-in-Greater-clause-found
returns-in-Greater-clause-found g t c =
    let o = entry_total g.met.K.Key.total g.met.E.Key.total g.met.V.Key.total in
    let p = placed c.in-Fork.is c.opened-top.ensures.sides c.deref.ensures c.place_of.ensures in
    take_right o p _ _ _ c.in-Greater.is c.requires.rising c.take-right.ensures.found c.shrunk-in-Greater.ensures.entries

pub returns-in-Equal-clause-found : goal.returns-in-Equal-clause-found
returns-in-Equal-clause-found g t c =
    let o = entry_total g.met.K.Key.total g.met.E.Key.total g.met.V.Key.total in
    let p = placed c.in-Fork.is c.opened-top.ensures.sides c.deref.ensures c.place_of.ensures in
    take_middle o p (entry_exact g.met.K.Key.exact g.met.E.Key.exact g.met.V.Key.exact) _ c.in-Equal.is c.joined.ensures.entries
