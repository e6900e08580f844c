use Rattle.std.proofs.Common.{rules, refl, sym, ap, ◌∙◌, []}
use Rattle.ml_spans.specs.Sound.{entries, depth}
use Rattle.ml_spans.proofs.Entries.{entry_total}
use Rattle.ml_spans.proofs.Forks.{opened_in_place}
use Rattle.ml_spans.proofs.Placed.{placed, left_rises, right_rises, left_new, right_new, put_left, put_right}
use Rattle.ml_spans.proofs.Raised.{greatest_added}
use Rattle.ml_spans.proofs.insertion.+put.Goals as goal

pub put-requires : goal.put-requires
put-requires g t c κs within =
    let o = entry_total g.met.K.Key.total g.met.E.Key.total g.met.V.Key.total in
    let top = opened_in_place c.in-Fork.is c.deref_mut.ensures.value c.requires.sound in
    let p = placed c.in-Fork.is top (c.deref.ensures ∙ sym c.deref_mut.ensures.value) c.place_of.ensures in
    let rises = left_rises o p c.requires.rising in
    let new = left_new o p c.requires.new in
    search rules

pub put-requires-in_default : goal.put-requires-in_default
put-requires-in_default g t c κs within =
    let o = entry_total g.met.K.Key.total g.met.E.Key.total g.met.V.Key.total in
    let top = opened_in_place c.in-Fork.is c.deref_mut-in_default.ensures.value c.requires.sound in
    let p = placed c.in-Fork.is top (c.deref.ensures ∙ sym c.deref_mut-in_default.ensures.value) c.place_of.ensures in
    let rises = right_rises o p c.requires.rising in
    let new = right_new o p c.requires.new in
    search rules

pub grow-requires : goal.grow-requires
grow-requires g t c =
    let o = entry_total g.met.K.Key.total g.met.E.Key.total g.met.V.Key.total in
    let top = opened_in_place c.in-Fork.is c.deref_mut.ensures.value c.requires.sound in
    let p = placed c.in-Fork.is top (c.deref.ensures ∙ sym c.deref_mut.ensures.value) c.place_of.ensures in
    let deep = ap depth c.in-Fork.is ∙ top.deep in
    (search rules, greatest_added g.met.E.Key.total _ (put_left o p _ _ c.in-Less.is c.requires.rising c.put.ensures.added c.put.ensures.rising refl).0 (rw c.in-Fork.is top.greatest))

pub grow-requires-in_default : goal.grow-requires-in_default
grow-requires-in_default g t c =
    let o = entry_total g.met.K.Key.total g.met.E.Key.total g.met.V.Key.total in
    let top = opened_in_place c.in-Fork.is c.deref_mut-in_default.ensures.value c.requires.sound in
    let p = placed c.in-Fork.is top (c.deref.ensures ∙ sym c.deref_mut-in_default.ensures.value) c.place_of.ensures in
    let deep = ap depth c.in-Fork.is ∙ top.deep in (
      search rules,
      greatest_added g.met.E.Key.total _ (put_right o p _ _ c.in_default.not-Less c.requires.new c.requires.rising c.put-in_default.ensures.added c.put-in_default.ensures.rising refl).0
          (rw c.in-Fork.is top.greatest),
    )

pub returns-in-Leaf-clause-added : goal.returns-in-Leaf-clause-added
returns-in-Leaf-clause-added g t c = record { before = []; after = []; was = ap entries c.in-Leaf.is; is = c.single.ensures.entries }

pub returns-in-Less-clause-added : goal.returns-in-Less-clause-added
returns-in-Less-clause-added g t c =
    let o = entry_total g.met.K.Key.total g.met.E.Key.total g.met.V.Key.total in
    let top = opened_in_place c.in-Fork.is c.deref_mut.ensures.value c.requires.sound in
    let p = placed c.in-Fork.is top (c.deref.ensures ∙ sym c.deref_mut.ensures.value) c.place_of.ensures in
    (put_left o p _ _ c.in-Less.is c.requires.rising c.put.ensures.added c.put.ensures.rising c.grow.ensures.entries).0

pub returns-in-Less-clause-rising : goal.returns-in-Less-clause-rising
returns-in-Less-clause-rising g t c =
    let o = entry_total g.met.K.Key.total g.met.E.Key.total g.met.V.Key.total in
    let top = opened_in_place c.in-Fork.is c.deref_mut.ensures.value c.requires.sound in
    let p = placed c.in-Fork.is top (c.deref.ensures ∙ sym c.deref_mut.ensures.value) c.place_of.ensures in
    (put_left o p _ _ c.in-Less.is c.requires.rising c.put.ensures.added c.put.ensures.rising c.grow.ensures.entries).1

pub returns-in_default : goal.returns-in_default
returns-in_default g t c =
    let o = entry_total g.met.K.Key.total g.met.E.Key.total g.met.V.Key.total in
    let top = opened_in_place c.in-Fork.is c.deref_mut-in_default.ensures.value c.requires.sound in
    let p = placed c.in-Fork.is top (c.deref.ensures ∙ sym c.deref_mut-in_default.ensures.value) c.place_of.ensures in
    let done = put_right o p _ _ c.in_default.not-Less c.requires.new c.requires.rising c.put-in_default.ensures.added c.put-in_default.ensures.rising c.grow-in_default.ensures.entries in
    let deep = ap depth c.in-Fork.is ∙ top.deep in
    search rules
