use Rattle.std.proofs.Common.{◌≡◌, ℕ, ◌/◌, length, get_or, ap, arith}
use Rattle.std.proofs.lemmas.List.{get_or_read}
use Rattle.ml_repair.proofs.Words.{length-waiting_in, waiting_woken}
use Rattle.ml_repair.proofs.waiting.Waiting.wake.Goals as goal

pub index-word-requires : goal.index-word-requires
index-word-requires c =
    let e = ap length c.self.view_is in
    let many = length-waiting_in c.self.inside.words.items c.self.inside.many in
    let room = c.self.invariant.room in
    omega (arith, c.self.inside.words.ok.0)

pub index_mut-requires : goal.index_mut-requires
index_mut-requires c =
    let e = ap length c.self.view_is in
    let many = length-waiting_in c.self.inside.words.items c.self.inside.many in
    let room = c.self.invariant.room in
    omega (arith, c.self.inside.words.ok.0)

pub returns : goal.returns
returns c =
    let words = c.self.inside.words.items in
    let e = ap length c.self.view_is in
    let many = length-waiting_in words c.self.inside.many in
    let room = c.self.invariant.room in
    let word : ℕ = c.index-word.result.now in
    let read : word ≡ get_or words (c.args.place / 64) 0 = get_or_read words (c.args.place / 64) word (omega arith) c.index-word.ensures 0 in
    rw (← c.self.view_is) (waiting_woken words c.self.inside.many c.args.place word (omega arith) room read)
