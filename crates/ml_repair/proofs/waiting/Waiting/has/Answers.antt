use Rattle.std.proofs.Common.{◌≡◌, ◌∙◌, ℕ, ◌/◌, ◌%◌, Bool, List, false, eqb, length, get_or, sym, ap, arith}
use Rattle.std.specs.Int.{bit_at}
use Rattle.std.proofs.lemmas.List.{get_or_read}
use Rattle.std.proofs.lemmas.Nat.Bits.{shr_and_one}
use Rattle.ml_repair.proofs.Words.{length-waiting_in, waiting_at}
use Rattle.ml_repair.proofs.waiting.Waiting.has.Goals as goal

pub index-requires : goal.index-requires
index-requires c =
    let e = ap length c.self.view_is in
    let many = length-waiting_in c.self.inside.words.items c.self.inside.many in
    let room = c.self.invariant.room in
    omega (arith, c.self.inside.words.ok.0)

pub returns : goal.returns
returns c =
    let words = c.self.inside.words.items in
    let place = c.args.place in
    let e = ap length c.self.view_is in
    let many = length-waiting_in words c.self.inside.many in
    let room = c.self.invariant.room in
    let word : ℕ = c.index.result.now in
    let read : word ≡ get_or words (place / 64) 0 = get_or_read words (place / 64) word (omega arith) c.index.ensures 0 in
    ap (λ (b : ℕ). eqb b 1) (shr_and_one word (place % 64))
    ∙ ap (λ (v : ℕ). eqb (bit_at v (place % 64)) 1) read
    ∙ sym (waiting_at words c.self.inside.many place (omega arith))
    ∙ ap (λ (w : List Bool). get_or w place false) c.self.view_is
