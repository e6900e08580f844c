use Rattle.std.proofs.Common.{◌≡◌, ℕ, ◌/◌, ◌^◌, ◌<◌, length, get_or, ap, arith, rules}
use Rattle.std.proofs.lemmas.List.{get_or_read}
use Rattle.ml_repair.proofs.Words.{length-waiting_in, idle_passed, idle_before, found_waiting}
use Rattle.ml_repair.proofs.waiting.Waiting.next.Goals as goal

pub returns-then-waiting-ne0-clause-within : goal.returns-then-waiting-ne0-clause-within
returns-then-waiting-ne0-clause-within c =
    let e = ap length c.self.view_is in
    let many = length-waiting_in c.self.inside.words.items c.self.inside.many in
    omega (arith, c.min.ensures)

pub returns-then-waiting-ne0-clause-idle : goal.returns-then-waiting-ne0-clause-idle
returns-then-waiting-ne0-clause-idle c =
    let words = c.self.inside.words.items in
    let at = c.loop-at.at in
    let room = c.self.invariant.room in
    let word : ℕ = c.index.result.now in
    let fits : word < 2 ^ 64 = search rules in
    let read : word ≡ get_or words (at / 64) 0 = get_or_read words (at / 64) word (omega arith) c.index.ensures 0 in
    let none = idle_before words c.self.inside.many c.args.from at word read fits (omega arith) c.loop-at.invariant.idle in
    rw (← c.self.view_is) (λ k behind until. none k behind (omega (arith, c.min.ensures)))

pub returns-then-waiting-ne0-clause-found : goal.returns-then-waiting-ne0-clause-found
returns-then-waiting-ne0-clause-found c within =
    let words = c.self.inside.words.items in
    let at = c.loop-at.at in
    let room = c.self.invariant.room in
    let word : ℕ = c.index.result.now in
    let fits : word < 2 ^ 64 = search rules in
    let read : word ≡ get_or words (at / 64) 0 = get_or_read words (at / 64) word (omega arith) c.index.ensures 0 in
    let e = ap length c.self.view_is in
    let many = length-waiting_in words c.self.inside.many in
    rw (← c.self.view_is) (found_waiting words c.self.inside.many c.args.from at word read fits (omega arith) c.min.result (omega (arith, c.min.ensures)) (omega arith))

pub loop-at-preserved : goal.loop-at-preserved
loop-at-preserved c =
    let words = c.self.inside.words.items in
    let at = c.loop-at.at in
    let room = c.self.invariant.room in
    let word : ℕ = c.index.result.now in
    let read : word ≡ get_or words (at / 64) 0 = get_or_read words (at / 64) word (omega arith) c.index.ensures 0 in
    let behind = c.loop-at.invariant.behind in
    record {
      behind = omega arith;
      idle = idle_passed words c.self.inside.many c.args.from at word read c.loop-at.invariant.idle (omega arith);
    }

pub returns-clause-behind : goal.returns-clause-behind
returns-clause-behind c =
    let e = ap length c.self.view_is in
    let many = length-waiting_in c.self.inside.words.items c.self.inside.many in
    omega arith

pub returns-clause-within : goal.returns-clause-within
returns-clause-within c =
    let e = ap length c.self.view_is in
    let many = length-waiting_in c.self.inside.words.items c.self.inside.many in
    omega arith

pub returns-clause-found : goal.returns-clause-found
returns-clause-found c within =
    let e = ap length c.self.view_is in
    let many = length-waiting_in c.self.inside.words.items c.self.inside.many in
    absurd (omega arith)
