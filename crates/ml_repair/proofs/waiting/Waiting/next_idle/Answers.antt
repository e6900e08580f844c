use Rattle.std.proofs.Common.{◌≡◌, ◌∙◌, ℕ, ◌/◌, ◌^◌, ◌<◌, false, inl, inr, length, get_or, sym, ap, arith, rules, true≢false}
use Rattle.std.proofs.lemmas.Bool.{cases_lt}
use Rattle.std.proofs.lemmas.List.{get_or_read, get_or_past}
use Rattle.ml_repair.proofs.Words.{length-waiting_in, waiting_passed, waiting_before, found_idle}
use Rattle.ml_repair.proofs.waiting.Waiting.next_idle.Goals as goal

pub returns-then-idle-ne0-clause-within : goal.returns-then-idle-ne0-clause-within
returns-then-idle-ne0-clause-within c =
    let e = ap length c.self.view_is in
    let many = length-waiting_in c.self.inside.words.items c.self.inside.many in
    omega (arith, c.min.ensures)

pub returns-then-idle-ne0-clause-waiting : goal.returns-then-idle-ne0-clause-waiting
returns-then-idle-ne0-clause-waiting c =
    let words = c.self.inside.words.items in
    let at = c.loop-at.at in
    let room = c.self.invariant.room in
    let word : ℕ = c.index.result.now in
    let fits : word < 2 ^ 64 = search rules in
    let read : word ≡ get_or words (at / 64) 0 = get_or_read words (at / 64) word (omega arith) c.index.ensures 0 in
    let all = waiting_before words c.self.inside.many c.args.from at word read fits (omega arith) c.loop-at.invariant.waiting in
    rw (← c.self.view_is) (λ k behind until. all k behind (omega (arith, c.min.ensures)) (omega (arith, c.min.ensures)))

pub returns-then-idle-ne0-clause-found : goal.returns-then-idle-ne0-clause-found
returns-then-idle-ne0-clause-found c =
    let words = c.self.inside.words.items in
    let at = c.loop-at.at in
    let room = c.self.invariant.room in
    let word : ℕ = c.index.result.now in
    let fits : word < 2 ^ 64 = search rules in
    let read : word ≡ get_or words (at / 64) 0 = get_or_read words (at / 64) word (omega arith) c.index.ensures 0 in
    let e = ap length c.self.view_is in
    let many = length-waiting_in words c.self.inside.many in
    elim (cases_lt c.min.result c.self.inside.many) [
      | inl within ↦
          rw (← c.self.view_is)
          (found_idle words c.self.inside.many c.args.from at word read fits (omega arith) c.min.result (omega (arith, c.min.ensures)))
      | inr past ↦ λ waits. true≢false (sym waits ∙ get_or_past c.args.self.now c.min.result false (omega arith))
    ]

pub loop-at-preserved : goal.loop-at-preserved
loop-at-preserved c =
    let words = c.self.inside.words.items in
    let at = c.loop-at.at in
    let room = c.self.invariant.room in
    let word : ℕ = c.index.result.now in
    let fits : word < 2 ^ 64 = search rules in
    let read : word ≡ get_or words (at / 64) 0 = get_or_read words (at / 64) word (omega arith) c.index.ensures 0 in
    let behind = c.loop-at.invariant.behind in
    record {
      behind = omega arith;
      waiting = waiting_passed words c.self.inside.many c.args.from at word read fits c.loop-at.invariant.waiting (omega arith);
    }

pub returns-clause-behind : goal.returns-clause-behind
returns-clause-behind c =
    let e = ap length c.self.view_is in
    let many = length-waiting_in c.self.inside.words.items c.self.inside.many in
    omega arith

pub returns-clause-within : goal.returns-clause-within
returns-clause-within c =
    let e = ap length c.self.view_is in
    let many = length-waiting_in c.self.inside.words.items c.self.inside.many in
    omega arith

pub returns-clause-waiting : goal.returns-clause-waiting
returns-clause-waiting c =
    let all = c.loop-at.invariant.waiting in
    rw (← c.self.view_is) (λ k behind until. all k behind (omega arith) until)

pub returns-clause-found : goal.returns-clause-found
returns-clause-found c waits =
    let e = ap length c.self.view_is in
    let many = length-waiting_in c.self.inside.words.items c.self.inside.many in
    true≢false (sym waits ∙ get_or_past c.args.self.now c.self.inside.many false (omega arith))
