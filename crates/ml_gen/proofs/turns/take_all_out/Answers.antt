use Rattle.std.proofs.Common.{◌≡◌, ◌+◌, ◌<◌, List, [], ◌∷◌, ◌++◌, length, get_or, take, map, pos, sym, subst, arith}
use Rattle.std.proofs.lemmas.List.{get_or_default}
use Rattle.ml_gen.specs.Turn.{goes, Run}
use Rattle.ml_gen.specs.declared.counts.Counts.{Counts}
use Rattle.ml_gen.proofs.Runs.{turn_more, still_there, now_gone, one_fewer, next_rev}
use Rattle.ml_gen.proofs.turns.take_all_out.Goals as goal

pub loop-group-preserved : goal.loop-group-preserved
loop-group-preserved g c =
    let groups = c.args.groups.now in
    let k = c.loop-group.group-index in
    let one = get_or c.args.groups.now c.loop-group.group-index (record { number = 0; x = pos 0; y = pos 0 }) in
    let lt : c.loop-group.group-index < length c.args.groups.now = omega arith in
    let is = get_or_default c.args.groups.now c.loop-group.group-index one (record { number = 0; x = pos 0; y = pos 0 }) lt in
    let old = c.loop-group.editor.state in
    let new = c.take_out.new.editor.state in
    let goes_out = c.in_ok-take_out.ensures.state in
    let items : c.push.new.self.items ≡ c.loop-group.each.items ++ c.in_ok-take_out.field-0 ∷ [] = c.in_ok-push.ensures.items in
    let fewer = one_fewer groups c.requires.own c.requires.placed k one lt is old new goes_out
    (c.loop-group.invariant.there c.loop-group.group-index (record { number = 0; x = pos 0; y = pos 0 }) (omega arith) lt) in
    let next = next_rev groups c.requires.own c.requires.placed k one lt is old new goes_out in
    record {
      run =
          subst (λ (xs : List Counts). Run c.args.editor.now.state (map goes (take (c.loop-group.group-index + 1) c.args.groups.now)) xs c.take_out.new.editor.state) (sym items)
          (turn_more goes groups k one c.args.editor.now.state old new c.loop-group.each.items c.in_ok-take_out.field-0 lt is c.loop-group.invariant.run c.in_ok-take_out.ensures.turn);
      there = λ j d behind low. still_there groups c.requires.own c.requires.placed k one lt is old new goes_out j d low behind (c.loop-group.invariant.there j d (omega arith) low);
      gone = now_gone groups c.requires.own c.requires.placed k one lt is old new goes_out c.loop-group.invariant.gone;
      fewer = (let before = c.loop-group.invariant.fewer in omega (arith, fewer, before));
      rev = (let before = c.loop-group.invariant.rev in omega (arith, next, before));
    }

pub returns-clause-gone : goal.returns-clause-gone
returns-clause-gone g c k d lt = c.loop-group.invariant.gone k d (omega (arith, lt))
