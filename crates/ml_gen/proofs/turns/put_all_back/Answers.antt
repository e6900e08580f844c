use Rattle.std.proofs.Common.{◌≡◌, ◌+◌, ◌<◌, List, [], ◌∷◌, ◌++◌, length, get_or, take, map, pos, refl, sym, subst, arith}
use Rattle.std.proofs.lemmas.List.{get_or_default}
use Rattle.ml_gen.specs.Turn.{comes, Run}
use Rattle.ml_gen.specs.declared.counts.Counts.{Counts}
use Rattle.ml_gen.proofs.Runs.{turn_more, still_gone, one_longer, rev_after}
use Rattle.ml_gen.proofs.turns.put_all_back.Goals as goal

pub loop-group-init : goal.loop-group-init
loop-group-init g c = record {
  run = subst (λ (xs : List Counts). Run c.args.editor.now.state [] xs c.args.editor.now.state) (sym c.new-each.ensures.items) refl;
  gone = λ j d behind low. c.requires.gone j d low;
  longer = omega arith;
  rev = omega arith;
}

pub put_back-requires-clause-gone : goal.put_back-requires-clause-gone
put_back-requires-clause-gone g c =
    let lt : c.loop-group.group-index < length c.args.groups.now = omega arith in
    c.loop-group.invariant.gone c.loop-group.group-index (record { number = 0; x = pos 0; y = pos 0 }) (omega arith) lt

pub loop-group-preserved : goal.loop-group-preserved
loop-group-preserved g c =
    let groups = c.args.groups.now in
    let k = c.loop-group.group-index in
    let one = get_or c.args.groups.now c.loop-group.group-index (record { number = 0; x = pos 0; y = pos 0 }) in
    let lt : c.loop-group.group-index < length c.args.groups.now = omega arith in
    let is = get_or_default c.args.groups.now c.loop-group.group-index one (record { number = 0; x = pos 0; y = pos 0 }) lt in
    let old = c.loop-group.editor.state in
    let new = c.put_back.new.editor.state in
    let came = c.in_ok-put_back.ensures.state in
    let items : c.push.new.self.items ≡ c.loop-group.each.items ++ c.in_ok-put_back.field-0 ∷ [] = c.in_ok-push.ensures.items in
    let longer = one_longer groups c.requires.own c.requires.placed k one lt is old new came.0 came.1 came.2 in
    let next = rev_after groups c.requires.own c.requires.placed k one lt is old new came.0 came.1 came.2 in
    record {
      run =
          subst (λ (xs : List Counts). Run c.args.editor.now.state (map comes (take (c.loop-group.group-index + 1) c.args.groups.now)) xs c.put_back.new.editor.state) (sym items)
          (turn_more comes groups k one c.args.editor.now.state old new c.loop-group.each.items c.in_ok-put_back.field-0 lt is c.loop-group.invariant.run c.in_ok-put_back.ensures.turn);
      gone = λ j d behind low. still_gone groups c.requires.own c.requires.placed k one lt is old new came.0 came.1 came.2 j d low behind (c.loop-group.invariant.gone j d (omega arith) low);
      longer = (let before = c.loop-group.invariant.longer in omega (arith, longer, before));
      rev = (let before = c.loop-group.invariant.rev in omega (arith, next, before));
    }
