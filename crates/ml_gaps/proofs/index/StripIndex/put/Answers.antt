use Rattle.std.proofs.Common.{◌<◌, length, arith}
use Rattle.std.proofs.lemmas.List.Elements.{All-push, All-set}
use Rattle.ml_gaps.specs.Bundle.{IsBundle}
use Rattle.ml_gaps.proofs.Bundling.{empty_bundle, empty_more, still_had, puts_same, puts_set}
use Rattle.ml_gaps.proofs.index.StripIndex.put.Goals as goal

pub loop-alloc-init : goal.loop-alloc-init
loop-alloc-init c = record {
  bundles = c.requires;
  same = λ other. ((λ h. h), (λ h. h));
}

pub loop-alloc-preserved : goal.loop-alloc-preserved
loop-alloc-preserved c =
    let bundles = c.loop-alloc.self.bundles.items in
    let so_far = c.loop-alloc.invariant in
    rw c.in_ok-push.ensures.items (
    record {
      bundles = All-push IsBundle bundles _ so_far.bundles (empty_bundle _ c.empty.ensures);
      same = λ other. (
        λ h. (so_far.same other).0 (empty_more bundles _ other c.empty.ensures h),
        λ h. still_had bundles _ other ((so_far.same other).1 h),
      );
    })

pub returns-clause-bundles : goal.returns-clause-bundles
returns-clause-bundles c = All-set IsBundle c.loop-alloc.self.bundles.items c.home-home.result c.put.new.self c.in_ok-put.ensures.bundle c.loop-alloc.invariant.bundles

pub returns-clause-strips : goal.returns-clause-strips
returns-clause-strips c =
    let bundles = c.loop-alloc.self.bundles.items in
    let many = c.len.ensures in
    let in' : c.home-home.result < length bundles = omega arith in
    puts_same c.args.strip c.args.self.now.bundles.items bundles _ c.loop-alloc.invariant.same
    (puts_set bundles c.home-home.result c.index_mut.result.now c.put.new.self c.args.strip in' c.index_mut.ensures.value c.in_ok-put.ensures.strips)
