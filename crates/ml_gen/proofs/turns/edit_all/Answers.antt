use Rattle.std.proofs.Common.{◌≡◌, List, ◌++◌, map, ap, ◌∙◌}
use Rattle.ml_gen.specs.Turn.{goes, comes}
use Rattle.ml_gen.specs.declared.counts.Counts.{Counts}
use Rattle.ml_gen.proofs.Runs.{run_both}
use Rattle.ml_gen.proofs.turns.edit_all.Goals as goal

pub returns : goal.returns
returns g c =
    let items : c.extend_from_slice.new.self.items ≡ c.in_ok-each.each.items ++ c.in_ok-others.others.items =
    c.in_ok-extend_from_slice.ensures.items ∙ ap (λ (ys : List Counts). c.in_ok-each.each.items ++ ys) c.deref.ensures.value in
    record {
      run =
          run_both c.args.editor.now.state c.take_all_out.new.editor.state c.put_all_back.new.editor.state
          (map goes c.args.groups.now) (map comes c.args.groups.now) c.in_ok-each.each.items c.in_ok-others.others.items
          c.extend_from_slice.new.self.items items c.in_ok-each.ensures.run c.in_ok-others.ensures.run;
    }
