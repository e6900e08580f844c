use Rattle.maplabel.proofs.OneTotals.{KnownMaps, one_totals}
use Rattle.maplabel.proofs.laws.one_totals.Goals as goal

pub returns : goal.returns
returns c =
    let known : KnownMaps = record {
      one_style = c.one_style.ensures;
      one_map = c.one_map.ensures;
      same_is_one = c.same_is_one.ensures;
      one_list = c.one_list.ensures;
      longest = c.l0.ensures;
      one_changes = c.one_changes.ensures;
      one_cost = c.one_cost.ensures;
      one_edit = c.one_edit.ensures;
    } in
    one_totals known
