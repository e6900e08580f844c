use Rattle.maplabel.proofs.Accepted.{KnownFiles}
use Rattle.maplabel.proofs.Completeness.{completes}
use Rattle.maplabel.proofs.laws.completes.Goals as goal

pub returns : goal.returns
returns g c r files words status same ready calm is =
    let known : KnownFiles = record {
      no_table_fault = c.one_table.ensures.faultless;
      one_table = c.one_table.ensures.one;
      no_slots_fault = c.one_list_of_slots.ensures.faultless;
      no_style_fault = c.style_or_fault.ensures;
      no_map_fault = c.map_or_fault.ensures;
      one_map = c.one_map.ensures;
      no_states_fault = c.one_reading.ensures.faultless;
    } in
    completes known files r same calm words status ready is
