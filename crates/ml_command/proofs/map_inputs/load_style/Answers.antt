use Rattle.ml_io.specs.Files.{seen}
use Rattle.ml_command.proofs.MapViewing.{style_stopped}
use Rattle.ml_command.proofs.map_inputs.load_style.Goals as goal

pub returns-clause-stop : goal.returns-clause-stop
returns-clause-stop g c =
    let refused = rw c.in-Err.is at c.read_style.ensures.fault in
    style_stopped (seen g.F.Files.told g.F.Files.faults g.F.Files.failed_name c.args.files.now c.load.new.files) c.args.name.now c.in_ok-bytes.bytes.items
    c.in-Err.fault c.style_refusal.result c.in_ok-bytes.ensures.ok (rw c.deref.ensures.value at refused) c.style_refusal.ensures
