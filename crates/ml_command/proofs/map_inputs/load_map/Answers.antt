use Rattle.std.proofs.Common.{arith}
use Rattle.ml_io.specs.Files.{seen}
use Rattle.ml_command.proofs.MapViewing.{map_full}
use Rattle.ml_command.proofs.map_inputs.load_map.Goals as goal

pub returns-then-len-gt-MOST_LABELS-clause-stop :
    goal.returns-then-len-gt-MOST_LABELS-clause-stop
returns-then-len-gt-MOST_LABELS-clause-stop g c =
    let saw = seen g.F.Files.told g.F.Files.faults g.F.Files.failed_name c.args.files.now c.load.new.files in
    map_full saw c.args.name.now c.in_ok-bytes.bytes.items c.in-Ok.features c.full_refusal.result c.in_ok-bytes.ensures.ok
    (rw c.deref.ensures.value at c.in-Ok.ensures.ok) (omega (arith, c.if-len-gt-MOST_LABELS.true, c.len.ensures)) c.full_refusal.ensures
