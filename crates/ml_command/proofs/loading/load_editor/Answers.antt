use Rattle.ml_io.specs.Files.{seen}
use Rattle.ml_command.proofs.MapViewing.{map_stopped}
use Rattle.ml_command.proofs.loading.load_editor.Goals as goal

pub returns-in_err-features-clause-stop : goal.returns-in_err-features-clause-stop
returns-in_err-features-clause-stop g c =
    let one = seen g.F.Files.told g.F.Files.faults g.F.Files.failed_name c.args.files.now c.load_style.new.files in
    let two = seen g.F.Files.told g.F.Files.faults g.F.Files.failed_name c.load_style.new.files c.load_map.new.files in
    map_stopped one two c.args.style.now c.args.map.now c.in_ok-classes.classes c.from_residual-in_err-features.result c.in_err-features.field-0.0
    c.in_ok-classes.ensures.same c.in_ok-classes.ensures.kept.0 c.in_ok-classes.ensures.ok c.from_residual-in_err-features.ensures.1 c.in_err-features.ensures.stop

pub returns-clause-ok : goal.returns-clause-ok
returns-clause-ok g c = (
  record {
    classes = c.in_ok-classes.classes;
    features = c.in_ok-features.features;
    has_style = c.in_ok-classes.ensures.ok;
    has_map = rw c.in_ok-classes.ensures.same at c.in_ok-features.ensures.ok;
    is = c.in_ok-site.ensures.state;
  },
  c.in_ok-site.ensures.none,
)
