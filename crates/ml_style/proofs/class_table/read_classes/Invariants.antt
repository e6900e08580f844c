use Rattle.std.proofs.Common.{◌≡◌, ◌++◌, List, drop, All}
use Rattle.toml.specs.View.{items_view}
use Rattle.ml_style.specs.Fonts.{names_of, HasFont}
use Rattle.ml_style.specs.ClassFaults.{classes_faults, AreClasses}
use Rattle.ml_style.specs.declared.class.Class.{Class}
use Rattle.ml_style.proofs.class_table.read_classes.Given as goal

abbrev pub invariant-loop-k : goal.invariant-loop-k
invariant-loop-k l = record {
  faults : classes_faults l.version (names_of l.fonts) l.k (items_view (drop l.k l.values)) ≡ classes_faults l.version (names_of l.fonts) 0 (items_view l.values);
  classes : (rest : List Class) → AreClasses l.version (items_view (drop l.k l.values)) rest → AreClasses l.version (items_view l.values) (l.classes ++ rest);
  known : All (HasFont l.fonts) l.classes;
}
