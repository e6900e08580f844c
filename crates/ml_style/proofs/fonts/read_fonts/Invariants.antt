use Rattle.std.proofs.Common.{◌≡◌, ◌++◌, List}
use Rattle.std.specs.String.{string_cmp}
use Rattle.std.specs.Map.{keys_of}
use Rattle.std.specs.List.Sorted.{IsStrictlySortedBy}
use Rattle.toml.specs.View.{table_view, members_view}
use Rattle.ml_style.specs.Fonts.{font_faults, AreFonts}
use Rattle.ml_style.specs.declared.fonts.NamedFont.{NamedFont}
use Rattle.ml_style.proofs.fonts.read_fonts.Given as goal

abbrev pub invariant-loop-name : goal.invariant-loop-name
invariant-loop-name l = record {
  sorted : IsStrictlySortedBy string_cmp (keys_of l.name-iterator);
  faults : font_faults (members_view l.name-iterator) ≡ font_faults (table_view l.table);
  fonts : (rest : List NamedFont) → AreFonts (members_view l.name-iterator) rest → AreFonts (table_view l.table) (l.fonts ++ rest);
}
