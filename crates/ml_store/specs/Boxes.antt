use Rattle.std.specs.Prelude.{List, map, Box, box_value}
use Rattle.std.specs.declared.alloc.Global.{Global}
use Rattle.ml_store.specs.declared.row.Row.{Row}

-- the rows in boxes
abbrev pub unboxed : List (Box Row Global) → List Row
unboxed boxes = map box_value boxes
