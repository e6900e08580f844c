-- How wide a text is.
use Rattle.std.specs.Prelude.{ℕ, ◌*◌, List, max, sum_by}
use Rattle.std.specs.Int.{div_ceil}
use Rattle.std.specs.Str.{chars}
use Rattle.ml_style.specs.Font.{advance_of}
use Rattle.ml_style.specs.declared.font.Font.{Font}

-- how far all characters of a text move the pen, in units of the font
abbrev pub advance_sum : Font → List ℕ → ℕ
advance_sum font text = sum_by (advance_of font) (chars text)

-- the width of a text in pixels at a size: rounded up, and at least 1
abbrev pub width_of : Font → ℕ → List ℕ → ℕ
width_of font size text = max (div_ceil (advance_sum font text * size) font.units) 1
