-- How far a character moves the pen.
use Rattle.std.specs.Prelude.{ℕ, ◌==◌, find}
use Rattle.std.specs.Option.{option_map_or}
use Rattle.ml_style.specs.declared.font.Font.{Font}

-- how far a character moves the pen: its own advance, or the font's fallback
abbrev pub advance_of : Font → ℕ → ℕ
advance_of font ch = option_map_or (λ a. a.width) (find (λ a. a.ch == ch) font.advances) font.fallback
