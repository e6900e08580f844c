-- The parts of a class that its reader reads one after another.
use Rattle.std.specs.Prelude.{◌≡◌, List, ℕ, Some, IsSome, codes}
use Rattle.toml.specs.Data.{Members}
use Rattle.ml_ratio.specs.Fraction.{value_of, IsLess}
use Rattle.ml_ratio.specs.declared.ratio.Ratio.{Ratio}
use Rattle.ml_style.specs.Fonts.{font_named}
use Rattle.ml_style.specs.ClassTable.{kind_in, font_in, size_in, priority_in, ref_for, offset_for, min_in, max_in, AreSame, IsRuleOf}
use Rattle.ml_style.specs.declared.class.Kind.{Kind}
use Rattle.ml_style.specs.declared.parts.Look.{Look}
use Rattle.ml_style.specs.declared.parts.Placing.{Placing}
use Rattle.ml_style.specs.declared.fonts.NamedFont.{NamedFont}

-- to which features a class applies, and how their text looks
pub record IsLookIn (table : Members) (look : Look) : Type 0 where
  pub kind : kind_in table ≡ Some look.kind
  pub rule : IsRuleOf table look.rule
  pub font : font_in table ≡ Some look.font.now
  pub size : size_in table ≡ Some look.size
  pub priority : priority_in table ≡ Some look.priority

-- the scale at which the text of a class of this kind is fitted, and where a label's box is
pub record IsPlacingIn (kind : Kind) (table : Members) (placing : Placing) : Type 0 where
  pub scale_ref : ref_for (Some kind) table ≡ Some placing.scale_ref
  pub dx : offset_for (Some kind) (codes "dx") table ≡ Some placing.dx
  pub dy : offset_for (Some kind) (codes "dy") table ≡ Some placing.dy

-- the bounds of the range of a class
pub record IsRangeIn (table : Members) (range : Ratio × Ratio) : Type 0 where
  pub min : AreSame (min_in table) (Some range.0)
  pub max : AreSame (max_in table) (Some range.1)

-- the font of this name is there, and the range has a scale
pub record IsUsable (fonts : List NamedFont) (font : List ℕ) (min max : Ratio) : Type 0 where
  pub known : IsSome (font_named fonts font)
  pub range : IsLess (value_of min) (value_of max)
