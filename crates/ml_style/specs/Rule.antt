-- Rules of classes: a key with a text.
use Rattle.std.specs.Prelude.{Option, Some, None}
use Rattle.std.specs.Coded.{Unit-prop}
use denote.Struct.Props as logic
use Rattle.ml_ratio.specs.declared.feature.Prop.{Prop}
use Rattle.ml_ratio.specs.declared.feature.Scalar.{Scalar}
use Rattle.ml_ratio.specs.declared.feature.Scalar.TheVariants.{Null, Flag, Num, Str}

-- the value is a string
abbrev pub IsString : Scalar → Type 0
IsString Null = ⊥
IsString (Flag b) = ⊥
IsString (Num text) = ⊥
IsString (Str text) = Unit {0}

-- a rule, if there is one, asks for a string
abbrev pub IsRule : Option Prop → Type 0
IsRule None = Unit {0}
IsRule (Some rule) = IsString rule.value

IsString-prop : (value : Scalar) → IsProp (IsString value)
IsString-prop Null = Prim.hlevel logic.props
IsString-prop (Flag b) = Prim.hlevel logic.props
IsString-prop (Num text) = Prim.hlevel logic.props
IsString-prop (Str text) = Unit-prop

-- it holds in at most one way
pub IsRule-prop : (rule : Option Prop) → IsProp (IsRule rule)
IsRule-prop None = Unit-prop
IsRule-prop (Some rule) = IsString-prop rule.value
