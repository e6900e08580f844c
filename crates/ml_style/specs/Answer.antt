-- What each answer of the reader says of the bytes.
use Rattle.std.specs.Prelude.{ℕ, List, Result, Ok, Err}
use Rattle.ml_style.specs.Toml.{IsNoToml}
use Rattle.ml_style.specs.StyleTable.{IsStyle, IsFirstFault}
use Rattle.ml_style.specs.declared.fault.StyleFault.{StyleFault}
use Rattle.ml_style.specs.declared.fault.StyleFault.TheVariants.{NotToml, Memory}
use Rattle.ml_style.specs.declared.style.Style.{Style}

-- what a refusal says of the bytes; out of memory says nothing
abbrev pub IsRefusal : List ℕ → StyleFault → Type 0
IsRefusal bytes NotToml = IsNoToml bytes
IsRefusal bytes Memory = Unit {0}
IsRefusal bytes fault = IsFirstFault bytes fault

-- what an answer says of the bytes
abbrev pub IsAnswer : List ℕ → Result Style StyleFault → Type 0
IsAnswer bytes (Ok style) = IsStyle bytes style
IsAnswer bytes (Err fault) = IsRefusal bytes fault
