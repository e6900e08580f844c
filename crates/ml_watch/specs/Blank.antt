-- Texts that were made in advance.
use Rattle.std.specs.Prelude.{◌≡◌, ◌≤◌, [], String, string_bytes, string_capacity}
use Rattle.std.specs.declared.alloc.Global.{Global}

-- a text without bytes and with room for an id of 64 bytes
pub record IsBlank (text : String Global) : Type 0 where
  pub none : string_bytes text ≡ []
  pub room : 64 ≤ string_capacity text
