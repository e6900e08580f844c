-- A door over TCP.
use Rattle.std.specs.Prelude.{ℕ, Bool, false, Option, None}

-- its port, whether it listens, whether a link is out, the faults
pub record TcpDoorState : Type 0 where
  pub port : Option ℕ
  pub listens : Bool
  pub out : Bool
  pub faults : ℕ

-- a door at which nothing was done yet
abbrev pub fresh_tcp_door : TcpDoorState
fresh_tcp_door = record { port = None; listens = false; out = false; faults = 0 }
