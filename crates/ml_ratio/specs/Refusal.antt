-- When a call refuses what it is given.
use Rattle.std.specs.Prelude.{◌≡◌, ◌⊎◌, Result, Err}

-- the fault comes only where the fact holds, and where it holds comes this fault or out of memory
abbrev pub RefusesExactly : {A E : Type 0} → Result A E → E → E → Type 0 → Type 0
RefusesExactly result fault memory Fact = (result ≡ Err fault → Fact) × (Fact → (result ≡ Err fault) ⊎ (result ≡ Err memory))
