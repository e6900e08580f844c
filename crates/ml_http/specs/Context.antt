-- What answering works on.
use Rattle.std.specs.Prelude.{◌≡◌}
use Rattle.ml_http.specs.declared.context.Context.{Context}
use Rattle.ml_http.specs.Link.{LinkState, lent}

-- what stands behind the references that are lent
abbrev pub state_of : {W L : Type 0} → Context W L → LinkState W
state_of context = lent context.editor.now context.crowd.now context.tiles.now context.steps.now

-- the same references are lent
pub record IsSameLoan {W L : Type 0} (old new : Context W L) : Type 0 where
  pub editor : new.editor.ghost_name ≡ old.editor.ghost_name
  pub crowd : new.crowd.ghost_name ≡ old.crowd.ghost_name
  pub tiles : new.tiles.ghost_name ≡ old.tiles.ghost_name
  pub steps : new.steps.ghost_name ≡ old.steps.ghost_name
