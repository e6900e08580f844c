-- Sessions that are one.
use Rattle.std.specs.Prelude.{◌≡◌, ℕ, List, [], ◌∷◌, length, map, Option, Some}
use Rattle.ml_io.specs.Calls.{LinkEnds, Passed}
use Rattle.ml_io.specs.declared.link.Link.{Link}
use Rattle.ml_watch.specs.Hearing.{Hearing}
use Rattle.ml_editor.specs.State.{IsState}
use Rattle.ml_http.specs.Link.{LinkState}
use Rattle.ml_http.specs.Once.{AreLikeStates, EndsWell}
use Rattle.ml_http.specs.Step.{LinkAnswer}
use Rattle.ml_serve.specs.Headline.{Headline}
use Rattle.ml_serve.specs.Session.{Visit}

-- each link tells the bytes that it brings
abbrev pub AreTold : {I O : Type 0} → LinkEnds I O → List (Visit I O LinkAnswer) → Type 0
AreTold ends [] = Unit {0}
AreTold ends (visit ∷ visits) = ((bytes : List ℕ) × (ends.left visit.came.source ≡ Some bytes)) × AreTold ends visits

-- each connection ended by neither a fault nor a lack of memory
abbrev pub AllEndWell : {I O : Type 0} → List (Visit I O LinkAnswer) → Type 0
AllEndWell [] = Unit {0}
AllEndWell (visit ∷ visits) = EndsWell visit.end × AllEndWell visits

-- what each link was written, as its sink tells it
abbrev pub written_in : {I O : Type 0} → LinkEnds I O → List (Visit I O LinkAnswer) → List (Option (List ℕ))
written_in ends visits = map (λ v. ends.written v.gone.sink) visits

-- a session, by what its headline says: from where to where, through which door, and the connections that were served
pub record Session (W I O : Type 0) : Type 0 where
  pub first : LinkState W
  pub last : LinkState W
  pub door : Passed I O
  pub visits : List (Visit I O LinkAnswer)

-- two sessions over the same links, which tell what they bring, from states that are alike; both served as many, and each connection ended well
pub record AreOverTheSame {W I O : Type 0} (hearing : W → Hearing) (ends : LinkEnds I O) (links : List (Link I O)) (one other : Session W I O) : Type 0 where
  pub reached : IsState one.first.map_state
  pub alike : AreLikeStates one.first other.first
  pub coming : one.door.coming ≡ Some links
  pub coming_too : other.door.coming ≡ Some links
  pub as_many : length one.visits ≡ length other.visits
  pub headline : Headline hearing ends one.first one.last one.door one.visits
  pub headline_too : Headline hearing ends other.first other.last other.door other.visits
  pub told : AreTold ends one.visits
  pub well : AllEndWell one.visits
  pub well_too : AllEndWell other.visits
