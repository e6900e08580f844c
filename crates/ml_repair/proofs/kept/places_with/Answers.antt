use Rattle.std.proofs.Common.{ℕ, List, Contains, subst, sym}
use Rattle.ml_repair.proofs.kept.places_with.Goals as goal

pub returns-clause-same : goal.returns-clause-same
returns-clause-same c p =
    let a = c.ascending.ensures.same p in
    let b = c.in_ok-places.ensures p in
    let of = c.of_vec.ensures in (
      λ h. b.0 (subst (λ (xs : List ℕ). Contains xs p) of (a.0 h)),
      λ h. a.1 (subst (λ (xs : List ℕ). Contains xs p) (sym of) (b.1 h)),
    )
