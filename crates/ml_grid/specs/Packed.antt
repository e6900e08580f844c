-- The number of the fraction in a number is that number.
use Rattle.std.specs.Prelude.{◌≡◌, ◌/◌, ◌%◌}
use Rattle.std.proofs.lemmas.Nat.{div-add-mod'}
use Rattle.std.proofs.Props.{props}
use mathlib.Core.HLevel.{is_prop→PathP}
use Rattle.ml_grid.specs.End.{AreTerms, unpacked, packed, packed_terms}
use Rattle.ml_grid.specs.declared.end.End.TheInside.{Inside}

pub packed_back : (a : Inside) → record { parts = packed (unpacked a.parts a.terms); terms = packed_terms (unpacked a.parts a.terms) } ≡ a
packed_back a i =
    let same : packed (unpacked a.parts a.terms) ≡ a.parts = div-add-mod' a.parts 131072 in
    record {
      parts = same i;
      terms = is_prop→PathP (λ j. AreTerms (same j / 131072) (same j % 131072)) (λ j. hlevel props) (packed_terms (unpacked a.parts a.terms)) a.terms i;
    }
