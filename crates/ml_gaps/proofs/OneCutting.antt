-- Sets have their pieces in one way.
use Rattle.std.proofs.Common.{◌≡◌, ◌<◌, ◌↔◌, List, [], ◌∷◌, arith, refl, sym, ap, subst, ◌∙◌, Bool, true, false, IsTrue}
use Rattle.std.proofs.Props.{props}
use mathlib.Core.HLevel.{is_prop→PathP}
use Rattle.ml_ratio.specs.Fraction.{Fraction, value_of, IsLess}
use Rattle.ml_ratio.specs.declared.ratio.Ratio.{Ratio}
use Rattle.ml_ratio.proofs.lemmas.Fractions.{middle}
use Rattle.ml_ratio.proofs.lemmas.Intervals.{IsFrom, equal_ratio, holds_middle, begins_by, ends_by}
use Rattle.ml_gaps.specs.Piece.{HoldsScale}
use Rattle.ml_gaps.specs.Pairs.{ArePiecesOf, none, piece, passed}
use Rattle.ml_gaps.specs.declared.piece.Piece.{Piece}

piece_same : (a b : Piece) → a.from ≡ b.from → a.from_in ≡ b.from_in → a.to ≡ b.to → a ≡ b
piece_same a b f c t i = record {
  from = f i;
  from_in = c i;
  to = t i;
  some = is_prop→PathP (λ j. IsLess (value_of (f j)) (value_of (t j))) (λ j. hlevel props) a.some b.some i;
  above = is_prop→PathP (λ j. IsTrue (c j) → 0 < (f j).num) (λ j. hlevel props) a.above b.above i;
}

abbrev inside : Piece → Fraction
inside a = middle (value_of a.from) (value_of a.to)

held_inside : (a : Piece) → HoldsScale a (inside a)
held_inside a = holds_middle a.from_in (value_of a.from) (value_of a.to) a.some

-- the lower end is held where it is counted in, and only there
same_begin : (p q : Bool) (f : Fraction) → (IsFrom p f f → IsFrom q f f) → (IsFrom q f f → IsFrom p f f) → p ≡ q
same_begin true true f there back = refl
same_begin false false f there back = refl
same_begin true false f there back = absurd (let h = there (omega arith) in omega arith)
same_begin false true f there back = absurd (let h = back (omega arith) in omega arith)

one_piece : (a b : Piece) → ((s : Fraction) → HoldsScale a s ↔ HoldsScale b s) → a ≡ b
one_piece a b same =
    let f0 = begins_by a.from_in b.from_in (value_of a.from) (value_of a.to) (value_of b.from) (value_of b.to) a.some (λ s. (same s).0) in
    let f1 = begins_by b.from_in a.from_in (value_of b.from) (value_of b.to) (value_of a.from) (value_of a.to) b.some (λ s. (same s).1) in
    let t0 = ends_by a.from_in b.from_in (value_of a.from) (value_of a.to) (value_of b.from) (value_of b.to) a.some (λ s. (same s).0) in
    let t1 = ends_by b.from_in a.from_in (value_of b.from) (value_of b.to) (value_of a.from) (value_of a.to) b.some (λ s. (same s).1) in
    let from = equal_ratio a.from b.from (omega arith) in
    let to = equal_ratio a.to b.to (omega arith) in
    let some = a.some in
    let begin = same_begin a.from_in b.from_in (value_of a.from)
    (λ h. subst (λ (r : Ratio). IsFrom b.from_in (value_of r) (value_of a.from)) (sym from) ((same (value_of a.from)).0 (h, some)).0)
    (λ h. ((same (value_of a.from)).1 (subst (λ (r : Ratio). IsFrom b.from_in (value_of r) (value_of a.from)) from h, subst (λ (r : Ratio). IsLess (value_of a.from) (value_of r)) to some)).0) in
    piece_same a b from begin to

-- sets have one list of pieces, in order
pub one_cutting : {X : Type 0} (S : X → Fraction → Type 0) (xs : List X) (ps qs : List Piece) → ArePiecesOf S xs ps → ArePiecesOf S xs qs → ps ≡ qs
one_cutting S [] [] [] none none = refl
one_cutting S [] (a ∷ ps) qs wrong those = elim wrong [ ]
one_cutting S [] [] (b ∷ qs) none wrong = elim wrong [ ]
one_cutting S (x ∷ xs) (a ∷ ps) (b ∷ qs) (piece holds rest) (piece has more) =
    let first : a ≡ b = one_piece a b (λ s. (λ h. (has s).1 ((holds s).0 h), λ h. (holds s).1 ((has s).0 h))) in
    ap (λ (c : Piece). c ∷ ps) first ∙ ap (λ (cs : List Piece). b ∷ cs) (one_cutting S xs ps qs rest more)
one_cutting S (x ∷ xs) (a ∷ ps) qs (piece holds rest) (passed empty more) = absurd (empty (inside a) ((holds (inside a)).0 (held_inside a)))
one_cutting S (x ∷ xs) ps (b ∷ qs) (passed empty rest) (piece has more) = absurd (empty (inside b) ((has (inside b)).0 (held_inside b)))
one_cutting S (x ∷ xs) ps qs (passed empty rest) (passed none' more) = one_cutting S xs ps qs rest more
