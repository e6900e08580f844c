-- Pieces of sets, one set after another.
use Rattle.std.proofs.Common.{◌≡◌, ℕ, suc, ◌+◌, ◌*◌, ◌<◌, ◌≤◌, ◌↔◌, List, [], ◌∷◌, ◌++◌, length, get_or, take, drop}
use Rattle.std.proofs.Common.{arith, refl, sym, subst, ◌∙◌, ap, inl, inr, append_assoc, append-nil, length-append, map}
use Rattle.std.specs.Prelude.{All, Any}
use Rattle.std.proofs.lemmas.Grind.{flat_map-append}
use Rattle.std.proofs.Math.Seq.{drop-cons}
use Rattle.std.proofs.lemmas.List.{map-append, take_more, take-append-drop}
use Rattle.std.proofs.lemmas.List.Concat.{flat_map-cons}
use Rattle.std.proofs.lemmas.List.Elements.{All-nil, All-cons, All-weaker}
use Rattle.ml_ratio.specs.Fraction.{Fraction}
use Rattle.ml_cone.specs.declared.label.BoxPx.{BoxPx}
use Rattle.ml_gaps.specs.Pairs.{ArePiecesOf, none, piece, passed, AddsPiecesOf, pairs_with, pairs_from}
use Rattle.ml_gaps.specs.Piece.{HoldsScale, HaveScale}
use Rattle.ml_gaps.specs.declared.piece.Piece.{Piece}
use Rattle.ml_ratio.proofs.lemmas.Anys.{any_none, any_here, any_there, any_cases, any_left, any_right, any_either}

-- the pieces of some sets, and behind them those of others, are the pieces of all of them
pub pieces_both : {X : Type 0} (S : X → Fraction → Type 0) (xs ys : List X) (ps qs : List Piece) → ArePiecesOf S xs ps → ArePiecesOf S ys qs → ArePiecesOf S (xs ++ ys) (ps ++ qs)
pieces_both S [] ys [] qs none those = those
pieces_both S [] ys (a ∷ ps) qs wrong those = elim wrong [ ]
pieces_both S (x ∷ xs) ys (a ∷ ps) qs (piece holds rest) those = piece holds (pieces_both S xs ys ps qs rest those)
pieces_both S (x ∷ xs) ys ps qs (passed empty rest) those = passed empty (pieces_both S xs ys ps qs rest those)

-- sets with the same fractions have the same pieces
pub pieces_like : {X : Type 0} (S T : X → Fraction → Type 0) (xs : List X) (ps : List Piece) → ((x : X) (s : Fraction) → S x s ↔ T x s) → ArePiecesOf S xs ps → ArePiecesOf T xs ps
pieces_like S T [] [] same none = none
pieces_like S T [] (a ∷ ps) same wrong = elim wrong [ ]
pieces_like S T (x ∷ xs) (a ∷ ps) same (piece holds rest) = piece (λ s. (λ h. (same x s).0 ((holds s).0 h), λ h. (holds s).1 ((same x s).1 h))) (pieces_like S T xs ps same rest)
pieces_like S T (x ∷ xs) ps same (passed empty rest) = passed (λ s h. empty s ((same x s).1 h)) (pieces_like S T xs ps same rest)

-- the pieces of the sets that things have by way of a map are those of the mapped things
pub pieces_map : {X Y : Type 0} (S : Y → Fraction → Type 0) (f : X → Y) (xs : List X) (ps : List Piece) → ArePiecesOf (λ x. S (f x)) xs ps → ArePiecesOf S (map f xs) ps
pieces_map S f [] [] none = none
pieces_map S f [] (a ∷ ps) wrong = elim wrong [ ]
pieces_map S f (x ∷ xs) (a ∷ ps) (piece holds rest) = piece holds (pieces_map S f xs ps rest)
pieces_map S f (x ∷ xs) ps (passed empty rest) = passed empty (pieces_map S f xs ps rest)

-- sets of which none has a fraction
pub pieces_none : {X : Type 0} (S : X → Fraction → Type 0) (xs : List X) → ((s : Fraction) → ¬ (Any (λ x. S x s) xs)) → ArePiecesOf S xs []
pieces_none S [] empty = none
pieces_none S (x ∷ xs) empty = passed (λ s h. empty s (any_here (λ y. S y s) x xs h)) (pieces_none S xs (λ s h. empty s (any_there (λ y. S y s) x xs h)))

-- the pieces hold together what the sets hold
pub pieces_have : {X : Type 0} (S : X → Fraction → Type 0) (xs : List X) (ps : List Piece) → ArePiecesOf S xs ps → (s : Fraction) → HaveScale ps s ↔ Any (λ x. S x s) xs
pieces_have {X} S [] [] none s = (λ h. absurd (any_none (λ a. HoldsScale a s) h), λ h. absurd (any_none (λ (x : X). S x s) h))
pieces_have S [] (a ∷ ps) wrong s = elim wrong [ ]
pieces_have {X} S (x ∷ xs) (a ∷ ps) (piece holds rest) s =
    let more = pieces_have S xs ps rest s in (
      λ h. elim (any_cases (λ b. HoldsScale b s) a ps h) [
        | inl here ↦ any_here (λ y. S y s) x xs ((holds s).0 here)
        | inr there ↦ any_there (λ y. S y s) x xs (more.0 there)
      ],
      λ h. elim (any_cases (λ y. S y s) x xs h) [
        | inl here ↦ any_here (λ b. HoldsScale b s) a ps ((holds s).1 here)
        | inr there ↦ any_there (λ b. HoldsScale b s) a ps (more.1 there)
      ],
    )
pieces_have {X} S (x ∷ xs) ps (passed empty rest) s =
    let more = pieces_have S xs ps rest s in (
      λ h. any_there (λ y. S y s) x xs (more.0 h),
      λ h. elim (any_cases (λ y. S y s) x xs h) [
        | inl here ↦ absurd (empty s here)
        | inr there ↦ more.1 there
      ],
    )

-- there are no more pieces than sets
pub pieces_few : {X : Type 0} (S : X → Fraction → Type 0) (xs : List X) (ps : List Piece) → ArePiecesOf S xs ps → length ps ≤ length xs
pieces_few S [] [] none = omega arith
pieces_few S [] (a ∷ ps) wrong = elim wrong [ ]
pieces_few S (x ∷ xs) (a ∷ ps) (piece holds rest) = let few = pieces_few S xs ps rest in omega arith
pieces_few S (x ∷ xs) ps (passed empty rest) = let few = pieces_few S xs ps rest in omega arith

-- each piece is one of the sets
pub pieces_each : {X : Type 0} (S : X → Fraction → Type 0) (xs : List X) (ps : List Piece) → ArePiecesOf S xs ps → All (λ a. Any (λ x. (s : Fraction) → HoldsScale a s ↔ S x s) xs) ps
pieces_each S [] [] none = All-nil (λ a. Any (λ x. (s : Fraction) → HoldsScale a s ↔ S x s) [])
pieces_each S [] (a ∷ ps) wrong = elim wrong [ ]
pieces_each S (x ∷ xs) (a ∷ ps) (piece holds rest) =
    All-cons (λ b. Any (λ y. (s : Fraction) → HoldsScale b s ↔ S y s) (x ∷ xs)) a ps (any_here (λ y. (s : Fraction) → HoldsScale a s ↔ S y s) x xs holds)
    (All-weaker (λ b. Any (λ y. (s : Fraction) → HoldsScale b s ↔ S y s) xs) (λ b. Any (λ y. (s : Fraction) → HoldsScale b s ↔ S y s) (x ∷ xs))
    (λ b any. any_there (λ y. (s : Fraction) → HoldsScale b s ↔ S y s) x xs any) ps (pieces_each S xs ps rest))
pieces_each S (x ∷ xs) ps (passed empty rest) =
    All-weaker (λ b. Any (λ y. (s : Fraction) → HoldsScale b s ↔ S y s) xs) (λ b. Any (λ y. (s : Fraction) → HoldsScale b s ↔ S y s) (x ∷ xs))
    (λ b any. any_there (λ y. (s : Fraction) → HoldsScale b s ↔ S y s) x xs any) ps (pieces_each S xs ps rest)

-- ---- pieces that are appended

-- where there is no set, no piece is appended
pub none_added : {X : Type 0} (S : X → Fraction → Type 0) (old : List Piece) → AddsPiecesOf S [] old old
none_added S old = record { added = []; appended = sym (append-nil old); in_order = none }

-- where none of the sets has a fraction, no piece is appended
pub nothing_added : {X : Type 0} (S : X → Fraction → Type 0) (xs : List X) (old : List Piece) → ((s : Fraction) → ¬ (Any (λ x. S x s) xs)) → AddsPiecesOf S xs old old
nothing_added S xs old empty = record { added = []; appended = sym (append-nil old); in_order = pieces_none S xs empty }

-- the pieces of some sets, and then those of others, were appended: those of all of them
pub both_added : {X : Type 0} (S : X → Fraction → Type 0) (xs ys : List X) (old mid new : List Piece) → AddsPiecesOf S xs old mid → AddsPiecesOf S ys mid new → AddsPiecesOf S (xs ++ ys) old new
both_added S xs ys old mid new one two = record {
  added = one.added ++ two.added;
  appended = two.appended ∙ (ap (λ (l : List Piece). l ++ two.added) one.appended ∙ append_assoc old one.added two.added);
  in_order = pieces_both S xs ys one.added two.added one.in_order two.in_order;
}

-- a further set that has a fraction adds one piece, which is the set
pub one_added : {X : Type 0} (S : X → Fraction → Type 0) (xs : List X) (x : X) (old mid new : List Piece) (a : Piece) →
    AddsPiecesOf S xs old mid → new ≡ mid ++ a ∷ [] → ((s : Fraction) → HoldsScale a s ↔ S x s) → AddsPiecesOf S (xs ++ x ∷ []) old new
one_added S xs x old mid new a adds is holds = both_added S xs (x ∷ []) old mid new adds (record { added = a ∷ []; appended = is; in_order = piece holds none })

-- a further set that has no fraction adds no piece
pub one_passed : {X : Type 0} (S : X → Fraction → Type 0) (xs : List X) (x : X) (old mid new : List Piece) →
    AddsPiecesOf S xs old mid → new ≡ mid → ((s : Fraction) → ¬ (S x s)) → AddsPiecesOf S (xs ++ x ∷ []) old new
one_passed S xs x old mid new adds is empty = both_added S xs (x ∷ []) old mid new adds (record { added = []; appended = is ∙ sym (append-nil mid); in_order = passed empty none })

-- what was appended for things by way of a map was appended for the mapped things
pub map_added : {X Y : Type 0} (S : Y → Fraction → Type 0) (f : X → Y) (xs : List X) (old new : List Piece) → AddsPiecesOf (λ x. S (f x)) xs old new → AddsPiecesOf S (map f xs) old new
map_added S f xs old new adds = record { added = adds.added; appended = adds.appended; in_order = pieces_map S f xs adds.added adds.in_order }

-- what was appended for some sets was appended for sets with the same fractions
pub like_added : {X : Type 0} (S T : X → Fraction → Type 0) (xs : List X) (old new : List Piece) → ((x : X) (s : Fraction) → S x s ↔ T x s) → AddsPiecesOf S xs old new → AddsPiecesOf T xs old new
like_added S T xs old new same adds = record { added = adds.added; appended = adds.appended; in_order = pieces_like S T xs adds.added same adds.in_order }

-- ---- pairs

-- some pair of a box and one of a list
any_with : (P : BoxPx × BoxPx → Type 0) (p : BoxPx) (others : List BoxPx) → Any P (pairs_with others p) ↔ Any (λ q. P (p, q)) others
any_with P p [] = (λ h. absurd (any_none P h), λ h. absurd (any_none (λ q. P (p, q)) h))
any_with P p (q ∷ others) =
    let more = any_with P p others in (
      λ h. elim (any_cases P (p, q) (pairs_with others p) h) [
        | inl here ↦ any_here (λ r. P (p, r)) q others here
        | inr there ↦ any_there (λ r. P (p, r)) q others (more.0 there)
      ],
      λ h. elim (any_cases (λ r. P (p, r)) q others h) [
        | inl here ↦ any_here P (p, q) (pairs_with others p) here
        | inr there ↦ any_there P (p, q) (pairs_with others p) (more.1 there)
      ],
    )

-- some pair of boxes has a property where some box of the one list has it with some box of the other
pub any_pair : (P : BoxPx × BoxPx → Type 0) (boxes others : List BoxPx) → Any P (pairs_from boxes others) ↔ Any (λ p. Any (λ q. P (p, q)) others) boxes
any_pair P [] others = (λ h. absurd (any_none P h), λ h. absurd (any_none (λ p. Any (λ q. P (p, q)) others) h))
any_pair P (p ∷ boxes) others =
    let more = any_pair P boxes others in
    let row = any_with P p others in (
      λ h. elim (any_either P (pairs_with others p) (pairs_from boxes others) (subst (Any P) (flat_map-cons (pairs_with others) p boxes) h)) [
        | inl here ↦ any_here (λ r. Any (λ q. P (r, q)) others) p boxes (row.0 here)
        | inr there ↦ any_there (λ r. Any (λ q. P (r, q)) others) p boxes (more.0 there)
      ],
      λ h. subst (Any P) (sym (flat_map-cons (pairs_with others) p boxes)) (elim (any_cases (λ r. Any (λ q. P (r, q)) others) p boxes h) [
        | inl here ↦ any_left P (pairs_with others p) (pairs_from boxes others) (row.1 here)
        | inr there ↦ any_right P (pairs_with others p) (pairs_from boxes others) (more.1 there)
      ]),
    )

length_with : (p : BoxPx) (others : List BoxPx) → length (pairs_with others p) ≡ length others
length_with p [] = refl
length_with p (q ∷ others) = ap suc (length_with p others)

-- there are as many pairs as boxes of the one list times boxes of the other
pub length_pairs : (boxes others : List BoxPx) → length (pairs_from boxes others) ≡ length boxes * length others
length_pairs [] others = omega arith
length_pairs (p ∷ boxes) others =
    let e = ap length (flat_map-cons (pairs_with others) p boxes) ∙ length-append (pairs_with others p) (pairs_from boxes others) in
    let f = length_with p others in
    let g = length_pairs boxes others in
    omega arith

-- the rows before i + 1 are those before i, and row i
pub row_more : (boxes others : List BoxPx) (i : ℕ) (d : BoxPx) → i < length boxes → pairs_from (take (i + 1) boxes) others ≡ pairs_from (take i boxes) others ++ pairs_with others (get_or boxes i d)
row_more boxes others i d lt =
    let p = get_or boxes i d in
    ap (λ (l : List BoxPx). pairs_from l others) (take_more boxes i d lt)
    ∙ (flat_map-append (pairs_with others) (take i boxes) (p ∷ [])
    ∙ ap (λ (l : List (BoxPx × BoxPx)). pairs_from (take i boxes) others ++ l) (flat_map-cons (pairs_with others) p [] ∙ append-nil (pairs_with others p)))

-- all pairs are the rows before i, a first part of row i, and what is left
pub row_cut : (boxes others front back : List BoxPx) (i : ℕ) (d : BoxPx) → i < length boxes → others ≡ front ++ back →
    pairs_from boxes others ≡ (pairs_from (take i boxes) others ++ pairs_with front (get_or boxes i d)) ++ (pairs_with back (get_or boxes i d) ++ pairs_from (drop (suc i) boxes) others)
row_cut boxes others front back i d lt parts =
    let p = get_or boxes i d in
    let rest = pairs_from (drop (suc i) boxes) others in
    let whole : boxes ≡ take i boxes ++ p ∷ drop (suc i) boxes = sym (take-append-drop i boxes) ∙ ap (λ (l : List BoxPx). take i boxes ++ l) (drop-cons boxes i d lt) in
    let row : pairs_with others p ≡ pairs_with front p ++ pairs_with back p = ap (λ (l : List BoxPx). pairs_with l p) parts ∙ map-append (λ q. (p, q)) front back in
    ap (λ (l : List BoxPx). pairs_from l others) whole
    ∙ (flat_map-append (pairs_with others) (take i boxes) (p ∷ drop (suc i) boxes)
    ∙ (ap (λ (l : List (BoxPx × BoxPx)). pairs_from (take i boxes) others ++ l) (flat_map-cons (pairs_with others) p (drop (suc i) boxes)
    ∙ (ap (λ (l : List (BoxPx × BoxPx)). l ++ rest) row ∙ append_assoc (pairs_with front p) (pairs_with back p) rest))
    ∙ sym (append_assoc (pairs_from (take i boxes) others) (pairs_with front p) (pairs_with back p ++ rest))))
