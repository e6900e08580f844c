-- The answers exclude one another, so each comes exactly where its fact holds.
use Rattle.std.proofs.Common.{◌≡◌, ◌≢◌, ℕ, ◌+◌, ◌<◌, ◌≤◌, ◌⊎◌, inl, inr, List, ◌++◌, take, drop, Result, Ok, Err, IfOk, refl, sym, ◌∙◌, ap, subst, arith, append_assoc, take-take}
use Rattle.std.proofs.lemmas.List.{take-append-drop}
use Rattle.std.proofs.lemmas.Bool.{cases_lt}
use Rattle.ml_json.specs.Tree.{Tree}
use Rattle.ml_json.specs.Grammar.{IsGood, IsPrefix}
use Rattle.ml_json.specs.Depth.{depth}
use Rattle.ml_json.specs.Answer.{IsText, IsNotJson, IsDeep, Refuses, Answers, GivesTree}
use Rattle.ml_ratio.specs.Refusal.{RefusesExactly}
use Rattle.ml_json.specs.declared.value.JsonFault.{JsonFault}
use Rattle.ml_json.specs.declared.value.JsonFault.TheVariants as faults
use Rattle.ml_json.specs.Canonical.{IsWritable}
use Rattle.ml_json.proofs.ValueRuns.{one_tree}
use Rattle.ml_json.proofs.ReadWritable.{text_writable}

-- a shorter front of bytes that begin a good text begins one
shorter : (bytes : List ℕ) (n k : ℕ) → n ≤ k → IsPrefix (take k bytes) → IsPrefix (take n bytes)
shorter bytes n k h (rest, good) =
    let e : take n bytes ++ (drop n (take k bytes) ++ rest) ≡ take k bytes ++ rest =
    sym (append_assoc (take n bytes) (drop n (take k bytes)) rest) ∙ ap (λ x. (x ++ drop n (take k bytes)) ++ rest) (sym (take-take n k bytes h))
    ∙ ap (λ x. x ++ rest) (take-append-drop n (take k bytes)) in
    (drop n (take k bytes) ++ rest, subst IsGood (sym e) good)

-- each front of a good text begins one
front : (bytes : List ℕ) (n : ℕ) → IsGood bytes → IsPrefix (take n bytes)
front bytes n good = (drop n bytes, subst IsGood (sym (take-append-drop n bytes)) good)

text_or_not : (bytes : List ℕ) (tree : Tree) (at : ℕ) → IsText bytes tree → IsNotJson bytes at → ⊥
text_or_not bytes tree at p q = elim q.stops [ inl x ↦ x.1 (front bytes (at + 1) (tree, p.reads)) | inr x ↦ x.1 (tree, p.reads) ]

too_deep : (n : ℕ) → n ≤ 64 → n ≡ 65 → ⊥
too_deep n h e = absurd (omega arith)

text_or_deep : (bytes : List ℕ) (tree : Tree) (at : ℕ) → IsText bytes tree → IsDeep bytes at → ⊥
text_or_deep bytes tree at p q = let w = q.within in too_deep (depth (take (at + 1) bytes)) (p.shallow (at + 1) (omega arith)) q.opens

not_json_later : (bytes : List ℕ) (a b : ℕ) → IsNotJson bytes a → IsNotJson bytes b → a < b → ⊥
not_json_later bytes a b p q h = elim p.stops [
  | inl x ↦ x.1 (shorter bytes (a + 1) b (omega arith) q.begins)
  | inr x ↦ (let w = q.within in absurd (omega arith))
]

deep_later : (bytes : List ℕ) (a b : ℕ) → IsDeep bytes a → IsDeep bytes b → a < b → ⊥
deep_later bytes a b p q h = too_deep (depth (take (a + 1) bytes)) (q.shallow (a + 1) (omega arith)) p.opens

deep_or_not : (bytes : List ℕ) (a b : ℕ) → IsDeep bytes a → IsNotJson bytes b → ⊥
deep_or_not bytes a b p q = elim (cases_lt a b) [
  | inl less ↦ too_deep (depth (take (a + 1) bytes)) (q.shallow (a + 1) (omega arith)) p.opens
  | inr more ↦ elim q.stops [
    | inl x ↦ x.1 (shorter bytes (b + 1) (a + 1) (omega arith) p.begins)
    | inr x ↦ (let w = p.within in absurd (omega arith))
  ]
]

one_place : (P : ℕ → Type 0) (a b : ℕ) → ((x y : ℕ) → P x → P y → x < y → ⊥) → P a → P b → a ≡ b
one_place P a b later p q = elim (cases_lt a b) [
  | inl less ↦ absurd (later a b p q less)
  | inr more ↦ elim (cases_lt b a) [ inl less ↦ absurd (later b a q p less) | inr same ↦ omega arith ]
]

-- bytes that are a text of a tree are answered by that tree, unless memory runs out
pub gives_tree : {V : Type 0} (tree_of : V → Tree) (result : Result V JsonFault) (bytes : List ℕ) → Answers tree_of result bytes → (tree : Tree) → IsText bytes tree → GivesTree tree_of result tree
gives_tree tree_of (Ok v) bytes h tree p = one_tree bytes (tree_of v) tree h.reads p.reads
gives_tree tree_of (Err (faults.NotJson at)) bytes h tree p = text_or_not bytes tree at p h
gives_tree tree_of (Err (faults.Deep at)) bytes h tree p = text_or_deep bytes tree at p h
gives_tree tree_of (Err faults.Memory) bytes h tree p = tt

not_json_only : {V : Type 0} (tree_of : V → Tree) (result : Result V JsonFault) (bytes : List ℕ)
    → Answers tree_of result bytes → (at : ℕ) → IsNotJson bytes at → (result ≡ Err (faults.NotJson at)) ⊎ (result ≡ Err faults.Memory)
not_json_only tree_of (Ok v) bytes h at p = absurd (text_or_not bytes (tree_of v) at h p)
not_json_only tree_of (Err (faults.NotJson b)) bytes h at p = inl (ap (λ x. Err (faults.NotJson x)) (one_place (IsNotJson bytes) b at (not_json_later bytes) h p))
not_json_only tree_of (Err (faults.Deep b)) bytes h at p = absurd (deep_or_not bytes b at h p)
not_json_only tree_of (Err faults.Memory) bytes h at p = inr refl

deep_only : {V : Type 0} (tree_of : V → Tree) (result : Result V JsonFault) (bytes : List ℕ)
    → Answers tree_of result bytes → (at : ℕ) → IsDeep bytes at → (result ≡ Err (faults.Deep at)) ⊎ (result ≡ Err faults.Memory)
deep_only tree_of (Ok v) bytes h at p = absurd (text_or_deep bytes (tree_of v) at h p)
deep_only tree_of (Err (faults.NotJson b)) bytes h at p = absurd (deep_or_not bytes at b p h)
deep_only tree_of (Err (faults.Deep b)) bytes h at p = inl (ap (λ x. Err (faults.Deep x)) (one_place (IsDeep bytes) b at (deep_later bytes) h p))
deep_only tree_of (Err faults.Memory) bytes h at p = inr refl

-- only bytes that are no JSON at a place are answered so, and all of them are, unless memory runs out
pub not_json_exactly : {V : Type 0} (tree_of : V → Tree) (result : Result V JsonFault) (bytes : List ℕ)
    → Answers tree_of result bytes → (at : ℕ) → RefusesExactly result (faults.NotJson at) faults.Memory (IsNotJson bytes at)
not_json_exactly tree_of result bytes h at = ((λ e. subst (λ r. Answers tree_of r bytes) e h), not_json_only tree_of result bytes h at)

-- the same of bytes that are too deep at a place
pub deep_exactly : {V : Type 0} (tree_of : V → Tree) (result : Result V JsonFault) (bytes : List ℕ)
    → Answers tree_of result bytes → (at : ℕ) → RefusesExactly result (faults.Deep at) faults.Memory (IsDeep bytes at)
deep_exactly tree_of result bytes h at = ((λ e. subst (λ r. Answers tree_of r bytes) e h), deep_only tree_of result bytes h at)

-- a value is the answer only to a text of its tree
pub ok_text : {V : Type 0} (tree_of : V → Tree) (result : Result V JsonFault) (bytes : List ℕ) → Answers tree_of result bytes → IfOk result (λ v. IsText bytes (tree_of v))
ok_text tree_of (Ok v) bytes h = h
ok_text tree_of (Err e) bytes h = tt

-- a value that is the answer can be written
pub ok_writable : {V : Type 0} (tree_of : V → Tree) (result : Result V JsonFault) (bytes : List ℕ) → Answers tree_of result bytes → IfOk result (λ v. IsWritable (tree_of v))
ok_writable tree_of (Ok v) bytes h = text_writable bytes (tree_of v) h
ok_writable tree_of (Err e) bytes h = tt

-- a text of a tree is refused only when memory runs out
pub text_or_fault : (bytes : List ℕ) (tree : Tree) (fault : JsonFault) → IsText bytes tree → Refuses fault bytes → fault ≡ faults.Memory
text_or_fault bytes tree (faults.NotJson at) accepted refused = absurd (text_or_not bytes tree at accepted refused)
text_or_fault bytes tree (faults.Deep at) accepted refused = absurd (text_or_deep bytes tree at accepted refused)
text_or_fault bytes tree faults.Memory accepted refused = refl

-- one thing is wrong with bytes, unless memory runs out
pub one_fault : (bytes : List ℕ) (one other : JsonFault) → one ≢ faults.Memory → other ≢ faults.Memory → Refuses one bytes → Refuses other bytes → one ≡ other
one_fault bytes (faults.NotJson a) (faults.NotJson b) m n p q = ap faults.NotJson (one_place (IsNotJson bytes) a b (not_json_later bytes) p q)
one_fault bytes (faults.NotJson a) (faults.Deep b) m n p q = absurd (deep_or_not bytes b a q p)
one_fault bytes (faults.NotJson a) faults.Memory m n p q = absurd (n refl)
one_fault bytes (faults.Deep a) (faults.NotJson b) m n p q = absurd (deep_or_not bytes a b p q)
one_fault bytes (faults.Deep a) (faults.Deep b) m n p q = ap faults.Deep (one_place (IsDeep bytes) a b (deep_later bytes) p q)
one_fault bytes (faults.Deep a) faults.Memory m n p q = absurd (n refl)
one_fault bytes faults.Memory other m n p q = absurd (m refl)
