-- Heights along a run, as a walk from its first position finds them.
use Rattle.std.proofs.Common.{◌≡◌, ℕ, ◌+◌, ◌-◌, ◌<◌, ◌⊎◌, List, length, ℤ, ◌<ℤ◌, ◌≤ℤ◌, zero, suc, inl, inr, sym, ap, ◌∙◌, subst, arith}
use Rattle.std.proofs.lemmas.Int.{ints, by_lt_z}
use Rattle.ml_ratio.specs.declared.geometry.Pos.{Pos}
use Rattle.ml_ratio.specs.Floor.{height_on}
use Rattle.ml_river.specs.Run.{x_at, y_at}
use Rattle.ml_river.specs.Height.{IsRising, IsHeight}

-- the walk has come to place k: x lies after the place before
abbrev pub IsPast : List Pos → ℤ → ℕ → Type 0
IsPast run x k = (k ≡ 1) ⊎ (x_at run (k - 1) <ℤ x)

weaker : (a b : ℤ) → a <ℤ b → a ≤ℤ b
weaker a b h = omega (arith, ints)

-- the place before is at most x
pub past_after : (run : List Pos) (x : ℤ) (k : ℕ) → x_at run 0 ≤ℤ x → IsPast run x k → x_at run (k - 1) ≤ℤ x
past_after run x k h (inl e) = subst (λ (j : ℕ). x_at run j ≤ℤ x) (omega arith) h
past_after run x k h (inr l) = weaker _ _ l

-- an edge of a run rises
pub edge_rises : (run : List Pos) (k : ℕ) → IsRising run → 0 < k → k < length run → x_at run (k - 1) <ℤ x_at run k
edge_rises run k up h m =
    let e : k - 1 + 1 ≡ k = omega arith in
    subst (λ (j : ℕ). x_at run (k - 1) <ℤ x_at run j) e (up (k - 1) (omega arith))

same_from : (a b : ℤ) → a ≤ℤ b → b ≤ℤ a → a ≡ b
same_from a b h k = omega (arith, ints)

after_edge : (run : List Pos) (x : ℤ) (k : ℕ) → x_at run 0 ≤ℤ x → IsPast run x k → (x_at run (k - 1) <ℤ x) ⊎ ((k - 1 ≡ 0) × (x_at run 0 ≡ x))
after_edge run x k h (inl e) =
    by_lt_z (x_at run 0) x (λ less. inl (subst (λ (j : ℕ). x_at run j <ℤ x) (omega arith) less)) (λ more. inr (omega arith, same_from _ _ h more))
after_edge run x k h (inr l) = inl l

-- the height on the edge from the place before to place k
pub height_found : (run : List Pos) (x y : ℤ) (k : ℕ) → 0 < k → k < length run → x_at run 0 ≤ℤ x → IsPast run x k →
    x ≤ℤ x_at run k → y ≡ height_on (x_at run (k - 1)) (y_at run (k - 1)) (x_at run k) (y_at run k) x → IsHeight run x y
height_found run x y k some m h past before is =
    let e : k ≡ k - 1 + 1 = omega arith in
    record {
      edge = k - 1;
      there = omega arith;
      after = after_edge run x k h past;
      before = subst (λ (j : ℕ). x ≤ℤ x_at run j) e before;
      height = is ∙ ap (λ (j : ℕ). height_on (x_at run (k - 1)) (y_at run (k - 1)) (x_at run j) (y_at run j) x) e;
    }

-- one place on
pub past_more : (run : List Pos) (x : ℤ) (k : ℕ) → x_at run k <ℤ x → IsPast run x (k + 1)
past_more run x k h = inr (subst (λ (j : ℕ). x_at run j <ℤ x) (omega arith) h)

longer : (a b c : ℤ) → a ≤ℤ b → b <ℤ c → a ≤ℤ c
longer a b c h k = omega (arith, ints)

itself : (a : ℤ) → a ≤ℤ a
itself a = omega (arith, ints)

-- no place of a run lies before its first
pub run_from : (run : List Pos) (k : ℕ) → IsRising run → k < length run → x_at run 0 ≤ℤ x_at run k
run_from run zero up h = itself (x_at run 0)
run_from run (suc k) up h =
    let e : suc k ≡ k + 1 = omega arith in
    subst (λ (j : ℕ). x_at run 0 ≤ℤ x_at run j) (sym e) (longer _ _ _ (run_from run k up (omega arith)) (up k (omega arith)))
