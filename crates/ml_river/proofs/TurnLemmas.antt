-- Runs that are turned so that x rises.
use Rattle.std.proofs.Common.{◌≡◌, ℕ, ◌+◌, ◌-◌, ◌<◌, ◌≤◌, List, [], ◌∷◌, length, get_or, map, take, drop, reverse, Bool, true, false, cond, ℤ, pos, ◌<ℤ◌, inl, inr, refl, sym, ap, ◌∙◌, subst, arith}
use Rattle.std.specs.Prelude.{int_lt}
use Rattle.std.specs.Ordering.{int_cmp}
use Rattle.std.specs.declared.cmp.Ordering.TheVariants.{Less, Greater}
use Rattle.std.proofs.lemmas.Int.{ints}
use Rattle.std.proofs.lemmas.List.{take-map, drop-map, get_or-take, get_or-drop, get_or-reverse, length-reverse, length-take, length-drop}
use Rattle.ml_ratio.specs.declared.geometry.Pos.{Pos}
use Rattle.ml_river.specs.Run.{x_at, Goes, IsRun, stretch, turned}
use Rattle.ml_river.specs.Height.{IsRising}
use Rattle.ml_river.proofs.StepLemmas.{x_of, goes_far}

-- what the code copies, and turns where x falls
pub turned_back : (line : List Pos) (a b : ℕ) (xs ys : List Pos) → xs ≡ stretch line a b → ys ≡ reverse xs → int_lt (x_at line b) (x_at line a) ≡ true → ys ≡ turned line a b
turned_back line a b xs ys e r t =
    (r ∙ ap (λ (l : List Pos). reverse l) e) ∙ ap (λ (v : Bool). cond v (reverse (stretch line a b)) (stretch line a b)) (sym t)

-- what the code copies, and leaves as it is where x does not fall
pub turned_kept : (line : List Pos) (a b : ℕ) (xs : List Pos) → xs ≡ stretch line a b → int_lt (x_at line b) (x_at line a) ≡ false → xs ≡ turned line a b
turned_kept line a b xs e t = e ∙ ap (λ (v : Bool). cond v (reverse (stretch line a b)) (stretch line a b)) (sym t)

length-stretch : (line : List Pos) (a b : ℕ) → a < b → b < length line → length (stretch line a b) ≡ b + 1 - a
length-stretch line a b h k = simp (length-take, length-drop) (omega arith)

stretch_at : (line : List Pos) (a b k : ℕ) → k < b + 1 - a → x_at (stretch line a b) k ≡ x_at line (a + k)
unfolding x_at
stretch_at line a b k h =
    let xs : List ℤ = map (λ (p : Pos). p.x) line in
    let e : map (λ (p : Pos). p.x) (stretch line a b) ≡ take (b + 1 - a) (drop a (map (λ (p : Pos). p.x) line)) =
    sym (take-map (λ (p : Pos). p.x) (b + 1 - a) (drop a line)) ∙ ap (λ (l : List ℤ). take (b + 1 - a) l) (sym (drop-map (λ (p : Pos). p.x) a line)) in
    ap (λ (l : List ℤ). get_or l k (pos 0)) e
    ∙ (get_or-take (b + 1 - a) (drop a (map (λ (p : Pos). p.x) line)) k (pos 0) h ∙ get_or-drop a (map (λ (p : Pos). p.x) line) k (pos 0))

reverse_at : (s : List Pos) (k : ℕ) → k < length s → x_at (reverse s) k ≡ x_at s (length s - 1 - k)
reverse_at [] k h = absurd (omega arith)
reverse_at (p ∷ ps) k h =
    x_of (reverse (p ∷ ps)) k p (rw length-reverse h)
    ∙ (ap (λ (q : Pos). q.x) (get_or-reverse (p ∷ ps) k p h) ∙ sym (x_of (p ∷ ps) (length (p ∷ ps) - 1 - k) p (omega arith)))

less_is : (x y : ℤ) → int_cmp x y ≡ Less → x <ℤ y
less_is x y h = grind (arith, ints)

greater_is : (x y : ℤ) → int_cmp x y ≡ Greater → y <ℤ x
greater_is x y h = grind (arith, ints)

not_below : (x y : ℤ) → x <ℤ y → int_lt y x ≡ false
not_below x y h = grind (arith, ints)

below : (x y : ℤ) → x <ℤ y → int_lt x y ≡ true
below x y h = grind (arith, ints)

-- a turned run has at least two positions, and x rises
pub record IsTurned (run : List Pos) : Type 0 where
  pub some : 2 ≤ length run
  pub rising : IsRising run

kept : (line : List Pos) (a b : ℕ) → a < b → b < length line → Goes line Less a b → IsTurned (stretch line a b)
kept line a b h m g =
    let n = length-stretch line a b h m in
    record {
      some = omega (arith, n);
      rising = λ k t.
          let x : x_at (stretch line a b) k ≡ x_at line (a + k) = stretch_at line a b k (omega (arith, n)) in
          let y : x_at (stretch line a b) (k + 1) ≡ x_at line (a + k + 1) = stretch_at line a b (k + 1) (omega (arith, n)) ∙ ap (λ (j : ℕ). x_at line j) (omega arith) in
          let c : int_cmp (x_at line (a + k)) (x_at line (a + k + 1)) ≡ Less = g (a + k) (omega arith) (omega (arith, n)) in
          rw (x, y) (less_is (x_at line (a + k)) (x_at line (a + k + 1)) c);
    }

back : (line : List Pos) (a b : ℕ) → a < b → b < length line → Goes line Greater a b → IsTurned (reverse (stretch line a b))
back line a b h m g =
    let n = length-stretch line a b h m in
    let r = length-reverse (stretch line a b) in
    record {
      some = omega (arith, n, r);
      rising = λ k t.
          let x : x_at (reverse (stretch line a b)) k ≡ x_at line (b - k) = reverse_at (stretch line a b) k (omega (arith, r))
          ∙ (stretch_at line a b (length (stretch line a b) - 1 - k) (omega (arith, n)) ∙ ap (λ (j : ℕ). x_at line j) (omega (arith, n, r))) in
          let y : x_at (reverse (stretch line a b)) (k + 1) ≡ x_at line (b - k - 1) = reverse_at (stretch line a b) (k + 1) (omega (arith, r))
          ∙ (stretch_at line a b (length (stretch line a b) - 1 - (k + 1)) (omega (arith, n)) ∙ ap (λ (j : ℕ). x_at line j) (omega (arith, n, r))) in
          let s : b - k ≡ b - k - 1 + 1 = omega (arith, n, r) in
          let c : int_cmp (x_at line (b - k - 1)) (x_at line (b - k)) ≡ Greater =
          ap (λ (j : ℕ). int_cmp (x_at line (b - k - 1)) (x_at line j)) s ∙ g (b - k - 1) (omega (arith, n, r)) (omega (arith, n, r)) in
          rw (x, y) (greater_is (x_at line (b - k - 1)) (x_at line (b - k)) c);
    }

-- a run, turned
pub turned_run : (line : List Pos) (a b : ℕ) → IsRun line a b → IsTurned (turned line a b)
turned_run line a b run =
    elim run.strict [
      | inl g ↦
          let t : int_lt (x_at line b) (x_at line a) ≡ false = not_below (x_at line a) (x_at line b) (less_is (x_at line a) (x_at line b) (goes_far line Less a b run.some g)) in
          subst IsTurned (turned_kept line a b (stretch line a b) refl t) (kept line a b run.some run.there g)
      | inr g ↦
          let t : int_lt (x_at line b) (x_at line a) ≡ true = below (x_at line b) (x_at line a) (greater_is (x_at line a) (x_at line b) (goes_far line Greater a b run.some g)) in
          subst IsTurned (turned_back line a b (stretch line a b) (reverse (stretch line a b)) refl refl t) (back line a b run.some run.there g)
    ]
