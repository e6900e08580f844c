-- The laws.
use Rattle.std.proofs.Common.{◌≡◌, ℕ, ◌+◌, ◌-◌, ◌/◌, ◌<◌, ◌≤◌, List, length, get_or, ℤ, pos, ◌-ℤ◌, ◌+ℤ◌, ◌<ℤ◌, ◌≤ℤ◌, zero, suc, inl, inr, sym, ap, ◌∙◌, subst, arith}
use Rattle.std.proofs.lemmas.Bool.{cases_order}
use Rattle.std.proofs.lemmas.Int.{ints}
use Rattle.ml_ratio.specs.declared.geometry.Pos.{Pos}
use Rattle.ml_cone.specs.declared.label.BoxPx.{BoxPx}
use Rattle.ml_ratio.specs.Floor.{height_on}
use Rattle.ml_river.specs.declared.class.RiverClass.{RiverClass}
use Rattle.ml_river.specs.Run.{x_at, y_at}
use Rattle.ml_river.specs.Height.{IsRising, IsHeight, IsOutside}
use Rattle.ml_river.specs.Chain.{left, right, middle, raise, IsRaisedBox, HasOffsets, IsChain, HasNoChain}

longer : (a b c : ℤ) → a ≤ℤ b → b <ℤ c → a ≤ℤ c
longer a b c h k = omega (arith, ints)

itself : (a : ℤ) → a ≤ℤ a
itself a = omega (arith, ints)

far : (run : List Pos) (i n : ℕ) → IsRising run → i + n < length run → x_at run i ≤ℤ x_at run (i + n)
far run i zero up h = subst (λ (j : ℕ). x_at run i ≤ℤ x_at run j) (omega arith) (itself (x_at run i))
far run i (suc n) up h =
    let e : i + suc n ≡ i + n + 1 = omega arith in
    subst (λ (j : ℕ). x_at run i ≤ℤ x_at run j) (sym e) (longer _ _ _ (far run i n up (omega arith)) (up (i + n) (omega arith)))

-- x does not fall from a place to a later one
in_order : (run : List Pos) (i j : ℕ) → IsRising run → i ≤ j → j < length run → x_at run i ≤ℤ x_at run j
in_order run i j up h k =
    let e : i + (j - i) ≡ j = omega arith in
    subst (λ (m : ℕ). x_at run i ≤ℤ x_at run m) e (far run i (j - i) up (omega arith))

clash : (x a b : ℤ) → x ≤ℤ a → a ≤ℤ b → b <ℤ x → ⊥
clash x a b h k l = omega (arith, ints)

-- no later edge holds what an edge holds
not_later : (run : List Pos) (x y z : ℤ) (p : IsHeight run x y) (q : IsHeight run x z) → IsRising run → p.edge < q.edge → ⊥
not_later run x y z p q up less =
    elim q.after [
      | inl l ↦ clash x _ _ p.before (in_order run (p.edge + 1) q.edge up (omega arith) (let t = q.there in omega arith)) l
      | inr s ↦ absurd (omega (arith, s.0))
    ]

-- a run has one height at a place
pub one_height : (run : List Pos) (x y z : ℤ) → IsRising run → IsHeight run x y → IsHeight run x z → y ≡ z
one_height run x y z up p q =
    elim (cases_order p.edge q.edge) [
      | inl e ↦ p.height ∙ (ap (λ (k : ℕ). height_on (x_at run k) (y_at run k) (x_at run (k + 1)) (y_at run (k + 1)) x) e ∙ sym q.height)
      | inr (inl l) ↦ absurd (not_later run x y z p q up l)
      | inr (inr g) ↦ absurd (not_later run x z y q p up g)
    ]

before_clash : (x a b : ℤ) → x <ℤ a → a ≤ℤ b → b <ℤ x → ⊥
before_clash x a b h k l = omega (arith, ints)

first_clash : (x a : ℤ) → x <ℤ a → a ≡ x → ⊥
first_clash x a h e = omega (arith, ints)

-- a place with a height lies in the run
not_outside : (run : List Pos) (x y : ℤ) → IsRising run → IsHeight run x y → IsOutside run x → ⊥
not_outside run x y up p (inl before) =
    elim p.after [
      | inl l ↦ before_clash x _ _ before (in_order run 0 p.edge up (omega arith) (let t = p.there in omega arith)) l
      | inr s ↦ first_clash x _ before s.1
    ]
not_outside run x y up p (inr after) =
    clash x _ _ p.before (in_order run (p.edge + 1) (length run - 1) up (let t = p.there in omega arith) (let t = p.there in omega arith)) after

-- two boxes with the same sides are the same
pub same_box : (c : RiverClass) (run : List Pos) (x y l r : ℤ) (p q : BoxPx) → IsRising run →
    IsRaisedBox c run x y l r p → IsRaisedBox c run x y l r q → (p.l ≡ q.l) × (p.b ≡ q.b) × (p.r ≡ q.r) × (p.t ≡ q.t)
same_box c run x y l r p q up a b =
    let h = one_height run (middle c x l r) a.height b.height up a.height_is b.height_is in
    let e : p.b ≡ q.b = a.bottom_is ∙ (ap (λ (z : ℤ). raise c y z -ℤ pos (c.size / 2)) h ∙ sym b.bottom_is) in
    (a.left_is ∙ sym b.left_is, e, a.right_is ∙ sym b.right_is, a.top_is ∙ (ap (λ (z : ℤ). z +ℤ pos c.size) e ∙ sym b.top_is))

-- where there is a chain there is not none
pub chain_or_none : (c : RiverClass) (run : List Pos) (x y : ℤ) (advances : List ℕ) (boxes : List BoxPx) → IsRising run → IsChain c run x y advances boxes → ¬ (HasNoChain c run x y advances)
chain_or_none c run x y advances boxes up chain (inl many) = let few = chain.few in absurd (omega arith)
chain_or_none c run x y advances boxes up chain (inr (k, h, inl outside)) =
    let box = chain.each k (record { l = pos 0; b = pos 0; r = pos 0; t = pos 0 }) (let e = chain.one_each in omega arith) in
    not_outside run (middle c x (left c advances k) (right c advances k)) box.height up box.height_is outside
chain_or_none c run x y advances boxes up chain (inr (k, h, inr (q, raised, bad))) =
    let t : k < length boxes = (let e = chain.one_each in omega arith) in
    let good = chain.good k q t in
    let same = same_box c run x y (left c advances k) (right c advances k) (get_or boxes k q) q up (chain.each k q t) raised in
    let offsets : HasOffsets (get_or boxes k q) = (good.0.0, good.1.0, good.0.1, good.1.1) in
    bad (rw same.0 at offsets.0, rw same.1 at offsets.1, rw same.2 at offsets.2, rw same.3 at offsets.3)
