-- Boxes of clusters, from what their parts are.
use Rattle.std.proofs.Common.{◌≡◌, ℕ, ◌/◌, ◌^◌, ◌<◌, List, Option, Some, None, MatchOption, ℤ, pos, ◌+ℤ◌, ◌-ℤ◌, ◌<ℤ◌, ◌≤ℤ◌, FitsSigned, w64, to_z, of_z, inr, refl, sym, ap, ◌∙◌, subst, arith}
use Rattle.std.proofs.lemmas.Int.{ints, to_z-of_z, to_z_pos}
use Rattle.ml_ratio.specs.declared.geometry.Pos.{Pos}
use Rattle.ml_cone.specs.declared.label.BoxPx.{BoxPx}
use Rattle.ml_river.specs.declared.class.RiverClass.{RiverClass}
use Rattle.ml_river.specs.Height.{IsHeight}
use Rattle.ml_river.specs.Chain.{middle, raise, AreOffsets, HasSides, IsRaisedBoxOrNone}

-- orders between numbers that are the same
pub lt_along : (a b c d : ℤ) → a ≡ c → d ≡ b → a <ℤ b → c <ℤ d
lt_along a b c d e f h = omega (arith, ints)

-- the same of numbers of which the one is at most the other
pub le_along : (a b c d : ℤ) → a ≡ c → d ≡ b → a ≤ℤ b → c ≤ℤ d
le_along a b c d e f h = omega (arith, ints)

-- what the making of a box of four sides says
abbrev pub IsMade : ℤ → ℤ → ℤ → ℤ → Option BoxPx → Type 0
IsMade l b r t o = MatchOption o (¬ (AreOffsets l b r t)) (HasSides l b r t)

-- a raised box, or none
pub raised : (c : RiverClass) (run : List Pos) (x y l r m h v b t : ℤ) (o : Option BoxPx) → m ≡ middle c x l r → IsHeight run m h →
    v ≡ raise c y h → b ≡ v -ℤ pos (c.size / 2) → t ≡ b +ℤ pos c.size → IsMade l b r t o → IsRaisedBoxOrNone c run x y l r o
raised c run x y l r m h v b t None em eh ev eb et none =
    inr (
      record { l = l; b = b; r = r; t = t },
      record {
        left_is = refl;
        right_is = refl;
        height = h;
        height_is = subst (λ (z : ℤ). IsHeight run z h) em eh;
        bottom_is = eb ∙ ap (λ (z : ℤ). z -ℤ pos (c.size / 2)) ev;
        top_is = et;
      },
      none,
    )
raised c run x y l r m h v b t (Some p) em eh ev eb et made = (
  record {
    left_is = made.left_is;
    right_is = made.right_is;
    height = h;
    height_is = subst (λ (z : ℤ). IsHeight run z h) em eh;
    bottom_is = made.bottom_is ∙ (eb ∙ ap (λ (z : ℤ). z -ℤ pos (c.size / 2)) ev);
    top_is = made.top_is ∙ (et ∙ ap (λ (z : ℤ). z +ℤ pos c.size) (sym made.bottom_is));
  },
  rw (made.left_is, made.bottom_is, made.right_is, made.top_is) made.good,
)

-- the same with the same sides
pub raised_along : (c : RiverClass) (run : List Pos) (x y l r l' r' : ℤ) (o : Option BoxPx) → l ≡ l' → r ≡ r' → IsRaisedBoxOrNone c run x y l r o → IsRaisedBoxOrNone c run x y l' r' o
raised_along c run x y l r l' r' o el er h =
    subst (λ (z : ℤ). IsRaisedBoxOrNone c run x y l' z o) er (subst (λ (z : ℤ). IsRaisedBoxOrNone c run x y z r o) el h)

-- a side, as the code computes it
pub side : (s h s' h' : ℕ) → s < 2 ^ 58 → h < 2 ^ 58 → s ≡ s' → h ≡ h' → to_z w64 (of_z w64 (to_z w64 s -ℤ to_z w64 h)) ≡ pos s' -ℤ pos h'
side s h s' h' ls lh es eh =
    let a : to_z w64 s ≡ pos s = to_z_pos w64 s (omega arith) in
    let b : to_z w64 h ≡ pos h = to_z_pos w64 h (omega arith) in
    let f : FitsSigned w64 (pos s -ℤ pos h) = omega (arith, ints) in
    (ap (λ (z : ℤ). to_z w64 (of_z w64 (z -ℤ to_z w64 h))) a ∙ ap (λ (z : ℤ). to_z w64 (of_z w64 (pos s -ℤ z))) b)
    ∙ (to_z-of_z w64 (pos s -ℤ pos h) f ∙ (ap (λ (n : ℕ). pos n -ℤ pos h) es ∙ ap (λ (n : ℕ). pos s' -ℤ pos n) eh))
