-- Labels that are alike, in the same order, have the same longest choice.
use Rattle.std.proofs.Common.{◌≡◌, ℕ, ◌<◌, ℤ, List, length, get_or, Option, Some, None, inl, inr, sym, subst, arith}
use Rattle.std.specs.Prelude.{Any, ◌↔◌}
use Rattle.ml_ratio.specs.Fraction.{Fraction, value_of, IsLess, IsAtMost, IsSame}
use Rattle.ml_ratio.specs.declared.ratio.Ratio.{Ratio}
use Rattle.ml_cone.specs.Plane.{SidesMeet, lowered, raised}
use Rattle.ml_cone.specs.Overlap.{Overlap, BoxesOverlap}
use Rattle.ml_cone.specs.Choice.{Choice, Allows, CoversFrom, Blocks}
use Rattle.ml_cone.specs.Slots.{AreSlots, IsBlockerBy, ends, no_slot}
use Rattle.ml_cone.specs.Sound.{HasGoodEnd, AllowsAt, IsCovered, IsSound}
use Rattle.ml_cone.specs.declared.label.BoxPx.{BoxPx}
use Rattle.ml_cone.specs.declared.label.Label.{Label}
use Rattle.ml_cone.specs.declared.slot.Slot.{Slot}
use Rattle.ml_follow.specs.Alike.{IsAlike, AreAllAlike}

-- where a label stands and how far it reaches
record Ground : Type 0 where
  x : ℤ
  y : ℤ
  boxes : List BoxPx
  margin : ℕ

abbrev ground : Label → Ground
ground a = record { x = a.x; y = a.y; boxes = a.boxes; margin = a.margin }

same_ground : (a b : Label) → IsAlike a b → ground a ≡ ground b
same_ground a b h = λ i. record { x = h.same_x i; y = h.same_y i; boxes = h.same_boxes i; margin = h.same_margin i }

abbrev GroundsMeet : Ground → Ground → Fraction → Type 0
GroundsMeet a b s =
    Any (λ (p : BoxPx). Any (λ (q : BoxPx). SidesMeet a.x (lowered p.l a.margin) (raised p.r a.margin) b.x (lowered q.l b.margin) (raised q.r b.margin) s
    × SidesMeet a.y (lowered p.b a.margin) (raised p.t a.margin) b.y (lowered q.b b.margin) (raised q.t b.margin) s) b.boxes) a.boxes

overlap_alike : (a b c d : Label) (s : Fraction) → IsAlike a c → IsAlike b d → Overlap a b s → Overlap c d s
unfolding Overlap BoxesOverlap
overlap_alike a b c d s h k o =
    subst (λ (g : Ground). GroundsMeet g (ground d) s) (same_ground a c h) (subst (λ (g : Ground). GroundsMeet (ground a) g s) (same_ground b d k) o)

turned : (a b : Label) → IsAlike a b → IsAlike b a
turned a b h = record {
  same_id = sym h.same_id;
  same_x = sym h.same_x;
  same_y = sym h.same_y;
  same_boxes = sym h.same_boxes;
  same_min = sym h.same_min;
  same_max = sym h.same_max;
  same_margin = sym h.same_margin;
}

allows_alike : (a b c d : Label) (u e : Fraction) → IsAlike a c → IsAlike b d → Allows a b u e → Allows c d u e
unfolding Allows
allows_alike a b c d u e h k free s scale low high o =
    free s scale (subst (λ (r : Ratio). IsAtMost (value_of r) s) (sym h.same_min) low.0, low.1) (subst (λ (r : Ratio). IsAtMost (value_of r) s) (sym k.same_min) high.0, high.1)
    (overlap_alike c d a b s (turned a c h) (turned b d k) o)

covers_alike : (a b c d : Label) (u f : Fraction) → IsAlike a c → IsAlike b d → CoversFrom a b u f → CoversFrom c d u f
unfolding CoversFrom
covers_alike a b c d u f h k cover = (
  cover.0,
  cover.1,
  λ s above below.
      let x = cover.2 s above below in
      ((subst (λ (r : Ratio). IsAtMost (value_of r) s) k.same_min x.0.0, x.0.1), overlap_alike a b c d s h k x.1),
)

all_turned : (labels others : List Label) → AreAllAlike labels others → AreAllAlike others labels
all_turned labels others h = record { one_each = sym h.one_each; alike = λ i d lt. turned (get_or labels i d) (get_or others i d) (h.alike i d (let n = h.one_each in omega arith)) }

module _ (labels others : List Label) (c : Choice) (h : AreAllAlike labels others) where
  good_alike : (i : ℕ) → i < length labels → HasGoodEnd labels c i → HasGoodEnd others c i
  good_alike i lt good d =
      let x = good d in
      let a = h.alike i d lt in
      (subst (λ (r : Ratio). IsAtMost (value_of r) (c i)) a.same_min x.0, subst (λ (r : Ratio). IsAtMost (c i) (value_of r)) a.same_max x.1)

  allow_alike : (i j : ℕ) → i < length labels → j < i → AllowsAt labels c j i → AllowsAt others c j i
  allow_alike i j lt less free d =
      allows_alike (get_or labels i d) (get_or labels j d) (get_or others i d) (get_or others j d) (c j) (c i) (h.alike i d lt) (h.alike j d (omega arith)) (free d)

  block_alike : (i j : ℕ) → i < length labels → Blocks labels c j i → Blocks others c j i
  block_alike i j lt block d =
      let x = block d in
      let less = x.0 in
      let a = h.alike i d lt in (
        less,
        subst (λ (r : Ratio). IsLess (c i) (value_of r)) a.same_max x.1,
        covers_alike (get_or labels i d) (get_or labels j d) (get_or others i d) (get_or others j d) (c j) (c i) a (h.alike j d (omega arith)) x.2,
      )

  same_alike : (i : ℕ) → i < length labels → ((d : Label) → IsSame (c i) (value_of (get_or labels i d).max)) → (d : Label) → IsSame (c i) (value_of (get_or others i d).max)
  same_alike i lt same d = subst (λ (r : Ratio). IsSame (c i) (value_of r)) (h.alike i d lt).same_max (same d)

  covered_alike : (i : ℕ) → i < length labels → IsCovered labels c i → IsCovered others c i
  covered_alike i lt covered = elim covered [
    | inl same ↦ inl (same_alike i lt same)
    | inr block ↦ inr (block.0, block_alike i block.0 lt block.1)
  ]

module _ (labels others : List Label) (c : Choice) (h : AreAllAlike labels others) where
  blocker_alike : (i : ℕ) (blocker : Option ℕ) → i < length labels → IsBlockerBy (λ j. j) labels c i blocker → IsBlockerBy (λ j. j) others c i blocker
  blocker_alike i None lt same = same_alike labels others c h i lt same
  blocker_alike i (Some n) lt by =
      (by.0, by.1, block_alike labels others c h i by.0 lt by.2, λ k less block. by.3 k less (block_alike others labels c (all_turned labels others h) i k (let m = h.one_each in omega arith) block))

sound_alike : (labels others : List Label) (slots : List Slot) → AreAllAlike labels others → (i : ℕ) → i < length labels → IsSound labels slots i → IsSound others slots i
sound_alike labels others slots h i lt sound = record {
  good_end = good_alike labels others (ends slots) h i lt sound.good_end;
  free = λ j less. allow_alike labels others (ends slots) h i j lt less (sound.free j less);
  covered = covered_alike labels others (ends slots) h i lt sound.covered;
  blocker = blocker_alike labels others (ends slots) h i (get_or slots i no_slot).blocker lt sound.blocker;
}

-- that sound slots are the longest choice with its blockers
abbrev pub SoundSlots : Type 0
SoundSlots = (labels : List Label) (slots : List Slot) → length slots ≡ length labels → ((i : ℕ) → i < length labels → IsSound labels slots i) ↔ AreSlots (λ j. j) labels slots

-- slots that are the longest choice of some labels, with its blockers, are that of labels that are alike one by one
pub best_alike : SoundSlots → (labels others : List Label) (slots : List Slot) → AreAllAlike labels others → AreSlots (λ j. j) labels slots → AreSlots (λ j. j) others slots
best_alike law labels others slots h are =
    let n = h.one_each in
    let m = are.one_slot in
    let sound = (law labels slots m).1 are in
    (law others slots (omega arith)).0 (λ i lt. sound_alike labels others slots h i (omega arith) (sound i (omega arith)))
