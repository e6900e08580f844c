-- A set of fractions has its maximal intervals in one way, and stays have one peak.
use Rattle.std.proofs.Common.{◌≡◌, suc, ◌*◌, ◌<◌, ◌↔◌, List, [], ◌∷◌, length, get_or, arith, refl, sym, ap, subst, ◌∙◌, Bool, true, false, IsTrue, inl, inr}
use Rattle.std.specs.Prelude.{All, AllPairs, Any}
use Rattle.std.proofs.Props.{props}
use mathlib.Core.HLevel.{is_prop→PathP}
use Rattle.std.proofs.lemmas.Bool.{cases_order}
use Rattle.std.proofs.lemmas.List.{same_lists, get_or_default}
use Rattle.std.proofs.lemmas.List.Elements.{All-head, All-tail}
use Rattle.ml_ratio.specs.Fraction.{Fraction, value_of, IsLess, IsAtMost}
use Rattle.ml_ratio.specs.declared.ratio.Ratio.{Ratio}
use Rattle.ml_ratio.proofs.lemmas.Fractions.{middle, less_at_most, at_most_less}
use Rattle.ml_ratio.proofs.lemmas.Lists.{pick}
use Rattle.ml_cone.specs.declared.label.Label.{Label}
use Rattle.ml_cone.specs.Slots.{no_slot}
use Rattle.ml_cone.specs.declared.slot.Slot.{Slot}
use Rattle.ml_flight.specs.Stay.{HoldsScale}
use Rattle.ml_flight.specs.Stays.{IsBetween, IsMaximal, AreMaximal}
use Rattle.ml_flight.specs.Peak.{IsPeak}
use Rattle.ml_flight.specs.Shown.{IsShownAt}
use Rattle.ml_flight.specs.Timelines.{span_of, AreTimelines}
use Rattle.ml_flight.specs.declared.place.Peak.{Peak}
use Rattle.ml_flight.specs.declared.stay.Stay.{Stay}
use Rattle.ml_flight.specs.declared.window.Window.{Window}
use Rattle.ml_ratio.proofs.lemmas.Anys.{any_at, any_of, any_cases, any_none}
use Rattle.ml_flight.proofs.Counting.{true_or_false}
use Rattle.ml_ratio.proofs.lemmas.Intervals.{equal_ratio, from_up, holds_middle, begins_by, ends_by}

-- ---- one stay

stay_same : (a b : Stay) → a.from ≡ b.from → a.from_in ≡ b.from_in → a.to ≡ b.to → a ≡ b
stay_same a b f c t i = record {
  from = f i;
  from_in = c i;
  to = t i;
  some = is_prop→PathP (λ j. IsLess (value_of (f j)) (value_of (t j))) (λ j. hlevel props) a.some b.some i;
  above = is_prop→PathP (λ j. IsTrue (c j) → 0 < (f j).num) (λ j. hlevel props) a.above b.above i;
}

-- a stay holds all between two fractions that it holds
held_between : (a : Stay) (s t r : Fraction) → HoldsScale a s → HoldsScale a t → IsBetween s t r → HoldsScale a r
held_between a s t r hs ht (inl between) = (from_up a.from_in (value_of a.from) s r hs.0 between.0, at_most_less r t (value_of a.to) between.1 ht.1)
held_between a s t r hs ht (inr between) = (from_up a.from_in (value_of a.from) t r ht.0 between.0, at_most_less r s (value_of a.to) between.1 hs.1)

same_truth : {P : Type 0} (b c : Bool) → IsTrue b ↔ P → IsTrue c ↔ P → b ≡ c
same_truth true true h k = refl
same_truth false false h k = refl
same_truth true false h k = absurd (let e : false ≡ true = k.1 (h.0 refl) in cc e)
same_truth false true h k = absurd (let e : false ≡ true = h.1 (k.0 refl) in cc e)

module _ (S : Fraction → Type 0) where
  -- of two maximal intervals that hold one fraction, the second holds all that the first holds
  held_too : (a b : Stay) (t : Fraction) → IsMaximal S a → IsMaximal S b → HoldsScale a t → HoldsScale b t → (s : Fraction) → HoldsScale a s → HoldsScale b s
  held_too a b t first second at_a at_b s held = second.whole s t at_b (λ r between. first.within r (held_between a s t r held at_a between))

  one_stay_each : (a b : Stay) (t : Fraction) → IsMaximal S a → IsMaximal S b → HoldsScale a t → HoldsScale b t → a ≡ b
  one_stay_each a b t first second at_a at_b =
      let there = held_too a b t first second at_a at_b in
      let back = held_too b a t second first at_b at_a in
      let f0 = begins_by a.from_in b.from_in (value_of a.from) (value_of a.to) (value_of b.from) (value_of b.to) a.some there in
      let f1 = begins_by b.from_in a.from_in (value_of b.from) (value_of b.to) (value_of a.from) (value_of a.to) b.some back in
      let t0 = ends_by a.from_in b.from_in (value_of a.from) (value_of a.to) (value_of b.from) (value_of b.to) a.some there in
      let t1 = ends_by b.from_in a.from_in (value_of b.from) (value_of b.to) (value_of a.from) (value_of a.to) b.some back in
      let from = equal_ratio a.from b.from (omega arith) in
      let to = equal_ratio a.to b.to (omega arith) in
      let counted : IsTrue a.from_in ↔ S (value_of b.from) = subst (λ (r : Ratio). IsTrue a.from_in ↔ S (value_of r)) from first.from_in in
      stay_same a b from (same_truth a.from_in b.from_in counted second.from_in) to

  -- each of the stays is one of the others
  all_found : (stays others : List Stay) → AreMaximal S stays → AreMaximal S others → All (λ a. Any (λ b. a ≡ b) others) stays
  all_found stays others are those k d lt =
      let a : Stay = get_or stays k d in
      let maximal = are.maximal k d lt in
      let t = middle (value_of a.from) (value_of a.to) in
      let held = holds_middle a.from_in (value_of a.from) (value_of a.to) a.some in
      let found = any_at (λ b. HoldsScale b t) others d (those.complete t (maximal.within t held)) in
      any_of (λ b. a ≡ b) others found.0 d found.1 (one_stay_each a (get_or others found.0 d) t maximal (those.maximal found.0 d found.1) held found.2)

-- ---- lists that ascend and have the same elements are the same

head_apart : {X : Type 0} (R : X → X → Type 0) (x : X) (xs : List X) → AllPairs R (x ∷ xs) → (P : X → Type 0) → Any P xs → ((y : X) → R x y → P y → ⊥) → ⊥
head_apart R x xs pairs P any never =
    let found = any_at P xs x any in
    never (get_or xs found.0 x) (pairs 0 (suc found.0) x (omega arith) (let lt = found.1 in omega arith)) found.2

tail_apart : {X : Type 0} (R : X → X → Type 0) (x : X) (xs : List X) → AllPairs R (x ∷ xs) → AllPairs R xs
tail_apart R x xs pairs i j d less lt = pairs (suc i) (suc j) d (omega arith) (omega arith)

-- what is found among the elements of a list and is not its head is found among the others
found_later : {X : Type 0} (R : X → X → Type 0) (x y : X) (xs ys : List X) → ((z : X) → R z z → ⊥) →
    AllPairs R (x ∷ xs) → x ≡ y → All (λ a. Any (λ b. a ≡ b) (y ∷ ys)) (x ∷ xs) → All (λ a. Any (λ b. a ≡ b) ys) xs
found_later R x y xs ys irreflexive pairs same all k d lt =
    let z = get_or xs k d in
    elim (any_cases (λ b. z ≡ b) y ys (All-tail (λ a. Any (λ b. a ≡ b) (y ∷ ys)) x xs all k d lt)) [
      | inl here ↦ absurd (irreflexive x (subst (R x) (here ∙ sym same) (pairs 0 (suc k) d (omega arith) (omega arith))))
      | inr there ↦ there
    ]

sorted_same : {X : Type 0} (R : X → X → Type 0) → ((x : X) → R x x → ⊥) → ((x y : X) → R x y → R y x → ⊥) → (xs ys : List X) →
    AllPairs R xs → AllPairs R ys → All (λ a. Any (λ b. a ≡ b) ys) xs → All (λ a. Any (λ b. a ≡ b) xs) ys → xs ≡ ys
sorted_same R none both [] [] p q h k = refl
sorted_same R none both [] (y ∷ ys) p q h k = absurd (any_none (λ b. y ≡ b) (All-head (λ a. Any (λ b. a ≡ b) []) y ys k))
sorted_same R none both (x ∷ xs) [] p q h k = absurd (any_none (λ b. x ≡ b) (All-head (λ a. Any (λ b. a ≡ b) []) x xs h))
sorted_same R none both (x ∷ xs) (y ∷ ys) p q h k =
    let same : x ≡ y =
    elim (any_cases (λ b. x ≡ b) y ys (All-head (λ a. Any (λ b. a ≡ b) (y ∷ ys)) x xs h)) [
      | inl here ↦ here
      | inr later ↦ elim (any_cases (λ b. y ≡ b) x xs (All-head (λ a. Any (λ b. a ≡ b) (x ∷ xs)) y ys k)) [
        | inl here ↦ sym here
        | inr after ↦ absurd (head_apart R y ys q (λ b. x ≡ b) later (λ z up e. head_apart R x xs p (λ b. y ≡ b) after (λ w down f. both y x (subst (R y) (sym e) up) (subst (R x) (sym f) down))))
      ]
    ] in
    let rest = sorted_same R none both xs ys (tail_apart R x xs p) (tail_apart R y ys q) (found_later R x y xs ys none p same h) (found_later R y x ys xs none q (sym same) k) in
    ap (λ (z : _). z ∷ xs) same ∙ ap (λ (zs : List _). y ∷ zs) rest

begins_before : Stay → Stay → Type 0
begins_before a b = IsLess (value_of a.from) (value_of b.from)

ascend : (stays : List Stay) → AllPairs (λ a b. IsAtMost (value_of a.to) (value_of b.from)) stays → AllPairs begins_before stays
unfolding begins_before
ascend stays pairs i j d less lt =
    let a : Stay = get_or stays i d in
    let b : Stay = get_or stays j d in
    less_at_most (value_of a.from) (value_of a.to) (value_of b.from) a.some (pairs i j d less lt)

begins_once : (a : Stay) → begins_before a a → ⊥
unfolding begins_before
begins_once a less = omega arith

begins_either : (a b : Stay) → begins_before a b → begins_before b a → ⊥
unfolding begins_before
begins_either a b less more = omega arith

-- a set has its maximal intervals in one way
pub maximal_same : (S : Fraction → Type 0) (stays others : List Stay) → AreMaximal S stays → AreMaximal S others → stays ≡ others
maximal_same S stays others are those =
    sorted_same begins_before begins_once begins_either stays others (ascend stays are.ascending)
    (ascend others those.ascending) (all_found S stays others are those) (all_found S others stays those are)

-- ---- one timeline, one peak

-- labels with their slots have one list of stays each in a window
pub one_timeline : (labels : List Label) (slots : List Slot) (at : Window) (all others : List (List Stay)) → AreTimelines labels slots at all → AreTimelines labels slots at others → all ≡ others
one_timeline labels slots at all others are those =
    let n = are.one_each in
    let m = those.one_each in
    same_lists all others (n ∙ sym m) (λ k d lt.
    let in' : k < length labels = omega arith in
    let e = pick labels k in' in
    get_or_default all k d [] lt
    ∙ maximal_same (IsShownAt (get_or labels k e) (span_of (get_or labels k e) (get_or slots k no_slot)) at) (get_or all k []) (get_or others k []) (are.stays k e in') (those.stays k e in')
    ∙ get_or_default others k [] d (omega arith))

-- stays have one peak: one count, at one place
pub one_peak : (all : List (List Stay)) (peak other : Peak) → IsPeak all peak → IsPeak all other → peak ≡ other
one_peak all p q one two =
    let low = two.greatest (value_of p.mark) p.after p.count one.place one.count in
    let high = one.greatest (value_of q.mark) q.after q.count two.place two.count in
    let counts : p.count ≡ q.count = omega arith in
    elim (cases_order (p.mark.num * q.mark.den) (q.mark.num * p.mark.den)) [
      | inl same ↦
          let marks = equal_ratio p.mark q.mark same in
          let afters : p.after ≡ q.after =
          elim (true_or_false p.after) [
            | inl late ↦ elim (true_or_false q.after) [
              | inl late_too ↦ late ∙ sym late_too
              | inr early ↦ absurd (let less = one.first (value_of q.mark) q.after q.count two.place two.count (inr (sym same, early, late)) in omega arith)
            ]
            | inr early ↦ elim (true_or_false q.after) [
              | inl late ↦ absurd (let less = two.first (value_of p.mark) p.after p.count one.place one.count (inr (same, early, late)) in omega arith)
              | inr early_too ↦ early ∙ sym early_too
            ]
          ] in
          (λ i. record { count = counts i; mark = marks i; after = afters i })
      | inr (inl less) ↦ absurd (let fewer = two.first (value_of p.mark) p.after p.count one.place one.count (inl less) in omega arith)
      | inr (inr more) ↦ absurd (let fewer = one.first (value_of q.mark) q.after q.count two.place two.count (inl more) in omega arith)
    ]
