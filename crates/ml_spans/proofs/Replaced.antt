-- One element of a list in the place of another one.
use Rattle.std.proofs.Common.{◌≡◌, ◌↔◌, Bool, true, false, IsTrue, MatchBool, List, ◌∷◌, ◌++◌, length, Contains, ◌⊎◌, inl, inr, refl, sym, ap, ◌∙◌, subst, arith, length-append}
use Rattle.std.specs.List.{AllByRecursion}
use Rattle.std.specs.Ordering.{ordering_then, ordering_reverse}
use Rattle.std.specs.Cmp.{IsTotalOrder, tied_itself}
use Rattle.std.specs.declared.cmp.Ordering.{Ordering}
use Rattle.std.specs.declared.cmp.Ordering.TheVariants.{Less, Equal, Greater}
use Rattle.std.proofs.lemmas.List.Elements.{All-contains_itself, recursion_from_All}
use Rattle.ml_spans.specs.Key.{IsExact}
use Rattle.ml_ratio.proofs.lemmas.Lists.{contained, added_has, added_only}
use Rattle.ml_ratio.specs.Lists.{IsAdded}
use Rattle.ml_spans.specs.Order.{entry_order, IsRising, IsNew, IsReplaced}
use Rattle.ml_spans.specs.Spans.{entry_of}
use Rattle.ml_spans.specs.declared.entry.Entry.{Entry}
use Rattle.ml_spans.proofs.Lists.{all_front, all_back, all_weaker, all_both}
use Rattle.ml_spans.proofs.Members.{absent_from_new, new_without}
use Rattle.ml_spans.proofs.Rising.{around, rises_around, apart}

-- an element stands to y as to x, if it is not x
abbrev StandsAlike : {A : Type 0} → (A → A → Ordering) → A → A → A → Type 0
StandsAlike order x y z = (z ≡ x) ⊎ (order y z ≡ order x z)

module _ {A : Type 0} {x y : A} {xs ys : List A} (r : IsReplaced x y xs ys) where
  -- the list without both
  abbrev without : List A
  without = r.before ++ r.after

  taken : IsAdded x without xs
  taken = record { before = r.before; after = r.after; was = refl; is = r.was }

  given : IsAdded y without ys
  given = record { before = r.before; after = r.after; was = refl; is = r.is }

  -- the newer list has what the older one has but for the old element, and the new one
  pub members_replaced : {order : A → A → Ordering} → IsTotalOrder order → IsRising order xs → (z : A) → Contains ys z ↔ ((Contains xs z × (¬ (z ≡ x))) ⊎ (z ≡ y))
  members_replaced {order} o s z = (
    λ c. elim (added_only given z c) [
      | inl e ↦ inr (sym e)
      | inr rest ↦ inl (added_has taken z rest, λ same. absent_from_new order o x without (new_without order o taken s) (subst (λ (w : A). Contains without w) same rest))
    ],
    λ h. elim h [
      | inl old ↦ elim (added_only taken z old.0) [ inl e ↦ absurd (old.1 (sym e)) | inr rest ↦ added_has given z rest ]
      | inr e ↦ subst (Contains ys) (sym e) (contained given)
    ],
  )

module _ {A : Type 0} {order : A → A → Ordering} (o : IsTotalOrder order) (x y : A) where
  below_alike : (z : A) → order z x ≡ Less → StandsAlike order x y z → order z y ≡ Less
  below_alike z l (inl e) = absurd (apart (subst (λ w. order w x ≡ Equal) (sym e) (tied_itself o x)) l)
  below_alike z l (inr e) = o.antisymm z y ∙ ap ordering_reverse (e ∙ o.antisymm x z ∙ ap ordering_reverse l)

  above_alike : (z : A) → order x z ≡ Less → StandsAlike order x y z → order y z ≡ Less
  above_alike z l (inl e) = absurd (apart (subst (λ w. order x w ≡ Equal) (sym e) (tied_itself o x)) l)
  above_alike z l (inr e) = e ∙ l

  rises_replaced : {xs ys : List A} → IsReplaced x y xs ys → ((z : A) → Contains xs z → StandsAlike order x y z) → IsRising order xs → IsRising order ys
  rises_replaced {xs} {ys} r place s =
      let at = around o r.before x r.after (subst (IsRising order) r.was s) in
      let alike : AllByRecursion (StandsAlike order x y) xs = all_weaker (Contains xs) (StandsAlike order x y) place xs (recursion_from_All (Contains xs) xs (All-contains_itself xs)) in
      let parts = subst (AllByRecursion (StandsAlike order x y)) r.was alike in
      subst (IsRising order) (sym r.is) (rises_around o r.before y r.after (record {
        left_rises = at.left_rises;
        right_rises = at.right_rises;
        below = all_both (λ z. order z x ≡ Less) (StandsAlike order x y) (λ z. order z y ≡ Less) below_alike r.before at.below (all_front (StandsAlike order x y) r.before (x ∷ r.after) parts);
        above = all_both (λ z. order x z ≡ Less) (StandsAlike order x y) (λ z. order y z ≡ Less) above_alike r.after at.above (all_back (StandsAlike order x y) r.before (x ∷ r.after) parts).1;
      }))

  -- the same of an answer: the element is there and replaced, or it is not there
  pub rises_set : (xs ys : List A) (there : Bool) → MatchBool there (IsReplaced x y xs ys) ((ys ≡ xs) × IsNew order x xs) →
      ((z : A) → Contains xs z → StandsAlike order x y z) → IsRising order xs → IsRising order ys
  rises_set xs ys true m place s = rises_replaced m place s
  rises_set xs ys false m place s = subst (IsRising order) (sym m.0) s

  -- the answer is true just where the element was in the list
  pub there_set : (xs ys : List A) (there : Bool) → MatchBool there (IsReplaced x y xs ys) ((ys ≡ xs) × IsNew order x xs) → IsTrue there ↔ Contains xs x
  there_set xs ys true m = (λ _. contained (taken m), λ _. refl)
  there_set xs ys false m = (λ e. cc, λ c. absurd (absent_from_new order o x xs m.1 c))

  -- the list is as long as it was, whether or not the element was replaced
  pub length_set : (xs ys : List A) (there : Bool) → MatchBool there (IsReplaced x y xs ys) ((ys ≡ xs) × IsNew order x xs) → length ys ≡ length xs
  length_set xs ys true m = omega (arith, ap length m.was, ap length m.is, length-append m.before (x ∷ m.after), length-append m.before (y ∷ m.after))
  length_set xs ys false m = ap length m.0

  -- a list whose element was replaced has the new one and all others of before; where it was not there, the list is the same
  pub members_set : (xs ys : List A) (there : Bool) → MatchBool there (IsReplaced x y xs ys) ((ys ≡ xs) × IsNew order x xs) → IsRising order xs →
      MatchBool there ((z : A) → Contains ys z ↔ ((Contains xs z × (¬ (z ≡ x))) ⊎ (z ≡ y))) (ys ≡ xs)
  members_set xs ys true m s = members_replaced m o s
  members_set xs ys false m s = m.0

alike_unless : {X : Type 0} (p q a b : Ordering) → (p ≡ Equal → q ≡ Equal → X ⊎ (a ≡ b)) → X ⊎ (ordering_then p (ordering_then q a) ≡ ordering_then p (ordering_then q b))
alike_unless Less q a b f = inr refl
alike_unless Greater q a b f = inr refl
alike_unless Equal Less a b f = inr refl
alike_unless Equal Greater a b f = inr refl
alike_unless Equal Equal a b f = f refl refl

module _ {K E V : Type 0} {keys : K → K → Ordering} (ends : E → E → Ordering) {values : V → V → Ordering} (k : IsExact keys) (v : IsExact values) where
  -- where the ends of an entry's key and value stand to its new end as to the old one, all entries stand alike
  pub alike : (key : K) (end to : E) (value : V) (all : List (Entry K E V)) → ((other : E) → Contains all (entry_of key other value) → (other ≡ end) ⊎ (ends to other ≡ ends end other)) →
      (z : Entry K E V) → Contains all z → StandsAlike (entry_order keys ends values) (entry_of key end value) (entry_of key to value) z
  alike key end to value all place z c =
      alike_unless (keys key z.key) (values value z.value) (ends to z.end) (ends end z.end) (λ p q.
      let same_key : z.key ≡ key = sym (k key z.key p) in
      let same_value : z.value ≡ value = sym (v value z.value q) in
      let own : z ≡ entry_of key z.end value = λ i. record { key = same_key i; end = z.end; value = same_value i } in
      elim (place z.end (subst (Contains all) own c)) [
        | inl e ↦ inl (λ i. record { key = same_key i; end = e i; value = same_value i })
        | inr e ↦ inr e
      ])
