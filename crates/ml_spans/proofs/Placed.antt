-- Where an entry stands in the list of a tree, from where it stands to the entry of the top node.
use Rattle.std.proofs.Common.{◌≡◌, ℕ, Bool, true, false, List, [], ◌∷◌, ◌++◌, map, Option, Some, None, MatchBool, MatchOption, Box, refl, sym, ap, ◌∙◌, subst}
use Rattle.std.specs.List.{AllByRecursion}
use Rattle.std.specs.Ordering.{ordering_reverse}
use Rattle.std.specs.Option.{IsSome}
use Rattle.std.specs.Cmp.{IsTotalOrder, tied_back}
use Rattle.std.specs.declared.alloc.Global.{Global}
use Rattle.std.specs.declared.cmp.Ordering.{Ordering}
use Rattle.std.specs.declared.cmp.Ordering.TheVariants.{Less, Equal, Greater}
use Rattle.ml_spans.specs.Key.{IsExact}
use Rattle.ml_spans.specs.Order.{IsRising, IsNew, IsReplaced}
use Rattle.ml_ratio.specs.Lists.{IsAdded}
use Rattle.ml_spans.specs.Sound.{entries, entries_in, IsOpened}
use Rattle.ml_spans.specs.declared.entry.Entry.{Entry}
use Rattle.ml_spans.specs.declared.shape.Content.{Content}
use Rattle.ml_spans.specs.declared.shape.Node.{Node}
use Rattle.ml_spans.specs.declared.shape.Tree.{Tree}
use Rattle.ml_spans.specs.declared.shape.Tree.TheVariants.{Fork}
use Rattle.ml_spans.proofs.Lists.{all_append, all_front, all_back, all_weaker}
use Rattle.ml_spans.proofs.Rising.{IsAround, around, apart, above_apart, rises_left, rises_right, added_left, added_right, replaced_left, replaced_right}

-- the list `all` has one element between `left` and `right`, to which x stands as `place` says
pub record IsPlaced {A : Type 0} (order : A → A → Ordering) (x : A) (place : Ordering) (all left held right : List A) : Type 0 where
  pub middle : A
  pub holds : held ≡ middle ∷ []
  pub parts : all ≡ left ++ (middle ∷ right)
  pub stands : order x middle ≡ place

one_entry : {K E V : Type 0} (order : Entry K E V → Entry K E V → Ordering) (x : Entry K E V) (place : Ordering) (all left right : List (Entry K E V)) (c : Option (Content K E V)) →
    IsSome c → all ≡ left ++ (entries_in c ++ right) → AllByRecursion (λ y. order x y ≡ place) (entries_in c) → IsPlaced order x place all left (entries_in c) right
one_entry order x place all left right None s p a = cc
one_entry order x place all left right (Some content) s p a = record { middle = content.entry; holds = refl; parts = p; stands = a.0 }

-- in the entries of an opened fork the node's own, with which x was compared, stands between those of the two sides
pub placed : {K E V : Type 0} {ends : E → E → Ordering} {order : Entry K E V → Entry K E V → Ordering} {x : Entry K E V} {place : Ordering}
    {tree : Tree K E V} {height : ℕ} {box : Box (Node K E V) Global} {node seen : Node K E V} {left right : Tree K E V} → tree ≡ Fork height box →
    IsOpened ends box.value node left right → seen ≡ node → AllByRecursion (λ y. order x y ≡ place) (entries_in seen.content) →
    IsPlaced order x place (entries tree) (entries left) (entries_in node.content) (entries right)
placed {order = order} {x = x} {place = place} {tree = tree} {node = node} {left = left} {right = right} is sides seen a =
    one_entry order x place (entries tree) (entries left) (entries right) node.content sides.held
    (ap entries is ∙ sides.parts) (subst (λ n. AllByRecursion (λ y. order x y ≡ place) (entries_in n.content)) seen a)

module _ {A : Type 0} {order : A → A → Ordering} (o : IsTotalOrder order) {x : A} {place : Ordering} {all left held right : List A} (p : IsPlaced order x place all left held right) where
  sides : IsRising order all → IsAround order left p.middle right
  sides s = around o left p.middle right (subst (IsRising order) p.parts s)

  -- where the whole list rises, so does the part left of the middle element
  pub left_rises : IsRising order all → IsRising order left
  left_rises s = (sides s).left_rises

  -- where the whole list rises, so does the part right of the middle element
  pub right_rises : IsRising order all → IsRising order right
  right_rises s = (sides s).right_rises

  -- what ties with no element of the whole list ties with none left of the middle
  pub left_new : IsNew order x all → IsNew order x left
  left_new n = all_front (λ y. order x y ≡ Equal → ⊥) left (p.middle ∷ right) (subst (IsNew order x) p.parts n)

  -- what ties with no element of the whole list ties with none right of the middle
  pub right_new : IsNew order x all → IsNew order x right
  right_new n = (all_back (λ y. order x y ≡ Equal → ⊥) left (p.middle ∷ right) (subst (IsNew order x) p.parts n)).1

  not_equal : IsNew order x all → place ≡ Equal → ⊥
  not_equal n e = (all_back (λ y. order x y ≡ Equal → ⊥) left (p.middle ∷ right) (subst (IsNew order x) p.parts n)).0 (p.stands ∙ e)

  whole : (new : List A) → IsRising order (left ++ (p.middle ∷ new)) → IsRising order (left ++ (held ++ new))
  whole new s = rw p.holds s

  -- where x is before the middle and came into the left part, it came into the whole list, which still rises
  pub put_left : (new result : List A) → place ≡ Less → IsRising order all → IsAdded x left new → IsRising order new → result ≡ new ++ (held ++ right) → IsAdded x all result × IsRising order result
  put_left new result e s a n is =
      let back : result ≡ new ++ (p.middle ∷ right) = is ∙ ap (λ (h : List A). new ++ (h ++ right)) p.holds in
      (rw (p.parts, back) (added_left (p.middle ∷ right) a), rw back (rises_left o left new x p.middle right (subst (IsRising order) p.parts s) a n (p.stands ∙ e)))

  is_greater : (r : Ordering) → (r ≡ Less → ⊥) → (r ≡ Equal → ⊥) → r ≡ Greater
  is_greater Less f g = absurd (f refl)
  is_greater Equal f g = absurd (g refl)
  is_greater Greater f g = refl

  -- where x is new and not before the middle, and came into the right part, it came into the whole list, which still rises
  pub put_right : (new result : List A) → (place ≡ Less → ⊥) → IsNew order x all → IsRising order all → IsAdded x right new →
      IsRising order new → result ≡ left ++ (held ++ new) → IsAdded x all result × IsRising order result
  put_right new result f fresh s a n is =
      let back : result ≡ left ++ (p.middle ∷ new) = is ∙ ap (λ (h : List A). left ++ (h ++ new)) p.holds in
      let greater : order x p.middle ≡ Greater = p.stands ∙ is_greater place f (not_equal fresh) in
      (rw (p.parts, back) (added_right left (added_right (p.middle ∷ []) a)), rw back (rises_right o left new x p.middle right (subst (IsRising order) p.parts s) a n greater))

  -- x is before the middle one, so it is none of those from there on
  new_from_left : place ≡ Less → IsRising order all → IsNew order x left → IsNew order x all
  new_from_left e s n =
      let f : order x p.middle ≡ Less = p.stands ∙ e in
      rw p.parts (all_append (λ y. order x y ≡ Equal → ⊥) left (p.middle ∷ right) n
      (λ h. apart h f, all_weaker (λ y. order p.middle y ≡ Less) (λ y. order x y ≡ Equal → ⊥) (λ y l h. apart h (o.trans x p.middle y f l)) right (sides s).above))

  new_from_right : place ≡ Greater → IsRising order all → IsNew order x right → IsNew order x all
  new_from_right e s n =
      let f : order x p.middle ≡ Greater = p.stands ∙ e in
      rw p.parts (all_append (λ y. order x y ≡ Equal → ⊥) left (p.middle ∷ right)
      (all_weaker (λ y. order y p.middle ≡ Less) (λ y. order x y ≡ Equal → ⊥)
      (λ y l h. apart (tied_back o x y h) (o.trans y p.middle x l (o.antisymm p.middle x ∙ ap ordering_reverse f))) left (sides s).below)
      (λ h. above_apart h f, n))

  -- where x is before the middle, the whole list lost it if the left part did, and has nothing in its place if that part has none
  pub take_left : {N : Type 0} (new result : List A) (gone : Option N) → place ≡ Less → IsRising order all →
      MatchOption gone ((new ≡ left) × IsNew order x left) (λ _. IsAdded x new left) → result ≡ new ++ (held ++ right) →
      MatchOption gone ((result ≡ all) × IsNew order x all) (λ _. IsAdded x result all)
  take_left new result None e s h is = (is ∙ ap (λ (l : List A). l ++ (held ++ right)) h.0 ∙ ap (λ (m : List A). left ++ (m ++ right)) p.holds ∙ sym p.parts, new_from_left e s h.1)
  take_left new result (Some n) e s h is =
      let back : result ≡ new ++ (p.middle ∷ right) = is ∙ ap (λ (m : List A). new ++ (m ++ right)) p.holds in
      rw (p.parts, back) (added_left (p.middle ∷ right) h)

  -- where x is behind the middle, the whole list lost it if the right part did, and has nothing in its place if that part has none
  pub take_right : {N : Type 0} (new result : List A) (gone : Option N) → place ≡ Greater →
      IsRising order all → MatchOption gone ((new ≡ right) × IsNew order x right) (λ _. IsAdded x new right) →
      result ≡ left ++ (held ++ new) → MatchOption gone ((result ≡ all) × IsNew order x all) (λ _. IsAdded x result all)
  take_right new result None e s h is = (is ∙ ap (λ (l : List A). left ++ (held ++ l)) h.0 ∙ ap (λ (m : List A). left ++ (m ++ right)) p.holds ∙ sym p.parts, new_from_right e s h.1)
  take_right new result (Some n) e s h is =
      let back : result ≡ left ++ (p.middle ∷ new) = is ∙ ap (λ (m : List A). left ++ (m ++ new)) p.holds in
      rw (p.parts, back) (added_right left (added_right (p.middle ∷ []) h))

  -- where x ties with the middle, it is the middle, and the left and the right part together are the list without it
  pub take_middle : IsExact order → (result : List A) → place ≡ Equal → result ≡ left ++ right → IsAdded x result all
  take_middle exact result e is =
      let same : x ≡ p.middle = exact x p.middle (p.stands ∙ e) in
      record { before = left; after = right; was = is; is = p.parts ∙ ap (λ (y : A). left ++ (y ∷ right)) (sym same) }

  -- where x is before the middle, the whole list has y for it if the left part has, and has nothing in its place if that part has none
  pub set_left : (y : A) (there : Bool) (new result : List A) → place ≡ Less → IsRising order all →
      MatchBool there (IsReplaced x y left new) ((new ≡ left) × IsNew order x left) → result ≡ new ++ (held ++ right) →
      MatchBool there (IsReplaced x y all result) ((result ≡ all) × IsNew order x all)
  set_left y false new result e s h is = (is ∙ ap (λ (l : List A). l ++ (held ++ right)) h.0 ∙ ap (λ (m : List A). left ++ (m ++ right)) p.holds ∙ sym p.parts, new_from_left e s h.1)
  set_left y true new result e s h is =
      let back : result ≡ new ++ (p.middle ∷ right) = is ∙ ap (λ (m : List A). new ++ (m ++ right)) p.holds in
      rw (p.parts, back) (replaced_left (p.middle ∷ right) h)

  -- where x is behind the middle, the whole list has y for it if the right part has, and has nothing in its place if that part has none
  pub set_right : (y : A) (there : Bool) (new result : List A) → place ≡ Greater → IsRising order all →
      MatchBool there (IsReplaced x y right new) ((new ≡ right) × IsNew order x right) →
      result ≡ left ++ (held ++ new) → MatchBool there (IsReplaced x y all result) ((result ≡ all) × IsNew order x all)
  set_right y false new result e s h is = (is ∙ ap (λ (l : List A). left ++ (held ++ l)) h.0 ∙ ap (λ (m : List A). left ++ (m ++ right)) p.holds ∙ sym p.parts, new_from_right e s h.1)
  set_right y true new result e s h is =
      let back : result ≡ left ++ (p.middle ∷ new) = is ∙ ap (λ (m : List A). left ++ (m ++ new)) p.holds in
      rw (p.parts, back) (replaced_right left (replaced_right (p.middle ∷ []) h))

  -- where x ties with the middle, it is the middle, and the list whose middle is changed has the changed x for it
  pub set_middle : IsExact order → (change : A → A) (result : List A) → place ≡ Equal → result ≡ left ++ (map change held ++ right) → IsReplaced x (change x) all result
  set_middle exact change result e is =
      let same : x ≡ p.middle = exact x p.middle (p.stands ∙ e) in
      record {
        before = left;
        after = right;
        was = p.parts ∙ ap (λ (y : A). left ++ (y ∷ right)) (sym same);
        is = is ∙ ap (λ (h : List A). left ++ (map change h ++ right)) p.holds ∙ ap (λ (y : A). left ++ (change y ∷ right)) (sym same);
      }
