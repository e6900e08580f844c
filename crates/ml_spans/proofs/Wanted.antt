-- Which entries a query asks for, by parts of the list, and what was appended of them.
use Rattle.std.proofs.Common.{◌≡◌, ◌≢◌, Bool, true, false, ◌&&◌, List, [], ◌∷◌, ◌++◌, map, Option, Some, None, refl, sym, ap, ◌∙◌, subst, append_assoc, append-nil, cond}
use Rattle.std.specs.List.{AllByRecursion, filter}
use Rattle.std.specs.Ordering.{ordering_then, is_le, is_gt}
use Rattle.std.specs.Cmp.{IsTotalOrder, upto, tied_itself}
use Rattle.std.specs.declared.cmp.Ordering.{Ordering}
use Rattle.std.specs.declared.cmp.Ordering.TheVariants.{Less, Equal, Greater}
use Rattle.ml_spans.specs.Order.{entry_order, IsRising, IsUpTo}
use Rattle.ml_spans.specs.Sound.{IsGreatest}
use Rattle.ml_spans.specs.Search.{is_within, IsPart}
use Rattle.ml_spans.specs.Query.{is_late, is_wanted, wanted}
use Rattle.ml_spans.specs.declared.entry.Entry.{Entry}
use Rattle.ml_spans.specs.declared.query.Query.{Query}
use Rattle.ml_spans.proofs.Lists.{all_weaker}
use Rattle.ml_spans.proofs.Entries.{entry_total}
use Rattle.ml_spans.proofs.Rising.{IsAround, around}

le_from : (r : Ordering) → is_gt r ≡ false → is_le r ≡ true
le_from Less e = refl
le_from Equal e = refl
le_from Greater e = cc

gt_from : (r : Ordering) → is_le r ≡ true → is_gt r ≡ false
gt_from Less e = refl
gt_from Equal e = refl
gt_from Greater e = cc

not_true : (b : Bool) → (b ≡ true → ⊥) → b ≡ false
not_true true f = absurd (f refl)
not_true false f = refl

and_left : (b c : Bool) → b ≡ false → (b && c) ≡ false
and_left b c e = rw e

and_right : (b c : Bool) → c ≡ false → (b && c) ≡ false
and_right true c e = e
and_right false c e = refl

-- the first part of two answers
first_up : (p q : Ordering) → ordering_then p q ≡ Less → is_gt p ≡ false
first_up Less q e = refl
first_up Equal q e = refl
first_up Greater q e = cc

filter_none : {A : Type 0} (p : A → Bool) (xs : List A) → AllByRecursion (λ x. p x ≡ false) xs → filter p xs ≡ []
filter_none p [] a = refl
filter_none p (x ∷ xs) a = rw a.0 (filter_none p xs a.1)

filter_both : {A : Type 0} (p : A → Bool) (xs ys : List A) → filter p (xs ++ ys) ≡ filter p xs ++ filter p ys
filter_both p [] ys = refl
filter_both p (x ∷ xs) ys =
    elim (p x) as (λ b. cond b (x ∷ filter p (xs ++ ys)) (filter p (xs ++ ys)) ≡ cond b (x ∷ filter p xs) (filter p xs) ++ filter p ys) [
      | true ↦ ap (λ l. x ∷ l) (filter_both p xs ys)
      | false ↦ filter_both p xs ys
    ]

map_both : {A B : Type 0} (f : A → B) (xs ys : List A) → map f (xs ++ ys) ≡ map f xs ++ map f ys
map_both f [] ys = refl
map_both f (x ∷ xs) ys = ap (λ l. f x ∷ l) (map_both f xs ys)

some_left : {A : Type 0} (xs ys : List A) → xs ≢ [] → (xs ++ ys) ≢ []
some_left [] ys f e = f refl
some_left (x ∷ xs) ys f e = cc

some_right : {A : Type 0} (xs ys : List A) → ys ≢ [] → (xs ++ ys) ≢ []
some_right [] ys f e = f e
some_right (x ∷ xs) ys f e = cc

late_up : {E : Type 0} (ends : E → E → Ordering) → IsTotalOrder ends → (at : Option E) (end best : E) → IsUpTo ends end best → is_late ends at end ≡ true → is_late ends at best ≡ true
late_up ends o None end best h e = refl
late_up ends o (Some at) end best h e = le_from (ends at best) (upto o at end best (gt_from (ends at end) e) h)

module _ {K E V : Type 0} (keys : K → K → Ordering) (ends : E → E → Ordering) (query : Query K E) where
  -- what a query wants of one list followed by another is what it wants of the first and then what it wants of the second
  pub wanted_both : (xs ys : List (Entry K E V)) → wanted keys ends query (xs ++ ys) ≡ wanted keys ends query xs ++ wanted keys ends query ys
  wanted_both xs ys = ap (map (λ (e : Entry K E V). e.value)) (filter_both (is_wanted keys ends query) xs ys)
      ∙ map_both (λ (e : Entry K E V). e.value) (filter (is_wanted keys ends query) xs) (filter (is_wanted keys ends query) ys)

  wanted_none : (xs : List (Entry K E V)) → AllByRecursion (λ e. is_wanted keys ends query e ≡ false) xs → wanted keys ends query xs ≡ []
  wanted_none xs a = ap (map (λ (e : Entry K E V). e.value)) (filter_none (is_wanted keys ends query) xs a)

  -- no entry of a tree ends late enough where the greatest end does not
  pub none_late : IsTotalOrder ends → (all : List (Entry K E V)) (best : E) → IsGreatest ends all best → is_late ends query.at best ≡ false → wanted keys ends query all ≡ []
  none_late o all best g e =
      wanted_none all (all_weaker (λ x. IsUpTo ends x.end best) (λ x. is_wanted keys ends query x ≡ false)
      (λ x h. and_right (is_within keys query.from query.to x.key) (is_late ends query.at x.end)
      (not_true (is_late ends query.at x.end) (λ t. let u = late_up ends o query.at x.end best h t in cc))) all g.above)

  before_range : IsTotalOrder keys → (x m : Entry K E V) → is_gt (keys x.key m.key) ≡ false → keys query.from m.key ≡ Greater → is_wanted keys ends query x ≡ false
  before_range o x m h e =
      and_left (is_within keys query.from query.to x.key) (is_late ends query.at x.end) (and_left (is_le (keys query.from x.key)) (is_le (keys x.key query.to))
      (not_true (is_le (keys query.from x.key)) (λ t. let u = upto o query.from x.key m.key (gt_from (keys query.from x.key) t) h in let v = ap is_gt e in cc)))

  behind_range : IsTotalOrder keys → (x m : Entry K E V) → is_gt (keys m.key x.key) ≡ false → keys m.key query.to ≡ Greater → is_wanted keys ends query x ≡ false
  behind_range o x m h e =
      and_left (is_within keys query.from query.to x.key) (is_late ends query.at x.end) (and_right (is_le (keys query.from x.key)) (is_le (keys x.key query.to))
      (not_true (is_le (keys x.key query.to)) (λ t. let u = upto o m.key x.key query.to h (gt_from (keys x.key query.to) t) in let v = ap is_gt e in cc)))

  module _ (values : V → V → Ordering) (k : IsTotalOrder keys) (e : IsTotalOrder ends) (v : IsTotalOrder values)
      (all left : List (Entry K E V)) (m : Entry K E V) (right : List (Entry K E V)) (parts : all ≡ left ++ (m ∷ right)) where
    -- what is wanted of all entries is what is wanted of the left ones, of the middle one and of the right ones, in this order
    pub wanted_parts : wanted keys ends query all ≡ wanted keys ends query left ++ (wanted keys ends query (m ∷ []) ++ wanted keys ends query right)
    wanted_parts = rw parts (wanted_both left (m ∷ right) ∙ ap (λ (l : List V). wanted keys ends query left ++ l) (wanted_both (m ∷ []) right))

    about : IsRising (entry_order keys ends values) all → IsAround (entry_order keys ends values) left m right
    about s = around (entry_total k e v) left m right (subst (IsRising (entry_order keys ends values)) parts s)

    -- the entries left of the middle one are in order where all are
    pub left_rising : IsRising (entry_order keys ends values) all → IsRising (entry_order keys ends values) left
    left_rising s = (about s).left_rises

    -- the entries right of the middle one are in order where all are
    pub right_rising : IsRising (entry_order keys ends values) all → IsRising (entry_order keys ends values) right
    right_rising s = (about s).right_rises

    -- where the middle key is before the range, what is wanted is to the right
    pub wanted_right : IsRising (entry_order keys ends values) all → keys query.from m.key ≡ Greater → wanted keys ends query all ≡ wanted keys ends query right
    wanted_right s before =
        let none_left : wanted keys ends query left ≡ [] = wanted_none left (all_weaker (λ x. entry_order keys ends values x m ≡ Less)
        (λ x. is_wanted keys ends query x ≡ false) (λ x h. before_range k x m (first_up _ _ h) before) left (about s).below) in
        let none_middle : wanted keys ends query (m ∷ []) ≡ [] = wanted_none (m ∷ []) (before_range k m m (ap is_gt (tied_itself k m.key)) before, tt) in
        wanted_parts ∙ rw (none_left, none_middle) refl

    -- where the middle key is behind the range, what is wanted is to the left
    pub wanted_left : IsRising (entry_order keys ends values) all → keys m.key query.to ≡ Greater → wanted keys ends query all ≡ wanted keys ends query left
    wanted_left s behind =
        let none_right : wanted keys ends query right ≡ [] = wanted_none right (all_weaker (λ x. entry_order keys ends values m x ≡ Less)
        (λ x. is_wanted keys ends query x ≡ false) (λ x h. behind_range k x m (first_up _ _ h) behind) right (about s).above) in
        let none_middle : wanted keys ends query (m ∷ []) ≡ [] = wanted_none (m ∷ []) (behind_range k m m (ap is_gt (tied_itself k m.key)) behind, tt) in
        wanted_parts ∙ rw (none_right, none_middle) (append-nil _)

    -- where something is wanted of the entries to the left, something is wanted of all
    pub found_left : wanted keys ends query left ≢ [] → wanted keys ends query all ≢ []
    found_left f = rw wanted_parts (some_left _ _ f)

    -- where the middle key is in the range and its end late enough, something is wanted
    pub found_middle : is_within keys query.from query.to m.key ≡ true → is_late ends query.at m.end ≡ true → wanted keys ends query all ≢ []
    found_middle within late =
        let own : wanted keys ends query (m ∷ []) ≡ m.value ∷ [] = rw (within, late) refl in
        rw (wanted_parts, own) (some_right (wanted keys ends query left) (m.value ∷ wanted keys ends query right) (λ e. cc))

-- nothing is a first part of whatever was due
pub part_none : {V : Type 0} (old due : List V) → IsPart old old due
part_none old due = record { done = []; left = due; is = sym (append-nil old); both = refl }

-- a first part of one thing is one of that thing and whatever is due behind it
pub part_first : {V : Type 0} (old new one two : List V) → IsPart old new one → IsPart old new (one ++ two)
part_first old new one two p = record { done = p.done; left = p.left ++ two; is = p.is; both = ap (λ l. l ++ two) p.both ∙ append_assoc p.done p.left two }

-- where one thing was appended whole, and then a first part of the next, a first part of both was appended
pub part_next : {V : Type 0} (old mid new one two : List V) → mid ≡ old ++ one → IsPart mid new two → IsPart old new (one ++ two)
part_next old mid new one two e p =
    record { done = one ++ p.done; left = p.left; is = p.is ∙ ap (λ l. l ++ p.done) e ∙ append_assoc old one p.done; both = ap (λ l. one ++ l) p.both ∙ sym (append_assoc one p.done p.left) }

-- a first part of what was due is one of any list that equals it
pub part_due : {V : Type 0} {old new due whole : List V} → whole ≡ due → IsPart old new due → IsPart old new whole
part_due {V} {old} {new} e p = subst (IsPart old new) (sym e) p
