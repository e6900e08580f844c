-- The greatest end of a node and its two sides.
use Rattle.std.proofs.Common.{◌≡◌, List, [], ◌∷◌, ◌++◌, ◌⊎◌, inl, inr, subst, ap, ◌∙◌}
use Rattle.std.specs.Ordering.{is_gt}
use Rattle.std.specs.Cmp.{IsTotalOrder, upto, tied_itself}
use Rattle.std.specs.declared.cmp.Ordering.{Ordering}
use Rattle.ml_spans.specs.Order.{IsUpTo}
use Rattle.ml_spans.specs.Sound.{HasEnd, IsGreatest, IsGreatestWith}
use Rattle.ml_spans.specs.declared.entry.Entry.{Entry}
use Rattle.ml_spans.proofs.Lists.{all_append, all_weaker}

-- no end is above itself
pub upto_itself : {E : Type 0} {order : E → E → Ordering} → IsTotalOrder order → (x : E) → IsUpTo order x x
upto_itself o x = ap is_gt (tied_itself o x)

has_end_left : {K E V : Type 0} (end : E) (xs ys : List (Entry K E V)) → HasEnd xs end → HasEnd (xs ++ ys) end
has_end_left end [] ys h = absurd h
has_end_left end (x ∷ xs) ys (inl e) = inl e
has_end_left end (x ∷ xs) ys (inr h) = inr (has_end_left end xs ys h)

has_end_right : {K E V : Type 0} (end : E) (xs ys : List (Entry K E V)) → HasEnd ys end → HasEnd (xs ++ ys) end
has_end_right end [] ys h = h
has_end_right end (x ∷ xs) ys h = inr (has_end_right end xs ys h)

module _ {K E V : Type 0} {order : E → E → Ordering} (o : IsTotalOrder order) where
  -- one end against the greatest of the entries
  pub greatest_with_one : (one end best : E) (all : List (Entry K E V)) → IsGreatest order all best →
      IsUpTo order one end → IsUpTo order best end → (one ≡ end) ⊎ (best ≡ end) → IsGreatestWith order one all end
  greatest_with_one one end best all g p q w = record {
    first = p;
    above = all_weaker (λ entry. IsUpTo order entry.end best) (λ entry. IsUpTo order entry.end end) (λ entry h. upto o entry.end best end h q) all g.above;
    own = elim w [ inl e ↦ inl e | inr e ↦ inr (subst (HasEnd all) e g.own) ];
  }

  join_own : (left right : List (Entry K E V)) (entry : Entry K E V) (a b : E) → (entry.end ≡ a) ⊎ HasEnd left a → (a ≡ b) ⊎ HasEnd right b → HasEnd (left ++ (entry ∷ right)) b
  join_own left right entry a b h (inr k) = has_end_right b left (entry ∷ right) (inr k)
  join_own left right entry a b (inl e) (inl f) = has_end_right b left (entry ∷ right) (inl (e ∙ f))
  join_own left right entry a b (inr k) (inl f) = has_end_left b left (entry ∷ right) (subst (HasEnd left) f k)

  -- the greatest of an entry's end and those to its left, and then of that end and those to its right, is the greatest of them all
  pub greatest_join : (left right : List (Entry K E V)) (entry : Entry K E V) (a b : E) →
      IsGreatestWith order entry.end left a → IsGreatestWith order a right b → IsGreatest order (left ++ (entry ∷ right)) b
  greatest_join left right entry a b g h = record {
    above = all_append (λ one. IsUpTo order one.end b) left (entry ∷ right)
        (all_weaker (λ one. IsUpTo order one.end a) (λ one. IsUpTo order one.end b) (λ one p. upto o one.end a b p h.first) left g.above)
        (upto o entry.end a b g.first h.first, h.above);
    own = join_own left right entry a b g.own h.own;
  }
