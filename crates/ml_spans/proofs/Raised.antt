-- The greatest end of entries of which there is one more, or one less.
use Rattle.std.proofs.Common.{◌≡◌, List, [], ◌∷◌, ◌++◌, inl, inr, Option, Some, None, MatchOption, refl, sym, subst}
use Rattle.std.specs.Cmp.{IsTotalOrder, upto}
use Rattle.std.specs.declared.cmp.Ordering.{Ordering}
use Rattle.ml_spans.specs.Order.{IsUpTo, IsNew}
use Rattle.ml_ratio.specs.Lists.{IsAdded}
use Rattle.ml_spans.specs.Sound.{HasEnd, IsGreatest, HoldsGreatest, HoldsGreatestBut, HoldsGreatestUnless}
use Rattle.ml_spans.specs.declared.entry.Entry.{Entry}
use Rattle.ml_spans.specs.declared.shape.Content.{Content}
use Rattle.ml_spans.proofs.Lists.{all_weaker}
use Rattle.ml_spans.proofs.Rising.{all_added, all_removed}

end_kept : {K E V : Type 0} (end : E) (x : Entry K E V) (before after : List (Entry K E V)) → HasEnd (before ++ after) end → HasEnd (before ++ (x ∷ after)) end
end_kept end x [] after h = inr h
end_kept end x (y ∷ before) after (inl e) = inl e
end_kept end x (y ∷ before) after (inr h) = inr (end_kept end x before after h)

end_come : {K E V : Type 0} (x : Entry K E V) (before after : List (Entry K E V)) → HasEnd (before ++ (x ∷ after)) x.end
end_come x [] after = inl refl
end_come x (y ∷ before) after = inr (end_come x before after)

-- when an entry comes in below a node, the greater of its end and the node's greatest end is the greatest end of all entries there
pub greatest_added : {K E V : Type 0} {order : E → E → Ordering} (o : IsTotalOrder order) {x : Entry K E V} {xs ys : List (Entry K E V)} (c : Option (Content K E V)) →
    IsAdded x xs ys → HoldsGreatest order xs c → HoldsGreatestBut order x.end ys c
greatest_added o None a h = absurd h
greatest_added {order = order} o {x} {xs} {ys} (Some content) a h = λ best p q w.
    record {
      above = all_added (λ entry. IsUpTo order entry.end best) a q (all_weaker (λ entry. IsUpTo order entry.end content.greatest)
          (λ entry. IsUpTo order entry.end best) (λ entry l. upto o entry.end content.greatest best l p) xs h.above);
      own = elim w [
        | inl e ↦ subst (HasEnd ys) e (subst (λ l. HasEnd l content.greatest) (sym a.is) (end_kept content.greatest x a.before a.after (subst (λ l. HasEnd l content.greatest) a.was h.own)))
        | inr e ↦ subst (HasEnd ys) e (subst (λ l. HasEnd l x.end) (sym a.is) (end_come x a.before a.after))
      ];
    }

-- an end of another entry stays
end_left : {K E V : Type 0} (end : E) (x : Entry K E V) (before after : List (Entry K E V)) → (x.end ≡ end → ⊥) → HasEnd (before ++ (x ∷ after)) end → HasEnd (before ++ after) end
end_left end x [] after other (inl e) = absurd (other e)
end_left end x [] after other (inr h) = h
end_left end x (y ∷ before) after other (inl e) = inl e
end_left end x (y ∷ before) after other (inr h) = inr (end_left end x before after other h)

-- whether or not an entry went from below a node, the node's greatest end is still right unless it is the end of that entry
pub greatest_removed : {K E V N : Type 0} (ends : E → E → Ordering) (order : Entry K E V → Entry K E V → Ordering)
    (x : Entry K E V) (left all : List (Entry K E V)) (gone : Option N) (c : Option (Content K E V)) →
    MatchOption gone ((left ≡ all) × IsNew order x all) (λ _. IsAdded x left all) → HoldsGreatest ends all c → HoldsGreatestUnless ends x.end left c
greatest_removed ends order x left all gone None m h = absurd h
greatest_removed ends order x left all None (Some content) m h = λ other. subst (λ l. IsGreatest ends l content.greatest) (sym m.0) h
greatest_removed ends order x left all (Some node) (Some content) m h = λ other.
    record {
      above = all_removed (λ entry. IsUpTo ends entry.end content.greatest) m h.above;
      own = subst (λ l. HasEnd l content.greatest) (sym m.was) (end_left content.greatest x m.before m.after (λ e. other (sym e)) (subst (λ l. HasEnd l content.greatest) m.is h.own));
    }
