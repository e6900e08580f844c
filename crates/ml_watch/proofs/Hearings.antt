-- Hearing changes and then more of them is hearing all of them.
use Rattle.std.proofs.Common.{◌≡◌, ℕ, zero, suc, ◌+◌, ◌<◌, List, [], ◌∷◌, ◌++◌, length, take, drop, get_or, refl, sym, ap, ◌∙◌, append_assoc, append-nil, arith, slice_index_or}
use Rattle.std.proofs.lemmas.List.{take_more, take-append-drop}
use Rattle.std.proofs.Math.Seq.{drop-cons}
use Rattle.ml_watch.specs.declared.change.Change.{Change}
use Rattle.ml_watch.specs.Hearing.{Hearing, Grew, IsPartOf, Hears, AllHear}
use Rattle.ml_watch.specs.Line.{change_line}
use Rattle.ml_watch.proofs.Told.{grew_nothing, grew_twice, grew_so}

-- nothing of a line counts as a part of it, whatever changes come next
pub no_part : (xs : List Change) → IsPartOf xs []
no_part [] = refl
no_part (x ∷ xs) = (0, refl)

part_goes_on : (xs ys : List Change) (part : List ℕ) → IsPartOf xs part → IsPartOf (xs ++ ys) part
part_goes_on [] ys part cut = rw cut (no_part ys)
part_goes_on (x ∷ xs) ys part cut = cut

-- a watcher that stays as it is was told no changes
pub hears_nothing : {W : Type 0} (hearing : W → Hearing) (w : W) → Hears hearing w w []
hears_nothing hearing w = record {
  front = [];
  rest = [];
  part = [];
  parts = refl;
  cut = refl;
  grew = grew_nothing (hearing w);
  all = λ none. (refl, refl);
  silent = λ some. refl;
  later = omega arith;
}

-- a watcher without a fault between has heard all of the first changes; one with a fault stays as it is
hears_on : {W : Type 0} (hearing : W → Hearing) (a b c : W) (xs ys : List Change) (n : ℕ) → (hearing b).faults ≡ n → Hears hearing a b xs → Hears hearing b c ys → Hears hearing a c (xs ++ ys)
hears_on hearing a b c xs ys zero is first second =
    let whole = first.all is in
    let all_of : first.front ≡ xs = sym (append-nil first.front) ∙ ap (λ t. first.front ++ t) (sym whole.0) ∙ sym first.parts in
    let none : (hearing a).faults ≡ 0 = omega (arith, first.later, is) in
    record {
      front = xs ++ second.front;
      rest = second.rest;
      part = second.part;
      parts = ap (λ t. xs ++ t) second.parts ∙ sym (append_assoc xs second.front second.rest);
      cut = second.cut;
      grew = grew_twice (hearing a) (hearing b) (hearing c) xs second.front second.part (grew_so (hearing a) (hearing b) first.front xs first.part [] all_of whole.1 first.grew) second.grew;
      all = second.all;
      silent = λ some. absurd (omega (arith, some, none));
      later = omega (arith, first.later, second.later);
    }
hears_on hearing a b c xs ys (suc n) is first second =
    let some : 0 < (hearing b).faults = omega (arith, is) in
    let same : c ≡ b = second.silent some in
    let counts : (hearing c).faults ≡ (hearing b).faults = ap (λ w. (hearing w).faults) same in
    record {
      front = first.front;
      rest = first.rest ++ ys;
      part = first.part;
      parts = ap (λ t. t ++ ys) first.parts ∙ append_assoc first.front first.rest ys;
      cut = part_goes_on first.rest ys first.part first.cut;
      grew = rw same first.grew;
      all = λ none. absurd (omega (arith, none, some, counts));
      silent = λ before. same ∙ first.silent before;
      later = omega (arith, first.later, counts);
    }

-- a watcher that was told changes and then more of them was told all of them
pub hears_twice : {W : Type 0} (hearing : W → Hearing) (a b c : W) (xs ys : List Change) → Hears hearing a b xs → Hears hearing b c ys → Hears hearing a c (xs ++ ys)
hears_twice hearing a b c xs ys first second = hears_on hearing a b c xs ys (hearing b).faults refl first second

-- watchers that stay as they are were told no changes
pub all_hear_nothing : {W : Type 0} (hearing : W → Hearing) (ws : List W) → AllHear hearing [] ws ws
all_hear_nothing hearing ws = record { places = refl; each = λ k d within. hears_nothing hearing (slice_index_or ws k d) }

-- watchers that were told changes and then more of them were each told all of them
pub all_hear_twice : {W : Type 0} (hearing : W → Hearing) (xs ys : List Change) (a b c : List W) → AllHear hearing xs a b → AllHear hearing ys b c → AllHear hearing (xs ++ ys) a c
all_hear_twice hearing xs ys a b c first second = record {
  places = second.places ∙ first.places;
  each = λ k d within. hears_twice hearing (slice_index_or a k d) (slice_index_or b k d) (slice_index_or c k d) xs ys (first.each k d within) (second.each k d (omega (arith, within, first.places)));
}

-- a watcher that was told the first i changes, and has a fault: it is told no more
pub hears_front : {W : Type 0} (hearing : W → Hearing) (a b : W) (changes : List Change) (i : ℕ) → Grew (hearing a) (hearing b) (take i changes) [] →
    (hearing b).faults ≡ (hearing a).faults → (0 < (hearing a).faults → b ≡ a) → 0 < (hearing b).faults → Hears hearing a b changes
hears_front hearing a b changes i grew same silent some = record {
  front = take i changes;
  rest = drop i changes;
  part = [];
  parts = sym (take-append-drop i changes);
  cut = no_part (drop i changes);
  grew = grew;
  all = λ none. absurd (omega (arith, none, some));
  silent = silent;
  later = omega (arith, same);
}

-- the next change failed
pub hears_cut : {W : Type 0} (hearing : W → Hearing) (a b c : W) (changes : List Change) (i n : ℕ) (d : Change) → i < length changes →
    Grew (hearing a) (hearing b) (take i changes) [] → (hearing b).faults ≡ (hearing a).faults → (hearing b).faults ≡ 0 →
    Grew (hearing b) (hearing c) [] (take n (change_line (get_or changes i d))) → 0 < (hearing c).faults → Hears hearing a c changes
hears_cut hearing a b c changes i n d within grew same none more some = record {
  front = take i changes;
  rest = drop i changes;
  part = take n (change_line (get_or changes i d));
  parts = sym (take-append-drop i changes);
  cut = rw (drop-cons changes i d within) (n, refl);
  grew = grew_so (hearing a) (hearing c) (take i changes ++ []) (take i changes) (take n (change_line (get_or changes i d)))
      (take n (change_line (get_or changes i d))) (append-nil (take i changes)) refl
      (grew_twice (hearing a) (hearing b) (hearing c) (take i changes) [] (take n (change_line (get_or changes i d))) grew more);
  all = λ after. absurd (omega (arith, after, some));
  silent = λ before. absurd (omega (arith, before, same, none));
  later = omega (arith, same, none);
}

-- all changes were told
pub hears_all : {W : Type 0} (hearing : W → Hearing) (a b : W) (changes : List Change) → Grew (hearing a) (hearing b) changes [] →
    (hearing b).faults ≡ (hearing a).faults → (0 < (hearing a).faults → b ≡ a) → Hears hearing a b changes
hears_all hearing a b changes grew same silent = record {
  front = changes;
  rest = [];
  part = [];
  parts = sym (append-nil changes);
  cut = refl;
  grew = grew;
  all = λ none. (refl, refl);
  silent = silent;
  later = omega (arith, same);
}

-- one more change was told
pub grew_one : (a b c : Hearing) (changes : List Change) (i : ℕ) (d : Change) → i < length changes →
    Grew a b (take i changes) [] → Grew b c (get_or changes i d ∷ []) [] → Grew a c (take (i + 1) changes) []
grew_one a b c changes i d within so_far more = rw (take_more changes i d within) (grew_twice a b c (take i changes) (get_or changes i d ∷ []) [] so_far more)
