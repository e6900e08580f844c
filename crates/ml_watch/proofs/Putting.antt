-- Texts that are put one behind the other.
use Rattle.std.proofs.Common.{◌≡◌, ℕ, ◌+◌, ◌<◌, ◌≤◌, List, [], ◌∷◌, ◌++◌, length, take, drop, get_or, flat_map, Option, Some}
use Rattle.std.proofs.Common.{None, Ok, Err, refl, sym, ap, subst, ◌∙◌, append_assoc, append-nil, arith, length-append}
use Rattle.std.specs.Prelude.{Result, OnOk}
use Rattle.std.proofs.Math.Seq.{take-append-add, take-append_seam, take-length}
use Rattle.std.proofs.lemmas.List.{take-append-le, take-append-drop, take_more, append_cancel_left}
use Rattle.std.proofs.lemmas.List.Concat.{flat_map-cons}
use Rattle.std.proofs.lemmas.Grind.{flat_map-append}
use Rattle.ml_ratio.specs.Count.{one_more}
use Rattle.ml_io.specs.Causes.{Appends, HasCause}
use Rattle.ml_watch.specs.Puts.{Puts, HeldPuts, Grows, with_held}
use Rattle.ml_watch.proofs.Told.{appends_twice, appends_nothing}

-- a text, and then another
pub puts_then : {E : Type 0} (old mid new : Option (List ℕ)) (before between now : ℕ) (p q : List ℕ) (r : Result (Unit {0}) E) →
    Appends old mid p → between ≡ before → Puts mid new between now q r → Puts old new before now (p ++ q) r
puts_then {E} old mid new before between now p q (Ok u) first same second = record {
  ok = appends_twice old mid new p q first second.ok;
  err = tt;
  cause = record { later = omega (arith, second.cause.later, same); fine = second.cause.fine ∙ same; failed = tt };
}
puts_then {E} old mid new before between now p q (Err e) first same second =
    let cut = second.err in
    record {
      ok = tt;
      err = (
        length p + cut.0,
        omega (arith, cut.1, length-append p q),
        subst (λ (t : List ℕ). Appends old new t) (sym (take-append-add p q cut.0)) (appends_twice old mid new p (take cut.0 q) first cut.2),
      );
      cause = record { later = omega (arith, second.cause.later, same); fine = tt; failed = second.cause.failed ∙ ap one_more same };
    }

-- a text of which a part alone was put, and another that was not begun
pub puts_cut : {E : Type 0} (old new : Option (List ℕ)) (before now : ℕ) (p q : List ℕ) (r s : Result (Unit {0}) E) →
    Puts old new before now p r → OnOk r ⊥ → OnOk s ⊥ → Puts old new before now (p ++ q) s
puts_cut old new before now p q (Ok u) s first h k = absurd h
puts_cut old new before now p q (Err e) (Ok u) first h k = absurd k
puts_cut old new before now p q (Err e) (Err f) first h k =
    let cut = first.err in
    record {
      ok = tt;
      err = (cut.0, omega (arith, cut.1, length-append p q), subst (λ (t : List ℕ). Appends old new t) (sym (take-append-le cut.0 p q cut.1)) cut.2);
      cause = record { later = first.cause.later; fine = tt; failed = first.cause.failed };
    }

-- the same text
pub puts_so : {E : Type 0} (old new : Option (List ℕ)) (before now : ℕ) (p q : List ℕ) (r : Result (Unit {0}) E) → p ≡ q → Puts old new before now p r → Puts old new before now q r
puts_so {E} old new before now p q r same h = subst (λ (t : List ℕ). Puts old new before now t r) same h

-- ---- with bytes that are held back

grows_twice : (a b c : Option (List ℕ)) → Grows a b → Grows b c → Grows a c
grows_twice a b c first second = (first.0 ++ second.0, appends_twice a b c first.0 second.0 first.1 second.1)

-- nothing was put
pub held_nothing : {E : Type 0} (old : Option (List ℕ)) (held : List ℕ) (before : ℕ) (u : Unit {0}) → HeldPuts {E = E} old old held held before before [] (Ok u)
held_nothing {E} old held before u = record {
  grows = ([], appends_nothing old);
  puts = record { ok = appends_nothing (with_held old held); err = tt; cause = record { later = omega arith; fine = refl; failed = tt } };
}

-- what is well is well whatever faults there may be
pub held_well : {E F : Type 0} {old new : Option (List ℕ)} {held kept : List ℕ} {before now : ℕ} {text : List ℕ} {u : Unit {0}} →
    HeldPuts {E = E} old new held kept before now text (Ok u) → (v : Unit {0}) → HeldPuts {E = F} old new held kept before now text (Ok v)
held_well h v = record { grows = h.grows; puts = record { ok = h.puts.ok; err = tt; cause = record { later = h.puts.cause.later; fine = h.puts.cause.fine; failed = tt } } }

-- a text that was put whole, and then another
pub held_then : {E F : Type 0} {old mid new : Option (List ℕ)} {held kept last : List ℕ} {before between now : ℕ} {p q : List ℕ} {u : Unit {0}} {r : Result (Unit {0}) E} →
    HeldPuts {E = F} old mid held kept before between p (Ok u) → HeldPuts mid new kept last between now q r → HeldPuts old new held last before now (p ++ q) r
held_then {old = old} {mid = mid} {new = new} {held = held} {kept = kept} {last = last} {before = before} {between = between} {now = now} {p = p} {q = q} {r = r} first second = record {
  grows = grows_twice old mid new first.grows second.grows;
  puts = puts_then (with_held old held) (with_held mid kept) (with_held new last) before between now p q r first.puts.ok first.puts.cause.fine second.puts;
}

-- a text of which a part alone was put, and another that was not begun
pub held_cut : {E : Type 0} {old new : Option (List ℕ)} {held kept : List ℕ} {before now : ℕ} {p : List ℕ} {r : Result (Unit {0}) E} (q : List ℕ) (s : Result (Unit {0}) E) →
    HeldPuts old new held kept before now p r → OnOk r ⊥ → OnOk s ⊥ → HeldPuts old new held kept before now (p ++ q) s
held_cut {old = old} {new = new} {held = held} {kept = kept} {before = before} {now = now} {p = p} {r = r} q s first h k = record {
  grows = first.grows;
  puts = puts_cut (with_held old held) (with_held new kept) before now p q r s first.puts h k;
}

-- what was put of a text was put of one that is the same
pub held_so : {E : Type 0} {old new : Option (List ℕ)} {held kept : List ℕ} {before now : ℕ} {p : List ℕ} {r : Result (Unit {0}) E} (q : List ℕ) →
    p ≡ q → HeldPuts old new held kept before now p r → HeldPuts old new held kept before now q r
held_so {old = old} {new = new} {held = held} {kept = kept} {before = before} {now = now} {r = r} q same h = subst (λ (t : List ℕ). HeldPuts old new held kept before now t r) same h

-- texts of a list, one by one: the texts of the first i were put
module _ {X : Type 0} (f : X → List ℕ) (xs : List X) (i : ℕ) (d : X) (within : i < length xs) where
  one_more_text : flat_map f (take (i + 1) xs) ≡ flat_map f (take i xs) ++ f (get_or xs i d)
  one_more_text =
      ap (flat_map f) (take_more xs i d within)
      ∙ flat_map-append f (take i xs) (get_or xs i d ∷ [])
      ∙ ap (λ (t : List ℕ). flat_map f (take i xs) ++ t) (flat_map-cons f (get_or xs i d) [] ∙ append-nil (f (get_or xs i d)))

  whole_text : flat_map f (take (i + 1) xs) ++ flat_map f (drop (i + 1) xs) ≡ flat_map f xs
  whole_text = sym (flat_map-append f (take (i + 1) xs) (drop (i + 1) xs)) ∙ ap (flat_map f) (take-append-drop (i + 1) xs)

  -- the next one too
  pub held_more : {E F : Type 0} {old mid new : Option (List ℕ)} {held kept last : List ℕ} {before between now : ℕ} {u v : Unit {0}} →
      HeldPuts {E = F} old mid held kept before between (flat_map f (take i xs)) (Ok u) → HeldPuts {E = E} mid new kept last between now (f (get_or xs i d)) (Ok v) →
      HeldPuts {E = F} old new held last before now (flat_map f (take (i + 1) xs)) (Ok u)
  held_more {u = u} first second = held_so (flat_map f (take (i + 1) xs)) (sym one_more_text) (held_then first (held_well second u))

  -- of the next one a part alone
  pub held_part : {E F : Type 0} {old mid new : Option (List ℕ)} {held kept last : List ℕ} {before between now : ℕ} {u : Unit {0}} {r : Result (Unit {0}) E} (s : Result (Unit {0}) E) →
      HeldPuts {E = F} old mid held kept before between (flat_map f (take i xs)) (Ok u) → HeldPuts mid new kept last between now (f (get_or xs i d)) r → OnOk r ⊥ → OnOk s ⊥ →
      HeldPuts old new held last before now (flat_map f xs) s
  held_part {r = r} s first second h k =
      held_so (flat_map f xs) whole_text (held_cut (flat_map f (drop (i + 1) xs)) s (held_so (flat_map f (take (i + 1) xs)) (sym one_more_text) (held_then first second)) h k)

-- at the end of a list
pub held_all : {E F X : Type 0} (f : X → List ℕ) (xs : List X) (n : ℕ) {old new : Option (List ℕ)} {held kept : List ℕ} {before now : ℕ} {u : Unit {0}} → n ≡ length xs →
    HeldPuts {E = F} old new held kept before now (flat_map f (take n xs)) (Ok u) → (v : Unit {0}) → HeldPuts {E = E} old new held kept before now (flat_map f xs) (Ok v)
held_all f xs n e h v = held_well (held_so (flat_map f xs) (ap (λ (k : ℕ). flat_map f (take k xs)) e ∙ ap (flat_map f) (take-length xs)) h) v

-- bytes as texts of one byte each
pub each_byte : (xs : List ℕ) → flat_map (λ (b : ℕ). b ∷ []) xs ≡ xs
each_byte [] = refl
each_byte (x ∷ xs) = flat_map-cons (λ (b : ℕ). b ∷ []) x xs ∙ ap (λ (t : List ℕ). x ∷ t) (each_byte xs)

-- ---- giving away

-- what the sink took goes from one to the other
pub held_given : (old new : Option (List ℕ)) (held : List ℕ) (n : ℕ) → Appends old new (take n held) → with_held new (drop n held) ≡ with_held old held
held_given None new held n put = ap (λ (o : Option (List ℕ)). with_held o (drop n held)) put
held_given (Some xs) new held n put =
    ap (λ (o : Option (List ℕ)). with_held o (drop n held)) put
    ∙ ap Some (append_assoc xs (take n held) (drop n held) ∙ ap (λ (t : List ℕ). xs ++ t) (take-append-drop n held))

-- nothing was taken
pub held_kept : (old new : Option (List ℕ)) (held : List ℕ) → Appends old new [] → with_held new held ≡ with_held old held
held_kept None new held put = ap (λ (o : Option (List ℕ)). with_held o held) put
held_kept (Some xs) new held put = ap (λ (o : Option (List ℕ)). with_held o held) put ∙ ap (λ (t : List ℕ). Some (t ++ held)) (append-nil xs)

-- what grew, and then took a piece at its end, grew
pub grows_more : (a b c : Option (List ℕ)) (piece : List ℕ) → Grows a b → Appends b c piece → Grows a c
grows_more a b c piece first second = (first.0 ++ piece, appends_twice a b c first.0 piece first.1 second)

-- what stays as it is grew by nothing
pub grows_nothing : (a : Option (List ℕ)) → Grows a a
grows_nothing a = ([], appends_nothing a)

-- where bytes are held back, there is one of them at least
pub some_held : (held : List ℕ) → ¬ (held ≡ []) → 0 < length held
some_held [] none = absurd (none refl)
some_held (b ∷ held) none = omega arith

-- one more byte is held back
pushed : (old mid : Option (List ℕ)) (held kept last : List ℕ) (byte : ℕ) → with_held mid kept ≡ with_held old held →
    last ≡ kept ++ byte ∷ [] → Appends (with_held old held) (with_held mid last) (byte ∷ [])
pushed None None held kept last byte same is = refl
pushed None (Some ys) held kept last byte same is = absurd (cc)
pushed (Some xs) None held kept last byte same is = absurd (cc)
pushed (Some xs) (Some ys) held kept last byte same is =
    let lists : ys ++ kept ≡ xs ++ held = cc in
    ap (λ (t : List ℕ). Some (ys ++ t)) is ∙ ap Some (sym (append_assoc ys kept (byte ∷ []))) ∙ ap (λ (t : List ℕ). Some (t ++ byte ∷ [])) lists

-- a byte that is held back behind the others is put
pub held_pushed : {E : Type 0} (old mid : Option (List ℕ)) (held kept last : List ℕ) (byte before now : ℕ) →
    with_held mid kept ≡ with_held old held → Grows old mid → now ≡ before → last ≡ kept ++ byte ∷ [] → (v : Unit {0}) →
    HeldPuts {E = E} old mid held last before now (byte ∷ []) (Ok v)
held_pushed old mid held kept last byte before now same grows calm is v = record {
  grows = grows;
  puts = record { ok = pushed old mid held kept last byte same is; err = tt; cause = record { later = omega arith; fine = calm; failed = tt } };
}

-- there was no room for it
pub held_failed : {E F : Type 0} (old new : Option (List ℕ)) (held kept text : List ℕ) (before now : ℕ) (r : Result (Unit {0}) F) (s : Result (Unit {0}) E) →
    with_held new kept ≡ with_held old held → Grows old new → HasCause before now r → OnOk r ⊥ → OnOk s ⊥ →
    HeldPuts {E = E} old new held kept before now text s
held_failed old new held kept text before now (Ok u) s same grows cause bad none = absurd bad
held_failed old new held kept text before now (Err e) (Ok u) same grows cause bad none = absurd none
held_failed old new held kept text before now (Err e) (Err f) same grows cause bad none = record {
  grows = grows;
  puts = record {
    ok = tt;
    err = (0, omega arith, subst (λ (o : Option (List ℕ)). Appends (with_held old held) o (take 0 text)) (sym same) (appends_nothing (with_held old held)));
    cause = record { later = cause.later; fine = tt; failed = cause.failed };
  };
}

-- ---- the end of a line

-- a list that begins as another one is its first part
first_part : (t k line : List ℕ) (n : ℕ) → t ++ k ≡ take n line → (length t ≤ length line) × (take (length t) line ≡ t)
first_part t k line n e =
    let whole : line ≡ t ++ (k ++ drop n line) = sym (take-append-drop n line) ∙ ap (λ (s : List ℕ). s ++ drop n line) (sym e) ∙ append_assoc t k (drop n line) in
    let long : length line ≡ length t + length (k ++ drop n line) = ap length whole ∙ length-append t (k ++ drop n line) in
    (omega arith, ap (take (length t)) whole ∙ take-append_seam t (k ++ drop n line))

-- of what a sink and the bytes held back have, the sink has a first part
sink_part : (old new joined : Option (List ℕ)) (kept line : List ℕ) (n : ℕ) → Grows old new → with_held new kept ≡ joined →
    Appends (with_held old []) joined (take n line) → (m : ℕ) × (m ≤ length line) × Appends old new (take m line)
sink_part None new joined kept line n grows same put = (0, omega arith, grows.1)
sink_part (Some xs) new joined kept line n grows same put =
    let t : List ℕ = grows.0 in
    let is : new ≡ Some (xs ++ t) = grows.1 in
    let both : with_held (Some (xs ++ t)) kept ≡ Some ((xs ++ []) ++ take n line) = ap (λ (o : Option (List ℕ)). with_held o kept) (sym is) ∙ same ∙ put in
    let lists : (xs ++ t) ++ kept ≡ (xs ++ []) ++ take n line = cc in
    let tail : t ++ kept ≡ take n line = append_cancel_left xs (t ++ kept) (take n line) (sym (append_assoc xs t kept) ∙ lists ∙ ap (λ (s : List ℕ). s ++ take n line) (append-nil xs)) in
    let part = first_part t kept line n tail in
    (length t, part.0, subst (λ (s : List ℕ). new ≡ Some (xs ++ s)) (sym part.1) is)

sink_whole : (old new joined : Option (List ℕ)) (last line : List ℕ) → last ≡ [] → with_held new last ≡ joined → Appends (with_held old []) joined line → Appends old new line
sink_whole None None joined last line none same put = refl
sink_whole None (Some ys) joined last line none same put = absurd (let e : Some (ys ++ last) ≡ None = same ∙ put in cc)
sink_whole (Some xs) None joined last line none same put = absurd (let e : None ≡ Some ((xs ++ []) ++ line) = same ∙ put in cc)
sink_whole (Some xs) (Some ys) joined last line none same put =
    let both : Some (ys ++ last) ≡ Some ((xs ++ []) ++ line) = same ∙ put in
    let lists : ys ++ last ≡ (xs ++ []) ++ line = cc in
    ap Some (sym (append-nil ys) ∙ ap (λ (s : List ℕ). ys ++ s) (sym none) ∙ lists ∙ ap (λ (s : List ℕ). s ++ line) (append-nil xs))

-- the line was put, and then what was held back was given away
pub line_given : {E F : Type 0} {old mid : Option (List ℕ)} {kept : List ℕ} {before between : ℕ} {line : List ℕ} {u : Unit {0}}
    (new : Option (List ℕ)) (last : List ℕ) (now : ℕ) (r : Result (Unit {0}) E) →
    HeldPuts {E = F} old mid [] kept before between line (Ok u) → OnOk r (last ≡ []) → with_held new last ≡ with_held mid kept → Grows mid new → HasCause between now r → Puts old new before now line r
line_given {old = old} {mid = mid} {kept = kept} {before = before} {between = between} {line = line} new last now (Ok u) h none same grows cause =
    let fine = h.puts.cause.fine in
    let then = cause.fine in
    record {
      ok = sink_whole old new (with_held mid kept) last line none same h.puts.ok;
      err = tt;
      cause = record { later = omega arith; fine = then ∙ fine; failed = tt };
    }
line_given {old = old} {mid = mid} {kept = kept} {before = before} {between = between} {line = line} new last now (Err e) h none same grows cause =
    let fine = h.puts.cause.fine in
    let later = cause.later in
    record {
      ok = tt;
      err = sink_part old new (with_held mid kept) last line (length line) (grows_twice old mid new h.grows grows) same
          (subst (λ (t : List ℕ). Appends (with_held old []) (with_held mid kept) t) (sym (take-length line)) h.puts.ok);
      cause = record { later = omega arith; fine = tt; failed = cause.failed ∙ ap one_more fine };
    }

-- a part of the line was put, and nothing was given away behind it
pub line_cut : {E : Type 0} {old new : Option (List ℕ)} {kept : List ℕ} {before now : ℕ} {line : List ℕ} {r : Result (Unit {0}) E} (s : Result (Unit {0}) E) →
    HeldPuts old new [] kept before now line r → OnOk r ⊥ → OnOk s ⊥ → Puts old new before now line s
line_cut {old = old} {new = new} {kept = kept} {line = line} {r = Ok u} s h bad none = absurd bad
line_cut {old = old} {new = new} {kept = kept} {line = line} {r = Err e} (Ok u) h bad none = absurd none
line_cut {old = old} {new = new} {kept = kept} {line = line} {r = Err e} (Err f) h bad none =
    let cut = h.puts.err in
    record {
      ok = tt;
      err = sink_part old new (with_held new kept) kept line cut.0 h.grows refl cut.2;
      cause = record { later = h.puts.cause.later; fine = tt; failed = h.puts.cause.failed };
    }

-- the pieces of two fractions make the text of a span behind a blank
pub span_pieces : (n d m e : List ℕ) → 32 ∷ (n ++ (47 ∷ (d ++ (46 ∷ 46 ∷ (m ++ (47 ∷ (e ++ []))))))) ≡ 32 ∷ ((n ++ (47 ∷ d)) ++ (46 ∷ 46 ∷ (m ++ (47 ∷ e))))
span_pieces n d m e = simp (append_assoc n (47 ∷ d) (46 ∷ 46 ∷ (m ++ (47 ∷ e))), append-nil e) refl
