-- What a view shows depends on the labels alone.
use Rattle.std.proofs.Common.{◌≡◌, ℕ, ◌<◌, Option, List, [], ◌∷◌, length, map, get_or, Contains, All, inl, inr, refl, sym, ap, subst, ◌∙◌, arith}
use Rattle.std.proofs.lemmas.Bool.{cases_lt}
use Rattle.std.proofs.lemmas.List.{get_or_default, get_or-map, length-map}
use Rattle.std.proofs.lemmas.List.Elements.{All-get_or}
use Rattle.ml_ratio.specs.Fraction.{value_of, IsSame}
use Rattle.ml_cone.specs.Choice.{Choice, IsLongest}
use Rattle.ml_cone.specs.Shown.{AreShown, IsShown, IsShownUntil}
use Rattle.ml_cone.specs.Slots.{AreSlots, IsBlockerBy, ends, no_slot}
use Rattle.ml_cone.specs.declared.label.Label.{Label}
use Rattle.ml_cone.specs.declared.slot.Slot.{Slot}
use Rattle.ml_cone.specs.declared.view.View.{View}
use Rattle.ml_store.specs.Rows.{labels_in, slots_in, numbers_in, number_at, HaveOwnNumbers}
use Rattle.ml_store.specs.declared.row.Row.{Row}
use Rattle.ml_repair.specs.Settled.{IsSettled}
use Rattle.ml_answer.specs.View.{Shown}
use Rattle.ml_answer.specs.MapView.{AreShownRows, shown_of}
use Rattle.ml_label.proofs.lemmas.SameLists.{here, later}
use Rattle.ml_label.proofs.lemmas.SamePlaces.{same_listed, place_in}
use Rattle.ml_ratio.proofs.lemmas.Intervals.{equal_ratio}

-- one longest choice
abbrev pub OneLongest : Type 0
OneLongest = (labels : List Label) (one other : Choice) → IsLongest labels one → IsLongest labels other → (i : ℕ) → i < length labels → IsSame (one i) (other i)

-- what is known of the choice: there is one longest, labels have one list of slots, and a label has one blocker
pub record KnownChoice : Type 0 where
  pub longest : OneLongest
  pub slots : (number : ℕ → ℕ) (labels : List Label) (slots others : List Slot) → AreSlots number labels slots → AreSlots number labels others → slots ≡ others
  pub blocker : (number : ℕ → ℕ) (labels : List Label) (one other : Choice) →
      ((k : ℕ) → k < length labels → IsSame (one k) (other k)) → (i : ℕ) → i < length labels → (x y : Option ℕ) →
      IsBlockerBy number labels one i x → IsBlockerBy number labels other i y → x ≡ y

until_at : List Row → ℕ → Rattle.ml_ratio.specs.declared.ratio.Ratio.Ratio
until_at rows p = (get_or (slots_in rows) p no_slot).until

module _ (longest : OneLongest) (one other : List Row) (settled_one : IsSettled one) (settled_other : IsSettled other) (labels : labels_in one ≡ labels_in other) where
  -- the labels end at the same scales
  pub same_untils : (p : ℕ) → p < length (labels_in one) → (get_or (slots_in one) p no_slot).until ≡ (get_or (slots_in other) p no_slot).until
  same_untils p within =
      equal_ratio _ _ (longest (labels_in one) (ends (slots_in one)) (ends (slots_in other)) settled_one.slots.longest
      (subst (λ ls. IsLongest ls (ends (slots_in other))) (sym labels) settled_other.slots.longest) p within)

  same_ends : (p : ℕ) → p < length (labels_in one) → ends (slots_in one) p ≡ ends (slots_in other) p
  same_ends p within = ap value_of (same_untils p within)

  -- a place that the one shows, the other shows
  shown_too : (view : View) (p : ℕ) → IsShown (labels_in one) (ends (slots_in one)) view p → IsShown (labels_in other) (ends (slots_in other)) view p
  shown_too view p shown =
      subst (λ ls. IsShown ls (ends (slots_in other)) view p) labels
      (shown.0, λ d. subst (λ e. IsShownUntil (get_or (labels_in one) p d) view (λ k. e) p) (same_ends p shown.0) (shown.1 d))

-- what one shows, the other shows: their places are the same
same_places : (us vs : List Label) (c d : Choice) (view : View) (ps qs : List ℕ) → AreShown us c view ps → AreShown vs d view qs →
    ((p : ℕ) → IsShown us c view p → IsShown vs d view p) → ((p : ℕ) → IsShown vs d view p → IsShown us c view p) → ps ≡ qs
same_places us vs c d view ps qs first second there back =
    same_listed (IsShown us c view) (IsShown vs d view) ps qs first.ascending second.ascending first.sound second.sound first.whole second.whole there back

-- rows are told apart by their numbers
pub row_of : (rows : List Row) (row : Row) (p : ℕ) → HaveOwnNumbers rows → Contains rows row → p < length rows → row.number ≡ number_at rows p → get_or rows p row ≡ row
row_of rows row p own there within number =
    let many : length (numbers_in rows) ≡ length rows = length-map rows (λ r. r.number) in
    let at_k : get_or (numbers_in rows) there.0 0 ≡ row.number = get_or-map (λ r. r.number) rows there.0 row 0 there.1 ∙ ap (λ r. r.number) there.2 in
    let same : get_or (numbers_in rows) there.0 0 ≡ get_or (numbers_in rows) p 0 = at_k ∙ number in
    elim (cases_lt there.0 p) [
      | inl low ↦ absurd (own there.0 p 0 low (omega (arith, within, many)) same)
      | inr high ↦ elim (cases_lt p there.0) [
        | inl above ↦ absurd (own p there.0 0 above (omega (arith, there.1, many)) (sym same))
        | inr not_above ↦ let at : there.0 ≡ p = omega (arith, high, not_above) in ap (λ k. get_or rows k row) (sym at) ∙ there.2
      ]
    ]

-- a shown label at a place
abbrev shown_at : List Row → ℕ → Row → Shown
shown_at rows p row = record { label = get_or (labels_in rows) p row.label; until = (get_or (slots_in rows) p no_slot).until }

shown_is : (rows : List Row) (row : Row) (p : ℕ) → HaveOwnNumbers rows → Contains rows row → p < length rows → row.number ≡ number_at rows p → shown_of row ≡ shown_at rows p row
shown_is rows row p own there within number =
    let at = row_of rows row p own there within number in
    let label : row.label ≡ get_or (labels_in rows) p row.label = sym (get_or-map (λ r. r.label) rows p row row.label within ∙ ap (λ r. r.label) at) in
    let slot : row.slot ≡ get_or (slots_in rows) p no_slot = sym (get_or-map (λ r. r.slot) rows p row no_slot within ∙ ap (λ r. r.slot) at) in
    ap (λ l. let s : Shown = record { label = l; until = row.slot.until } in s) label ∙ ap (λ c. let s : Shown = record { label = get_or (labels_in rows) p row.label; until = c.until } in s) slot

-- the numbers of rows in the one list and in the other, for the same places
module _ (one other : List Row) (own_one : HaveOwnNumbers one) (own_other : HaveOwnNumbers other) (labels : labels_in one ≡ labels_in other)
    (untils : (p : ℕ) → p < length (labels_in one) → (get_or (slots_in one) p no_slot).until ≡ (get_or (slots_in other) p no_slot).until) where
  many_one : length (labels_in one) ≡ length one
  many_one = length-map one (λ r. r.label)

  many_other : length (labels_in one) ≡ length other
  many_other = ap length labels ∙ length-map other (λ r. r.label)

  same_row : (a b : Row) (p : ℕ) → Contains one a → Contains other b → p < length (labels_in one) → a.number ≡ number_at one p → b.number ≡ number_at other p → shown_of a ≡ shown_of b
  same_row a b p in_one in_other within number_a number_b =
      let label : get_or (labels_in one) p a.label ≡ get_or (labels_in other) p b.label =
      ap (λ ls. get_or ls p a.label) labels ∙ get_or_default (labels_in other) p a.label b.label (omega (arith, within, ap length labels)) in
      shown_is one a p own_one in_one (omega (arith, within, many_one)) number_a
      ∙ ap (λ l. let s : Shown = record { label = l; until = (get_or (slots_in one) p no_slot).until } in s) label
      ∙ ap (λ u. let s : Shown = record { label = get_or (labels_in other) p b.label; until = u } in s) (untils p within)
      ∙ sym (shown_is other b p own_other in_other (omega (arith, within, many_other)) number_b)

  heads : (x y : ℕ) (xs ys : List ℕ) → x ∷ xs ≡ y ∷ ys → (x ≡ y) × (xs ≡ ys)
  heads x y xs ys e = (cc, cc)

  same_shown : (places : List ℕ) (us vs : List Row) → ((p : ℕ) → Contains places p → p < length (labels_in one)) →
      numbers_in us ≡ map (number_at one) places → numbers_in vs ≡ map (number_at other) places →
      ((r : Row) → Contains us r → Contains one r) → ((r : Row) → Contains vs r → Contains other r) → map shown_of us ≡ map shown_of vs
  same_shown [] [] [] within na nb in_one in_other = refl
  same_shown [] (a ∷ us) vs within na nb in_one in_other = cc
  same_shown [] [] (b ∷ vs) within na nb in_one in_other = cc
  same_shown (p ∷ places) [] vs within na nb in_one in_other = cc
  same_shown (p ∷ places) (a ∷ us) [] within na nb in_one in_other = cc
  same_shown (p ∷ places) (a ∷ us) (b ∷ vs) within na nb in_one in_other =
      let at_a = heads a.number (number_at one p) (numbers_in us) (map (number_at one) places) na in
      let at_b = heads b.number (number_at other p) (numbers_in vs) (map (number_at other) places) nb in
      let first : shown_of a ≡ shown_of b = same_row a b p (in_one a (here a us)) (in_other b (here b vs)) (within p (here p places)) at_a.0 at_b.0 in
      let rest : map shown_of us ≡ map shown_of vs = same_shown places us vs (λ q there. within q (later p q places there)) at_a.1 at_b.1
      (λ r there. in_one r (later a r us there)) (λ r there. in_other r (later b r vs there)) in
      ap (λ s. s ∷ map shown_of us) first ∙ ap (λ ss. shown_of b ∷ ss) rest

all_within : {X : Type 0} (P : X → Type 0) (xs : List X) → All P xs → (x : X) → Contains xs x → P x
all_within P xs all x there = subst P there.2 (All-get_or P xs there.0 x there.1 all)

-- two lists of rows with the same labels show the same
pub same_rows_shown : OneLongest → (one other : List Row) → IsSettled one → IsSettled other → labels_in one ≡ labels_in other →
    (view : View) (us vs : List Row) → AreShownRows one view us → AreShownRows other view vs → map shown_of us ≡ map shown_of vs
same_rows_shown longest one other settled_one settled_other labels view us vs first second =
    let places : first.numbers.places ≡ second.numbers.places =
    same_places (labels_in one) (labels_in other) (ends (slots_in one)) (ends (slots_in other)) view first.numbers.places second.numbers.places first.numbers.shown second.numbers.shown
    (shown_too longest one other settled_one settled_other labels view) (shown_too longest other one settled_other settled_one (sym labels) view) in
    same_shown one other settled_one.own_numbers settled_other.own_numbers labels (same_untils longest one other settled_one settled_other labels) first.numbers.places us vs
    (λ p there. let at = place_in first.numbers.places p there in subst (λ n. n < length (labels_in one)) at.2 (first.numbers.shown.sound at.0 at.1).0)
    first.numbers.numbers_are
    (second.numbers.numbers_are ∙ ap (map (number_at other)) (sym places))
    (all_within (Contains one) us first.among) (all_within (Contains other) vs second.among)
