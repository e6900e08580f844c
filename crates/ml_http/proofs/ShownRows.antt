-- What a view shows of rows, told row by row.
use Rattle.std.proofs.Common.{◌≡◌, ℕ, zero, suc, ◌<◌, List, [], ◌∷◌, length, map, get_or, Contains, All, inl, inr, refl, sym, ap, subst, ◌∙◌, arith}
use Rattle.std.specs.Ordering.{ordering_reverse}
use Rattle.std.specs.declared.cmp.Ordering.TheVariants.{Less, Greater}
use Rattle.std.proofs.lemmas.Bool.{cases_lt}
use Rattle.std.proofs.lemmas.List.{get_or_default, get_or-map, length-map}
use Rattle.std.proofs.lemmas.List.Elements.{All-contains, All-head, All-tail}
use Rattle.ml_ratio.specs.Fraction.{value_of}
use Rattle.ml_cone.specs.Choice.{ActiveUntil}
use Rattle.ml_cone.specs.Order.{order_cmp, order_total}
use Rattle.ml_cone.specs.Shown.{AreShown, IsShown, IsInView}
use Rattle.ml_cone.specs.Slots.{ends, no_slot}
use Rattle.ml_cone.specs.declared.label.Label.{Label}
use Rattle.ml_cone.specs.declared.order.Order.{Order}
use Rattle.ml_cone.specs.declared.view.View.{View}
use Rattle.ml_store.specs.Rows.{labels_in, slots_in, numbers_in, number_at}
use Rattle.ml_store.specs.declared.row.Row.{Row}
use Rattle.ml_repair.specs.Settled.{IsSettled}
use Rattle.ml_answer.specs.MapView.{AreShownRows}
use Rattle.ml_http.proofs.SameViews.{row_of}

-- the row's label, active until its end, is shown
abbrev pub ShowsRow : View → Row → Type 0
ShowsRow view r = ActiveUntil r.label (value_of r.slot.until) (value_of view.scale) × IsInView r.label view

-- the label and the slot at a row's place
label_at : (rows : List Row) (p : ℕ) (row : Row) → p < length rows → get_or rows p row ≡ row → (d : Label) → get_or (labels_in rows) p d ≡ row.label
label_at rows p row within is d = get_or-map (λ r. r.label) rows p row d within ∙ ap (λ r. r.label) is

until_at : (rows : List Row) (p : ℕ) (row : Row) → p < length rows → get_or rows p row ≡ row → (get_or (slots_in rows) p no_slot).until ≡ row.slot.until
until_at rows p row within is = ap (λ s. s.until) (get_or-map (λ r. r.slot) rows p row no_slot within ∙ ap (λ r. r.slot) is)

module _ (rows : List Row) (view : View) where
  abbrev ShownAt : ℕ → Type 0
  ShownAt p = IsShown (labels_in rows) (ends (slots_in rows)) view p

  many : length (labels_in rows) ≡ length rows
  many = length-map rows (λ r. r.label)

  row_shown : (p : ℕ) (row : Row) → p < length rows → get_or rows p row ≡ row → ShownAt p → ShowsRow view row
  row_shown p row within is shown =
      let at = shown.1 row.label in
      let label = label_at rows p row within is row.label in
      let until = until_at rows p row within is in
      subst (λ u. ActiveUntil row.label (value_of u) (value_of view.scale) × IsInView row.label view) until
      (subst (λ l. ActiveUntil l (ends (slots_in rows) p) (value_of view.scale) × IsInView l view) label at)

  place_shown : (p : ℕ) (row : Row) → p < length rows → get_or rows p row ≡ row → ShowsRow view row → ShownAt p
  place_shown p row within is shows =
      let until = until_at rows p row within is in (
        omega (arith, within, many),
        λ d.
            let label = label_at rows p row within is d in
            subst (λ l. ActiveUntil l (ends (slots_in rows) p) (value_of view.scale) × IsInView l view) (sym label)
            (subst (λ u. ActiveUntil row.label (value_of u) (value_of view.scale) × IsInView row.label view) (sym until) shows),
      )

-- the rows that a view shows, one by one: they are in priority order, and just those that are shown
pub record AreJustShown (rows : List Row) (view : View) (shown : List Row) : Type 0 where
  pub among : (r : Row) → Contains shown r → Contains rows r
  pub ascend : (j i : ℕ) (d : Row) → j < i → i < length shown → order_cmp (get_or shown j d).label.order (get_or shown i d).label.order ≡ Less
  pub sound : (r : Row) → Contains shown r → ShowsRow view r
  pub whole : (r : Row) → Contains rows r → ShowsRow view r → Contains shown r

numbers_at : (rows : List Row) (places : List ℕ) (k : ℕ) → k < length places → get_or (map (number_at rows) places) k 0 ≡ number_at rows (get_or places k 0)
numbers_at rows places k within = get_or-map (number_at rows) places k 0 0 within

module _ (rows : List Row) (view : View) (shown : List Row) (settled : IsSettled rows) (are : AreShownRows rows view shown) where
  abbrev places : List ℕ
  places = are.numbers.places

  size : length shown ≡ length places
  size = sym (length-map shown (λ r. r.number)) ∙ ap length are.numbers.numbers_are ∙ length-map places (number_at rows)

  within_rows : (k : ℕ) → k < length places → get_or places k 0 < length rows
  within_rows k lt = omega (arith, (are.numbers.shown.sound k lt).0, many rows view)

  -- the k-th row that is shown stands at the k-th place
  at_its_place : (k : ℕ) (d : Row) → k < length shown → get_or rows (get_or places k 0) (get_or shown k d) ≡ get_or shown k d
  at_its_place k d lt =
      let row : Row = get_or shown k d in
      let there : Contains shown row = (k, lt, get_or_default shown k row d lt) in
      let lt_p : k < length places = omega (arith, lt, size) in
      let number : row.number ≡ number_at rows (get_or places k 0) =
      sym (get_or-map (λ r. r.number) shown k d 0 lt) ∙ ap (λ ns. get_or ns k 0) are.numbers.numbers_are ∙ numbers_at rows places k lt_p in
      row_of rows row (get_or places k 0) settled.own_numbers (All-contains (Contains rows) shown row are.among there) (within_rows k lt_p) number

  -- the rows that a view shows by their places are just those that it shows one by one
  pub just_shown : AreJustShown rows view shown
  just_shown = record {
    among = λ r there. All-contains (Contains rows) shown r are.among there;
    ascend = λ j i d lt within.
        let lt_j : j < length shown = omega (arith, lt, within) in
        let a : Row = get_or shown j d in
        let b : Row = get_or shown i d in
        let p : ℕ = get_or places j 0 in
        let q : ℕ = get_or places i 0 in
        let up : p < q = are.numbers.shown.ascending j i lt (omega (arith, within, size)) in
        let q_in : q < length rows = within_rows i (omega (arith, within, size)) in
        let p_in : p < length rows = omega (arith, up, q_in) in
        let ordered = settled.in_order p q a.label up (omega (arith, q_in, many rows view)) in
        let first = label_at rows p a p_in (at_its_place j d lt_j) a.label in
        let second = label_at rows q b q_in (at_its_place i d within) a.label in
        subst (λ l. order_cmp a.label.order l.order ≡ Less) second (subst (λ l. order_cmp l.order (get_or (labels_in rows) q a.label).order ≡ Less) first ordered.0);
    sound = λ r there.
        let k : ℕ = there.0 in
        let lt_p : k < length places = omega (arith, there.1, size) in
        let at = at_its_place k r there.1 in
        let is : get_or rows (get_or places k 0) r ≡ r = subst (λ x. get_or rows (get_or places k 0) x ≡ x) there.2 at in
        row_shown rows view (get_or places k 0) r (within_rows k lt_p) is (are.numbers.shown.sound k lt_p);
    whole = λ r there shows.
        let p : ℕ = there.0 in
        let k = are.numbers.shown.whole p (place_shown rows view p r there.1 there.2 shows) in
        let lt : k.0 < length shown = omega (arith, k.1, size) in
        let at : get_or rows (get_or places k.0 0) (get_or shown k.0 r) ≡ get_or shown k.0 r = at_its_place k.0 r lt in
        let same : get_or shown k.0 r ≡ r =
        sym at ∙ ap (λ n. get_or rows n (get_or shown k.0 r)) k.2 ∙ get_or_default rows p (get_or shown k.0 r) r there.1 ∙ there.2 in
        (k.0, lt, same);
  }

-- the place of each of some rows
abbrev pub places_of : (rows shown : List Row) → All (Contains rows) shown → List ℕ
places_of rows [] among = []
places_of rows (r ∷ shown) among = (All-head (Contains rows) r shown among).0 ∷ places_of rows shown (All-tail (Contains rows) r shown among)

size_of : (rows shown : List Row) (among : All (Contains rows) shown) → length (places_of rows shown among) ≡ length shown
size_of rows [] among = refl
size_of rows (r ∷ shown) among = ap suc (size_of rows shown (All-tail (Contains rows) r shown among))

place_at : (rows shown : List Row) (among : All (Contains rows) shown) (k : ℕ) (d : Row) → k < length shown →
    (get_or (places_of rows shown among) k 0 < length rows) × (get_or rows (get_or (places_of rows shown among) k 0) (get_or shown k d) ≡ get_or shown k d)
place_at rows [] among k d lt = absurd (omega (arith, lt))
place_at rows (r ∷ shown) among zero d lt = ((All-head (Contains rows) r shown among).1, (All-head (Contains rows) r shown among).2)
place_at rows (r ∷ shown) among (suc k) d lt = place_at rows shown (All-tail (Contains rows) r shown among) k d (omega (arith, lt))

numbers_of : (rows shown : List Row) (among : All (Contains rows) shown) → numbers_in shown ≡ map (number_at rows) (places_of rows shown among)
numbers_of rows [] among = refl
numbers_of rows (r ∷ shown) among =
    let there = All-head (Contains rows) r shown among in
    ap (λ n. n ∷ numbers_in shown) (sym (get_or-map (λ x. x.number) rows there.0 r 0 there.1 ∙ ap (λ x. x.number) there.2))
    ∙ ap (λ ns. number_at rows there.0 ∷ ns) (numbers_of rows shown (All-tail (Contains rows) r shown among))

less_not_greater : Less ≡ Greater → ⊥
less_not_greater e = cc

-- no two orders are each before the other
pub clash : (a b : Order) → order_cmp a b ≡ Less → order_cmp b a ≡ Less → ⊥
clash a b first second = less_not_greater (sym first ∙ order_total.antisymm a b ∙ ap ordering_reverse second)

some_row : (shown : List Row) (k : ℕ) → k < length shown → Row
some_row [] k lt = absurd (omega (arith, lt))
some_row (r ∷ shown) k lt = r

module _ (rows : List Row) (settled : IsSettled rows) where
  -- of two rows the one with the lesser order stands first
  stands_first : (a b : Row) (p q : ℕ) → p < length rows → q < length rows → get_or rows p a ≡ a → get_or rows q b ≡ b → order_cmp a.label.order b.label.order ≡ Less → p < q
  stands_first a b p q p_in q_in at_p at_q less =
      let sizes : length (labels_in rows) ≡ length rows = length-map rows (λ r. r.label) in
      elim (cases_lt p q) [
        | inl up ↦ up
        | inr not_up ↦ elim (cases_lt q p) [
          | inl down ↦
              let ordered = settled.in_order q p a.label down (omega (arith, p_in, sizes)) in
              let first = label_at rows q b q_in at_q a.label in
              let second = label_at rows p a p_in at_p a.label in
              absurd (clash a.label.order b.label.order less
              (subst (λ l. order_cmp b.label.order l.order ≡ Less) second (subst (λ l. order_cmp l.order (get_or (labels_in rows) p a.label).order ≡ Less) first ordered.0)))
          | inr not_down ↦
              let same : p ≡ q = omega (arith, not_up, not_down) in
              let rows_same : a ≡ b = sym at_p ∙ ap (λ n. get_or rows n a) same ∙ get_or_default rows q a b q_in ∙ at_q in
              absurd (clash a.label.order a.label.order (subst (λ r. order_cmp a.label.order r.label.order ≡ Less) (sym rows_same) less)
              (subst (λ r. order_cmp a.label.order r.label.order ≡ Less) (sym rows_same) less))
        ]
      ]

  -- a row stands at one place
  one_place : (a : Row) (p q : ℕ) → p < length rows → q < length rows → get_or rows p a ≡ a → get_or rows q a ≡ a → p ≡ q
  one_place a p q p_in q_in at_p at_q =
      let number : get_or (numbers_in rows) p 0 ≡ get_or (numbers_in rows) q 0 =
      get_or-map (λ r. r.number) rows p a 0 p_in ∙ ap (λ r. r.number) (at_p ∙ sym at_q) ∙ sym (get_or-map (λ r. r.number) rows q a 0 q_in) in
      let sizes : length (numbers_in rows) ≡ length rows = length-map rows (λ r. r.number) in
      elim (cases_lt p q) [
        | inl up ↦ absurd (settled.own_numbers p q 0 up (omega (arith, q_in, sizes)) number)
        | inr not_up ↦ elim (cases_lt q p) [
          | inl down ↦ absurd (settled.own_numbers q p 0 down (omega (arith, p_in, sizes)) (sym number))
          | inr not_down ↦ omega (arith, not_up, not_down)
        ]
      ]

  module _ (view : View) (shown : List Row) (among : All (Contains rows) shown) (just : AreJustShown rows view shown) where
    abbrev their : List ℕ
    their = places_of rows shown among

    sizes_are : length their ≡ length shown
    sizes_are = size_of rows shown among

    -- the places of the rows that a view shows one by one are those of the labels that it shows
    pub are_shown : AreShown (labels_in rows) (ends (slots_in rows)) view their
    are_shown = record {
      ascending = λ k m lt within.
          let m_in : m < length shown = omega (arith, within, sizes_are) in
          let k_in : k < length shown = omega (arith, lt, m_in) in
          let d : Row = some_row shown m m_in in
          let at_k = place_at rows shown among k d k_in in
          let at_m = place_at rows shown among m d m_in in
          stands_first (get_or shown k d) (get_or shown m d) (get_or their k 0) (get_or their m 0) at_k.0 at_m.0 at_k.1 at_m.1 (just.ascend k m d lt m_in);
      sound = λ k within.
          let k_in : k < length shown = omega (arith, within, sizes_are) in
          let d : Row = some_row shown k k_in in
          let at_k = place_at rows shown among k d k_in in
          let there : Contains shown (get_or shown k d) = (k, k_in, get_or_default shown k (get_or shown k d) d k_in) in
          place_shown rows view (get_or their k 0) (get_or shown k d) at_k.0 at_k.1 (just.sound (get_or shown k d) there);
      whole = λ p shows.
          let p_in : p < length rows = omega (arith, shows.0, many rows view) in
          let d : Row = some_row rows p p_in in
          let r : Row = get_or rows p d in
          let at_p : get_or rows p r ≡ r = get_or_default rows p r d p_in in
          let k = just.whole r (p, p_in, at_p) (row_shown rows view p r p_in at_p shows) in
          let at_k = place_at rows shown among k.0 r k.1 in
          let at : get_or rows (get_or their k.0 0) r ≡ r = subst (λ x. get_or rows (get_or their k.0 0) x ≡ x) k.2 at_k.1 in
          (k.0, omega (arith, k.1, sizes_are), one_place r (get_or their k.0 0) p at_k.0 p_in at at_p);
    }

    -- so these rows are what the view shows of all, by their places
    pub rows_shown : AreShownRows rows view shown
    rows_shown = record {
      among = among;
      numbers = record { places = their; shown = are_shown; numbers_are = numbers_of rows shown among };
    }
