-- Labels in priority order, as one goes or comes in its place.
use Rattle.std.proofs.Common.{◌≡◌, ◌≢◌, ℕ, zero, suc, ◌+◌, ◌<◌, ◌≤◌, List, [], ◌∷◌, length, get_or, inl, inr, refl, sym, ap, ◌∙◌, arith, Bool, true, false, ◌-◌}
use Rattle.std.specs.Prelude.{insert, remove, not, if◌then◌else◌, bytes_eq}
use Rattle.std.specs.Ordering.{is_lt, is_eq, ordering_reverse}
use Rattle.std.specs.declared.cmp.Ordering.{Ordering}
use Rattle.std.specs.declared.cmp.Ordering.TheVariants.{Less, Equal, Greater}
use Rattle.std.proofs.lemmas.Bool.{cases_lt, cases_eq, and_parts}
use Rattle.std.proofs.lemmas.Slice.Eq.{bytes_eq-Decides}
use Rattle.std.proofs.lemmas.List.{get_or_default, get_or-map}
use Rattle.std.proofs.lemmas.List.Edits.{length-insert, get_or-insert_below, get_or-insert_at, get_or-insert_above, length-remove, get_or-remove_below, get_or-remove_above}
use Rattle.ml_cone.specs.Label.{IsLabelList}
use Rattle.ml_cone.specs.Order.{order_cmp, order_total, order_ties}
use Rattle.ml_cone.specs.declared.label.Label.{Label}
use Rattle.ml_cone.specs.declared.order.Order.{Order}
use Rattle.ml_store.specs.Rows.{labels_in, HasId}
use Rattle.ml_store.specs.declared.row.Row.{Row}
use Rattle.ml_repair.specs.Placed.{IsPlaceFor}
use Rattle.ml_repair.specs.Plan.{with_row, without_id}
use Rattle.ml_repair.proofs.Present.{length-labels}

-- ---- the search

-- where the label in the middle is before the order, so is each label up to it
pub before_more : (labels : List Label) (order : Order) (middle : ℕ) → IsLabelList labels → middle < length labels → ((d : Label) → order_cmp (get_or labels middle d).order order ≡ Less) →
    (k : ℕ) (d : Label) → k < middle + 1 → order_cmp (get_or labels k d).order order ≡ Less
before_more labels order middle up lt here k d in' =
    elim (cases_lt k middle) [
      | inl less ↦ order_total.trans (get_or labels k d).order (get_or labels middle d).order order (up k middle d less lt).0 (here d)
      | inr more ↦ let e : k ≡ middle = omega arith in ap (λ i. order_cmp (get_or labels i d).order order) e ∙ here d
    ]

-- where the label in the middle is not before the order, no label from it on is
pub after_more : (labels : List Label) (order : Order) (middle : ℕ) → IsLabelList labels → middle < length labels → ((d : Label) → ¬ (order_cmp (get_or labels middle d).order order ≡ Less)) →
    (k : ℕ) (d : Label) → middle ≤ k → k < length labels → ¬ (order_cmp (get_or labels k d).order order ≡ Less)
after_more labels order middle up lt here k d le in' less =
    elim (cases_lt middle k) [
      | inl low ↦ here d (order_total.trans (get_or labels middle d).order (get_or labels k d).order order (up middle k d low in').0 less)
      | inr more ↦ let e : middle ≡ k = omega arith in here d (ap (λ i. order_cmp (get_or labels i d).order order) e ∙ less)
    ]

-- ---- orders

-- two places in the order that tie have the same id
pub same_id : (one other : Order) → order_cmp one other ≡ Equal → one.id ≡ other.id
same_id one other tie = (bytes_eq-Decides one.id other.id).0 (and_parts _ _ (order_ties one other ∙ ap is_eq tie)).1

turned : (one other : Ordering) → one ≡ ordering_reverse other → ¬ (one ≡ Less) → ¬ (one ≡ Equal) → other ≡ Less
turned one Less e a b = refl
turned one Equal e a b = absurd (b e)
turned one Greater e a b = absurd (a e)

-- an order that is not before another one, and has another id, comes after it
pub order_after : (one other : Order) → ¬ (order_cmp one other ≡ Less) → one.id ≢ other.id → order_cmp other one ≡ Less
order_after one other above apart = turned (order_cmp one other) (order_cmp other one) (order_total.antisymm one other) above (λ tie. apart (same_id one other tie))

-- ---- one goes

-- the labels stay in priority order with different ids as one goes
pub list_remove : (labels : List Label) (at : ℕ) → at < length labels → IsLabelList labels → IsLabelList (remove labels at)
list_remove labels at lt up j i d less in' =
    let n = length-remove labels at lt in
    elim (cases_lt i at) [
      | inl low ↦ rw (get_or-remove_below labels at d j (omega arith) lt, get_or-remove_below labels at d i low lt) (up j i d less (omega arith))
      | inr high ↦ elim (cases_lt j at) [
        | inl low ↦ rw (get_or-remove_below labels at d j low lt, get_or-remove_above labels at d i high lt) (up j (i + 1) d (omega arith) (omega arith))
        | inr high' ↦ rw (get_or-remove_above labels at d j high' lt, get_or-remove_above labels at d i high lt) (up (j + 1) (i + 1) d (omega arith) (omega arith))
      ]
    ]

-- ---- one comes

-- the labels stay in priority order with different ids as one with a new id comes in at its place
pub list_insert : (labels : List Label) (at : ℕ) (a : Label) → IsPlaceFor labels a.order at → ¬ (HasId labels a.order.id) → IsLabelList labels → IsLabelList (insert labels at a)
list_insert labels at a place new up j i d less in' =
    let le = place.within in
    let n = length-insert labels at a le in
    elim (cases_lt i at) [
      | inl low ↦ rw (get_or-insert_below labels at a d j (omega arith) le, get_or-insert_below labels at a d i low le) (up j i d less (omega arith))
      | inr high ↦ elim (cases_eq i at) [
        | inl here ↦
            rw (get_or-insert_below labels at a d j (omega arith) le, ap (λ k. get_or (insert labels at a) k d) here ∙ get_or-insert_at labels at a d le)
            (place.before j d (omega arith), apart j d (omega arith))
        | inr beyond ↦
            let strict : at < i = (let no : i ≢ at = beyond in omega arith) in
            let p : (m : ℕ) × (i ≡ m + 1) × (at ≤ m) = (i - 1, omega arith, omega arith) in
            let e : i ≡ p.0 + 1 = p.1 in
            let l : at ≤ p.0 = p.2 in
            let p_in : p.0 < length labels = omega arith in
            let after = ap (λ k. get_or (insert labels at a) k d) p.1 ∙ get_or-insert_above labels at a d p.0 p.2 le in
            elim (cases_lt j at) [
              | inl low ↦ rw (get_or-insert_below labels at a d j low le, after) (up j p.0 d (omega arith) p_in)
              | inr up' ↦ elim (cases_eq j at) [
                | inl here ↦
                    rw (ap (λ k. get_or (insert labels at a) k d) here ∙ get_or-insert_at labels at a d le, after)
                    (order_after (get_or labels p.0 d).order a.order (place.after p.0 d p.2 p_in) (apart p.0 d p_in), λ f. apart p.0 d p_in (sym f))
                | inr past ↦
                    let more : at < j = (let no : j ≢ at = past in omega arith) in
                    let q : (m : ℕ) × (j ≡ m + 1) × (at ≤ m) = (j - 1, omega arith, omega arith) in
                    let f : j ≡ q.0 + 1 = q.1 in
                    rw (ap (λ k. get_or (insert labels at a) k d) q.1 ∙ get_or-insert_above labels at a d q.0 q.2 le, after) (up q.0 p.0 d (omega arith) p_in)
              ]
            ]
      ]
    ]
  where
    apart : (k : ℕ) (d : Label) → k < length labels → (get_or labels k d).order.id ≢ a.order.id
    apart k d lt e = new (get_or labels k d, (k, lt, get_or_default labels k (get_or labels k d) d lt), e)

-- ---- the plan's way to say the same

-- the plan's list with a row more is the one into which the row comes at its place
pub with_row_is : (rows : List Row) (row : Row) (at : ℕ) → IsPlaceFor (labels_in rows) row.label.order at → with_row row rows ≡ insert rows at row
with_row_is [] row zero place = refl
with_row_is [] row (suc at) place = absurd (let le = place.within in omega arith)
with_row_is (r ∷ rows) row zero place =
    ap (λ (b : Bool). if b then r ∷ with_row row rows else row ∷ (r ∷ rows)) (not_less (order_cmp r.label.order row.label.order) (place.after 0 r.label (omega arith) (omega arith)))
  where
    not_less : (o : Ordering) → ¬ (o ≡ Less) → is_lt o ≡ false
    not_less Less h = absurd (h refl)
    not_less Equal h = refl
    not_less Greater h = refl
with_row_is (r ∷ rows) row (suc at) place =
    ap (λ (b : Bool). if b then r ∷ with_row row rows else row ∷ (r ∷ rows)) (ap is_lt (place.before 0 r.label (omega arith)))
    ∙ ap (λ rs. r ∷ rs) (with_row_is rows row at (record {
      within = (let le = place.within in omega arith);
      before = λ k d lt. place.before (suc k) d (omega arith);
      after = λ k d le lt. place.after (suc k) d (omega arith) (omega arith);
    }))

keep_all : (id : List ℕ) (rows : List Row) → ((k : ℕ) (d : Row) → k < length rows → (get_or rows k d).label.order.id ≢ id) → without_id id rows ≡ rows
keep_all id [] h = refl
keep_all id (r ∷ rows) h =
    ap (λ (b : Bool). if not b then r ∷ without_id id rows else without_id id rows) (differ (bytes_eq r.label.order.id id) refl)
    ∙ ap (λ rs. r ∷ rs) (keep_all id rows (λ k d lt. h (suc k) d (omega arith)))
  where
    differ : (b : Bool) → b ≡ bytes_eq r.label.order.id id → bytes_eq r.label.order.id id ≡ false
    differ false e = sym e
    differ true e = absurd (h 0 r (omega arith) ((bytes_eq-Decides r.label.order.id id).0 (sym e)))

-- the plan's list without an id is the one from which the only row with that id is removed
pub without_is : (id : List ℕ) (rows : List Row) (at : ℕ) → at < length rows → ((d : Row) → (get_or rows at d).label.order.id ≡ id) →
    ((k : ℕ) (d : Row) → k < length rows → k ≢ at → (get_or rows k d).label.order.id ≢ id) → without_id id rows ≡ remove rows at
without_is id [] at lt here others = absurd (omega arith)
without_is id (r ∷ rows) zero lt here others =
    ap (λ (b : Bool). if not b then r ∷ without_id id rows else without_id id rows) ((bytes_eq-Decides r.label.order.id id).1 (here r))
    ∙ keep_all id rows (λ k d lt. others (suc k) d (omega arith) (λ e. omega arith))
without_is id (r ∷ rows) (suc at) lt here others =
    ap (λ (b : Bool). if not b then r ∷ without_id id rows else without_id id rows) (differ (bytes_eq r.label.order.id id) refl)
    ∙ ap (λ rs. r ∷ rs) (without_is id rows at (omega arith) here (λ k d lt ne. others (suc k) d (omega arith) (λ e. omega arith)))
  where
    differ : (b : Bool) → b ≡ bytes_eq r.label.order.id id → bytes_eq r.label.order.id id ≡ false
    differ false e = sym e
    differ true e = absurd (others 0 r (omega arith) (λ e. omega arith) ((bytes_eq-Decides r.label.order.id id).0 (sym e)))

-- of labels in order, only one has an id
pub only_id : (rows : List Row) (id : List ℕ) (at k : ℕ) (d : Row) → IsLabelList (labels_in rows) → at < length rows →
    k < length rows → (get_or rows at d).label.order.id ≡ id → k ≢ at → (get_or rows k d).label.order.id ≢ id
only_id rows id at k d up at_in k_in is ne same =
    let many = length-labels rows in
    let a : get_or (labels_in rows) at d.label ≡ (get_or rows at d).label = get_or-map (λ (t : Row). t.label) rows at d d.label at_in in
    let b : get_or (labels_in rows) k d.label ≡ (get_or rows k d).label = get_or-map (λ (t : Row). t.label) rows k d d.label k_in in
    let e : (get_or (labels_in rows) at d.label).order.id ≡ (get_or (labels_in rows) k d.label).order.id = ap (λ (l : Label). l.order.id) a ∙ is ∙ sym same ∙ sym (ap (λ (l : Label). l.order.id) b) in
    elim (cases_lt k at) [
      | inl less ↦ (up k at d.label less (omega arith)).1 (sym e)
      | inr more ↦ (up at k d.label (omega arith) (omega arith)).1 e
    ]
