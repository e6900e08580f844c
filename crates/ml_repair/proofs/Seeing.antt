-- What a view shows of the rows.
use Rattle.std.proofs.Common.{◌≡◌, ◌≢◌, ℕ, zero, suc, ◌+◌, ◌<◌, List, [], ◌∷◌, ◌++◌, length, get_or, map, take, Contains}
use Rattle.std.proofs.Common.{◌⊎◌, inl, inr, refl, sym, ap, ◌∙◌, subst, arith, Bool, true, false, Option, Some, None}
use Rattle.std.specs.Prelude.{All, IfSome, ◌↔◌, ◌==◌, if◌then◌else◌}
use Rattle.std.proofs.lemmas.Bool.Decides.{nat_tests}
use Rattle.std.specs.List.Sorted.{IsStrictlyIncreasing}
use Rattle.std.proofs.lemmas.Bool.{cases_lt, cases_eq}
use Rattle.std.proofs.lemmas.List.{take_more, get_or-map, length-map, get_or_default}
use Rattle.std.proofs.lemmas.List.Kept.{AllPairs-from_increasing}
use Rattle.std.proofs.lemmas.List.Elements.{Contains-get_or, Contains-append_left, Contains-push, Contains-push_cases}
use Rattle.ml_ratio.specs.Fraction.{Fraction, value_of}
use Rattle.ml_cone.specs.Choice.{ActiveUntil, IsEnd, Allows}
use Rattle.ml_cone.specs.Overlap.{Overlap, BoxesOverlap}
use Rattle.ml_cone.specs.Shown.{IsInView}
use Rattle.ml_cone.specs.Slots.{ends, no_slot, IsBlockerBy}
use Rattle.ml_cone.specs.declared.label.BoxPx.{BoxPx}
use Rattle.ml_cone.specs.declared.label.Label.{Label}
use Rattle.ml_ratio.specs.declared.ratio.Ratio.{Ratio}
use Rattle.ml_cone.specs.declared.slot.Slot.{Slot}
use Rattle.ml_cone.specs.declared.view.View.{View}
use Rattle.ml_grid.specs.Near.{IsNear}
use Rattle.ml_store.specs.Rows.{numbers_in, labels_in, slots_in, number_at, HaveOwnNumbers, IsLive}
use Rattle.ml_store.specs.Search.{AreNearNumbers}
use Rattle.ml_store.specs.Table.{IsRowAt}
use Rattle.ml_store.specs.declared.row.Row.{Row}
use Rattle.ml_repair.specs.Settled.{IsSettled}
use Rattle.ml_repair.specs.Shown.{AreShownNumbers, AreApart, AreNear, IsNearAt, IsShownIn}
use Rattle.ml_repair.proofs.NearRosters.{row_there, label_read}
use Rattle.ml_repair.proofs.OneRow.{one_number}
use Rattle.ml_repair.proofs.Present.{length-labels}
use Rattle.ml_ratio.proofs.lemmas.Lists.{contains_map, map_contains, same_place, map_read}

-- ---- rows that are shown

-- the row at a place is shown exactly where its label is active at the view's scale and lies in the view
pub shown_is : (rows : List Row) (view : View) (p : ℕ) (r : Row) → p < length rows → r ≡ get_or rows p r →
    IsShownIn rows view p ↔ (ActiveUntil r.label (value_of r.slot.until) (value_of view.scale) × IsInView r.label view)
shown_is rows view p r lt read =
    let many = length-labels rows in
    let end : ends (slots_in rows) p ≡ value_of r.slot.until = ap (λ (s : Slot). value_of s.until) (map_read (λ (t : Row). t.slot) rows p r no_slot lt read) in (
      λ h. subst (λ (f : Fraction). ActiveUntil r.label f (value_of view.scale) × IsInView r.label view) end
          (subst (λ (a : Label). ActiveUntil a (ends (slots_in rows) p) (value_of view.scale) × IsInView a view) (label_read rows p r r.label lt read) (h.1 r.label)),
      λ h. (omega arith, λ d. rw (label_read rows p r d lt read, end) h),
    )

-- where the label with the number is shown, its place is what came in
pub push_here : (rows : List Row) (view : View) (n p : ℕ) (r : Row) (before after : List ℕ) → HaveOwnNumbers rows → IsRowAt rows n p →
    r ≡ get_or rows p r → ActiveUntil r.label (value_of r.slot.until) (value_of view.scale) × IsInView r.label view →
    after ≡ before ++ p ∷ [] → (q : ℕ) → Contains after q ↔ (Contains before q ⊎ (IsRowAt rows n q × IsShownIn rows view q))
push_here rows view n p r before after differ here read shown e q =
    rw e (
      λ h. elim (Contains-push_cases before p q h) [
        | inl old ↦ inl old
        | inr same ↦ inr (subst (λ (i : ℕ). IsRowAt rows n i × IsShownIn rows view i) same (here, (shown_is rows view p r here.0 read).1 shown))
      ],
      λ h. elim h [
        | inl old ↦ Contains-append_left before (p ∷ []) q old
        | inr new ↦
            let many = length-map rows (λ (t : Row). t.number) in
            let a : p < length rows = here.0 in
            let b : q < length rows = new.0.0 in
            let f : p ≡ q = same_place (numbers_in rows) p q 0 differ (omega arith) (omega arith) (here.1 ∙ sym new.0.1) in
            subst (Contains (before ++ p ∷ [])) f (Contains-push before p)
      ],
    )

-- where the label with the number is not shown, nothing has to come in
pub push_hidden : (rows : List Row) (view : View) (n p : ℕ) (r : Row) (before : List ℕ) → HaveOwnNumbers rows → IsRowAt rows n p →
    r ≡ get_or rows p r → ¬ (ActiveUntil r.label (value_of r.slot.until) (value_of view.scale) × IsInView r.label view) →
    (q : ℕ) → Contains before q ↔ (Contains before q ⊎ (IsRowAt rows n q × IsShownIn rows view q))
push_hidden rows view n p r before differ here read hidden q = (
  λ h. inl h,
  λ h. elim h [
    | inl old ↦ old
    | inr new ↦
        let many = length-map rows (λ (t : Row). t.number) in
        let a : p < length rows = here.0 in
        let b : q < length rows = new.0.0 in
        let f : q ≡ p = same_place (numbers_in rows) q p 0 differ (omega arith) (omega arith) (new.0.1 ∙ sym here.1) in
        absurd (hidden ((shown_is rows view p r here.0 read).0 (subst (IsShownIn rows view) f new.1)))
  ],
)

-- where no row has the number, nothing has to come in
pub push_none : (rows : List Row) (view : View) (n : ℕ) (before : List ℕ) → ¬ (Contains (numbers_in rows) n) →
    (q : ℕ) → Contains before q ↔ (Contains before q ⊎ (IsRowAt rows n q × IsShownIn rows view q))
push_none rows view n before fresh q = (
  λ h. inl h,
  λ h. elim h [
    | inl old ↦ old
    | inr new ↦
        let many = length-map rows (λ (t : Row). t.number) in
        let b : q < length rows = new.0.0 in
        absurd (fresh (q, omega arith, get_or_default (numbers_in rows) q n 0 (omega arith) ∙ new.0.1))
  ],
)

-- ---- one number after another

-- the places are those of the labels with these numbers that the view shows
abbrev pub ShownAmong : List Row → View → List ℕ → List ℕ → Type 0
ShownAmong rows view numbers places = (p : ℕ) → Contains places p ↔ ((n : ℕ) × Contains numbers n × IsRowAt rows n p × IsShownIn rows view p)

-- of no numbers no label is shown
pub among_none : (rows : List Row) (view : View) → ShownAmong rows view [] []
among_none rows view p = (λ h. absurd (let lt : h.0 < 0 = h.1 in omega arith), λ h. absurd (let lt : h.1.0 < 0 = h.1.1 in omega arith))

-- one more number is gone through: the place of its label came in if that is shown
pub among_more : (rows : List Row) (view : View) (numbers places next : List ℕ) (k : ℕ) → k < length numbers → ShownAmong rows view (take k numbers) places →
    ((q : ℕ) → Contains next q ↔ (Contains places q ⊎ (IsRowAt rows (get_or numbers k 0) q × IsShownIn rows view q))) → ShownAmong rows view (take (k + 1) numbers) next
among_more rows view numbers places next k lt so_far one p =
    let n : ℕ = get_or numbers k 0 in
    let e = take_more numbers k 0 lt in (
      λ h. elim ((one p).0 h) [
        | inl old ↦ let s = (so_far p).0 old in (s.0, rw e (Contains-append_left (take k numbers) (n ∷ []) s.0 s.1), s.2, s.3)
        | inr new ↦ (n, rw e (Contains-push (take k numbers) n), new.0, new.1)
      ],
      λ h. elim (Contains-push_cases (take k numbers) n h.0 (rw e at h.1)) [
        | inl old ↦ (one p).1 (inl ((so_far p).1 (h.0, old, h.2, h.3)))
        | inr same ↦ (one p).1 (inr (subst (λ (m : ℕ). IsRowAt rows m p) (sym same) h.2, h.3))
      ],
    )

-- ---- all that the view shows

module _ (rows : List Row) (view : View) (settled : IsSettled rows) (near places sorted : List ℕ)
    (all : (r : Row) → Contains rows r → ActiveUntil r.label (value_of r.slot.until) (value_of view.scale) → IsInView r.label view → Contains near r.number)
    (among : ShownAmong rows view near places) (up : IsStrictlyIncreasing sorted) (same : (p : ℕ) → Contains sorted p ↔ Contains places p) where
  -- the sorted places are places of the list
  pub sorted_within : All (λ p. p < length rows) sorted
  sorted_within k d lt = let s = (among (get_or sorted k d)).0 ((same (get_or sorted k d)).0 (Contains-get_or sorted k d lt)) in s.2.0

  shown_there : (p : ℕ) → Contains sorted p → IsShownIn rows view p
  shown_there p there = ((among p).0 ((same p).0 there)).3

  there_shown : (p : ℕ) → IsShownIn rows view p → Contains sorted p
  there_shown p shown =
      let many = length-labels rows in
      let l : p < length (labels_in rows) = shown.0 in
      let lt : p < length rows = omega arith in
      let s = row_there rows p lt in
      let h = (shown_is rows view p s.0 lt s.1).0 shown in
      (same p).1 ((among p).1 (s.0.number, all s.0 (p, lt, sym s.1) h.0 h.1, (lt, map_read (λ (t : Row). t.number) rows p s.0 0 lt s.1), shown))

  -- the numbers at the sorted places are those of the labels that the view shows
  pub shown_numbers_are : (numbers : List ℕ) → numbers ≡ map (number_at rows) sorted → AreShownNumbers rows view numbers
  shown_numbers_are numbers e = record {
    places = sorted;
    shown = record {
      ascending = λ k m less lt. AllPairs-from_increasing sorted up k m 0 less lt;
      sound = λ k lt. shown_there (get_or sorted k 0) (k, lt, get_or_default sorted k (get_or sorted k 0) 0 lt);
      whole = λ i shown. let s = there_shown i shown in (s.0, s.1, get_or_default sorted s.0 0 i s.1 ∙ s.2);
    };
    numbers_are = e;
  }

  -- the row with one of the numbers is shown
  shown_row : (numbers : List ℕ) → numbers ≡ map (number_at rows) sorted → (r : Row) → Contains rows r →
      Contains numbers r.number → (p : ℕ) × (p < length rows) × (r ≡ get_or rows p r) × IsShownIn rows view p
  shown_row numbers e r there in' =
      let s = map_contains (number_at rows) sorted r.number (rw e at in') in
      let p : ℕ = s.0 in
      let shown = shown_there p s.1 in
      let many = length-labels rows in
      let l : p < length (labels_in rows) = shown.0 in
      let lt : p < length rows = omega arith in
      let t = row_there rows p lt in
      let f : t.0 ≡ r = one_number rows t.0 r (p, lt, sym t.1) there settled.own_numbers (sym (map_read (λ (t : Row). t.number) rows p t.0 0 lt t.1) ∙ s.2) in
      (p, lt, subst (λ (x : Row). x ≡ get_or rows p x) f t.1, shown)

  -- two labels that are active at a scale do not overlap there
  free_at : (i j : ℕ) (r s : Row) → j < i → i < length rows → r ≡ get_or rows i r → s ≡ get_or rows j s → ActiveUntil r.label (value_of r.slot.until)
      (value_of view.scale) → ActiveUntil s.label (value_of s.slot.until) (value_of view.scale) → ¬ (Overlap r.label s.label (value_of view.scale))
  unfolding Allows
  free_at i j r s less lt read_r read_s one other over =
      let many = length-labels rows in
      let j_in : j < length rows = omega arith in
      let a : ends (slots_in rows) i ≡ value_of r.slot.until = ap (λ (t : Slot). value_of t.until) (map_read (λ (t : Row). t.slot) rows i r no_slot lt read_r) in
      let b : ends (slots_in rows) j ≡ value_of s.slot.until = ap (λ (t : Slot). value_of t.until) (map_read (λ (t : Row). t.slot) rows j s no_slot j_in read_s) in
      let la : get_or (labels_in rows) i r.label ≡ r.label = label_read rows i r r.label lt read_r in
      let lb : get_or (labels_in rows) j r.label ≡ s.label = label_read rows j s r.label j_in read_s in
      let free = settled.slots.longest.free j i r.label less (omega arith) in
      (rw (a, b, la, lb) at free) (value_of view.scale) view.above one other over

  -- no two labels with different ones of these numbers overlap at the view's scale
  pub shown_apart : (symmetric : (a b : Label) (f : Fraction) → Overlap a b f → Overlap b a f) (numbers : List ℕ) → numbers ≡ map (number_at rows) sorted → AreApart rows view numbers
  shown_apart symmetric numbers e a b in_a in_b at_a at_b apart over =
      let p = shown_row numbers e a in_a at_a in
      let q = shown_row numbers e b in_b at_b in
      let sa = (shown_is rows view p.0 a p.1 p.2).0 p.3 in
      let sb = (shown_is rows view q.0 b q.1 q.2).0 q.3 in
      elim (cases_lt p.0 q.0) [
        | inl less ↦ free_at q.0 p.0 b a less q.1 q.2 p.2 sb.0 sa.0 (symmetric a.label b.label (value_of view.scale) over)
        | inr more ↦ elim (cases_eq p.0 q.0) [
          | inl same' ↦ apart (sym (map_read (λ (t : Row). t.number) rows p.0 a 0 p.1 p.2) ∙ ap (number_at rows) same' ∙ map_read (λ (t : Row). t.number) rows q.0 b 0 q.1 q.2)
          | inr differ ↦ free_at p.0 q.0 a b (let ne : p.0 ≢ q.0 = differ in omega arith) p.1 p.2 q.2 sa.0 sb.0 over
        ]
      ]

-- ---- overlap is the same both ways

turned_boxes : (a b : Label) (p q : BoxPx) (f : Fraction) → BoxesOverlap a p b q f → BoxesOverlap b q a p f
unfolding BoxesOverlap
turned_boxes a b p q f h = ((h.0.1, h.0.0), (h.1.1, h.1.0))

-- labels that overlap do so the other way round
pub overlap_turned : (a b : Label) (f : Fraction) → Overlap a b f → Overlap b a f
unfolding Overlap
overlap_turned a b f h = let o = h.4 in (o.0, o.1, o.2, o.3, (h.0, h.1, h.2, h.3, turned_boxes a b h.1 o.1 f o.4))

-- ---- how many are near

same_true : (x n : ℕ) → x ≡ n → (x == n) ≡ true
same_true x n e = grind (arith, nat_tests)

other_false : (x n : ℕ) → x ≢ n → (x == n) ≡ false
other_false x n e = grind (arith, nat_tests)

abbrev place_in : List ℕ → ℕ → ℕ
place_in [] n = 0
place_in (x ∷ xs) n = if x == n then 0 else suc (place_in xs n)

there_later : (x : ℕ) (xs : List ℕ) (n k : ℕ) → k < length (x ∷ xs) → get_or (x ∷ xs) k n ≡ n → x ≢ n → Contains xs n
there_later x xs n zero lt e ne = absurd (ne e)
there_later x xs n (suc k) lt e ne = (k, omega arith, e)

placed_in : (xs : List ℕ) (n : ℕ) → Contains xs n → (place_in xs n < length xs) × (get_or xs (place_in xs n) 0 ≡ n)
placed_in [] n there = absurd (let lt : there.0 < 0 = there.1 in omega arith)
placed_in (x ∷ xs) n there =
    elim (cases_eq x n) [
      | inl same ↦
          let e : place_in (x ∷ xs) n ≡ 0 = ap (λ (b : Bool). if b then 0 else suc (place_in xs n)) (same_true x n same) in
          (omega arith, ap (λ k. get_or (x ∷ xs) k 0) e ∙ same)
      | inr other ↦
          let e : place_in (x ∷ xs) n ≡ suc (place_in xs n) = ap (λ (b : Bool). if b then 0 else suc (place_in xs n)) (other_false x n other) in
          let t = placed_in xs n (there_later x xs n there.0 there.1 there.2 other) in
          let l : place_in xs n < length xs = t.0 in
          (omega arith, ap (λ k. get_or (x ∷ xs) k 0) e ∙ t.1)
    ]

module _ (rows : List Row) (view : View) (numbers : List ℕ) (differ : HaveOwnNumbers rows) (near : AreNearNumbers rows view numbers) where
  live_near : (n : ℕ) → Contains numbers n → Contains (numbers_in rows) n
  live_near n there = let s = (near.near n).0 there in subst (Contains (numbers_in rows)) s.2 (contains_map (λ (t : Row). t.number) rows s.0 s.1)

  near_is : (p : ℕ) (r : Row) → p < length rows → r ≡ get_or rows p r → IsNearAt (labels_in rows) (slots_in rows) view p ↔ IsNear r.label r.slot.until view
  near_is p r lt read =
      let many = length-labels rows in
      let end : (get_or (slots_in rows) p no_slot).until ≡ r.slot.until = ap (λ (s : Slot). s.until) (map_read (λ (t : Row). t.slot) rows p r no_slot lt read) in (
        λ h. subst (λ (u : Ratio). IsNear r.label u view) end (subst (λ (a : Label). IsNear a (get_or (slots_in rows) p no_slot).until view) (label_read rows p r r.label lt read) (h.1 r.label)),
        λ h. (omega arith, λ d. rw (label_read rows p r d lt read, end) h),
      )

  -- as many labels are near the view as the search for them found numbers
  pub near_count : AreNear (labels_in rows) (slots_in rows) view (length numbers)
  near_count = record {
    places = map (place_in (numbers_in rows)) numbers;
    apart = λ i j d less lt e.
        let many = length-map numbers (place_in (numbers_in rows)) in
        let i_in : i < length numbers = omega arith in
        let j_in : j < length numbers = omega arith in
        let a = placed_in (numbers_in rows) (get_or numbers i 0) (live_near (get_or numbers i 0) (Contains-get_or numbers i 0 i_in)) in
        let b = placed_in (numbers_in rows) (get_or numbers j 0) (live_near (get_or numbers j 0) (Contains-get_or numbers j 0 j_in)) in
        let f : place_in (numbers_in rows) (get_or numbers i 0) ≡ place_in (numbers_in rows) (get_or numbers j 0) =
        sym (get_or-map (place_in (numbers_in rows)) numbers i 0 d i_in) ∙ e ∙ get_or-map (place_in (numbers_in rows)) numbers j 0 d j_in in
        near.differ i j 0 less j_in (sym a.1 ∙ ap (λ k. get_or (numbers_in rows) k 0) f ∙ b.1);
    just_them = λ p. (
      λ h.
          let s = map_contains (place_in (numbers_in rows)) numbers p h in
          let n : ℕ = s.0 in
          let some = (near.near n).0 s.1 in
          let r : Row = some.0 in
          let q = placed_in (numbers_in rows) n (live_near n s.1) in
          let many = length-map rows (λ (t : Row). t.number) in
          let is : place_in (numbers_in rows) n ≡ p = s.2 in
          let l : place_in (numbers_in rows) n < length (numbers_in rows) = q.0 in
          let lt : p < length rows = omega arith in
          let t = row_there rows p lt in
          let e : t.0 ≡ r = one_number rows t.0 r (p, lt, sym t.1) some.1 differ
          (sym (map_read (λ (t : Row). t.number) rows p t.0 0 lt t.1) ∙ ap (λ k. get_or (numbers_in rows) k 0) (sym is) ∙ q.1 ∙ sym some.2) in
          (near_is p r lt (subst (λ (x : Row). x ≡ get_or rows p x) e t.1)).1 some.3,
      λ h.
          let many = length-labels rows in
          let numbers' = length-map rows (λ (t : Row). t.number) in
          let l : p < length (labels_in rows) = h.0 in
          let lt : p < length rows = omega arith in
          let t = row_there rows p lt in
          let r : Row = t.0 in
          let there : Contains numbers r.number = (near.near r.number).1 (r, (p, lt, sym t.1), refl, (near_is p r lt t.1).0 h) in
          let q = placed_in (numbers_in rows) r.number (live_near r.number there) in
          let l' : place_in (numbers_in rows) r.number < length (numbers_in rows) = q.0 in
          let e : place_in (numbers_in rows) r.number ≡ p = same_place (numbers_in rows) (place_in (numbers_in rows) r.number) p 0 differ l'
          (omega arith) (q.1 ∙ sym (map_read (λ (t : Row). t.number) rows p r 0 lt t.1)) in
          subst (Contains (map (place_in (numbers_in rows)) numbers)) e (contains_map (place_in (numbers_in rows)) numbers r.number there),
    );
    many = length-map numbers (place_in (numbers_in rows));
  }

-- numbers at places are live
pub live_at : (rows : List Row) (places numbers : List ℕ) → All (λ p. p < length rows) places → numbers ≡ map (number_at rows) places → All (IsLive rows) numbers
live_at rows places numbers within e k d lt =
    let many = length-map places (number_at rows) in
    let long : length numbers ≡ length (map (number_at rows) places) = ap length e in
    let k_in : k < length places = omega arith in
    let p : ℕ = get_or places k 0 in
    let p_in : p < length rows = within k 0 k_in in
    let s = row_there rows p p_in in
    (s.0, (p, p_in, sym s.1), sym (map_read (λ (t : Row). t.number) rows p s.0 0 p_in s.1) ∙ sym (ap (λ ns. get_or ns k d) e ∙ get_or-map (number_at rows) places k 0 d k_in))

-- each row's end lies in its range
pub settled_ends : (rows : List Row) → IsSettled rows → All (λ r. IsEnd r.label (value_of r.slot.until)) rows
settled_ends rows settled k d lt =
    let many = length-labels rows in
    let s = row_there rows k lt in
    let r : Row = s.0 in
    let e : ends (slots_in rows) k ≡ value_of r.slot.until = ap (λ (t : Slot). value_of t.until) (map_read (λ (t : Row). t.slot) rows k r no_slot lt s.1) in
    let h = settled.slots.longest.is_choice k r.label (omega arith) in
    rw (get_or_default rows k d r lt, ← s.1) (rw (label_read rows k r r.label lt s.1, e) at h)

-- a blocker is live
pub blocker_live : (rows : List Row) (r : Row) → IsSettled rows → Contains rows r → IfSome r.slot.blocker (IsLive rows)
blocker_live rows r settled there =
    let p : ℕ = there.0 in
    let lt : p < length rows = there.1 in
    let many = length-labels rows in
    let h = settled.slots.blockers p (omega arith) in
    go r.slot.blocker (subst (λ (b : Option ℕ). IsBlockerBy (number_at rows) (labels_in rows) (ends (slots_in rows)) p b)
    (ap (λ (s : Slot). s.blocker) (map_read (λ (t : Row). t.slot) rows p r no_slot lt (sym there.2))) h)
  where
    go : (b : Option ℕ) → IsBlockerBy (number_at rows) (labels_in rows) (ends (slots_in rows)) there.0 b → IfSome b (IsLive rows)
    go None h = tt
    go (Some n) h =
        let j : ℕ = h.0 in
        let blocks = h.2 r.label in
        let less : j < there.0 = blocks.0 in
        let lt : there.0 < length rows = there.1 in
        let j_in : j < length rows = omega arith in
        let s = row_there rows j j_in in
        (s.0, (j, j_in, sym s.1), sym (map_read (λ (t : Row). t.number) rows j s.0 0 j_in s.1) ∙ h.1)
