-- Later rivals, and labels that wait.
use Rattle.std.proofs.Common.{◌≡◌, ◌≢◌, ℕ, ◌+◌, ◌<◌, ◌≤◌, ◌⊎◌, Bool, false, List, [], ◌∷◌, length, get_or, take, max, min, Contains, inl, inr, sym, subst, arith}
use Rattle.std.specs.Prelude.{◌↔◌, All, IsTrue}
use Rattle.std.proofs.lemmas.Bool.{cases_lt, cases_eq}
use Rattle.std.proofs.lemmas.List.{get_or_default, take_more}
use Rattle.std.proofs.lemmas.List.Elements.{Contains-append_left, Contains-push, Contains-push_cases}
use Rattle.ml_ratio.specs.Fraction.{Fraction, value_of}
use Rattle.ml_ratio.specs.Band.{IsInBand}
use Rattle.ml_cone.specs.Rivals.{AreRivals}
use Rattle.ml_cone.specs.Cell.{IsLastBand}
use Rattle.ml_cone.specs.Outline.{LastCell, RivalBand}
use Rattle.ml_cone.specs.Overlap.{Overlap, BoxesOverlap}
use Rattle.ml_cone.specs.Slots.{ends}
use Rattle.ml_cone.specs.declared.label.Label.{Label}
use Rattle.ml_store.specs.Rows.{labels_in}
use Rattle.ml_store.specs.declared.row.Row.{Row}
use Rattle.ml_repair.specs.Roster.{AreFound, IsFoundAt, AreMet, OverlapsAt}
use Rattle.ml_repair.specs.Repair.{AreSuspects, IsWokenBy, AreWoken}
use Rattle.ml_repair.specs.Touched.{IsRivalBefore}
use Rattle.ml_repair.specs.Waiting.{AllWait}
use Rattle.ml_repair.proofs.Gathering.{band_from}
use Rattle.ml_repair.proofs.NearRosters.{EndsFrom, last_after}
use Rattle.ml_repair.proofs.Present.{length-labels}

-- ---- band by band

pub record SuspectsBelow (rows : List Row) (a : Label) (first band : ℕ) (places : List ℕ) : Type 0 where
  pub within : (p : ℕ) → Contains places p → p < length rows
  pub whole : (p k : ℕ) → IsFoundAt rows a k p → first ≤ k → k < band → Contains places p

-- before the first band is searched no place is due
pub suspects_none : (rows : List Row) (a : Label) (first : ℕ) → SuspectsBelow rows a first first []
suspects_none rows a first = record {
  within = λ p h. absurd (let lt : h.0 < 0 = h.1 in omega arith);
  whole = λ p k f from to. absurd (omega arith);
}

-- one more band is done, once the places came in that a search in it finds
pub suspects_more : (rows : List Row) (a : Label) (first band : ℕ) (places more : List ℕ) →
    SuspectsBelow rows a first band places → AreFound rows a band places more → SuspectsBelow rows a first (band + 1) more
suspects_more rows a first band places more so_far are = record {
  within = λ p h. elim (are.sound p h) [ inl old ↦ so_far.within p old | inr new ↦ new ];
  whole = λ p k f from to. elim (cases_lt k band) [
    | inl less ↦ are.kept p (so_far.whole p k f from less)
    | inr here ↦ let e : k ≡ band = omega arith in are.whole p (subst (λ (b : ℕ). IsFoundAt rows a b p) e f)
  ];
}

-- the law: rivals are kept in one cell of the last band of one of them
abbrev pub ShareLaw : Type 0
ShareLaw = (a b : Label) → AreRivals a b → LastCell a b

-- the bands from the first in which a range ends up to the label's last one are enough
pub suspects_all : ShareLaw → (rows : List Row) (a : Label) (first band last ends begins : ℕ) (places : List ℕ) → SuspectsBelow rows a first band places →
    IsInBand (value_of a.min) begins → IsLastBand a last → EndsFrom ends rows → first ≡ max (min ends last) begins → last < band → AreSuspects rows a places
suspects_all law rows a first band last ends begins places done starts is from least stop = record {
  within = λ k d lt. done.within (get_or places k d) (k, lt, get_or_default places k (get_or places k d) d lt);
  whole = λ p p_in rivals.
      let many = length-labels rows in
      let b : Label = get_or (labels_in rows) p a in
      let both = law b a (rivals a) in
      let cell = both.cell in
      let k = cell.band in
      let begun = band_from (value_of a.min) (value_of a.max) k begins cell.second.meets starts in
      let upto = last_after a k last cell.second.low cell.second.meets.reaches is in
      let after : first ≤ k =
      elim both.last [
        | inl of_other ↦
            let e : ends ≤ k = from p k p_in (λ d. subst (λ (l : Label). IsLastBand l k) (get_or_default (labels_in rows) p a d (omega arith)) of_other) in
            omega arith
        | inr of_label ↦
            let e : last ≤ k = last_after a last k is.low is.reaches of_label in
            omega arith
      ] in
      done.whole p k (p_in, λ d. rw (get_or_default (labels_in rows) p d a (omega arith)) (record { x = cell.x; y = cell.y; among = cell.second.among; kept = cell.first })) after (omega arith);
}

-- ---- bands about the label

-- labels that overlap do so the other way round
overlap_turned : (a b : Label) (s : Fraction) → Overlap a b s → Overlap b a s
unfolding Overlap BoxesOverlap
overlap_turned a b s h =
    let meet = h.4.4 in
    (h.4.0, h.4.1, h.4.2, h.4.3, (h.0, h.1, h.2, h.3, ((meet.0.1, meet.0.0), (meet.1.1, meet.1.0))))

rivals_turned : (a b : Label) → AreRivals a b → AreRivals b a
unfolding AreRivals
rivals_turned a b h = (h.0, h.1, h.3, h.2, overlap_turned a b h.0 h.4)

pub record MeetingBelow (rows : List Row) (a : Label) (first band : ℕ) (places : List ℕ) : Type 0 where
  pub within : (p : ℕ) → Contains places p → p < length rows
  pub whole : (p k : ℕ) → OverlapsAt rows a k p → first ≤ k → k < band → Contains places p

-- before the first band is searched no label that overlaps is due
pub meeting_none : (rows : List Row) (a : Label) (first : ℕ) → MeetingBelow rows a first first []
meeting_none rows a first = record {
  within = λ p h. absurd (let lt : h.0 < 0 = h.1 in omega arith);
  whole = λ p k f from to. absurd (omega arith);
}

-- some more bands are done, once the places of all labels came in that the label overlaps in them
pub meeting_more : (rows : List Row) (a : Label) (first band next : ℕ) (places more : List ℕ) →
    MeetingBelow rows a first band places → AreMet rows a band next places more → MeetingBelow rows a first next more
meeting_more rows a first band next places more so_far are = record {
  within = λ p h. elim (are.sound p h) [ inl old ↦ so_far.within p old | inr new ↦ new ];
  whole = λ p k f from to. elim (cases_lt k band) [
    | inl less ↦ are.kept p (so_far.whole p k f from less)
    | inr here ↦ are.whole p k here to f
  ];
}

-- the law: rivals overlap in some band that meets both selectable ranges
abbrev pub OverlapLaw : Type 0
OverlapLaw = (a b : Label) → AreRivals a b → RivalBand a b

-- all bands of the label's range are enough
pub meeting_all : OverlapLaw → (rows : List Row) (a : Label) (band last begins : ℕ) (places : List ℕ) →
    MeetingBelow rows a begins band places → IsInBand (value_of a.min) begins → IsLastBand a last → last < band → AreSuspects rows a places
meeting_all law rows a band last begins places done starts is stop = record {
  within = λ k d lt. done.within (get_or places k d) (k, lt, get_or_default places k (get_or places k d) d lt);
  whole = λ p p_in rivals.
      let many = length-labels rows in
      let b : Label = get_or (labels_in rows) p a in
      let both = law a b (rivals_turned b a (rivals a)) in
      let k = both.band in
      let begun = band_from (value_of a.min) (value_of a.max) k begins both.first starts in
      let upto = last_after a k last both.over.low both.first.reaches is in
      done.whole p k (p_in, λ d. rw (get_or_default (labels_in rows) p d a (omega arith)) both.over) begun (omega arith);
}

-- ---- labels one after another

module _ (labels : List Label) (i : ℕ) (before : List Bool) where
  -- none of them is a later rival
  pub woken_none : (those : ℕ → Type 0) → ((k : ℕ) → those k → IsRivalBefore labels i k → ⊥) → IsWokenBy labels i those before before
  woken_none those none k k_in = (λ w. inl w, λ h. elim h [ inl w ↦ w | inr r ↦ absurd (none k r.0 r.1) ])

  -- one more
  pub woken_more : (those next : ℕ → Type 0) (k : ℕ) (mid after : List Bool) → IsWokenBy labels i those before mid →
      (IsTrue (get_or after k false) ↔ (IsTrue (get_or mid k false) ⊎ IsRivalBefore labels i k)) → ((m : ℕ) → m ≢ k → get_or after m false ≡ get_or mid m false) →
      ((m : ℕ) → next m → those m ⊎ (m ≡ k)) → ((m : ℕ) → those m → next m) → next k → IsWokenBy labels i next before after
  woken_more those next k mid after so_far here others cases old_ones new_one m m_in =
      let s = so_far m m_in in
      elim (cases_eq m k) [
        | inl e ↦
            let h = subst (λ (x : ℕ). IsTrue (get_or after x false) ↔ (IsTrue (get_or mid x false) ⊎ IsRivalBefore labels i x)) (sym e) here in
            let there : next m = subst next (sym e) new_one in (
              λ w. elim (h.0 w) [
                | inl old ↦ elim (s.0 old) [ inl was ↦ inl was | inr r ↦ inr (old_ones m r.0, r.1) ]
                | inr r ↦ inr (there, r)
              ],
              λ w. elim w [ inl was ↦ h.1 (inl (s.1 (inl was))) | inr r ↦ h.1 (inr r.1) ],
            )
        | inr ne ↦
            rw (others m ne) (
              λ w. elim (s.0 w) [ inl was ↦ inl was | inr r ↦ inr (old_ones m r.0, r.1) ],
              λ w. elim w [
                | inl was ↦ s.1 (inl was)
                | inr r ↦ elim (cases m r.0) [ inl old ↦ s.1 (inr (old, r.1)) | inr same ↦ absurd (ne same) ]
              ],
            )
      ]

-- one more place of a list
pub among_more : (labels : List Label) (i : ℕ) (before mid after : List Bool) (places : List ℕ) (t : ℕ) → t < length places → IsWokenBy labels i (Contains (take t places)) before mid →
    (IsTrue (get_or after (get_or places t 0) false) ↔ (IsTrue (get_or mid (get_or places t 0) false) ⊎ IsRivalBefore labels i (get_or places t 0))) →
    ((m : ℕ) → m ≢ get_or places t 0 → get_or after m false ≡ get_or mid m false) → IsWokenBy labels i (Contains (take (t + 1) places)) before after
among_more labels i before mid after places t lt so_far here others =
    let k : ℕ = get_or places t 0 in
    let e = take_more places t 0 lt in
    woken_more labels i before (Contains (take t places)) (Contains (take (t + 1) places)) k mid after so_far here others
    (λ m h. elim (Contains-push_cases (take t places) k m (rw e at h)) [ inl old ↦ inl old | inr same ↦ inr (sym same) ])
    (λ m h. rw e (Contains-append_left (take t places) (k ∷ []) m h)) (rw e (Contains-push (take t places) k))

-- one more label behind the first k
pub idle_more : (labels : List Label) (i : ℕ) (before mid after : List Bool) (k : ℕ) → IsWokenBy labels i (λ m. m < k) before mid →
    (IsTrue (get_or after k false) ↔ (IsTrue (get_or mid k false) ⊎ IsRivalBefore labels i k)) →
    ((m : ℕ) → m ≢ k → get_or after m false ≡ get_or mid m false) → IsWokenBy labels i (λ m. m < k + 1) before after
idle_more labels i before mid after k so_far here others =
    woken_more labels i before (λ m. m < k) (λ m. m < k + 1) k mid after so_far here others
    (λ m h. elim (cases_lt m k) [ inl less ↦ inl less | inr more ↦ inr (omega arith) ]) (λ m h. omega arith) (omega arith)

-- labels that wait are passed over
pub waiting_more : (labels : List Label) (i : ℕ) (before after : List Bool) (k n : ℕ) → k ≤ n → IsWokenBy labels i (λ m. m < k) before after →
    AllWait after k n → IsWokenBy labels i (λ m. m < n) before after
waiting_more labels i before after k n le so_far waits m m_in =
    let s = so_far m m_in in (
      λ h. elim (s.0 h) [ inl was ↦ inl was | inr r ↦ inr (omega (arith, r.0), r.1) ],
      λ h. elim h [
        | inl was ↦ s.1 (inl was)
        | inr r ↦ elim (cases_lt m k) [ inl less ↦ s.1 (inr (less, r.1)) | inr more ↦ waits m more r.0 ]
      ],
    )

-- all labels, or all suspects, are enough
pub woken_all : (rows : List Row) (i k : ℕ) (before after : List Bool) → length rows ≤ k → IsWokenBy (labels_in rows) i (λ m. m < k) before after → AreWoken rows i before after
woken_all rows i k before after all woken m m_in =
    let many = length-labels rows in
    let w = woken m (omega arith) in (
      λ h. elim (w.0 h) [ inl was ↦ inl was | inr r ↦ inr r.1 ],
      λ h. w.1 (elim h [ inl was ↦ inl was | inr r ↦ inr (omega arith, r) ]),
    )

-- once all suspects are gone through, the later rivals of the label wait
pub woken_suspects : (rows : List Row) (i : ℕ) (high : Label) (places : List ℕ) (before after : List Bool) → ((d : Label) → get_or (labels_in rows) i d ≡ high) →
    AreSuspects rows high places → IsWokenBy (labels_in rows) i (Contains places) before after → AreWoken rows i before after
woken_suspects rows i high places before after is are woken m m_in =
    let labels = labels_in rows in
    let many = length-labels rows in
    let w = woken m (omega arith) in (
      λ h. elim (w.0 h) [ inl was ↦ inl was | inr r ↦ inr r.1 ],
      λ h. w.1 (elim h [
        | inl was ↦ inl was
        | inr r ↦ inr (are.whole m m_in (λ d. subst (AreRivals (get_or labels m d)) (is high) (rw (get_or_default labels m d high (omega arith)) (r.1 high))), r)
      ]),
    )

-- ---- the same places in another order

-- places that are all below n are so in another order too
pub same_within : (n : ℕ) (xs ys : List ℕ) → ((p : ℕ) → Contains ys p ↔ Contains xs p) → All (λ p. p < n) xs → All (λ p. p < n) ys
same_within n xs ys same within k d lt =
    let p : ℕ = get_or ys k d in
    let old = (same p).0 (k, lt, get_or_default ys k p d lt) in
    let h = within old.0 p old.1 in
    let e : get_or xs old.0 p ≡ p = old.2 in
    omega arith
