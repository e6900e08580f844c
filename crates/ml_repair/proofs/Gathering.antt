-- Places that are gathered band by band.
use Rattle.std.proofs.Common.{lit<, ◌≡◌, ℕ, ◌+◌, ◌*◌, ◌^◌, ◌<◌, ◌≤◌, Bool, true, List, [], ◌∷◌, length, get_or, take, ◌++◌, Contains, ◌⊎◌, inl, inr, refl, sym, ap, ◌∙◌, subst, arith}
use Rattle.std.specs.Prelude.{◌↔◌, All}
use Rattle.std.proofs.Math.Nat.{pow-le-pow_right}
use Rattle.std.proofs.lemmas.Bool.{cases_lt}
use Rattle.std.proofs.lemmas.Nat.{mul-le}
use Rattle.std.proofs.lemmas.List.{take_more, take_all, get_or_default, length-map}
use Rattle.std.proofs.lemmas.List.Elements.{Contains-append_left, Contains-push, Contains-push_cases}
use Rattle.ml_ratio.specs.Fraction.{Fraction, value_of, IsLess, IsAtMost}
use Rattle.ml_ratio.specs.Band.{IsInBand, MeetsBand}
use Rattle.ml_ratio.specs.declared.ratio.Ratio.{Ratio}
use Rattle.ml_ratio.proofs.lemmas.Fractions.{at_most_less, at_most_trans}
use Rattle.ml_cone.specs.Choice.{IsLimit, Allows}
use Rattle.ml_cone.specs.Slots.{ends}
use Rattle.ml_cone.specs.declared.label.Label.{Label}
use Rattle.ml_cone.specs.declared.slot.Slot.{Slot}
use Rattle.ml_conflict.specs.Begin.{SetsNoneUpTo}
use Rattle.ml_ratio.proofs.lemmas.Lists.{map_read, same_place}
use Rattle.ml_cone.specs.Slots.{no_slot}
use Rattle.ml_store.specs.Rows.{numbers_in, number_at, labels_in, slots_in, HaveOwnNumbers, AreDifferent, IsFresh}
use Rattle.ml_store.specs.Table.{IsRowAt}
use Rattle.ml_store.specs.declared.row.Row.{Row}
use Rattle.ml_store.specs.declared.moved.Moved.{Moved}
use Rattle.ml_repair.specs.Moves.{numbers_of}
use Rattle.ml_repair.specs.Plan.{slot_for}
use Rattle.ml_repair.specs.Roster.{OverlapsAt, AreMet, NoneBefore}
use Rattle.ml_repair.proofs.Enough.{contained_or_not}
use Rattle.ml_repair.proofs.Moving.{slot_kept, slot_new}
use Rattle.ml_repair.proofs.NearRosters.{row_there}
use Rattle.ml_repair.proofs.Present.{present_read}
use Rattle.ml_repair.specs.Repair.{Stands, IsBoundBy, IsUnmoved, ReachesBand, AreReaching, IsClear, Counts, AreEnoughFor, AreSifted, present_slots}
use Rattle.ml_repair.specs.declared.sought.Sought.{Sought}

-- ---- bands

-- a band that meets the range up to a fraction is not beyond that of the fraction
pub band_up_to : (low high : Fraction) (k b : ℕ) → MeetsBand k low high → IsInBand high b → k ≤ b
band_up_to low high k b meets in' =
    elim (cases_lt b k) [
      | inl less ↦
          let p : 2 ^ (b + 1) ≤ 2 ^ k = pow-le-pow_right (omega arith) (omega arith) in
          let q = mul-le (2 ^ (b + 1)) high.den (2 ^ k) high.den p (omega arith) in
          let r = meets.reaches (omega arith) in
          let t = in'.below in
          absurd (omega arith)
      | inr more ↦ more
    ]

-- and not before that of the range's start
pub band_from : (low high : Fraction) (k b : ℕ) → MeetsBand k low high → IsInBand low b → b ≤ k
band_from low high k b meets in' =
    elim (cases_lt k b) [
      | inl less ↦
          let p : 2 ^ (k + 1) ≤ 2 ^ b = pow-le-pow_right (omega arith) (omega arith) in
          let q = mul-le (2 ^ (k + 1)) low.den (2 ^ b) low.den p (omega arith) in
          let r = in'.from (omega arith) in
          let t = meets.begins in
          absurd (omega arith)
      | inr more ↦ more
    ]

-- ---- bounds

-- a bound that some places set is still one they set as more places come in
pub bound_more : (rows : List Row) (moved : List Moved) (low : Label) (few many : List ℕ) (bound : Ratio) →
    ((p : ℕ) → Contains few p → Contains many p) → IsBoundBy rows moved low few bound → IsBoundBy rows moved low many bound
bound_more rows moved low few many bound all h = elim h [ inl most ↦ inl most | inr some ↦ inr (some.0, all some.0 some.1, some.2) ]

-- ---- the scale that is searched from

-- a range that reaches into a band lasts until the scale at which the band starts
pub reaching_lasts : (k : ℕ) (scale : Ratio) (u : Fraction) → (k ≡ 0 → scale.num ≡ 0) → (0 < k → scale.num ≡ 2 ^ k) → scale.den ≡ 1 → ReachesBand k u → IsAtMost (value_of scale) u
reaching_lasts k scale u first num den reaches =
    elim (cases_lt 0 k) [
      | inl some ↦ let n = num some in let h = reaches some in rw (n, den) (omega arith)
      | inr none ↦ let n = first (omega arith) in rw (n, den) (omega arith)
    ]

-- a range that reaches into a band reaches into those before it
reaches_before : (k n : ℕ) (u : Fraction) → k ≤ n → ReachesBand n u → ReachesBand k u
reaches_before k n u le reaches some =
    let p : 2 ^ k ≤ 2 ^ n = pow-le-pow_right (omega arith) le in
    let q = mul-le (2 ^ k) u.den (2 ^ n) u.den p (omega arith) in
    let h = reaches (omega arith) in
    omega arith

-- a label without a new slot has its own
own_slot : (rows : List Row) (moved : List Moved) (p : ℕ) → p < length rows → IsUnmoved rows moved p → get_or (present_slots rows moved) p no_slot ≡ get_or (slots_in rows) p no_slot
own_slot rows moved p lt unmoved =
    let s = row_there rows p lt in
    let r : Row = s.0 in
    let many = length-map moved (λ (m : Moved). m.number) in
    let named : (k : ℕ) → k < length moved → k < length (numbers_of moved) = λ k k_in. omega arith in
    present_read rows moved p r lt s.1
    ∙ slot_kept r.number r.slot moved
    (λ k k_in e. unmoved (k, named k k_in, get_or_default (numbers_of moved) k (number_at rows p) 0 (named k k_in) ∙ e ∙ sym (map_read (λ (t : Row). t.number) rows p r 0 lt s.1)))
    ∙ sym (map_read (λ (t : Row). t.slot) rows p r no_slot lt s.1)

-- so one that reaches into a band has an own slot that lasts until it
pub lasts_until : (rows : List Row) (moved : List Moved) (k p : ℕ) (scale : Ratio) → (k ≡ 0 → scale.num ≡ 0) → (0 < k → scale.num ≡ 2 ^ k) → scale.den ≡ 1 → p < length rows → IsUnmoved rows moved p →
    ReachesBand k (ends (present_slots rows moved) p) → IsAtMost (value_of scale) (ends (slots_in rows) p)
lasts_until rows moved k p scale first num den lt unmoved reaches =
    reaching_lasts k scale (ends (slots_in rows) p) first num den (subst (λ (s : Slot). ReachesBand k (value_of s.until)) (own_slot rows moved p lt unmoved) reaches)

-- and lasts until a scale that is set by its end
pub lasts_from : (rows : List Row) (moved : List Moved) (low : Label) (k p : ℕ) (scale : Ratio) →
    ((u : Ratio) → IsLess (value_of low.min) (value_of u) → ReachesBand k (value_of u) → IsAtMost (value_of scale) (value_of u)) →
    p < length rows → IsUnmoved rows moved p → ReachesBand k (ends (present_slots rows moved) p) →
    IsLess (value_of low.min) (ends (present_slots rows moved) p) → IsAtMost (value_of scale) (ends (slots_in rows) p)
lasts_from rows moved low k p scale least lt unmoved reaches later =
    let same = own_slot rows moved p lt unmoved in
    let own : Slot = get_or (slots_in rows) p no_slot in
    least own.until (subst (λ (s : Slot). IsLess (value_of low.min) (value_of s.until)) same later) (subst (λ (s : Slot). ReachesBand k (value_of s.until)) same reaches)

-- the next scale above a whole number lasts until each end above that
pub next_lasts : (whole : ℕ) (scale u : Ratio) → scale.num * 65536 ≡ (whole * 65536 + 1) * scale.den → whole * u.den < u.num → IsAtMost (value_of scale) (value_of u)
next_lasts whole scale u is above =
    let next : Fraction = record { num = whole * 65536 + 1; den = 65536; positive = lit< tt } in
    let few : u.den ≤ 65536 = u.low_den in
    let out : (whole * 65536 + 1) * u.den ≡ (whole * u.den) * 65536 + u.den = spread whole u.den in
    let up : IsAtMost next (value_of u) = omega arith in
    let down : IsAtMost (value_of scale) next = omega arith in
    at_most_trans (value_of scale) next (value_of u) down up
  where
    spread : (a d : ℕ) → (a * 65536 + 1) * d ≡ (a * d) * 65536 + d
    spread a d = grind arith

-- where no label's own slot lasts so long, none reaches into one of the bands
pub clear_bands : (rows : List Row) (moved : List Moved) (low : Label) (i k m : ℕ) (scale : Ratio) → (m ≡ k + 3) ⊎ (27 ≤ m) → NoneBefore rows low i k m scale →
    (k ≡ 0 → scale.num ≡ 0) → (0 < k → scale.num ≡ 2 ^ k) → scale.den ≡ 1 → IsClear rows moved low i k (k + 3)
clear_bands rows moved low i k m scale wide none first num den p n before from upto over unmoved reaches =
    let few : n < 28 = (over.1 low).low in
    let last : n ≤ m = elim wide [ inl e ↦ omega arith | inr h ↦ omega arith ] in
    none p n before from last over (lasts_until rows moved k p scale first num den over.0 unmoved (reaches_before k n (ends (present_slots rows moved) p) from reaches))

-- a scale of 0 is at most any other
pub from_nothing : (scale : Ratio) (u : Fraction) → scale.num ≡ 0 → IsAtMost (value_of scale) u
from_nothing scale u none = rw none (omega arith)

-- ---- places that are sifted

-- the k-th of the numbers with new slots is that of the k-th new slot
pub number_read : (moved : List Moved) (k : ℕ) (m : Moved) → k < length moved → m ≡ get_or moved k m → get_or (numbers_of moved) k 0 ≡ m.number
number_read moved k m lt read = map_read (λ (x : Moved). x.number) moved k m 0 lt read

-- the places of the first t labels with new slots
abbrev pub AmongMoved : List Row → List Moved → ℕ → ℕ → Type 0
AmongMoved rows moved t p = (p < length rows) × Contains (take t (numbers_of moved)) (number_at rows p)

-- a label that ends before another begins, or there, sets it no limit
pub ended_before : (low high : Label) (u bound : Fraction) → IsAtMost u (value_of low.min) → SetsNoneUpTo low high u bound
unfolding Allows
ended_before low high u bound early f limit below =
    let range : IsAtMost (value_of low.min) (value_of low.max) = (let r = low.range in omega arith) in
    let all : Allows low high u (value_of low.max) = λ s scale active other over.
    (let late = at_most_trans u (value_of low.min) s early active.0 in let before = other.1 in omega arith) in
    let most = limit.greatest (value_of low.max) (range, omega arith) all in
    absurd (omega arith)

module _ (rows : List Row) (moved : List Moved) (low : Label) where
  -- what counts goes on to count as more places come in and the bound goes down
  pub counts_more : (bound next : Ratio) (few many : List ℕ) → ((p : ℕ) → Contains few p → Contains many p) →
      IsAtMost (value_of next) (value_of bound) → (p : ℕ) → Counts rows moved low bound few p → Counts rows moved low next many p
  counts_more bound next few many all upto p h =
      elim h [ inl there ↦ inl (all p there) | inr none ↦ inr (λ d f limit below. at_most_less (value_of next) (value_of bound) f upto (none d f limit below)) ]

-- the new slot of one of them
pub new_slot : (moved : List Moved) (k : ℕ) (m : Moved) → AreDifferent (numbers_of moved) → k < length moved → m ≡ get_or moved k m → (own : Slot) → slot_for m.number own moved ≡ m.slot
new_slot moved k m differ lt read own = slot_new m.number own moved k m differ lt (number_read moved k m lt read) ∙ ap (λ (x : Moved). x.slot) (sym read)

-- what is gathered in the bands before one
pub record GatheredBands (sought : Sought) (first band : ℕ) (bound : Ratio) (places : List ℕ) : Type 0 where
  pub stand : (p : ℕ) → Contains places p → Stands sought.edited.comes true sought.edited.at sought.place p
  pub bound_is : IsBoundBy sought.roster.now sought.moves.now sought.low.now places bound
  pub whole : (p k : ℕ) → Stands sought.edited.comes true sought.edited.at sought.place p →
      OverlapsAt sought.roster.now sought.low.now k p → ReachesBand k (ends (present_slots sought.roster.now sought.moves.now) p) →
      first ≤ k → k < band → Counts sought.roster.now sought.moves.now sought.low.now bound places p

-- and of the labels with new slots
pub record GatheredBelow (sought : Sought) (first band : ℕ) (bound : Ratio) (places : List ℕ) : Type 0 where
  pub bands : GatheredBands sought first band bound places
  pub new_ones : (p : ℕ) → Stands sought.edited.comes true sought.edited.at sought.place p → p < length sought.roster.now → Contains (numbers_of sought.moves.now) (number_at sought.roster.now p) →
      Counts sought.roster.now sought.moves.now sought.low.now bound places p

-- a fraction is less than another, or at least that
less_or_not : (a b : Fraction) → IsLess a b ⊎ IsAtMost b a
less_or_not a b = elim (cases_lt (a.num * b.den) (b.num * a.den)) [ inl less ↦ inl less | inr more ↦ inr more ]

module _ (sought : Sought) where
  -- what is sought, part by part
  abbrev rows : List Row
  rows = sought.roster.now

  abbrev moved : List Moved
  moved = sought.moves.now

  abbrev low : Label
  low = sought.low.now

  abbrev at : ℕ
  at = sought.edited.at

  abbrev comes : Bool
  comes = sought.edited.comes

  abbrev i : ℕ
  i = sought.place

  -- none of them has to come in
  pub sifted_same : (those : ℕ → Type 0) (bound : Ratio) (places : List ℕ) →
      ((p : ℕ) → those p → Stands comes true at i p → Counts rows moved low bound places p) → AreSifted sought those bound bound places places
  sifted_same those bound places count = record {
    kept = λ p h. h;
    sound = λ p h. inl h;
    bound_is = λ h. h;
    upto = omega arith;
    whole = count;
  }

  -- some and then others
  pub sifted_both : (one two' all : ℕ → Type 0) (before middle after : List ℕ) (bound mid next : Ratio) → AreSifted sought one bound mid before middle → AreSifted sought two' mid next middle after →
      ((p : ℕ) → all p → one p ⊎ two' p) → AreSifted sought all bound next before after
  sifted_both one two' all before middle after bound mid next first then' either = record {
    kept = λ p h. then'.kept p (first.kept p h);
    sound = λ p h. elim (then'.sound p h) [ inl old ↦ first.sound p old | inr new ↦ inr new ];
    bound_is = λ h. then'.bound_is (first.bound_is h);
    upto = at_most_trans (value_of next) (value_of mid) (value_of bound) then'.upto first.upto;
    whole = λ p h s. elim (either p h) [
      | inl old ↦ counts_more rows moved low mid next middle after then'.kept then'.upto p (first.whole p old s)
      | inr new ↦ then'.whole p new s
    ];
  }

  -- fewer of them
  pub sifted_fewer : (those fewer : ℕ → Type 0) (before after : List ℕ) (bound next : Ratio) →
      AreSifted sought those bound next before after → ((p : ℕ) → fewer p → those p) → AreSifted sought fewer bound next before after
  sifted_fewer those fewer before after bound next are among = record {
    kept = are.kept;
    sound = are.sound;
    bound_is = are.bound_is;
    upto = are.upto;
    whole = λ p h s. are.whole p (among p h) s;
  }

  -- a place that does not stand before i
  pub sifted_apart : (place : ℕ) (bound : Ratio) (places : List ℕ) → ¬ (Stands comes true at i place) → AreSifted sought (λ p. p ≡ place) bound bound places places
  sifted_apart place bound places apart = sifted_same (λ p. p ≡ place) bound places (λ p h s. absurd (apart (subst (Stands comes true at i) h s)))

  -- a place whose label sets no limit up to the bound
  pub sifted_idle : (place : ℕ) (bound : Ratio) (places : List ℕ) → ((d : Label) → SetsNoneUpTo low (get_or (labels_in rows) place d) (ends (present_slots rows moved) place) (value_of bound)) →
      AreSifted sought (λ p. p ≡ place) bound bound places places
  sifted_idle place bound places none = sifted_same (λ p. p ≡ place) bound places (λ p h s. subst (Counts rows moved low bound places) (sym h) (inr none))

  -- a place whose label sets a limit up to the bound
  pub sifted_limit : (place : ℕ) (bound limit : Ratio) (before after : List ℕ) → Stands comes true at i place →
      ((d : Label) → IsLimit low (get_or (labels_in rows) place d) (ends (present_slots rows moved) place) (value_of limit)) →
      IsAtMost (value_of limit) (value_of bound) → after ≡ before ++ place ∷ [] → AreSifted sought (λ p. p ≡ place) bound limit before after
  sifted_limit place bound limit before after stands sets upto pushed =
      let there : Contains after place = subst (λ (xs : List ℕ). Contains xs place) (sym pushed) (Contains-push before place) in
      record {
        kept = λ p h. subst (λ (xs : List ℕ). Contains xs p) (sym pushed) (Contains-append_left before (place ∷ []) p h);
        sound = λ p h.
            elim (Contains-push_cases before place p (subst (λ (xs : List ℕ). Contains xs p) pushed h)) [
              | inl old ↦ inl old
              | inr same ↦ inr (subst (Stands comes true at i) same stands)
            ];
        bound_is = λ h. inr (place, there, sets);
        upto = upto;
        whole = λ p h s. inl (subst (Contains after) (sym h) there);
      }

  -- ---- the places of a list

  -- before the first place of the list nothing has to come in
  pub sifted_none : (found : List ℕ) (bound : Ratio) (places : List ℕ) → AreSifted sought (Contains (take 0 found)) bound bound places places
  sifted_none found bound places = sifted_same (Contains (take 0 found)) bound places (λ p h s. absurd (let lt : h.0 < 0 = h.1 in omega arith))

  -- one more place
  pub sifted_more : (found before middle after : List ℕ) (bound mid next : Ratio) (k : ℕ) → k < length found → AreSifted sought (Contains (take k found)) bound mid before middle →
      AreSifted sought (λ p. p ≡ get_or found k 0) mid next middle after → AreSifted sought (Contains (take (k + 1) found)) bound next before after
  sifted_more found before middle after bound mid next k lt one two' =
      let q : ℕ = get_or found k 0 in
      let e = take_more found k 0 lt in
      sifted_both (Contains (take k found)) (λ p. p ≡ q) (Contains (take (k + 1) found)) before middle after bound mid next one two'
      (λ p h. elim (Contains-push_cases (take k found) q p (rw e at h)) [ inl old ↦ inl old | inr same ↦ inr (sym same) ])

  -- ---- the labels with new slots

  -- that with a number has its new slot
  new_end : (n : ℕ) (slot : Slot) (p : ℕ) → ((own : Slot) → slot_for n own moved ≡ slot) → IsRowAt rows n p → get_or (present_slots rows moved) p no_slot ≡ slot
  new_end n slot p is here =
      let s = row_there rows p here.0 in
      let r : Row = s.0 in
      let number : r.number ≡ n = sym (map_read (λ (t : Row). t.number) rows p r 0 here.0 s.1) ∙ here.1 in
      present_read rows moved p r here.0 s.1 ∙ ap (λ m. slot_for m r.slot moved) number ∙ is r.slot

  -- and sets no limit where it ends early
  pub sifted_early : (n : ℕ) (slot : Slot) (bound : Ratio) (places : List ℕ) → ((own : Slot) → slot_for n own moved ≡ slot) → IsAtMost (value_of slot.until) (value_of low.min) →
      AreSifted sought (IsRowAt rows n) bound bound places places
  sifted_early n slot bound places is early =
      sifted_same (IsRowAt rows n) bound places
      (λ p h s. inr (λ d. ended_before low (get_or (labels_in rows) p d) (ends (present_slots rows moved) p) (value_of bound)
      (subst (λ (t : Slot). IsAtMost (value_of t.until) (value_of low.min)) (sym (new_end n slot p is h)) early)))

  -- no row has a number
  pub sifted_absent : (n : ℕ) (bound : Ratio) (places : List ℕ) → IsFresh n rows → AreSifted sought (IsRowAt rows n) bound bound places places
  sifted_absent n bound places fresh =
      let many = length-map rows (λ (t : Row). t.number) in
      sifted_same (IsRowAt rows n) bound places
      (λ p h s. absurd (fresh (p, (let lt : p < length rows = h.0 in omega arith), get_or_default (numbers_in rows) p n 0 (let lt : p < length rows = h.0 in omega arith) ∙ h.1)))

  -- no other row has the number, so sifting the place of its row is sifting the number
  pub sifted_number : (n place : ℕ) (before after : List ℕ) (bound next : Ratio) → HaveOwnNumbers rows → IsRowAt rows n place → AreSifted sought (λ p. p ≡ place) bound next before after →
      AreSifted sought (IsRowAt rows n) bound next before after
  sifted_number n place before after bound next differ here are =
      let many = length-map rows (λ (t : Row). t.number) in
      sifted_fewer (λ p. p ≡ place) (IsRowAt rows n) before after bound next are
      (λ p h. same_place (numbers_in rows) p place 0 differ (let a = h.0 in omega arith) (let b = here.0 in omega arith) (h.1 ∙ sym here.1))

  -- before the first label with a new slot nothing has to come in
  pub moved_none : (bound : Ratio) (places : List ℕ) → AreSifted sought (AmongMoved rows moved 0) bound bound places places
  moved_none bound places = sifted_same (AmongMoved rows moved 0) bound places (λ p h s. absurd (let lt : h.1.0 < 0 = h.1.1 in omega arith))

  -- one more label with a new slot is sifted: the one with the next number
  pub moved_more : (before middle after : List ℕ) (bound mid next : Ratio) (k n : ℕ) → k < length moved →
      get_or (numbers_of moved) k 0 ≡ n → AreSifted sought (AmongMoved rows moved k) bound mid before middle →
      AreSifted sought (IsRowAt rows n) mid next middle after → AreSifted sought (AmongMoved rows moved (k + 1)) bound next before after
  moved_more before middle after bound mid next k n lt is one two' =
      let many = length-map moved (λ (m : Moved). m.number) in
      let e = take_more (numbers_of moved) k 0 (omega arith) in
      sifted_both (AmongMoved rows moved k) (IsRowAt rows n) (AmongMoved rows moved (k + 1)) before middle after bound mid next one two'
      (λ p h. elim (Contains-push_cases (take k (numbers_of moved)) (get_or (numbers_of moved) k 0) (number_at rows p) (rw e at h.1)) [
        | inl old ↦ inl (h.0, old)
        | inr same ↦ inr (h.0, sym same ∙ is)
      ])

  -- once the number of each new slot is sifted, all labels with new slots are
  pub moved_all : (before after : List ℕ) (bound next : Ratio) (k : ℕ) → length moved ≤ k → AreSifted sought (AmongMoved rows moved k) bound next before after →
      AreSifted sought (λ p. (p < length rows) × Contains (numbers_of moved) (number_at rows p)) bound next before after
  moved_all before after bound next k all are =
      let many = length-map moved (λ (m : Moved). m.number) in
      let e : take k (numbers_of moved) ≡ numbers_of moved = take_all k (numbers_of moved) (omega arith) in
      sifted_fewer (AmongMoved rows moved k) (λ p. (p < length rows) × Contains (numbers_of moved) (number_at rows p)) before after bound next are
      (λ p h. (h.0, subst (λ (ns : List ℕ). Contains ns (number_at rows p)) (sym e) h.1))

  -- ---- all bands up to that of the bound

  module _ (first : ℕ) where
    bands_none : (found : ℕ → Type 0) (more : List ℕ) (next : Ratio) → AreSifted sought found low.max next [] more → GatheredBands sought first first next more
    bands_none found more next are = record {
      stand = λ p h. elim (are.sound p h) [ inl old ↦ absurd (let lt : old.0 < 0 = old.1 in omega arith) | inr new ↦ new ];
      bound_is = are.bound_is (inl refl);
      whole = λ p k s f r a b. absurd (omega arith);
    }

    -- some more bands: each place in them that the earlier ones do not have counts
    bands_over : (found : ℕ → Type 0) (band until : ℕ) (bound next : Ratio) (places more : List ℕ) → GatheredBands sought first band bound places →
        AreSifted sought found bound next places more → ((p k : ℕ) → band ≤ k → k < until → Stands comes true at i p → OverlapsAt rows low k p →
        ReachesBand k (ends (present_slots rows moved) p) → Counts rows moved low next more p) → GatheredBands sought first until next more
    bands_over found band until bound next places more so_far are here = record {
      stand = λ p h. elim (are.sound p h) [ inl old ↦ so_far.stand p old | inr new ↦ new ];
      bound_is = are.bound_is so_far.bound_is;
      whole = λ p k s f r a b. elim (cases_lt k band) [
        | inl less ↦ counts_more rows moved low bound next places more are.kept are.upto p (so_far.whole p k s f r a less)
        | inr from ↦ here p k from b s f r
      ];
    }

    -- one more band
    bands_more : (found : ℕ → Type 0) (band : ℕ) (bound next : Ratio) (places more : List ℕ) → GatheredBands sought first band bound places →
        AreSifted sought found bound next places more → ((p : ℕ) → Stands comes true at i p → OverlapsAt rows low band p →
        ReachesBand band (ends (present_slots rows moved) p) → Counts rows moved low next more p) → GatheredBands sought first (band + 1) next more
    bands_more found band bound next places more so_far are here =
        bands_over found band (band + 1) bound next places more so_far are
        (λ p k from upto s f r.
        let e : k ≡ band = omega arith in
        here p s (subst (λ (b : ℕ). OverlapsAt rows low b p) e f) (subst (λ (b : ℕ). ReachesBand b (ends (present_slots rows moved) p)) e r))

    -- the labels with new slots
    pub gathered_new : (more : List ℕ) (next : Ratio) →
        AreSifted sought (λ p. (p < length rows) × Contains (numbers_of moved) (number_at rows p)) low.max next [] more → GatheredBelow sought first first next more
    gathered_new more next are = record {
      bands = bands_none (λ p. (p < length rows) × Contains (numbers_of moved) (number_at rows p)) more next are;
      new_ones = λ p s lt m. are.whole p (lt, m) s;
    }

    -- one more band is gathered, once the labels without a new slot that reach into it are sifted
    pub gathered_more : (band : ℕ) (bound next : Ratio) (places more found : List ℕ) → GatheredBelow sought first band bound places → AreReaching rows moved low band found →
        AreSifted sought (Contains found) bound next places more → GatheredBelow sought first (band + 1) next more
    gathered_more band bound next places more found so_far all are = record {
      bands = bands_more (Contains found) band bound next places more so_far.bands are
          (λ p s f r. elim (contained_or_not (numbers_of moved) (number_at rows p)) [
            | inl m ↦ counts_more rows moved low bound next places more are.kept are.upto p (so_far.new_ones p s f.0 m)
            | inr unmoved ↦ elim (less_or_not (value_of low.min) (ends (present_slots rows moved) p)) [
              | inl later ↦ are.whole p (all.whole p f unmoved r later) s
              | inr early ↦ inr (λ d. ended_before low (get_or (labels_in rows) p d) (ends (present_slots rows moved) p) (value_of next) early)
            ]
          ]);
      new_ones = λ p s lt m. counts_more rows moved low bound next places more are.kept are.upto p (so_far.new_ones p s lt m);
    }

    -- bands in which there is nothing to gather
    pub gathered_clear : (band : ℕ) (bound : Ratio) (places : List ℕ) → GatheredBelow sought first band bound places →
        IsClear rows moved low i band (band + 3) → GatheredBelow sought first (band + 4) bound places
    gathered_clear band bound places so_far clear = record {
      bands = record {
        stand = so_far.bands.stand;
        bound_is = so_far.bands.bound_is;
        whole = λ p k s f r a b. elim (cases_lt k band) [
          | inl less ↦ so_far.bands.whole p k s f r a less
          | inr here ↦ elim (contained_or_not (numbers_of moved) (number_at rows p)) [
            | inl m ↦ so_far.new_ones p s f.0 m
            | inr unmoved ↦ absurd (clear p k s.0 here (omega arith) f unmoved r)
          ]
        ];
      };
      new_ones = so_far.new_ones;
    }

    -- all labels, whether they have new slots or not
    pub gathered_start : GatheredBands sought first first low.max []
    gathered_start = bands_none (λ p. ⊥) [] low.max (sifted_same (λ p. ⊥) low.max [] (λ p h s. absurd h))

    -- some more bands are gathered, once all labels that the label overlaps in them are sifted
    pub gathered_all : (band until : ℕ) (bound next : Ratio) (places more found : List ℕ) → GatheredBands sought first band bound places → AreMet rows low band until [] found →
        AreSifted sought (Contains found) bound next places more → GatheredBands sought first until next more
    gathered_all band until bound next places more found so_far all are =
        bands_over (Contains found) band until bound next places more so_far are (λ p k from upto s f r. are.whole p (all.whole p k from upto f) s)

    -- places gathered in all bands up to that of the bound are enough for the label's slot, in whatever order
    pub gathered_enough : (band b : ℕ) (bound : Ratio) (places sorted : List ℕ) → GatheredBands sought first band bound places → IsInBand (value_of low.min) first →
        IsInBand (value_of bound) b → (b < band) ⊎ (28 ≤ band) → ((p : ℕ) → Contains sorted p ↔ Contains places p) → AreEnoughFor sought sorted
    gathered_enough band b bound places sorted done starts ends' stop same = record {
      stand = λ p h. done.stand p ((same p).0 h);
      bound = bound;
      bound_is = bound_more rows moved low places sorted bound (λ p h. (same p).1 h) done.bound_is;
      whole = λ p k s f meets r.
          let from = band_from (value_of low.min) (value_of bound) k first meets starts in
          let upto = band_up_to (value_of low.min) (value_of bound) k b meets ends' in
          let few : k < 28 = (f.1 low).low in
          let below : k < band = elim stop [ inl h ↦ omega arith | inr h ↦ omega arith ] in
          counts_more rows moved low bound bound places sorted (λ q h. (same q).1 h) (omega arith) p (done.whole p k s f r from below);
    }

-- the places that stand before i are places of the list
pub all_within : (rows : List Row) (at : ℕ) (comes : Bool) (i : ℕ) (places : List ℕ) → i < length rows → ((p : ℕ) → Contains places p → Stands comes true at i p) → All (λ p. p < length rows) places
all_within rows at comes i places in' stand k d lt =
    let p : ℕ = get_or places k d in
    let s = stand p (k, lt, get_or_default places k p d lt) in
    let h : p < i = s.0 in
    omega arith

-- what came in where nothing was are places of the list
pub met_within : (rows : List Row) (a : Label) (k m : ℕ) (found : List ℕ) → AreMet rows a k m [] found → All (λ p. p < length rows) found
met_within rows a k m found are j d lt =
    elim (are.sound (get_or found j d) (j, lt, get_or_default found j (get_or found j d) d lt)) [
      | inl none ↦ absurd (let no : none.0 < 0 = none.1 in omega arith)
      | inr is ↦ is
    ]
