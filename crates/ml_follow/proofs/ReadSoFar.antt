-- The lines of a file, one after the other: what has been read so far.
use Rattle.std.proofs.Common.{◌≡◌, ℕ, ◌<◌, List, [], ◌∷◌, ◌++◌, length, get_or, Option, Some, None, inl, inr, refl, sym, ap, subst, ◌∙◌, arith, append_assoc, append-nil, length-append}
use Rattle.std.specs.Prelude.{All, IfSome}
use Rattle.std.specs.declared.cmp.Ordering.TheVariants.{Less}
use Rattle.std.specs.Cmp.{nat_cmp_is}
use Rattle.std.proofs.Math.ListN.{get_or-append}
use Rattle.std.proofs.lemmas.Bool.{cases_lt}
use Rattle.std.proofs.lemmas.List.{get_or_push, get_or_default}
use Rattle.ml_cone.specs.Label.{IsLabelList}
use Rattle.ml_cone.specs.Order.{order_cmp}
use Rattle.ml_cone.specs.Places.{IsNoId}
use Rattle.ml_cone.specs.Slots.{no_slot}
use Rattle.ml_cone.specs.declared.label.Label.{Label}
use Rattle.ml_cone.specs.declared.slot.Slot.{Slot}
use Rattle.ml_pass.specs.SlotsText.{IsBlockerPlace}
use Rattle.ml_follow.specs.StateLine.{ReadsRow, WritesBlocker}
use Rattle.ml_follow.specs.States.{WriteRows, Begin, WriteState, WriteStates, WriteUpTo}
use Rattle.ml_follow.specs.Reading.{HasIds, IsGood, IsBegun, IsLonger, IsOpened, IsWanting, IsGrown, IsClosed, IsTaken, unfinished, IsReadTo}
use Rattle.ml_follow.specs.declared.opened.Opened.{Opened}
use Rattle.ml_follow.specs.declared.state.State.{State}

-- ---- the lines of labels

-- before the first line of a label there are no labels and no slots
pub no_rows : (count : ℕ) (labels : List Label) (slots : List Slot) → labels ≡ [] → slots ≡ [] → WriteRows [] count labels slots
no_rows count labels slots e f = rw (e, f) (record { one_label = refl; one_slot = refl; written = λ i d lt. absurd (omega arith); differ = λ i j d less lt. absurd (omega arith) })

module _ (rows : List (List ℕ)) (count : ℕ) (labels : List Label) (slots : List Slot) (line : List ℕ) (label : Label) (slot : Slot)
    (w : WriteRows rows count labels slots) (row : ReadsRow line (length labels) count label slot) (new : IsNoId labels label.order.id) where
  -- the line of the next label, whose id is new, adds that label and its slot
  pub rows_more : WriteRows (rows ++ line ∷ []) count (labels ++ label ∷ []) (slots ++ slot ∷ [])
  rows_more =
      let a = length-append rows (line ∷ []) in
      let b = length-append labels (label ∷ []) in
      let c = length-append slots (slot ∷ []) in
      let m = w.one_label in
      let n = w.one_slot in
      record {
        one_label = omega arith;
        one_slot = omega arith;
        written = λ i d lt. elim (cases_lt i (length rows)) [
          | inl less ↦
              rw (get_or-append rows (line ∷ []) [] i less, get_or-append labels (label ∷ []) d i (omega arith), get_or-append slots (slot ∷ []) no_slot i (omega arith)) (w.written i d less)
          | inr more ↦
              let at_row : length rows ≡ i = omega arith in
              let at_label : length labels ≡ i = omega arith in
              let at_slot : length slots ≡ i = omega arith in
              rw (get_or_push rows line [] i at_row, get_or_push labels label d i at_label, get_or_push slots slot no_slot i at_slot) (rw at_label at row)
        ];
        differ = λ i j d less lt. elim (cases_lt j (length labels)) [
          | inl inside ↦ rw (get_or-append labels (label ∷ []) d i (omega arith), get_or-append labels (label ∷ []) d j inside) (w.differ i j d less inside)
          | inr last ↦
              let at_label : length labels ≡ j = omega arith in
              let below : i < length labels = omega arith in
              rw (get_or-append labels (label ∷ []) d i below, get_or_push labels label d j at_label)
              (λ e. new i (below, λ d2. ap (λ (l : Label). l.order.id) (get_or_default labels i d2 d below) ∙ e))
        ];
      }

-- ---- a state

-- what has begun, with one more line
pub begin_more : (lines : List (List ℕ)) (count : ℕ) (old new : State) (line : List ℕ) (label : Label) (slot : Slot) →
    Begin lines count old → ReadsRow line (length old.labels) count label slot → IsNoId old.labels label.order.id → new.rev ≡ old.rev →
    new.labels ≡ old.labels ++ label ∷ [] → new.slots ≡ old.slots ++ slot ∷ [] → Begin (lines ++ line ∷ []) count new
begin_more lines count old new line label slot b row fresh revs labels slots = record {
  head = b.head;
  rows = b.rows ++ line ∷ [];
  lines_are = ap (λ (ls : List (List ℕ)). ls ++ line ∷ []) b.lines_are;
  its_head = rw revs b.its_head;
  its_rows = rw (labels, slots) (rows_more b.rows count old.labels old.slots line label slot b.its_rows row fresh);
}

-- one line of a file begins a state
pub begin_one : (line : List ℕ) (opened : Opened) → IsBegun line opened → Begin (line ∷ []) opened.count opened.state
begin_one line opened b = record {
  head = line;
  rows = [];
  lines_are = refl;
  its_head = b.head;
  its_rows = no_rows opened.count opened.state.labels opened.state.slots b.empty.no_labels b.empty.no_slots;
}

-- ---- a state that is whole

order_less : (a b : Label) → a.order.class < b.order.class → order_cmp a.order b.order ≡ Less
order_less a b lt = rw (sym (nat_cmp_is a.order.class b.order.class Less lt)) refl

rows_ordered : (rows : List (List ℕ)) (count : ℕ) (labels : List Label) (slots : List Slot) → WriteRows rows count labels slots → IsLabelList labels
rows_ordered rows count labels slots w j i d less lt =
    let n = w.one_label in
    let one = (w.written j d (omega arith)).write.its_label.class_is in
    let other = (w.written i d (omega arith)).write.its_label.class_is in
    (order_less (get_or labels j d) (get_or labels i d) (rw (one, other) less), w.differ j i d less lt)

blocker_placed : (count : ℕ) (word : List ℕ) (labels : List Label) (blocker : Option ℕ) → count ≡ length labels → WritesBlocker count word blocker → IsBlockerPlace labels blocker
blocker_placed count word labels None e h = tt
blocker_placed count word labels (Some place) e h = subst (λ (n : ℕ). place < n) e h.1

rows_placed : (rows : List (List ℕ)) (count : ℕ) (labels : List Label) (slots : List Slot) → length labels ≡ count →
    WriteRows rows count labels slots → All (λ slot. IsBlockerPlace labels slot.blocker) slots
rows_placed rows count [] slots e w k d lt = absurd (let n = w.one_label in let m = w.one_slot in omega arith)
rows_placed rows count (a ∷ labels) slots e w k d lt =
    let m = w.one_slot in
    let row = w.written k a (omega arith) in
    rw (get_or_default slots k d no_slot lt) (blocker_placed count row.blocker (a ∷ labels) (get_or slots k no_slot).blocker (sym e) row.write.its_slot.blocker_is)

-- a state that has as many labels as its first line says can be offered: its ids differ, and its blockers are places in it
pub state_good : (lines : List (List ℕ)) (count : ℕ) (state : State) → Begin lines count state → length state.labels ≡ count → IsGood state
state_good lines count state b whole =
    let low = b.its_head.write.low_count in
    let n = b.its_rows.one_label in
    let m = b.its_rows.one_slot in
    record {
      ordered = rows_ordered b.rows count state.labels state.slots b.its_rows;
      few = omega arith;
      one_slot = omega arith;
      placed = rows_placed b.rows count state.labels state.slots whole b.its_rows;
    }

-- ---- states

-- a state behind others
pub states_more : (front back : List (List ℕ)) (states : List State) (state : State) → WriteStates front states → WriteState back state → WriteStates (front ++ back) (states ++ state ∷ [])
states_more front back [] state h w = rw h (back, [], sym (append-nil back), w, refl)
states_more front back (s ∷ states) state h w =
    (h.0, h.1 ++ back, ap (λ (ls : List (List ℕ)). ls ++ back) h.2 ∙ append_assoc h.0 h.1 back, h.3, states_more h.1 back states state h.4 w)

-- ---- one more line

begun_opened : (line : List ℕ) (opened : Opened) → IsBegun line opened → IsOpened opened
begun_opened line opened b =
    let e = ap length b.empty.no_labels in
    let f = ap length b.empty.no_slots in
    record {
      low_count = b.head.write.low_count;
      few = omega arith;
      one_slot = omega arith;
      ids = subst (λ (ls : List Label). HasIds ls opened.taken) (sym b.empty.no_labels) b.empty.ids;
    }

longer_opened : (line : List ℕ) (old opened : Opened) → IsWanting old → IsLonger line old opened → IsOpened opened
longer_opened line old opened wanting l =
    let e = ap length l.joined.labels_are ∙ length-append old.state.labels (l.label ∷ []) in
    let f = ap length l.joined.slots_are ∙ length-append old.state.slots (l.slot ∷ []) in
    let count = l.joined.same_count in
    let low = wanting.0.low_count in
    let one = wanting.0.one_slot in
    record {
      low_count = omega arith;
      few = omega (arith, wanting.1);
      one_slot = omega arith;
      ids = l.joined.ids;
    }

grown_opened : (line : List ℕ) (last : Option Opened) (opened : Opened) → IfSome last IsWanting → IsGrown line last opened → IsOpened opened
grown_opened line None opened wanting g = begun_opened line opened g
grown_opened line (Some old) opened wanting g = longer_opened line old opened wanting g

-- the lines of what stands with one line more: those of whole states, and those of the state
record Grown (lines : List (List ℕ)) (states : List State) (opened : Opened) : Type 0 where
  front : List (List ℕ)
  back : List (List ℕ)
  lines_are : lines ≡ front ++ back
  whole : WriteStates front states
  begun : Begin back opened.count opened.state

grown_lines : (lines : List (List ℕ)) (states : List State) (last : Option Opened) (line : List ℕ) (opened : Opened) →
    WriteUpTo lines states (unfinished last) → IsGrown line last opened → Grown (lines ++ line ∷ []) states opened
grown_lines lines states None line opened u g = record {
  front = u.front;
  back = line ∷ [];
  lines_are = ap (λ (ls : List (List ℕ)). ls ++ line ∷ []) (u.lines_are ∙ ap (λ (ls : List (List ℕ)). u.front ++ ls) u.begun ∙ append-nil u.front);
  whole = u.whole;
  begun = begin_one line opened g;
}
grown_lines lines states (Some old) line opened u g = record {
  front = u.front;
  back = u.back ++ line ∷ [];
  lines_are = ap (λ (ls : List (List ℕ)). ls ++ line ∷ []) u.lines_are ∙ append_assoc u.front u.back (line ∷ []);
  whole = u.whole;
  begun = rw g.joined.same_count (begin_more u.back old.count old.state opened.state line g.label g.slot u.begun.0 g.next.row g.next.new g.joined.same_rev g.joined.labels_are g.joined.slots_are);
}

good_more : (states : List State) (state : State) → All IsGood states → IsGood state → All IsGood (states ++ state ∷ [])
good_more states state all one k d lt = elim (cases_lt k (length states)) [
  | inl less ↦ rw (get_or-append states (state ∷ []) d k less) (all k d less)
  | inr more ↦
      let n = length-append states (state ∷ []) in
      let at : length states ≡ k = omega arith in
      rw (get_or_push states state d k at) one
]

closed_read : (lines : List (List ℕ)) (states : List State) (opened : Opened) (after : List State) (next : Option Opened) →
    Grown lines states opened → IsOpened opened → All IsGood states → IsClosed opened states after next → IsReadTo lines after next
closed_read lines states opened after None g o all closed =
    let good = state_good g.back opened.count opened.state g.begun closed.0 in
    let whole : WriteState g.back opened.state = subst (λ (n : ℕ). Begin g.back n opened.state) (sym closed.0) g.begun in
    record {
      written = record {
        front = g.front ++ g.back;
        back = [];
        lines_are = g.lines_are ∙ sym (append-nil (g.front ++ g.back));
        whole = rw closed.1 (states_more g.front g.back states opened.state g.whole whole);
        begun = refl;
      };
      good = rw closed.1 (good_more states opened.state all good);
      wanting = tt;
    }
closed_read lines states opened after (Some next) g o all closed =
    let same : opened ≡ next = sym closed.0 in
    record {
      written = record {
        front = g.front;
        back = g.back;
        lines_are = g.lines_are;
        whole = rw closed.1 g.whole;
        begun = subst (λ (x : Opened). Begin g.back x.count x.state × (length x.state.labels < x.count)) same (g.begun, closed.2);
      };
      good = rw closed.1 all;
      wanting = subst IsWanting same (o, closed.2);
    }

-- with one more line taken, the lines write the states after it and what stands of the next one
pub read_more : (lines : List (List ℕ)) (states : List State) (last : Option Opened) (line : List ℕ) (after : List State) (next : Option Opened) →
    IsReadTo lines states last → IsTaken line states last after next → IsReadTo (lines ++ line ∷ []) after next
read_more lines states last line after next read taken =
    closed_read (lines ++ line ∷ []) states taken.opened after next (grown_lines lines states last line taken.opened read.written taken.grown)
    (grown_opened line last taken.opened read.wanting taken.grown) read.good taken.closed

-- before the first line there is no state and no beginning of one
pub read_none : IsReadTo [] [] None
read_none = record {
  written = record { front = []; back = []; lines_are = refl; whole = refl; begun = refl };
  good = λ k d lt. absurd (omega arith);
  wanting = tt;
}
