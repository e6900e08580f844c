-- A file has one reading at most, and none where it is refused.
use Rattle.std.proofs.Common.{◌^◌, ◌≡◌, ◌≢◌, ℕ, suc, ◌-◌, ◌*◌, ◌<◌, ◌≤◌, pos, List, [], ◌∷◌, ◌++◌, length, get_or, take, drop}
use Rattle.std.proofs.Common.{Option, Some, None, inl, inr, refl, sym, ap, subst, ◌∙◌, arith, append_assoc, length-append}
use Rattle.std.specs.Prelude.{All, MatchOption, Result, Ok, Err, IfOk, IfErr, codes, replicate}
use Rattle.std.proofs.Props.{props}
use mathlib.Core.HLevel.{is_prop→PathP}
use Rattle.std.proofs.Math.ListN.{get_or-append}
use Rattle.std.proofs.Math.Seq.{get_or-append_seam, drop-cons}
use Rattle.std.proofs.lemmas.List.{same_lists, get_or_default, take-append-drop}
use Rattle.ml_ratio.specs.Fraction.{value_of, IsLess}
use Rattle.ml_ratio.specs.World.{IsInWorld}
use Rattle.ml_ratio.specs.Number.{number_up_to}
use Rattle.ml_ratio.proofs.lemmas.Intervals.{equal_ratio}
use Rattle.ml_ratio.proofs.lemmas.Numerals.{ratio_same}
use Rattle.ml_ratio.proofs.lemmas.Lists.{pick}
use Rattle.ml_cone.specs.Places.{IsNoId}
use Rattle.ml_cone.specs.Plane.{IsBox, IsMargin}
use Rattle.ml_cone.specs.Slots.{no_slot}
use Rattle.ml_cone.specs.declared.label.Label.{Label}
use Rattle.ml_cone.specs.declared.slot.Slot.{Slot}
use Rattle.ml_follow.specs.StateLine.{ReadsHead, WriteRow, WritesBlocker, ReadsRow}
use Rattle.ml_follow.specs.States.{WriteRows, Begin, WriteState, WriteStates, Unfinished, WriteUpTo, IsNextRow, IsFaulty, IsFaultyLine, IsCutShort, AreStates, IsStatesFault, GivesStates, ended_lines}
use Rattle.ml_follow.specs.declared.fault.StateFault.TheVariants.{BadState, Memory}
use Rattle.ml_follow.specs.declared.fault.StateFault.{StateFault}
use Rattle.ml_follow.specs.declared.state.State.{State}
use Rattle.ml_follow.proofs.Lower.{OneSpelling, OneList}
use Rattle.ml_follow.proofs.Rows.{the_words, same_id}

-- ---- a line has one reading

-- the first line of a state tells one revision and one number of labels
pub head_same : (line : List ℕ) (r n s m : ℕ) → ReadsHead line r n → ReadsHead line s m → (r ≡ s) × (n ≡ m)
head_same line r n s m one two =
    let e : one.word ∷ one.rev_word ∷ one.count_word ∷ [] ≡ two.word ∷ two.rev_word ∷ two.count_word ∷ [] = sym one.words ∙ two.words in
    let p : one.rev_word ≡ two.rev_word = cc e in
    let q : one.count_word ≡ two.count_word = cc e in
    let a : Some r ≡ Some s = sym one.write.rev_is ∙ ap (number_up_to 16) p ∙ two.write.rev_is in
    let b : Some n ≡ Some m = sym one.write.count_is ∙ ap (number_up_to 5) q ∙ two.write.count_is in
    let c : r ≡ s = cc a in
    let d : n ≡ m = cc b in
    (c, d)

no_number : number_up_to 5 (codes "-") ≡ None
unfolding number_up_to
no_number = refl

blocker_same : (count : ℕ) (word : List ℕ) (a b : Option ℕ) → WritesBlocker count word a → WritesBlocker count word b → a ≡ b
blocker_same count word None None h k = refl
blocker_same count word None (Some q) h k = absurd (let e : None ≡ Some q = sym no_number ∙ ap (number_up_to 5) (sym h) ∙ k.0 in cc e)
blocker_same count word (Some p) None h k = absurd (let e : None ≡ Some p = sym no_number ∙ ap (number_up_to 5) (sym k) ∙ h.0 in cc e)
blocker_same count word (Some p) (Some q) h k = sym h.0 ∙ k.0

label_same : (a b : Label) → a.order ≡ b.order → a.x ≡ b.x → a.y ≡ b.y → a.boxes ≡ b.boxes → a.pieces ≡ b.pieces → a.min ≡ b.min → a.max ≡ b.max → a.margin ≡ b.margin → a ≡ b
label_same a b o x y p t l h m i = record {
  order = o i;
  x = x i;
  y = y i;
  boxes = p i;
  pieces = t i;
  min = l i;
  max = h i;
  margin = m i;
  world_x = is_prop→PathP (λ j. IsInWorld (x j)) (λ j. hlevel props) a.world_x b.world_x i;
  world_y = is_prop→PathP (λ j. IsInWorld (y j)) (λ j. hlevel props) a.world_y b.world_y i;
  some_box = is_prop→PathP (λ j. 0 < length (p j)) (λ j. hlevel props) a.some_box b.some_box i;
  few_boxes = is_prop→PathP (λ j. length (p j) ≤ 64) (λ j. hlevel props) a.few_boxes b.few_boxes i;
  good_boxes = is_prop→PathP (λ j. All (λ q. IsBox q.l q.b q.r q.t) (p j)) (λ j. hlevel props) a.good_boxes b.good_boxes i;
  one_piece_each = is_prop→PathP (λ j. length (t j) ≡ length (p j)) (λ j. hlevel props) a.one_piece_each b.one_piece_each i;
  range = is_prop→PathP (λ j. IsLess (value_of (l j)) (value_of (h j))) (λ j. hlevel props) a.range b.range i;
  low_max = is_prop→PathP (λ j. (h j).num ≤ 2 ^ 28 * (h j).den) (λ j. hlevel props) a.low_max b.low_max i;
  low_margin = is_prop→PathP (λ j. IsMargin (m j)) (λ j. hlevel props) a.low_margin b.low_margin i;
}

module _ (spelling : OneSpelling) (lists : OneList) where
  words_same : (id x y min max margin until blocker : List ℕ) (boxes : List (List ℕ)) (place count : ℕ) (a b : Label) (s t : Slot) →
      WriteRow id x y min max margin until blocker boxes place count a s → WriteRow id x y min max margin until blocker boxes place count b t → (a ≡ b) × (s ≡ t)
  words_same id x y min max margin until blocker boxes place count a b s t one two =
      let v = one.its_label in
      let w = two.its_label in
      let ids = spelling id a.order.id b.order.id v.id_is w.id_is in
      let classes = v.class_is ∙ sym w.class_is in
      let ranks = v.rank_is ∙ sym w.rank_is in
      let orders : a.order ≡ b.order = λ i. record { class = classes i; rank = ranks i; id = ids i } in
      let fx : Some a.x ≡ Some b.x = sym v.x_is ∙ w.x_is in
      let fy : Some a.y ≡ Some b.y = sym v.y_is ∙ w.y_is in
      let fm : Some (pos a.margin) ≡ Some (pos b.margin) = sym v.margin_is ∙ w.margin_is in
      let ex : a.x ≡ b.x = cc fx in
      let ey : a.y ≡ b.y = cc fy in
      let em : a.margin ≡ b.margin = cc fm in
      let eb = lists boxes a.boxes b.boxes v.boxes_are w.boxes_are in
      let ep = v.pieces_are ∙ ap (λ (t : List ℕ). t ∷ replicate (length boxes - 1) []) ids ∙ sym w.pieces_are in
      let el = equal_ratio a.min b.min (ratio_same min a.min b.min v.min_is w.min_is) in
      let eh = equal_ratio a.max b.max (ratio_same max a.max b.max v.max_is w.max_is) in
      let eu = equal_ratio s.until t.until (ratio_same until s.until t.until one.its_slot.until_is two.its_slot.until_is) in
      let ec = blocker_same count blocker s.blocker t.blocker one.its_slot.blocker_is two.its_slot.blocker_is in
      (label_same a b orders ex ey eb ep el eh em, λ i. record { until = eu i; blocker = ec i })

  row_same : (line : List ℕ) (place count : ℕ) (a b : Label) (s t : Slot) → ReadsRow line place count a s → ReadsRow line place count b t → (a ≡ b) × (s ≡ t)
  row_same line place count a b s t one two =
      words_same one.id one.x one.y one.min one.max one.margin one.until one.blocker one.boxes place count a b s t one.write
      (the_words line one.id one.x one.y one.min one.max one.margin one.until one.blocker one.boxes place count b t one.words two)

  -- ---- a state has one reading

  split_same : (xs ys us vs : List (List ℕ)) → length xs ≡ length us → xs ++ ys ≡ us ++ vs → (xs ≡ us) × (ys ≡ vs)
  split_same [] ys [] vs e same = (refl, same)
  split_same [] ys (u ∷ us) vs e same = absurd (omega arith)
  split_same (x ∷ xs) ys [] vs e same = absurd (omega arith)
  split_same (x ∷ xs) ys (u ∷ us) vs e same =
      let first : x ≡ u = cc same in
      let more : xs ++ ys ≡ us ++ vs = cc same in
      let rest = split_same xs ys us vs (omega arith) more in
      (ap (λ (z : List ℕ). z ∷ xs) first ∙ ap (λ (zs : List (List ℕ)). u ∷ zs) rest.0, rest.1)

  rows_same : (rows : List (List ℕ)) (count : ℕ) (labels others : List Label) (slots rest : List Slot) →
      WriteRows rows count labels slots → WriteRows rows count others rest → (labels ≡ others) × (slots ≡ rest)
  rows_same rows count labels others slots rest v w =
      let a = v.one_label in
      let b = w.one_label in
      let c = v.one_slot in
      let d = w.one_slot in
      let one : (k : ℕ) (x : Label) → k < length rows → _ = λ (k : ℕ) (x : Label) (lt : k < length rows). row_same (get_or rows k []) k count
      (get_or labels k x) (get_or others k x) (get_or slots k no_slot) (get_or rest k no_slot) (v.written k x lt) (w.written k x lt) in (
        same_lists labels others (omega arith) (λ k x lt. (one k x (omega arith)).0),
        same_slots labels slots rest (omega arith) (omega arith) (λ k x lt. (one k x (omega arith)).1),
      )
    where
      same_slots : (labels : List Label) (slots rest : List Slot) → length slots ≡ length labels → length slots ≡ length rest →
          ((k : ℕ) (x : Label) → k < length labels → get_or slots k no_slot ≡ get_or rest k no_slot) → slots ≡ rest
      same_slots [] [] [] e f all = refl
      same_slots [] [] (s ∷ rest) e f all = absurd (omega arith)
      same_slots [] (s ∷ slots) rest e f all = absurd (omega arith)
      same_slots (a ∷ labels) slots rest e f all =
          same_lists slots rest f (λ k d lt. get_or_default slots k d no_slot lt ∙ all k a (omega arith) ∙ sym (get_or_default rest k d no_slot (omega arith)))

  -- two states that one list of lines begins with are the same, and so are the lines behind them
  pub state_same : (front rest other more : List (List ℕ)) (a b : State) → front ++ rest ≡ other ++ more → WriteState front a → WriteState other b → (a ≡ b) × (rest ≡ more)
  state_same front rest other more a b same v w =
      let e : v.head ∷ (v.rows ++ rest) ≡ w.head ∷ (w.rows ++ more) = ap (λ (ls : List (List ℕ)). ls ++ rest) (sym v.lines_are) ∙ same ∙ ap (λ (ls : List (List ℕ)). ls ++ more) w.lines_are in
      let first : v.head ≡ w.head = cc e in
      let tails : v.rows ++ rest ≡ w.rows ++ more = cc e in
      let head = head_same w.head a.rev (length a.labels) b.rev (length b.labels) (subst (λ (l : List ℕ). ReadsHead l a.rev (length a.labels)) first v.its_head) w.its_head in
      let counts = head.1 in
      let m = v.its_rows.one_label in
      let n = w.its_rows.one_label in
      let split = split_same v.rows rest w.rows more (omega arith) tails in
      let rows = rows_same w.rows (length b.labels) a.labels b.labels a.slots b.slots
      (subst (λ (k : ℕ). WriteRows w.rows k a.labels a.slots) counts (subst (λ (ls : List (List ℕ)). WriteRows ls (length a.labels) a.labels a.slots) split.0 v.its_rows)) w.its_rows in
      (λ i. record { rev = head.0 i; labels = rows.0 i; slots = rows.1 i }, split.1)

  -- a state has a line
  no_lines : (lines front rest : List (List ℕ)) (s : State) → lines ≡ [] → lines ≡ front ++ rest → WriteState front s → ⊥
  no_lines lines front rest s none is w =
      let e = ap length (sym none ∙ is ∙ ap (λ (ls : List (List ℕ)). ls ++ rest) w.lines_are) in
      omega arith

  states_same : (lines : List (List ℕ)) (states others : List State) → WriteStates lines states → WriteStates lines others → states ≡ others
  states_same lines [] [] v w = refl
  states_same lines [] (b ∷ others) v w = absurd (no_lines lines w.0 w.1 b v w.2 w.3)
  states_same lines (a ∷ states) [] v w = absurd (no_lines lines v.0 v.1 a w v.2 v.3)
  states_same lines (a ∷ states) (b ∷ others) v w =
      let same = state_same v.0 v.1 w.0 w.1 a b (sym v.2 ∙ w.2) v.3 w.3 in
      let rest = states_same w.1 states others (subst (λ (ls : List (List ℕ)). WriteStates ls states) same.1 v.4) w.4 in
      ap (λ (s : State). s ∷ states) same.0 ∙ ap (λ (ss : List State). b ∷ ss) rest

  -- a file writes one list of states at most
  pub one_reading : (bytes : List ℕ) (states others : List State) → AreStates bytes states → AreStates bytes others → states ≡ others
  one_reading bytes states others v w = states_same (ended_lines bytes) states others v.written w.written

  -- ---- a file that is refused has no reading

  -- the line behind the beginning of a state is that of its next label
  module _ (rows more rest tail : List (List ℕ)) (line : List ℕ) (count : ℕ) (a : State) (o : Unfinished)
      (same : rows ++ line ∷ tail ≡ more ++ rest) (counts : o.count ≡ length a.labels) (begun : WriteRows rows o.count o.state.labels o.state.slots)
      (fewer : length o.state.labels < o.count) (whole : WriteRows more (length a.labels) a.labels a.slots) where
    long : length rows < length more
    long =
        let m = begun.one_label in
        let n = whole.one_label in
        omega arith

    same_row : (k : ℕ) → k < length rows → get_or rows k [] ≡ get_or more k []
    same_row k lt =
        let l = long in
        sym (get_or-append rows (line ∷ tail) [] k lt) ∙ ap (λ (ls : List (List ℕ)). get_or ls k []) same ∙ get_or-append more rest [] k (omega arith)

    its_line : get_or more (length rows) [] ≡ line
    its_line = sym (get_or-append more rest [] (length rows) long) ∙ ap (λ (ls : List (List ℕ)). get_or ls (length rows) []) (sym same) ∙ get_or-append_seam rows line tail []

    at_next : length rows < length a.labels
    at_next = let l = long in let n = whole.one_label in omega arith

    the_label : Label
    the_label = pick a.labels (length rows) at_next

    next_row : ReadsRow line (length o.state.labels) o.count (get_or a.labels (length rows) the_label) (get_or a.slots (length rows) no_slot)
    next_row =
        let m = begun.one_label in
        let row = whole.written (length rows) the_label long in
        let there = subst (λ (l : List ℕ). ReadsRow l (length rows) (length a.labels) (get_or a.labels (length rows) the_label) (get_or a.slots (length rows) no_slot)) its_line row in
        let counted = subst (λ (n : ℕ). ReadsRow line (length rows) n (get_or a.labels (length rows) the_label) (get_or a.slots (length rows) no_slot)) (sym counts) there in
        subst (λ (n : ℕ). ReadsRow line n o.count (get_or a.labels (length rows) the_label) (get_or a.slots (length rows) no_slot)) (sym m) counted

    next_new : IsNoId o.state.labels (get_or a.labels (length rows) the_label).order.id
    next_new j place =
        let m = begun.one_label in
        let l = long in
        let n = whole.one_label in
        let below : j < length rows = omega (arith, place.0) in
        let one = begun.written j the_label below in
        let other = whole.written j the_label (omega arith) in
        let counted = subst (λ (n : ℕ). ReadsRow (get_or more j []) j n (get_or a.labels j the_label) (get_or a.slots j no_slot)) (sym counts) other in
        let there = subst (λ (l : List ℕ). ReadsRow l j o.count (get_or a.labels j the_label) (get_or a.slots j no_slot)) (sym (same_row j below)) counted in
        let ids = same_id spelling (get_or rows j []) j o.count (get_or o.state.labels j the_label)
        (get_or a.labels j the_label) (get_or o.state.slots j no_slot) (get_or a.slots j no_slot) one there in
        whole.differ j (length rows) the_label below at_next (sym ids ∙ place.1 the_label)

    next_is : ((label : Label) (slot : Slot) → ¬ (IsNextRow line o label slot)) → ⊥
    next_is none = none (get_or a.labels (length rows) the_label) (get_or a.slots (length rows) no_slot) (record { row = next_row; new = next_new })

  -- a line that is due is none at fault
  due_line : (states lead : List State) (lines front back : List (List ℕ)) (line : List ℕ) (tail : List (List ℕ)) (last : Option Unfinished) →
      lines ≡ front ++ (back ++ line ∷ tail) → WriteStates lines states → WriteStates front lead →
      MatchOption last (back ≡ []) (λ o. Begin back o.count o.state × (length o.state.labels < o.count)) → IsFaulty line last → ⊥
  due_line [] lead lines front back line tail last is w v b faulty =
      let e = ap length (sym w ∙ is) ∙ length-append front (back ++ line ∷ tail) in
      let f = length-append back (line ∷ tail) in
      omega arith
  due_line (a ∷ states) [] lines front back line tail None is w v b faulty =
      let e : line ∷ tail ≡ w.3.head ∷ (w.3.rows ++ w.1) =
      sym (is ∙ ap (λ (ls : List (List ℕ)). ls ++ (back ++ line ∷ tail)) v ∙ ap (λ (ls : List (List ℕ)). ls ++ line ∷ tail) b) ∙ w.2 ∙ ap (λ (ls : List (List ℕ)). ls ++ w.1) w.3.lines_are in
      let first : line ≡ w.3.head = cc e in
      faulty a.rev (length a.labels) (subst (λ (l : List ℕ). ReadsHead l a.rev (length a.labels)) (sym first) w.3.its_head)
  due_line (a ∷ states) [] lines front back line tail (Some o) is w v b faulty =
      let begin = b.0 in
      let e : begin.head ∷ (begin.rows ++ line ∷ tail) ≡ w.3.head ∷ (w.3.rows ++ w.1) =
      sym (is ∙ ap (λ (ls : List (List ℕ)). ls ++ (back ++ line ∷ tail)) v ∙ ap (λ (ls : List (List ℕ)). ls ++ line ∷ tail) begin.lines_are)
      ∙ w.2 ∙ ap (λ (ls : List (List ℕ)). ls ++ w.1) w.3.lines_are in
      let first : begin.head ≡ w.3.head = cc e in
      let tails : begin.rows ++ line ∷ tail ≡ w.3.rows ++ w.1 = cc e in
      let head = head_same w.3.head o.state.rev o.count a.rev (length a.labels) (subst (λ (l : List ℕ). ReadsHead l o.state.rev o.count) first begin.its_head) w.3.its_head in
      next_is begin.rows w.3.rows w.1 tail line o.count a o tails head.1 begin.its_rows b.1 w.3.its_rows faulty
  due_line (a ∷ states) (s ∷ lead) lines front back line tail last is w v b faulty =
      let rest = back ++ line ∷ tail in
      let e : v.0 ++ (v.1 ++ rest) ≡ w.0 ++ w.1 = sym (is ∙ ap (λ (ls : List (List ℕ)). ls ++ rest) v.2 ∙ append_assoc v.0 v.1 rest) ∙ w.2 in
      let same = state_same v.0 (v.1 ++ rest) w.0 w.1 s a e v.3 w.3 in
      due_line states lead w.1 v.1 back line tail last (sym same.1) w.4 v.4 b faulty

  -- a file that ends within a state has no reading
  cut_state : (states lead : List State) (lines front back : List (List ℕ)) (o : Unfinished) → lines ≡ front ++ back →
      WriteStates lines states → WriteStates front lead → Begin back o.count o.state → length o.state.labels < o.count → ⊥
  cut_state [] lead lines front back o is w v begin fewer =
      let e = ap length (sym w ∙ is) ∙ length-append front back in
      let f = ap length begin.lines_are in
      omega arith
  cut_state (a ∷ states) [] lines front back o is w v begin fewer =
      let e : begin.head ∷ begin.rows ≡ w.3.head ∷ (w.3.rows ++ w.1) =
      sym (is ∙ ap (λ (ls : List (List ℕ)). ls ++ back) v ∙ begin.lines_are) ∙ w.2 ∙ ap (λ (ls : List (List ℕ)). ls ++ w.1) w.3.lines_are in
      let first : begin.head ≡ w.3.head = cc e in
      let tails : begin.rows ≡ w.3.rows ++ w.1 = cc e in
      let head = head_same w.3.head o.state.rev o.count a.rev (length a.labels) (subst (λ (l : List ℕ). ReadsHead l o.state.rev o.count) first begin.its_head) w.3.its_head in
      let counts = head.1 in
      let m = begin.its_rows.one_label in
      let n = w.3.its_rows.one_label in
      let long = ap length tails ∙ length-append w.3.rows w.1 in
      omega arith
  cut_state (a ∷ states) (s ∷ lead) lines front back o is w v begin fewer =
      let e : v.0 ++ (v.1 ++ back) ≡ w.0 ++ w.1 = sym (is ∙ ap (λ (ls : List (List ℕ)). ls ++ back) v.2 ∙ append_assoc v.0 v.1 back) ∙ w.2 in
      let same = state_same v.0 (v.1 ++ back) w.0 w.1 s a e v.3 w.3 in
      cut_state states lead w.1 v.1 back o (sym same.1) w.4 v.4 begin fewer

  cut_short : (bytes : List ℕ) (k : ℕ) (states : List State) → AreStates bytes states → IsCutShort bytes k → ⊥
  cut_short bytes k states are cut = elim cut.cut [
    | inl some ↦ some are.ended
    | inr stands ↦ by_last cut.last stands cut.before
  ]
    where
      by_last : (last : Option Unfinished) → last ≢ None → WriteUpTo (ended_lines bytes) cut.states last → ⊥
      by_last None some u = some refl
      by_last (Some o) some u = cut_state states cut.states (ended_lines bytes) u.front u.back o u.lines_are are.written u.whole u.begun.0 u.begun.1

  faulty_line : (bytes : List ℕ) (k : ℕ) (states : List State) → AreStates bytes states → IsFaultyLine bytes k → ⊥
  faulty_line bytes k states are fault =
      let lines = ended_lines bytes in
      let line = get_or lines fault.place [] in
      let tail = drop (suc fault.place) lines in
      let u = fault.before in
      let is : lines ≡ u.front ++ (u.back ++ line ∷ tail) =
      sym (take-append-drop fault.place lines) ∙ ap (λ (ls : List (List ℕ)). take fault.place lines ++ ls) (drop-cons lines fault.place [] fault.is_there)
      ∙ ap (λ (ls : List (List ℕ)). ls ++ line ∷ tail) u.lines_are ∙ append_assoc u.front u.back (line ∷ tail) in
      due_line states fault.states lines u.front u.back line tail fault.last is are.written u.whole u.begun fault.faulty

  -- a file that writes states has no line at fault and is not cut short
  pub no_fault : (bytes : List ℕ) (states : List State) (k : ℕ) → AreStates bytes states → ¬ (IsStatesFault bytes (BadState k))
  no_fault bytes states k are fault = elim fault [
    | inl faulty ↦ faulty_line bytes k states are faulty
    | inr cut ↦ cut_short bytes k states are cut
  ]

  -- a file that writes states is read as those, unless memory is wanting
  pub reads_from : (bytes : List ℕ) (r : Result (List State) StateFault) → IfOk r (λ states. AreStates bytes states) →
      IfErr r (λ fault. IsStatesFault bytes fault) → (states : List State) → AreStates bytes states → GivesStates r states
  reads_from bytes (Ok others) ok err states are = inl (ap Ok (one_reading bytes others states ok are))
  reads_from bytes (Err (BadState k)) ok err states are = absurd (no_fault bytes states k are err)
  reads_from bytes (Err Memory) ok err states are = inr refl
