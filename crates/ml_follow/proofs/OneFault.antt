-- A file has one line at fault at most.
use Rattle.std.proofs.Common.{◌≡◌, ℕ, suc, ◌+◌, ◌<◌, List, [], ◌∷◌, ◌++◌, length, get_or, take, drop, Option, Some, None}
use Rattle.std.proofs.Common.{inl, inr, refl, sym, ap, subst, ◌∙◌, arith, append_assoc, append-nil, length-append}
use Rattle.std.specs.Prelude.{MatchOption, Result, Ok, Err, IfOk, IfErr}
use Rattle.std.proofs.Math.ListN.{get_or-append}
use Rattle.std.proofs.Math.Seq.{get_or-append_seam, drop-cons}
use Rattle.std.proofs.lemmas.Bool.{cases_order}
use Rattle.std.proofs.lemmas.List.{take-take, take-append-drop, get_or-take, length-take, take_all}
use Rattle.ml_ratio.specs.Refusal.{RefusesExactly}
use Rattle.ml_ratio.proofs.lemmas.Lists.{pick}
use Rattle.ml_cone.specs.Places.{IsNoId}
use Rattle.ml_cone.specs.Slots.{no_slot}
use Rattle.ml_cone.specs.declared.label.Label.{Label}
use Rattle.ml_cone.specs.declared.slot.Slot.{Slot}
use Rattle.ml_follow.specs.StateLine.{ReadsHead, ReadsRow}
use Rattle.ml_follow.specs.States.{WriteRows, Begin, WriteStates, Unfinished, WriteUpTo, IsNextRow, IsFaulty, IsFaultyLine, IsCutShort, AreStates, IsStatesFault, ended_lines}
use Rattle.ml_follow.specs.declared.fault.StateFault.{StateFault}
use Rattle.ml_follow.specs.declared.fault.StateFault.TheVariants.{BadState, Memory}
use Rattle.ml_follow.specs.declared.state.State.{State}
use Rattle.ml_follow.proofs.Lower.{OneSpelling, OneList}
use Rattle.ml_follow.proofs.Rows.{same_id}
use Rattle.ml_follow.proofs.OneReading.{head_same, state_same, no_fault}

module _ (spelling : OneSpelling) (lists : OneList) where
  -- the line behind the beginning of a state is that of its next label, where more lines write labels of one that begins alike
  module _ (rows more rest tail : List (List ℕ)) (line : List ℕ) (n : ℕ) (a : State) (o : Unfinished) (same : rows ++ line ∷ tail ≡ more ++ rest) (counts : o.count ≡ n)
      (begun : WriteRows rows o.count o.state.labels o.state.slots) (long : length rows < length more) (written : WriteRows more n a.labels a.slots) where
    same_row : (k : ℕ) → k < length rows → get_or rows k [] ≡ get_or more k []
    same_row k lt =
        sym (get_or-append rows (line ∷ tail) [] k lt) ∙ ap (λ (ls : List (List ℕ)). get_or ls k []) same ∙ get_or-append more rest [] k (omega arith)

    its_line : get_or more (length rows) [] ≡ line
    its_line = sym (get_or-append more rest [] (length rows) long) ∙ ap (λ (ls : List (List ℕ)). get_or ls (length rows) []) (sym same) ∙ get_or-append_seam rows line tail []

    at_next : length rows < length a.labels
    at_next = let m = written.one_label in omega arith

    the_label : Label
    the_label = pick a.labels (length rows) at_next

    next_row : ReadsRow line (length o.state.labels) o.count (get_or a.labels (length rows) the_label) (get_or a.slots (length rows) no_slot)
    next_row =
        let m = begun.one_label in
        let row = written.written (length rows) the_label long in
        let there = subst (λ (l : List ℕ). ReadsRow l (length rows) n (get_or a.labels (length rows) the_label) (get_or a.slots (length rows) no_slot)) its_line row in
        let counted = subst (λ (k : ℕ). ReadsRow line (length rows) k (get_or a.labels (length rows) the_label) (get_or a.slots (length rows) no_slot)) (sym counts) there in
        subst (λ (k : ℕ). ReadsRow line k o.count (get_or a.labels (length rows) the_label) (get_or a.slots (length rows) no_slot)) (sym m) counted

    next_new : IsNoId o.state.labels (get_or a.labels (length rows) the_label).order.id
    next_new j place =
        let m = begun.one_label in
        let below : j < length rows = omega (arith, place.0) in
        let one = begun.written j the_label below in
        let other = written.written j the_label (omega arith) in
        let counted = subst (λ (k : ℕ). ReadsRow (get_or more j []) j k (get_or a.labels j the_label) (get_or a.slots j no_slot)) (sym counts) other in
        let there = subst (λ (l : List ℕ). ReadsRow l j o.count (get_or a.labels j the_label) (get_or a.slots j no_slot)) (sym (same_row j below)) counted in
        let ids = same_id spelling (get_or rows j []) j o.count (get_or o.state.labels j the_label)
        (get_or a.labels j the_label) (get_or o.state.slots j no_slot) (get_or a.slots j no_slot) one there in
        written.differ j (length rows) the_label below at_next (sym ids ∙ place.1 the_label)

    next_is : ((label : Label) (slot : Slot) → ¬ (IsNextRow line o label slot)) → ⊥
    next_is never = never (get_or a.labels (length rows) the_label) (get_or a.slots (length rows) no_slot) (record { row = next_row; new = next_new })

  -- what the beginning of a state and a longer one with the same first lines have in common
  module _ (line : List ℕ) (tail back : List (List ℕ)) (n : ℕ) (a : State) (o : Unfinished) (begin : Begin back o.count o.state) (longer : Begin (back ++ line ∷ tail) n a) where
    same_lines : begin.head ∷ (begin.rows ++ line ∷ tail) ≡ longer.head ∷ longer.rows
    same_lines = ap (λ (ls : List (List ℕ)). ls ++ line ∷ tail) (sym begin.lines_are) ∙ longer.lines_are

    not_next : ((label : Label) (slot : Slot) → ¬ (IsNextRow line o label slot)) → ⊥
    not_next never =
        let e = same_lines in
        let first : begin.head ≡ longer.head = cc e in
        let tails : begin.rows ++ line ∷ tail ≡ longer.rows = cc e in
        let counts = (head_same longer.head o.state.rev o.count a.rev n (subst (λ (l : List ℕ). ReadsHead l o.state.rev o.count) first begin.its_head) longer.its_head).1 in
        let long = ap length (sym tails) ∙ length-append begin.rows (line ∷ tail) in
        next_is begin.rows longer.rows [] tail line n a o (tails ∙ sym (append-nil longer.rows)) counts begin.its_rows (omega arith) longer.its_rows never

  -- a line that is at fault is none of those that write states and the beginning of one more
  due_line : (others lead : List State) (lines front back those begun : List (List ℕ)) (line : List ℕ) (tail : List (List ℕ)) (last next : Option Unfinished) →
      lines ≡ front ++ (back ++ line ∷ tail) → lines ≡ those ++ begun → WriteStates those others → WriteStates front lead →
      MatchOption last (back ≡ []) (λ o. Begin back o.count o.state × (length o.state.labels < o.count)) →
      MatchOption next (begun ≡ []) (λ o. Begin begun o.count o.state × (length o.state.labels < o.count)) → IsFaulty line last → ⊥
  due_line [] lead lines front back those begun line tail last None is are w v b n faulty =
      let e = ap length (sym are ∙ is) ∙ length-append front (back ++ line ∷ tail) in
      let f = length-append back (line ∷ tail) in
      let g = length-append those begun in
      let h = ap length w in
      let m = ap length n in
      omega arith
  due_line [] [] lines front back those begun line tail None (Some u) is are w v b n faulty =
      let e : line ∷ tail ≡ n.0.head ∷ n.0.rows =
      sym (is ∙ ap (λ (ls : List (List ℕ)). ls ++ (back ++ line ∷ tail)) v ∙ ap (λ (ls : List (List ℕ)). ls ++ line ∷ tail) b) ∙ are ∙ ap (λ (ls : List (List ℕ)). ls ++ begun) w ∙ n.0.lines_are in
      let first : line ≡ n.0.head = cc e in
      faulty u.state.rev u.count (subst (λ (l : List ℕ). ReadsHead l u.state.rev u.count) (sym first) n.0.its_head)
  due_line [] [] lines front back those begun line tail (Some o) (Some u) is are w v b n faulty =
      let e : begun ≡ back ++ line ∷ tail = sym (are ∙ ap (λ (ls : List (List ℕ)). ls ++ begun) w) ∙ is ∙ ap (λ (ls : List (List ℕ)). ls ++ (back ++ line ∷ tail)) v in
      not_next line tail back u.count u.state o b.0 (subst (λ (ls : List (List ℕ)). Begin ls u.count u.state) e n.0) faulty
  due_line [] (s ∷ lead) lines front back those begun line tail last (Some u) is are w v b n faulty =
      let rest = back ++ line ∷ tail in
      let e : v.3.head ∷ (v.3.rows ++ (v.1 ++ rest)) ≡ n.0.head ∷ n.0.rows =
      ap (λ (ls : List (List ℕ)). ls ++ (v.1 ++ rest)) (sym v.3.lines_are) ∙ sym (append_assoc v.0 v.1 rest)
      ∙ ap (λ (ls : List (List ℕ)). ls ++ rest) (sym v.2) ∙ sym is ∙ are ∙ ap (λ (ls : List (List ℕ)). ls ++ begun) w ∙ n.0.lines_are in
      let first : v.3.head ≡ n.0.head = cc e in
      let tails : v.3.rows ++ (v.1 ++ rest) ≡ n.0.rows = cc e in
      let counts = (head_same n.0.head s.rev (length s.labels) u.state.rev u.count (subst (λ (l : List ℕ). ReadsHead l s.rev (length s.labels)) first v.3.its_head) n.0.its_head).1 in
      let a = v.3.its_rows.one_label in
      let c = n.0.its_rows.one_label in
      let long = ap length (sym tails) ∙ length-append v.3.rows (v.1 ++ rest) in
      let fewer = n.1 in
      omega arith
  due_line (a ∷ others) [] lines front back those begun line tail None next is are w v b n faulty =
      let e : line ∷ tail ≡ w.3.head ∷ ((w.3.rows ++ w.1) ++ begun) =
      sym (is ∙ ap (λ (ls : List (List ℕ)). ls ++ (back ++ line ∷ tail)) v ∙ ap (λ (ls : List (List ℕ)). ls ++ line ∷ tail) b)
      ∙ are ∙ ap (λ (ls : List (List ℕ)). ls ++ begun) w.2 ∙ ap (λ (ls : List (List ℕ)). (ls ++ w.1) ++ begun) w.3.lines_are in
      let first : line ≡ w.3.head = cc e in
      faulty a.rev (length a.labels) (subst (λ (l : List ℕ). ReadsHead l a.rev (length a.labels)) (sym first) w.3.its_head)
  due_line (a ∷ others) [] lines front back those begun line tail (Some o) next is are w v b n faulty =
      let begin = b.0 in
      let e : begin.head ∷ (begin.rows ++ line ∷ tail) ≡ w.3.head ∷ (w.3.rows ++ (w.1 ++ begun)) =
      sym (is ∙ ap (λ (ls : List (List ℕ)). ls ++ (back ++ line ∷ tail)) v ∙ ap (λ (ls : List (List ℕ)). ls ++ line ∷ tail) begin.lines_are)
      ∙ are ∙ ap (λ (ls : List (List ℕ)). ls ++ begun) w.2 ∙ append_assoc w.0 w.1 begun
      ∙ ap (λ (ls : List (List ℕ)). ls ++ (w.1 ++ begun)) w.3.lines_are in
      let first : begin.head ≡ w.3.head = cc e in
      let tails : begin.rows ++ line ∷ tail ≡ w.3.rows ++ (w.1 ++ begun) = cc e in
      let counts = (head_same w.3.head o.state.rev o.count a.rev (length a.labels) (subst (λ (l : List ℕ). ReadsHead l o.state.rev o.count) first begin.its_head) w.3.its_head).1 in
      let m = begin.its_rows.one_label in
      let k = w.3.its_rows.one_label in
      let fewer = b.1 in
      next_is begin.rows w.3.rows (w.1 ++ begun) tail line (length a.labels) a o tails counts begin.its_rows (omega arith) w.3.its_rows faulty
  due_line (a ∷ others) (s ∷ lead) lines front back those begun line tail last next is are w v b n faulty =
      let rest = back ++ line ∷ tail in
      let e : v.0 ++ (v.1 ++ rest) ≡ w.0 ++ (w.1 ++ begun) =
      sym (is ∙ ap (λ (ls : List (List ℕ)). ls ++ rest) v.2 ∙ append_assoc v.0 v.1 rest) ∙ are ∙ ap (λ (ls : List (List ℕ)). ls ++ begun) w.2 ∙ append_assoc w.0 w.1 begun in
      let same = state_same spelling lists v.0 (v.1 ++ rest) w.0 (w.1 ++ begun) s a e v.3 w.3 in
      due_line others lead (w.1 ++ begun) v.1 back w.1 begun line tail last next (sym same.1) refl w.4 v.4 b n faulty

  -- of the lines that write states and the beginning of one more none is at fault
  not_before : (lines : List (List ℕ)) (p q : ℕ) (lead others : List State) (last next : Option Unfinished) → p < q → p < length lines →
      WriteUpTo (take p lines) lead last → WriteUpTo (take q lines) others next → IsFaulty (get_or lines p []) last → ⊥
  not_before lines p q lead others last next less lt u w faulty =
      let all = take q lines in
      let line = get_or lines p [] in
      let inside : p < length all = omega (arith, length-take q lines) in
      let here : drop p all ≡ line ∷ drop (suc p) all = drop-cons all p [] inside ∙ ap (λ (l : List ℕ). l ∷ drop (suc p) all) (get_or-take q lines p [] less) in
      let is : all ≡ u.front ++ (u.back ++ line ∷ drop (suc p) all) =
      sym (take-append-drop p all) ∙ ap (λ (ls : List (List ℕ)). ls ++ drop p all) (take-take p q lines (omega arith) ∙ u.lines_are) ∙ ap (λ (ls : List (List ℕ)). (u.front ++ u.back) ++ ls) here
      ∙ append_assoc u.front u.back (line ∷ drop (suc p) all) in
      due_line others lead all u.front u.back w.front w.back line (drop (suc p) all) last next is w.lines_are w.whole u.whole u.begun w.begun faulty

  line_and_end : (bytes : List ℕ) (k j : ℕ) → IsFaultyLine bytes k → IsCutShort bytes j → ⊥
  line_and_end bytes k j one two =
      let lines = ended_lines bytes in
      let whole : WriteUpTo (take (length lines) lines) two.states two.last =
      subst (λ (ls : List (List ℕ)). WriteUpTo ls two.states two.last) (sym (take_all (length lines) lines (omega arith))) two.before in
      not_before lines one.place (length lines) one.states two.states one.last two.last one.is_there one.is_there one.before whole one.faulty

  -- a file is at fault at one number only, be it that of a bad line or that behind a file cut short
  pub one_fault : (bytes : List ℕ) (k j : ℕ) → IsStatesFault bytes (BadState k) → IsStatesFault bytes (BadState j) → k ≡ j
  one_fault bytes k j (inl one) (inl two) =
      elim (cases_order one.place two.place) [
        | inl same ↦ one.number ∙ ap (λ (n : ℕ). n + 1) same ∙ sym two.number
        | inr (inl less) ↦ absurd (not_before (ended_lines bytes) one.place two.place one.states two.states one.last two.last less one.is_there one.before two.before one.faulty)
        | inr (inr more) ↦ absurd (not_before (ended_lines bytes) two.place one.place two.states one.states two.last one.last more two.is_there two.before one.before two.faulty)
      ]
  one_fault bytes k j (inl one) (inr two) = absurd (line_and_end bytes k j one two)
  one_fault bytes k j (inr one) (inl two) = absurd (line_and_end bytes j k two one)
  one_fault bytes k j (inr one) (inr two) = one.number ∙ sym two.number

  -- a file is refused at a line exactly where it is at fault there
  pub refused_at : (bytes : List ℕ) (r : Result (List State) StateFault) → IfOk r (λ states. AreStates bytes states) →
      IfErr r (λ fault. IsStatesFault bytes fault) → (k : ℕ) → RefusesExactly r (BadState k) Memory (IsStatesFault bytes (BadState k))
  refused_at bytes (Ok states) ok err k = (λ e. absurd (cc e), λ fault. absurd (no_fault spelling lists bytes states k ok fault))
  refused_at bytes (Err (BadState j)) ok err k = (
    λ e.
        let same : j ≡ k = cc e in
        subst (λ (n : ℕ). IsStatesFault bytes (BadState n)) same err,
    λ fault. inl (ap (λ (n : ℕ). Err (BadState n)) (one_fault bytes j k err fault)),
  )
  refused_at bytes (Err Memory) ok err k = (λ e. absurd (cc e), λ fault. inr refl)
