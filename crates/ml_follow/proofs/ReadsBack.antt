-- The text of a state reads back.
use Rattle.std.proofs.Common.{◌≡◌, ℕ, zero, suc, ◌+◌, ◌-◌, ◌^◌, ◌<◌, ◌≤◌, ℤ, pos, negsuc, List, [], ◌∷◌, ◌++◌, length, get_or, map, flat_map}
use Rattle.std.proofs.Common.{Option, Some, None, IsUtf8, refl, sym, ap, subst, ◌∙◌, arith, append_assoc, append-nil, length-append, take}
use Rattle.std.specs.Prelude.{All, MatchOption, codes, replicate, ◌==◌, false}
use Rattle.std.specs.Fmt.{decimal, signed_decimal}
use Rattle.std.specs.List.{AllZip}
use Rattle.std.proofs.Math.Seq.{get_or-append_seam}
use Rattle.std.proofs.lemmas.Int.{ints}
use Rattle.std.proofs.lemmas.List.{length-replicate, length-map}
use Rattle.ml_ratio.specs.Lines.{parts}
use Rattle.ml_ratio.specs.Ratio.{ratio_text}
use Rattle.ml_ratio.specs.World.{IsInWorld}
use Rattle.ml_cone.specs.Plane.{IsOffset, IsBox}
use Rattle.ml_cone.specs.Slots.{no_slot}
use Rattle.ml_cone.specs.declared.label.BoxPx.{BoxPx}
use Rattle.ml_cone.specs.declared.label.Label.{Label}
use Rattle.ml_cone.specs.declared.slot.Slot.{Slot}
use Rattle.ml_watch.specs.Line.{id_text}
use Rattle.ml_pass.specs.Row.{ReadsBox}
use Rattle.ml_follow.specs.Alike.{IsAlike, IsStateWith, IsTold}
use Rattle.ml_follow.specs.StateLine.{ReadsHead, WritesBlocker, ReadsRow}
use Rattle.ml_follow.specs.StateText.{joined, box_text, blocker_text, row_lines, head_line, state_text}
use Rattle.ml_follow.specs.States.{ended_lines, unended, WriteRows, Begin, AreStates}
use Rattle.ml_follow.specs.declared.state.State.{State}
use Rattle.ml_follow.proofs.Bytes.{Within, within_append, within_wider, within_utf8, none_below, decimal_within, signed_within}
use Rattle.ml_follow.proofs.Bytes.{ratio_within, blocker_within, box_within, IsSmall, NoneIn, parts_joined, parts_line}
use Rattle.ml_follow.proofs.Files.{front_of}
use Rattle.ml_follow.proofs.Lower.{VisibleIds}
use Rattle.ml_follow.proofs.Numerals.{up_to_back, whole_back, ratio_back}
use Rattle.ml_follow.proofs.Texts.{four_joined}

-- ---- small numbers

world_small : (z : ℤ) → IsInWorld z → IsSmall z
world_small (pos n) h = omega (arith, ints, h.1)
world_small (negsuc n) h = omega (arith, ints, h.0)

offset_small : (z : ℤ) → IsOffset z → IsSmall z
offset_small (pos n) h = omega (arith, ints, h.1)
offset_small (negsuc n) h = omega (arith, ints, h.0)

-- ---- boxes

box_back : (p : BoxPx) → IsBox p.l p.b p.r p.t → ReadsBox (box_text p) p
box_back p good =
    let l = offset_small p.l good.0.0 in
    let r = offset_small p.r good.0.1 in
    let b = offset_small p.b good.1.0 in
    let t = offset_small p.t good.1.1 in
    let none : (z : ℤ) → IsSmall z → All (λ x. (x == 44) ≡ false) (signed_decimal z) = λ z h. none_below 45 57 44 (signed_decimal z) (omega arith) (signed_within z h) in
    record {
      l = signed_decimal p.l;
      b = signed_decimal p.b;
      r = signed_decimal p.r;
      t = signed_decimal p.t;
      split = ap (parts 44) (sym (four_joined (signed_decimal p.l) (signed_decimal p.b) (signed_decimal p.r) (signed_decimal p.t)))
          ∙ parts_joined 44 (signed_decimal p.l) (signed_decimal p.b ∷ signed_decimal p.r ∷ signed_decimal p.t ∷ []) (none p.l l, (none p.b b, (none p.r r, (none p.t t, tt))));
      numbers = record { left = whole_back p.l l; bottom = whole_back p.b b; right = whole_back p.r r; top = whole_back p.t t; good = good };
    }

boxes_back : (boxes : List BoxPx) → All (λ p. IsBox p.l p.b p.r p.t) boxes → AllZip ReadsBox (map box_text boxes) boxes
boxes_back [] all = tt
boxes_back (p ∷ boxes) all = (box_back p (all 0 p (omega arith)), boxes_back boxes (λ k d lt. all (suc k) d (omega arith)))

-- ---- the words of a line

-- each word has visible bytes only
abbrev AreVisible : List (List ℕ) → Type 0
AreVisible [] = Unit {0}
AreVisible (word ∷ words) = Within 35 126 word × AreVisible words

visible_none : (c : ℕ) (words : List (List ℕ)) → c < 35 → AreVisible words → NoneIn c words
visible_none c [] low h = tt
visible_none c (word ∷ words) low h = (none_below 35 126 c word low h.0, visible_none c words low h.1)

visible_boxes : (boxes : List BoxPx) → All (λ p. IsBox p.l p.b p.r p.t) boxes → AreVisible (map box_text boxes)
visible_boxes [] all = tt
visible_boxes (p ∷ boxes) all =
    let good = all 0 p (omega arith) in
    let within = box_within p (offset_small p.l good.0.0) (offset_small p.b good.1.0) (offset_small p.r good.0.1) (offset_small p.t good.1.1) in
    (within_wider 44 57 35 126 (box_text p) (omega arith) (omega arith) within, visible_boxes boxes (λ k d lt. all (suc k) d (omega arith)))

more_within : (words : List (List ℕ)) → AreVisible words → Within 32 126 (flat_map (λ (w : List ℕ). 32 ∷ w) words)
more_within [] h = tt
more_within (word ∷ words) h =
    within_append 32 126 (32 ∷ word) (flat_map (λ (w : List ℕ). 32 ∷ w) words)
    (omega arith, omega arith, within_wider 35 126 32 126 word (omega arith) (omega arith) h.0) (more_within words h.1)

line_within : (word : List ℕ) (words : List (List ℕ)) → AreVisible (word ∷ words) → Within 32 126 (joined 32 (word ∷ words))
line_within word words h =
    within_append 32 126 word (flat_map (λ (w : List ℕ). 32 ∷ w) words) (within_wider 35 126 32 126 word (omega arith) (omega arith) h.0) (more_within words h.1)

line_words : (word : List ℕ) (words : List (List ℕ)) → AreVisible (word ∷ words) → parts 32 (joined 32 (word ∷ words)) ≡ word ∷ words
line_words word words h = parts_joined 32 word words (visible_none 32 (word ∷ words) (omega arith) h)

-- ---- the line of a label

abbrev no_bytes : List ℕ
no_bytes = []

pieces_long : (id : List ℕ) (n : ℕ) → 0 < n → length (id ∷ replicate (n - 1) no_bytes) ≡ n
pieces_long id n some = let e = length-replicate (n - 1) no_bytes in omega arith

-- the label as it is read at a place
abbrev relabelled : ℕ → Label → Label
relabelled place a = record {
  order = record { class = place; rank = 0; id = a.order.id };
  x = a.x;
  y = a.y;
  boxes = a.boxes;
  pieces = a.order.id ∷ replicate (length a.boxes - 1) [];
  min = a.min;
  max = a.max;
  margin = a.margin;
  world_x = a.world_x;
  world_y = a.world_y;
  some_box = a.some_box;
  few_boxes = a.few_boxes;
  good_boxes = a.good_boxes;
  one_piece_each = pieces_long a.order.id (length a.boxes) a.some_box;
  range = a.range;
  low_max = a.low_max;
  low_margin = a.low_margin;
}

within_of : (bs : List ℕ) → All (λ (byte : ℕ). (35 ≤ byte) × (byte ≤ 126)) bs → Within 35 126 bs
within_of [] h = tt
within_of (b ∷ bs) h = (let x = h 0 b (omega arith) in (x.0, x.1, within_of bs (λ k d lt. h (suc k) d (omega (arith, lt)))))

-- the words of a label's line behind the id
abbrev after_id : Label → Slot → List (List ℕ)
after_id a s =
    signed_decimal a.x ∷ signed_decimal a.y ∷ ratio_text a.min ∷ ratio_text a.max ∷ decimal a.margin ∷ ratio_text s.until ∷ blocker_text s.blocker ∷ map box_text a.boxes

abbrev row_of : Label → Slot → List (List ℕ)
row_of a s = id_text a.order.id ∷ after_id a s

abbrev row_text : Label → Slot → List ℕ
row_text a s = joined 32 (row_of a s)

-- the blocker is a place below the number of labels
abbrev IsBelow : ℕ → Option ℕ → Type 0
IsBelow count blocker = (place : ℕ) → blocker ≡ Some place → place < count

module _ (visible : VisibleIds) where
  module _ (place count : ℕ) (a : Label) (s : Slot) (text : IsUtf8 a.order.id) (low : count ≤ 32768) (below : IsBelow count s.blocker) where
    row_visible : AreVisible (row_of a s)
    row_visible =
        let x = world_small a.x a.world_x in
        let y = world_small a.y a.world_y in
        let m : a.margin < 10 ^ 10 = (let h = a.low_margin in omega arith) in (
          within_of (id_text a.order.id) (visible a.order.id text),
          (
            within_wider 45 57 35 126 (signed_decimal a.x) (omega arith) (omega arith) (signed_within a.x x),
            (
              within_wider 45 57 35 126 (signed_decimal a.y) (omega arith) (omega arith) (signed_within a.y y),
              (
                within_wider 47 57 35 126 (ratio_text a.min) (omega arith) (omega arith) (ratio_within a.min),
                (
                  within_wider 47 57 35 126 (ratio_text a.max) (omega arith) (omega arith) (ratio_within a.max),
                  (
                    within_wider 48 57 35 126 (decimal a.margin) (omega arith) (omega arith) (decimal_within a.margin (omega arith)),
                    (
                      within_wider 47 57 35 126 (ratio_text s.until) (omega arith) (omega arith) (ratio_within s.until),
                      (blocker_within s.blocker count low below, visible_boxes a.boxes a.good_boxes),
                    ),
                  ),
                ),
              ),
            ),
          ),
        )

    row_plain : Within 32 126 (row_text a s)
    row_plain = line_within (id_text a.order.id) (after_id a s) row_visible

    blocker_back : (blocker : Option ℕ) → IsBelow count blocker → WritesBlocker count (blocker_text blocker) blocker
    blocker_back None h = refl
    blocker_back (Some p) h = let lt : p < count = h p refl in (up_to_back 5 p (omega arith) (omega arith) (omega arith), lt)

    row_back : ReadsRow (row_text a s) place count (relabelled place a) s
    row_back = record {
      is_text = within_utf8 32 126 (row_text a s) (omega arith) row_plain;
      id = id_text a.order.id;
      x = signed_decimal a.x;
      y = signed_decimal a.y;
      min = ratio_text a.min;
      max = ratio_text a.max;
      margin = decimal a.margin;
      until = ratio_text s.until;
      blocker = blocker_text s.blocker;
      boxes = map box_text a.boxes;
      words = line_words (id_text a.order.id) (after_id a s) row_visible;
      write = record {
        its_label = record {
          class_is = refl;
          rank_is = refl;
          id_is = record { is_text = text; spelled = refl };
          x_is = whole_back a.x (world_small a.x a.world_x);
          y_is = whole_back a.y (world_small a.y a.world_y);
          min_is = ratio_back a.min;
          max_is = ratio_back a.max;
          margin_is = whole_back (pos a.margin) (let h = a.low_margin in omega arith);
          boxes_are = boxes_back a.boxes a.good_boxes;
          pieces_are = ap (λ (n : ℕ). a.order.id ∷ replicate (n - 1) []) (sym (length-map a.boxes box_text));
        };
        its_slot = record { until_is = ratio_back s.until; blocker_is = blocker_back s.blocker below };
      };
    }

  -- ---- the first line

  two_behind : (a b : List ℕ) → (a ++ (32 ∷ (b ++ []))) ++ (10 ∷ []) ≡ a ++ (32 ∷ (b ++ (10 ∷ [])))
  two_behind a b = append_assoc a (32 ∷ (b ++ [])) (10 ∷ []) ∙ ap (λ (t : List ℕ). a ++ (32 ∷ (t ++ (10 ∷ [])))) (append-nil b)

  abbrev head_text : ℕ → ℕ → List ℕ
  head_text rev count = joined 32 (codes "state" ∷ decimal rev ∷ decimal count ∷ [])

  head_is : (rev count : ℕ) → head_line rev count ≡ head_text rev count ++ 10 ∷ []
  head_is rev count = ap (λ (t : List ℕ). codes "state " ++ t) (sym (two_behind (decimal rev) (decimal count)))

  module _ (rev count : ℕ) (low_rev : rev ≤ 2 ^ 53) (low : count ≤ 32768) where
    head_visible : AreVisible (codes "state" ∷ decimal rev ∷ decimal count ∷ [])
    head_visible = (
      (omega arith, omega arith, (omega arith, omega arith, (omega arith, omega arith, (omega arith, omega arith, (omega arith, omega arith, tt))))),
      (
        within_wider 48 57 35 126 (decimal rev) (omega arith) (omega arith) (decimal_within rev (omega arith)),
        (within_wider 48 57 35 126 (decimal count) (omega arith) (omega arith) (decimal_within count (omega arith)), tt),
      ),
    )

    head_plain : Within 32 126 (head_text rev count)
    head_plain = line_within (codes "state") (decimal rev ∷ decimal count ∷ []) head_visible

    head_back : ReadsHead (head_text rev count) rev count
    head_back = record {
      is_text = within_utf8 32 126 (head_text rev count) (omega arith) head_plain;
      word = codes "state";
      rev_word = decimal rev;
      count_word = decimal count;
      words = line_words (codes "state") (decimal rev ∷ decimal count ∷ []) head_visible;
      write = record {
        word_is = refl;
        rev_is = up_to_back 16 rev (omega arith) (omega arith) (omega arith);
        count_is = up_to_back 5 count (omega arith) (omega arith) (omega arith);
        low_rev = low_rev;
        low_count = low;
      };
    }

  -- ---- all lines

  -- the labels as they are read from a place on
  abbrev relabel : ℕ → List Label → List Label
  relabel n [] = []
  relabel n (a ∷ labels) = relabelled n a ∷ relabel (suc n) labels

  abbrev row_texts : List Label → List Slot → List (List ℕ)
  row_texts [] slots = []
  row_texts (a ∷ labels) [] = []
  row_texts (a ∷ labels) (s ∷ slots) = row_text a s ∷ row_texts labels slots

  -- each id is a text, and each blocker a place below the number of labels
  abbrev AreFine : ℕ → List Label → List Slot → Type 0
  AreFine count [] slots = Unit {0}
  AreFine count (a ∷ labels) [] = Unit {0}
  AreFine count (a ∷ labels) (s ∷ slots) = IsUtf8 a.order.id × IsBelow count s.blocker × AreFine count labels slots

  below_of : (count : ℕ) (blocker : Option ℕ) → MatchOption blocker (Unit {0}) (λ j. j < count) → IsBelow count blocker
  below_of count None h place e = absurd cc
  below_of count (Some j) h place e = let same : j ≡ place = cc in subst (λ (p : ℕ). p < count) same h

  fine_of : (count : ℕ) (labels : List Label) (slots : List Slot) → All (λ (a : Label). IsUtf8 a.order.id) labels →
      All (λ (s : Slot). MatchOption s.blocker (Unit {0}) (λ j. j < count)) slots → AreFine count labels slots
  fine_of count [] slots texts placed = tt
  fine_of count (a ∷ labels) [] texts placed = tt
  fine_of count (a ∷ labels) (s ∷ slots) texts placed =
      (texts 0 a (omega arith), below_of count s.blocker (placed 0 s (omega arith)), fine_of count labels slots (λ k d lt. texts (suc k) d (omega arith)) (λ k d lt. placed (suc k) d (omega arith)))

  long_relabel : (n : ℕ) (labels : List Label) → length (relabel n labels) ≡ length labels
  long_relabel n [] = refl
  long_relabel n (a ∷ labels) = ap suc (long_relabel (suc n) labels)

  long_rows : (labels : List Label) (slots : List Slot) → length slots ≡ length labels → length (row_texts labels slots) ≡ length labels
  long_rows [] slots e = refl
  long_rows (a ∷ labels) [] e = absurd (omega arith)
  long_rows (a ∷ labels) (s ∷ slots) e = ap suc (long_rows labels slots (omega arith))

  relabel_alike : (n : ℕ) (labels : List Label) (i : ℕ) (d : Label) → i < length labels → IsAlike (get_or labels i d) (get_or (relabel n labels) i d)
  relabel_alike n [] i d lt = absurd (omega (arith, lt))
  relabel_alike n (a ∷ labels) zero d lt = record { same_id = refl; same_x = refl; same_y = refl; same_boxes = refl; same_min = refl; same_max = refl; same_margin = refl }
  relabel_alike n (a ∷ labels) (suc i) d lt = relabel_alike (suc n) labels i d (omega (arith, lt))

  rows_back : (n count : ℕ) (labels : List Label) (slots : List Slot) → count ≤ 32768 → length slots ≡ length labels → AreFine count labels slots →
      (i : ℕ) (d : Label) → i < length labels → ReadsRow (get_or (row_texts labels slots) i []) (n + i) count (get_or (relabel n labels) i d) (get_or slots i no_slot)
  rows_back n count [] slots low e fine i d lt = absurd (omega (arith, lt))
  rows_back n count (a ∷ labels) [] low e fine i d lt = absurd (omega arith)
  rows_back n count (a ∷ labels) (s ∷ slots) low e fine zero d lt =
      let same : n ≡ n + 0 = omega arith in
      subst (λ (k : ℕ). ReadsRow (row_text a s) k count (relabelled n a) s) same (row_back n count a s fine.0 low fine.1)
  rows_back n count (a ∷ labels) (s ∷ slots) low e fine (suc i) d lt =
      let same : suc n + i ≡ n + suc i = omega arith in
      subst (λ (k : ℕ). ReadsRow (get_or (row_texts labels slots) i []) k count (get_or (relabel (suc n) labels) i d) (get_or slots i no_slot)) same
      (rows_back (suc n) count labels slots low (omega arith) fine.2 i d (omega (arith, lt)))

  parts_rows : (count : ℕ) (labels : List Label) (slots : List Slot) → count ≤ 32768 → length slots ≡ length labels →
      AreFine count labels slots → parts 10 (row_lines labels slots) ≡ row_texts labels slots ++ [] ∷ []
  parts_rows count [] slots low e fine = refl
  parts_rows count (a ∷ labels) [] low e fine = absurd (omega arith)
  parts_rows count (a ∷ labels) (s ∷ slots) low e fine =
      parts_line (row_text a s) (row_lines labels slots) (none_below 32 126 10 (row_text a s) (omega arith) (row_plain 0 count a s fine.0 low fine.1))
      ∙ ap (λ (ls : List (List ℕ)). row_text a s ∷ ls) (parts_rows count labels slots low (omega arith) fine.2)

  lines_of : (bytes : List ℕ) (done : List (List ℕ)) → parts 10 bytes ≡ done ++ [] ∷ [] → (ended_lines bytes ≡ done) × (unended bytes ≡ [])
  lines_of bytes done split =
      let n = length-append done ([] ∷ []) in
      let e : length (done ++ [] ∷ []) - 1 ≡ length done = omega arith in (
        ap (λ (ps : List (List ℕ)). take (length ps - 1) ps) split ∙ front_of done ([] ∷ []) (omega arith) ∙ append-nil done,
        ap (λ (ps : List (List ℕ)). get_or ps (length ps - 1) []) split ∙ ap (λ (k : ℕ). get_or (done ++ [] ∷ []) k []) e ∙ get_or-append_seam done [] [] [],
      )

  -- ---- the text

  module _ (rev : ℕ) (labels : List Label) (slots : List Slot) (told : IsTold rev labels slots) where
    abbrev the_state : State
    the_state = record { rev = rev; labels = relabel 0 labels; slots = slots }

    all_fine : AreFine (length labels) labels slots
    all_fine = fine_of (length labels) labels slots told.texts told.placed

    all_parts : parts 10 (state_text rev labels slots) ≡ (head_text rev (length labels) ∷ row_texts labels slots) ++ [] ∷ []
    all_parts =
        ap (λ (t : List ℕ). parts 10 (t ++ row_lines labels slots)) (head_is rev (length labels))
        ∙ parts_line (head_text rev (length labels)) (row_lines labels slots)
        (none_below 32 126 10 (head_text rev (length labels)) (omega arith) (head_plain rev (length labels) told.low_rev told.few))
        ∙ ap (λ (ls : List (List ℕ)). head_text rev (length labels) ∷ ls) (parts_rows (length labels) labels slots told.few told.one_slot all_fine)

    from_first : (i : ℕ) (d : Label) → ReadsRow (get_or (row_texts labels slots) i []) (0 + i) (length labels) (get_or (relabel 0 labels) i d) (get_or slots i no_slot) →
        ReadsRow (get_or (row_texts labels slots) i []) i (length labels) (get_or (relabel 0 labels) i d) (get_or slots i no_slot)
    from_first i d row =
        let same : 0 + i ≡ i = omega arith in
        subst (λ (k : ℕ). ReadsRow (get_or (row_texts labels slots) i []) k (length labels) (get_or (relabel 0 labels) i d) (get_or slots i no_slot)) same row

    the_rows : WriteRows (row_texts labels slots) (length labels) (relabel 0 labels) slots
    the_rows =
        let a = long_relabel 0 labels in
        let b = long_rows labels slots told.one_slot in
        let c = told.one_slot in
        record {
          one_label = omega arith;
          one_slot = omega arith;
          written = λ i d lt. from_first i d (rows_back 0 (length labels) labels slots told.few told.one_slot all_fine i d (omega arith));
          differ = λ i j d less lt e.
              told.differ i j d less (omega arith) ((relabel_alike 0 labels i d (omega arith)).same_id ∙ e ∙ sym (relabel_alike 0 labels j d (omega arith)).same_id);
        }

    begins : Begin (head_text rev (length labels) ∷ row_texts labels slots) (length (relabel 0 labels)) the_state
    begins = rw (long_relabel 0 labels) (record {
      head = head_text rev (length labels);
      rows = row_texts labels slots;
      lines_are = refl;
      its_head = head_back rev (length labels) told.low_rev told.few;
      its_rows = the_rows;
    })

    -- the text of a state is a file of one state, which has the same revision and slots, and labels that are alike
    pub text_reads_back : (state : State) × AreStates (state_text rev labels slots) (state ∷ []) × IsStateWith rev labels slots state
    text_reads_back =
        let lines = lines_of (state_text rev labels slots) (head_text rev (length labels) ∷ row_texts labels slots) all_parts in (
          the_state,
          record { ended = lines.1; written = (ended_lines (state_text rev labels slots), [], sym (append-nil (ended_lines (state_text rev labels slots))), rw lines.0 begins, refl) },
          record { rev_is = refl; labels_are = record { one_each = long_relabel 0 labels; alike = relabel_alike 0 labels }; slots_are = refl },
        )
