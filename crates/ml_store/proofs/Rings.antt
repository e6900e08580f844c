-- The order that rings of cells have, place by place.
use Rattle.std.proofs.Common.{◌≡◌, ◌≢◌, ℕ, suc, ◌+◌, ◌-◌, ◌*◌, ◌/◌, ◌%◌, ◌<◌, ◌≤◌, List, [], ◌∷◌, ◌++◌, length, get_or, set, take, drop, inl, inr, refl, sym, ap, ◌∙◌, arith}
use Rattle.std.proofs.Common.{length-set, get_or-set_same, get_or-set_other}
use Rattle.std.specs.List.{swap}
use Rattle.std.proofs.lemmas.Bool.{cases_lt, cases_eq}
use Rattle.std.proofs.lemmas.List.{get_or_default, get_or-take, get_or-drop, get_or_append_left, get_or-append_right, length-take-le, length-drop, length-append, same_lists}
use Rattle.std.proofs.lemmas.List.Edits.{length-swap, swapped_from_swap}
use Rattle.ml_store.specs.Tiers.{IsOnceEach, turned, order_of, cell_at, AreTiers, AreAll, shifted}
use Rattle.ml_store.proofs.Orders.{is_moved_back, is_moved_on}

-- ---- a ring

length_ring : (size head : ℕ) (cells : List ℕ) → head ≤ size → size ≤ length cells → length (turned head (take size cells)) ≡ size
length_ring size head cells le within =
    let n : length (take size cells) ≡ size = length-take-le size cells within in
    let a : length (drop head (take size cells)) ≡ length (take size cells) - head = length-drop head (take size cells) in
    let b : length (take head (take size cells)) ≡ head = length-take-le head (take size cells) (omega arith) in
    let all = length-append (drop head (take size cells)) (take head (take size cells)) in
    omega arith

-- the first places of a ring have the cells from its head on
read_near : (size head : ℕ) (cells rest : List ℕ) (k d : ℕ) → size ≤ length cells → head + k < size → get_or (turned head (take size cells) ++ rest) k d ≡ get_or cells (head + k) d
read_near size head cells rest k d within near =
    let n : length (take size cells) ≡ size = length-take-le size cells within in
    let a : length (drop head (take size cells)) ≡ length (take size cells) - head = length-drop head (take size cells) in
    let all = length_ring size head cells (omega arith) within in
    get_or_append_left (turned head (take size cells)) rest d k (omega arith)
    ∙ get_or_append_left (drop head (take size cells)) (take head (take size cells)) d k (omega arith)
    ∙ get_or-drop head (take size cells) k d
    ∙ get_or-take size cells (head + k) d near

-- its last places have the cells before its head
read_far : (size head : ℕ) (cells rest : List ℕ) (k d : ℕ) → size ≤ length cells → head ≤ size → k < size → size ≤ head + k →
    get_or (turned head (take size cells) ++ rest) k d ≡ get_or cells (head + k - size) d
read_far size head cells rest k d within le lt far =
    let n : length (take size cells) ≡ size = length-take-le size cells within in
    let a : length (drop head (take size cells)) ≡ length (take size cells) - head = length-drop head (take size cells) in
    let left : length (drop head (take size cells)) ≡ size - head = omega arith in
    let all = length_ring size head cells le within in
    let e : k - (size - head) ≡ head + k - size = omega arith in
    get_or_append_left (turned head (take size cells)) rest d k (omega arith)
    ∙ get_or-append_right (drop head (take size cells)) (take head (take size cells)) (size - head) k d left (omega arith)
    ∙ ap (λ j. get_or (take head (take size cells)) j d) e
    ∙ get_or-take head (take size cells) (head + k - size) d (omega arith)
    ∙ get_or-take size cells (head + k - size) d (omega arith)

-- behind a ring
read_behind : (size head : ℕ) (cells rest : List ℕ) (k d : ℕ) → size ≤ length cells → head ≤ size → size ≤ k → get_or (turned head (take size cells) ++ rest) k d ≡ get_or rest (k - size) d
read_behind size head cells rest k d within le far =
    get_or-append_right (turned head (take size cells)) rest size k d (length_ring size head cells le within) far

-- ---- all rings

-- the order has as many places as there are cells
pub length_order : (heads cells : List ℕ) → length cells ≡ length heads * 128 → ((b : ℕ) → b < length heads → get_or heads b 0 < 128) → length (order_of heads cells) ≡ length cells
unfolding order_of
length_order [] cells many turns = omega arith
length_order (head ∷ heads) cells many turns =
    let small : head < 128 = turns 0 (omega arith) in
    let ring = length_ring 128 head cells (omega arith) (omega arith) in
    let left : length (drop 128 cells) ≡ length cells - 128 = length-drop 128 cells in
    let rest : length (order_of heads (drop 128 cells)) ≡ length (drop 128 cells) = length_order heads (drop 128 cells) (omega arith) (λ b lt. turns (suc b) (omega arith)) in
    let all = length-append (turned head (take 128 cells)) (order_of heads (drop 128 cells)) in
    omega arith

-- each place of the order has the number of its cell
pub read_order : (heads cells : List ℕ) (k d : ℕ) → length cells ≡ length heads * 128 → ((b : ℕ) → b < length heads → get_or heads b 0 < 128) → k < length cells →
    get_or (order_of heads cells) k d ≡ get_or cells (cell_at heads k) d
unfolding order_of
read_order [] cells k d many turns lt = absurd (omega arith)
read_order (head ∷ heads) cells k d many turns lt =
    let small : head < 128 = turns 0 (omega arith) in
    elim (cases_lt k 128) [
      | inl near ↦
          let first : k / 128 ≡ 0 = omega arith in
          let is : get_or (head ∷ heads) (k / 128) 0 ≡ head = ap (λ b. get_or (head ∷ heads) b 0) first in
          elim (cases_lt (head + k) 128) [
            | inl below ↦
                let e : head + k ≡ cell_at (head ∷ heads) k = omega arith in
                read_near 128 head cells (order_of heads (drop 128 cells)) k d (omega arith) below ∙ ap (λ c. get_or cells c d) e
            | inr above ↦
                let e : head + k - 128 ≡ cell_at (head ∷ heads) k = omega arith in
                read_far 128 head cells (order_of heads (drop 128 cells)) k d (omega arith) (omega arith) near above ∙ ap (λ c. get_or cells c d) e
          ]
      | inr far ↦
          let next : k / 128 ≡ suc ((k - 128) / 128) = omega arith in
          let is : get_or (head ∷ heads) (k / 128) 0 ≡ get_or heads ((k - 128) / 128) 0 = ap (λ b. get_or (head ∷ heads) b 0) next in
          let e : 128 + cell_at heads (k - 128) ≡ cell_at (head ∷ heads) k = omega arith in
          let left : length (drop 128 cells) ≡ length cells - 128 = length-drop 128 cells in
          read_behind 128 head cells (order_of heads (drop 128 cells)) k d (omega arith) (omega arith) far
          ∙ read_order heads (drop 128 cells) (k - 128) d (omega arith) (λ b lt. turns (suc b) (omega arith)) (omega arith)
          ∙ get_or-drop 128 cells (cell_at heads (k - 128)) d
          ∙ ap (λ c. get_or cells c d) e
    ]

-- ---- places and cells

-- a place in a block whose head is known
pub cell_in : (heads : List ℕ) (k b h : ℕ) → k / 128 ≡ b → get_or heads b 0 ≡ h → cell_at heads k ≡ 128 * b + (k % 128 + h) % 128
cell_in heads k b h here is =
    let e : get_or heads (k / 128) 0 ≡ h = ap (λ j. get_or heads j 0) here ∙ is in
    omega arith

-- the cell of a place of the order is one of those that there are
pub cell_low : (heads : List ℕ) (k : ℕ) → k < 32768 → cell_at heads k < 32768
cell_low heads k lt = omega arith

-- in a ring with one head no two places have one cell
ring_apart : (i j h : ℕ) → i < 128 → j < 128 → (i + h) % 128 ≡ (j + h) % 128 → i ≡ j
ring_apart i j h a b e = omega arith

-- a head further on has the cells of places as much further on
ring_sum : (i j h by : ℕ) → (i + by) % 128 ≡ j → (i + (h + by) % 128) % 128 ≡ (j + h) % 128
ring_sum i j h by e = omega arith

-- no two places have one cell
pub cell_apart : (heads : List ℕ) (i j : ℕ) → cell_at heads i ≡ cell_at heads j → i ≡ j
cell_apart heads i j e =
    let block : i / 128 ≡ j / 128 = omega arith in
    let head : get_or heads (i / 128) 0 ≡ get_or heads (j / 128) 0 = ap (λ b. get_or heads b 0) block in
    let ring : (i % 128 + get_or heads (j / 128) 0) % 128 ≡ (j % 128 + get_or heads (j / 128) 0) % 128 =
    ap (λ h. (i % 128 + h) % 128) (sym head) ∙ (let f : (i % 128 + get_or heads (i / 128) 0) % 128 ≡ (j % 128 + get_or heads (j / 128) 0) % 128 = omega arith in f) in
    let same : i % 128 ≡ j % 128 = ring_apart (i % 128) (j % 128) (get_or heads (j / 128) 0) (omega arith) (omega arith) ring in
    omega arith

-- what the order has at a place of all
pub read_tiers : (cells cell_of heads : List ℕ) (k d : ℕ) → AreTiers cells cell_of heads → k < 32768 → get_or (order_of heads cells) k d ≡ get_or cells (cell_at heads k) d
read_tiers cells cell_of heads k d t lt =
    let many : length cells ≡ 32768 = t.all_cells in
    let blocks : length heads ≡ 256 = t.all_heads in
    read_order heads cells k d (omega arith) (λ b less. t.turns b (omega arith)) (omega arith)

-- how many places the order has
pub length_tiers : (cells cell_of heads : List ℕ) → AreTiers cells cell_of heads → length (order_of heads cells) ≡ 32768
length_tiers cells cell_of heads t =
    let many : length cells ≡ 32768 = t.all_cells in
    let blocks : length heads ≡ 256 = t.all_heads in
    length_order heads cells (omega arith) (λ b less. t.turns b (omega arith)) ∙ many

-- each place of the order is one of all
pub place_low : (cells cell_of heads : List ℕ) (k : ℕ) → AreTiers cells cell_of heads → k < length (order_of heads cells) → k < 32768
place_low cells cell_of heads k t lt = let many = length_tiers cells cell_of heads t in omega arith

-- the number in the cell of a place stands there
pub number_is : (cells cell_of heads : List ℕ) (k cell number : ℕ) → AreTiers cells cell_of heads → k < length (order_of heads cells) → cell ≡ cell_at heads k → number ≡ get_or cells cell number →
    number ≡ get_or (order_of heads cells) k 0
number_is cells cell_of heads k cell number t lt at read =
    let many : length cells ≡ 32768 = t.all_cells in
    let in' = place_low cells cell_of heads k t lt in
    let low : cell_at heads k < 32768 = cell_low heads k in' in
    read ∙ get_or_default cells cell number 0 (omega arith) ∙ ap (λ c. get_or cells c 0) at ∙ sym (read_tiers cells cell_of heads k 0 t in')

-- a number stands at the place of its cell
pub place_is : (cells cell_of heads : List ℕ) (number cell place : ℕ) → AreTiers cells cell_of heads → number < 32768 → cell ≡ get_or cell_of number cell →
    cell_at heads place ≡ cell → place < 32768 → get_or (order_of heads cells) place 0 ≡ number
place_is cells cell_of heads number cell place t low read at in' =
    let many : length cell_of ≡ 32768 = t.all_numbers in
    read_tiers cells cell_of heads place 0 t in' ∙ ap (λ c. get_or cells c 0) (at ∙ read ∙ get_or_default cell_of number cell 0 (omega arith)) ∙ (t.found number low).1

-- where no block is turned, each place is its own cell
cell_flat : (heads : List ℕ) (k : ℕ) → ((b : ℕ) → b < 256 → get_or heads b 0 ≡ 0) → k < 32768 → cell_at heads k ≡ k
cell_flat heads k flat lt =
    let zero' : get_or heads (k / 128) 0 ≡ 0 = flat (k / 128) (omega arith) in
    omega arith

-- and has what is in that cell
pub read_flat : (cells cell_of heads : List ℕ) (k d : ℕ) → AreTiers cells cell_of heads → ((b : ℕ) → b < 256 → get_or heads b 0 ≡ 0) → k < 32768 →
    get_or (order_of heads cells) k d ≡ get_or cells k d
read_flat cells cell_of heads k d t flat lt = read_tiers cells cell_of heads k d t lt ∙ ap (λ c. get_or cells c d) (cell_flat heads k flat lt)

-- so the numbers that are written first come first
pub first_flat : (cells cell_of heads order : List ℕ) → AreTiers cells cell_of heads → ((b : ℕ) → b < 256 → get_or heads b 0 ≡ 0) → length order ≤ 32768 →
    ((k : ℕ) → k < length order → get_or cells k 0 ≡ get_or order k 0) → take (length order) (order_of heads cells) ≡ order
first_flat cells cell_of heads order t flat few written =
    let many : length cells ≡ 32768 = t.all_cells in
    let all = length_tiers cells cell_of heads t in
    let size = length-take-le (length order) (order_of heads cells) (omega arith) in
    same_lists (take (length order) (order_of heads cells)) order size (λ k d h.
    let lt : k < length order = omega arith in
    get_or-take (length order) (order_of heads cells) k d lt ∙ read_flat cells cell_of heads k d t flat (omega arith)
    ∙ get_or_default cells k d 0 (omega arith) ∙ written k lt ∙ get_or_default order k 0 d lt)

-- the order has all numbers, each once
pub all_in_tiers : (cells cell_of heads : List ℕ) → AreTiers cells cell_of heads → AreAll (order_of heads cells)
unfolding IsOnceEach
all_in_tiers cells cell_of heads t =
    let size = length_tiers cells cell_of heads t in
    let many : length cells ≡ 32768 = t.all_cells in
    record {
      many = size;
      low = λ k d lt.
          (let c : cell_at heads k < 32768 = cell_low heads k (omega arith) in
          let e = read_tiers cells cell_of heads k d t (omega arith) ∙ get_or_default cells (cell_at heads k) d 0 (omega arith) in
          rw e ((t.told (cell_at heads k) c).0));
      once = λ i j d less lt e.
          (let a : cell_at heads i < 32768 = cell_low heads i (omega arith) in
          let b : cell_at heads j < 32768 = cell_low heads j (omega arith) in
          let f : get_or cells (cell_at heads i) 0 ≡ get_or cells (cell_at heads j) 0 =
          get_or_default cells (cell_at heads i) 0 d (omega arith) ∙ sym (read_tiers cells cell_of heads i d t (omega arith)) ∙ e
          ∙ read_tiers cells cell_of heads j d t (omega arith) ∙ get_or_default cells (cell_at heads j) d 0 (omega arith) in
          let same : cell_at heads i ≡ cell_at heads j = sym ((t.told (cell_at heads i) a).1) ∙ ap (λ n. get_or cell_of n 0) f ∙ (t.told (cell_at heads j) b).1 in
          let no : i ≡ j = cell_apart heads i j same in
          absurd (omega arith));
    }

-- ---- two cells that change numbers

-- so do their places
pub swapped_order : (cells cell_of heads now : List ℕ) (i j : ℕ) → AreTiers cells cell_of heads → i < 32768 → j < 32768 →
    (one other : ℕ) → one ≡ cell_at heads i → other ≡ cell_at heads j → now ≡ swap cells one other → order_of heads now ≡ swap (order_of heads cells) i j
swapped_order cells cell_of heads now i j t a b one other first second changed =
    let is : now ≡ swap cells (cell_at heads i) (cell_at heads j) = changed ∙ (λ x. swap cells (first x) (second x)) in
    let many : length cells ≡ 32768 = t.all_cells in
    let blocks : length heads ≡ 256 = t.all_heads in
    let size = length_tiers cells cell_of heads t in
    let long : length now ≡ 32768 = ap length is ∙ length-swap cells (cell_at heads i) (cell_at heads j) ∙ many in
    let left : length (order_of heads now) ≡ 32768 = length_order heads now (omega arith) (λ b less. t.turns b (omega arith)) ∙ long in
    let right = length-swap (order_of heads cells) i j in
    let ci : cell_at heads i < 32768 = cell_low heads i a in
    let cj : cell_at heads j < 32768 = cell_low heads j b in
    same_lists (order_of heads now) (swap (order_of heads cells) i j) (omega arith) (λ k d h.
    let in' : k < 32768 = omega arith in
    let read : get_or (order_of heads now) k d ≡ get_or now (cell_at heads k) d = read_order heads now k d (omega arith) (λ b less. t.turns b (omega arith)) (omega arith) in
    let c = swapped_from_swap cells now (cell_at heads i) (cell_at heads j) d (omega arith) (omega arith) is in
    let o = swapped_from_swap (order_of heads cells) (swap (order_of heads cells) i j) i j d (omega arith) (omega arith) refl in
    elim (cases_eq k i) [
      | inl here ↦
          read ∙ ap (λ m. get_or now (cell_at heads m) d) here ∙ c.0 ∙ sym (read_tiers cells cell_of heads j d t b) ∙ sym o.0 ∙ ap (λ m. get_or (swap (order_of heads cells) i j) m d) (sym here)
      | inr past ↦ elim (cases_eq k j) [
        | inl there ↦
            read ∙ ap (λ m. get_or now (cell_at heads m) d) there ∙ c.1 ∙ sym (read_tiers cells cell_of heads i d t a) ∙ sym o.1 ∙ ap (λ m. get_or (swap (order_of heads cells) i j) m d) (sym there)
        | inr none ↦
            read ∙ c.2 (cell_at heads k) (λ e. past (cell_apart heads k i e)) (λ e. none (cell_apart heads k j e)) ∙ sym (read_tiers cells cell_of heads k d t in') ∙ sym (o.2 k past none)
      ]
    ])

-- ---- a ring that turns

-- a head that is written is one, too
pub head_written : (cells cell_of heads : List ℕ) (b h : ℕ) → AreTiers cells cell_of heads → b < 256 → h < 128 → AreTiers cells cell_of (set heads b h)
head_written cells cell_of heads b h t lt small =
    let blocks : length heads ≡ 256 = t.all_heads in
    record {
      all_cells = t.all_cells;
      all_numbers = t.all_numbers;
      all_heads = length-set heads b h ∙ blocks;
      told = t.told;
      found = t.found;
      turns = λ i less. elim (cases_eq i b) [
        | inl same ↦ rw same (rw (get_or-set_same heads b h 0 (omega arith)) small)
        | inr other ↦ rw (get_or-set_other heads b i h 0 other) (t.turns i less)
      ];
    }

-- the heads when that of one block goes on by so many cells
abbrev pub turned_by : List ℕ → ℕ → ℕ → List ℕ
turned_by heads b by = set heads b ((get_or heads b 0 + by) % 128)

pub tiers_turned : (cells cell_of heads : List ℕ) (b by : ℕ) → AreTiers cells cell_of heads → b < 256 → AreTiers cells cell_of (turned_by heads b by)
tiers_turned cells cell_of heads b by t lt = head_written cells cell_of heads b ((get_or heads b 0 + by) % 128) t lt (omega arith)

length_turned : (cells cell_of heads : List ℕ) (b by : ℕ) → AreTiers cells cell_of heads → b < 256 → length (order_of (turned_by heads b by) cells) ≡ length (order_of heads cells)
length_turned cells cell_of heads b by t lt = length_tiers cells cell_of (turned_by heads b by) (tiers_turned cells cell_of heads b by t lt) ∙ sym (length_tiers cells cell_of heads t)

-- the places of other blocks keep their numbers
turned_outside : (cells cell_of heads : List ℕ) (b by k d : ℕ) → AreTiers cells cell_of heads → b < 256 → k < 32768 → k / 128 ≢ b →
    get_or (order_of (turned_by heads b by) cells) k d ≡ get_or (order_of heads cells) k d
turned_outside cells cell_of heads b by k d t lt less other =
    read_tiers cells cell_of (turned_by heads b by) k d (tiers_turned cells cell_of heads b by t lt) less
    ∙ ap (λ g. get_or cells (k / 128 * 128 + (k % 128 + g) % 128) d) (get_or-set_other heads b (k / 128) ((get_or heads b 0 + by) % 128) 0 other)
    ∙ sym (read_tiers cells cell_of heads k d t less)

-- a place of the block has the number that stood so many places on, around the ring
turned_within : (cells cell_of heads : List ℕ) (b by k j d : ℕ) → AreTiers cells cell_of heads → b < 256 → k < 32768 → j < 32768 → k / 128 ≡ b → j / 128 ≡ b → (k % 128 + by) % 128 ≡ j % 128 →
    get_or (order_of (turned_by heads b by) cells) k d ≡ get_or (order_of heads cells) j d
turned_within cells cell_of heads b by k j d t lt less lower here there on =
    let small : get_or heads b 0 < 128 = t.turns b lt in
    let blocks : length heads ≡ 256 = t.all_heads in
    let is : get_or (turned_by heads b by) b 0 ≡ (get_or heads b 0 + by) % 128 = get_or-set_same heads b ((get_or heads b 0 + by) % 128) 0 (omega arith) in
    let p = cell_in (turned_by heads b by) k b ((get_or heads b 0 + by) % 128) here is in
    let q = cell_in heads j b (get_or heads b 0) there refl in
    let round = ring_sum (k % 128) (j % 128) (get_or heads b 0) by on in
    let e : cell_at (turned_by heads b by) k ≡ cell_at heads j = p ∙ ap (λ c. 128 * b + c) round ∙ sym q in
    read_tiers cells cell_of (turned_by heads b by) k d (tiers_turned cells cell_of heads b by t lt) less ∙ ap (λ c. get_or cells c d) e ∙ sym (read_tiers cells cell_of heads j d t lower)

-- a block that ends within the order is one of those that there are
pub block_low : (cells cell_of heads : List ℕ) (b : ℕ) → AreTiers cells cell_of heads → 128 * b + 127 < length (order_of heads cells) → b < 256
block_low cells cell_of heads b t lt = let many = length_tiers cells cell_of heads t in omega arith

-- the head goes back by one: the block's last number comes to stand first in it
pub turned_back : (cells cell_of heads : List ℕ) (b : ℕ) → AreTiers cells cell_of heads → b < 256 → order_of (turned_by heads b 127) cells ≡ shifted (order_of heads cells) (128 * b + 127) (128 * b)
turned_back cells cell_of heads b t lt =
    let many = length_tiers cells cell_of heads t in
    is_moved_back (order_of heads cells) (order_of (turned_by heads b 127) cells) (128 * b + 127) (128 * b) (omega arith) (omega arith) (length_turned cells cell_of heads b 127 t lt)
    (λ k d less. turned_outside cells cell_of heads b 127 k d t lt (omega arith) (λ e. omega arith))
    (λ d. turned_within cells cell_of heads b 127 (128 * b) (128 * b + 127) d t lt (omega arith) (omega arith) (omega arith) (omega arith) (omega arith))
    (λ k d le less. turned_within cells cell_of heads b 127 (k + 1) k d t lt (omega arith) (omega arith) (omega arith) (omega arith) (omega arith))
    (λ k d more less. turned_outside cells cell_of heads b 127 k d t lt (omega arith) (λ e. omega arith))

-- the head goes on by one: the block's first number comes to stand last in it
pub turned_on : (cells cell_of heads : List ℕ) (b : ℕ) → AreTiers cells cell_of heads → b < 256 → order_of (turned_by heads b 1) cells ≡ shifted (order_of heads cells) (128 * b) (128 * b + 127)
turned_on cells cell_of heads b t lt =
    let many = length_tiers cells cell_of heads t in
    is_moved_on (order_of heads cells) (order_of (turned_by heads b 1) cells) (128 * b) (128 * b + 127) (omega arith) (omega arith) (length_turned cells cell_of heads b 1 t lt)
    (λ k d less. turned_outside cells cell_of heads b 1 k d t lt (omega arith) (λ e. omega arith))
    (λ d. turned_within cells cell_of heads b 1 (128 * b + 127) (128 * b) d t lt (omega arith) (omega arith) (omega arith) (omega arith) (omega arith))
    (λ k d le less. turned_within cells cell_of heads b 1 k (k + 1) d t lt (omega arith) (omega arith) (omega arith) (omega arith) (omega arith))
    (λ k d more less. turned_outside cells cell_of heads b 1 k d t lt (omega arith) (λ e. omega arith))
