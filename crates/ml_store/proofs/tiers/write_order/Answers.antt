use Rattle.std.proofs.Common.{ℕ, ◌≡◌, ◌≢◌, ◌+◌, ◌<◌, ◌≤◌, ◌↔◌, List, length, get_or, set, Contains, inl, inr, sym, ap, ◌∙◌, arith, length-set, get_or-set_same, get_or-set_other, below_more}
use Rattle.std.proofs.lemmas.Bool.{cases_lt}
use Rattle.std.proofs.lemmas.List.{get_or_default}
use Rattle.ml_ratio.proofs.lemmas.Lists.{same_place}
use Rattle.ml_store.specs.Rows.{AreDifferent}
use Rattle.ml_store.specs.Tiers.{LeadsBack}
use Rattle.ml_store.proofs.tiers.write_order.Goals as goal

-- each of the numbers is below their count
number_low : (order : List ℕ) (k : ℕ) → ((n : ℕ) → Contains order n ↔ n < length order) → k < length order → get_or order k 0 < length order
number_low order k first lt = (first (get_or order k 0)).0 (k, lt, get_or_default order k (get_or order k 0) 0 lt)

-- one more number is written into its cell
written_more : (cells order : List ℕ) (i : ℕ) → i < length cells → ((k : ℕ) → k < i → get_or cells k 0 ≡ get_or order k 0) → (k : ℕ) → k < i + 1 →
    get_or (set cells i (get_or order i 0)) k 0 ≡ get_or order k 0
written_more cells order i lt written = below_more (λ k. get_or (set cells i (get_or order i 0)) k 0 ≡ get_or order k 0) i
    (λ k h. let no : k ≢ i = (λ e. omega arith) in get_or-set_other cells i k (get_or order i 0) 0 no ∙ written k h) (get_or-set_same cells i (get_or order i 0) 0 lt)

-- the cells behind it stay
kept_more : (cells : List ℕ) (i v : ℕ) → ((k : ℕ) → i ≤ k → k < 32768 → get_or cells k 0 ≡ k) → (k : ℕ) → i + 1 ≤ k → k < 32768 → get_or (set cells i v) k 0 ≡ k
kept_more cells i v kept k le lt = let no : k ≢ i = (λ e. omega arith) in get_or-set_other cells i k v 0 no ∙ kept k (omega arith) lt

-- and one more number is told its cell
placed_more : (cell_of order : List ℕ) (i : ℕ) → get_or order i 0 < length cell_of → AreDifferent order → i < length order → ((k : ℕ) → k < i → get_or cell_of (get_or order k 0) 0 ≡ k) →
    (k : ℕ) → k < i + 1 → get_or (set cell_of (get_or order i 0) i) (get_or order k 0) 0 ≡ k
placed_more cell_of order i low differ lt placed = below_more (λ k. get_or (set cell_of (get_or order i 0) i) (get_or order k 0) 0 ≡ k) i
    (λ k h.
    let no : get_or order k 0 ≢ get_or order i 0 = (λ e. let same : k ≡ i = same_place order k i 0 differ (omega arith) lt e in omega arith) in
    get_or-set_other cell_of (get_or order i 0) (get_or order k 0) i 0 no ∙ placed k h)
    (get_or-set_same cell_of (get_or order i 0) i 0 low)

-- the other numbers are told what they were
left_more : (cell_of order : List ℕ) (i : ℕ) → get_or order i 0 < length order → ((n : ℕ) → length order ≤ n → n < 32768 → get_or cell_of n 0 ≡ n) →
    (n : ℕ) → length order ≤ n → n < 32768 → get_or (set cell_of (get_or order i 0) i) n 0 ≡ n
left_more cell_of order i low left n le lt = let no : n ≢ get_or order i 0 = (λ e. omega arith) in get_or-set_other cell_of (get_or order i 0) n i 0 no ∙ left n le lt

-- once all numbers are written, each cell's number leads back to it
told_all : (cells cell_of order : List ℕ) → length order ≤ 32768 → ((n : ℕ) → Contains order n ↔ n < length order) → ((k : ℕ) → k < length order → get_or cells k 0 ≡ get_or order k 0) →
    ((k : ℕ) → length order ≤ k → k < 32768 → get_or cells k 0 ≡ k) → ((k : ℕ) → k < length order → get_or cell_of (get_or order k 0) 0 ≡ k) →
    ((n : ℕ) → length order ≤ n → n < 32768 → get_or cell_of n 0 ≡ n) → LeadsBack cells cell_of
told_all cells cell_of order few first written kept placed left k lt =
    elim (cases_lt k (length order)) [
      | inl less ↦
          let low : get_or order k 0 < length order = number_low order k first less in
          let is : get_or cells k 0 ≡ get_or order k 0 = written k less in
          (omega arith, ap (λ n. get_or cell_of n 0) is ∙ placed k less)
      | inr more ↦
          let is : get_or cells k 0 ≡ k = kept k more lt in
          (omega arith, ap (λ n. get_or cell_of n 0) is ∙ left k more lt)
    ]

-- and each number's cell has it
found_all : (cells cell_of order : List ℕ) → length order ≤ 32768 → ((n : ℕ) → Contains order n ↔ n < length order) → ((k : ℕ) → k < length order → get_or cells k 0 ≡ get_or order k 0) →
    ((k : ℕ) → length order ≤ k → k < 32768 → get_or cells k 0 ≡ k) → ((k : ℕ) → k < length order → get_or cell_of (get_or order k 0) 0 ≡ k) →
    ((n : ℕ) → length order ≤ n → n < 32768 → get_or cell_of n 0 ≡ n) → LeadsBack cell_of cells
found_all cells cell_of order few first written kept placed left n lt =
    elim (cases_lt n (length order)) [
      | inl less ↦
          let there : Contains order n = (first n).1 less in
          let in' : there.0 < length order = there.1 in
          let is : get_or order there.0 0 ≡ n = get_or_default order there.0 0 n in' ∙ there.2 in
          let at : get_or cell_of n 0 ≡ there.0 = sym (ap (λ m. get_or cell_of m 0) is) ∙ placed there.0 in' in
          (omega arith, ap (λ c. get_or cells c 0) at ∙ written there.0 in' ∙ is)
      | inr more ↦
          let at : get_or cell_of n 0 ≡ n = left n more lt in
          (omega arith, ap (λ c. get_or cells c 0) at ∙ kept n more lt)
    ]

pub overflow_cast-number : goal.overflow_cast-number
overflow_cast-number c =
    let low = number_low c.args.order.now c.loop-cell.cell c.requires.first (omega arith) in
    let few = c.requires.few in omega arith

pub index_mut-requires-in-loop-cell : goal.index_mut-requires-in-loop-cell
index_mut-requires-in-loop-cell c =
    let low = number_low c.args.order.now c.loop-cell.cell c.requires.first (omega arith) in
    let few = c.requires.few in
    let many : length c.loop-cell.cell_of.items ≡ 32768 = c.loop-cell.invariant.all_numbers in omega arith

pub loop-cell-preserved : goal.loop-cell-preserved
loop-cell-preserved c =
    let in' : c.loop-cell.cell < length c.args.order.now = omega arith in
    let low = number_low c.args.order.now c.loop-cell.cell c.requires.first in' in
    let few = c.requires.few in
    let cells : length c.loop-cell.cells.items ≡ 32768 = c.loop-cell.invariant.all_cells in
    let numbers : length c.loop-cell.cell_of.items ≡ 32768 = c.loop-cell.invariant.all_numbers in
    record {
      all_cells = length-set c.loop-cell.cells.items _ _ ∙ cells;
      all_numbers = length-set c.loop-cell.cell_of.items _ _ ∙ numbers;
      written = written_more c.loop-cell.cells.items c.args.order.now c.loop-cell.cell (omega arith) c.loop-cell.invariant.written;
      kept = kept_more c.loop-cell.cells.items c.loop-cell.cell _ c.loop-cell.invariant.kept;
      placed = placed_more c.loop-cell.cell_of.items c.args.order.now c.loop-cell.cell (omega arith) c.requires.differ in' c.loop-cell.invariant.placed;
      left = left_more c.loop-cell.cell_of.items c.args.order.now c.loop-cell.cell low c.loop-cell.invariant.left;
    }

pub returns-clause-told : goal.returns-clause-told
returns-clause-told c =
    told_all c.loop-cell.cells.items c.loop-cell.cell_of.items c.args.order.now c.requires.few c.requires.first (λ k h. c.loop-cell.invariant.written k (omega arith))
    (λ k h g. c.loop-cell.invariant.kept k (omega arith) g) (λ k h. c.loop-cell.invariant.placed k (omega arith)) c.loop-cell.invariant.left

pub returns-clause-found : goal.returns-clause-found
returns-clause-found c =
    found_all c.loop-cell.cells.items c.loop-cell.cell_of.items c.args.order.now c.requires.few c.requires.first (λ k h. c.loop-cell.invariant.written k (omega arith))
    (λ k h g. c.loop-cell.invariant.kept k (omega arith) g) (λ k h. c.loop-cell.invariant.placed k (omega arith)) c.loop-cell.invariant.left
