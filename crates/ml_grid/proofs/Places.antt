-- The cells of a hull by their places.
use Rattle.std.proofs.Common.{◌≡◌, ◌∙◌, ap, sym, refl, ℕ, ◌+◌, ◌*◌, ◌/◌, ◌%◌, ◌<◌, arith, ℤ, pos, ◌+ℤ◌, ◌-ℤ◌, ◌≤ℤ◌}
use Rattle.std.proofs.lemmas.Int.{ints}
use Rattle.std.proofs.lemmas.Nat.{mul-add-lt, div-mul-add, mod-mul-add, div_below, mod_below, div-add-mod'}
use Rattle.std.specs.Int.RustNames.{unsigned_abs}
use Rattle.ml_cone.specs.Cells.{IsAmongCells}
use Rattle.ml_cone.specs.declared.cells.Cells.{Cells}
use Rattle.ml_grid.specs.Cell.{same_cell}
use Rattle.ml_grid.specs.Count.{count_between, cell_count, cell_in}
use Rattle.ml_grid.specs.declared.cell.Cell.{Cell}

span_is : (c x : ℤ) → c ≤ℤ x → (c +ℤ pos (unsigned_abs (x -ℤ c))) ≡ x
span_is c x h = omega (arith, ints)

span_less : (c x d : ℤ) → c ≤ℤ x → x ≤ℤ d → unsigned_abs (x -ℤ c) < count_between c d
span_less c x d h i = omega (arith, ints)

-- the column n places behind the first one is one of the columns if there are more than n
pub span_in : (c d : ℤ) (n : ℕ) → c ≤ℤ d → n < count_between c d → (c ≤ℤ (c +ℤ pos n)) × ((c +ℤ pos n) ≤ℤ d)
span_in c d n h i = (omega (arith, ints), omega (arith, ints))

span_one : (c : ℤ) (m n : ℕ) → (c +ℤ pos m) ≡ (c +ℤ pos n) → m ≡ n
span_one c m n e = omega (arith, ints)

-- the cell at a place is among the cells
pub among_at : (cells : Cells) → cells.x0 ≤ℤ cells.x1 → cells.y0 ≤ℤ cells.y1 → (i : ℕ) → i < cell_count cells → IsAmongCells cells (cell_in cells i).x (cell_in cells i).y
among_at cells h k i low =
    let rows = count_between cells.y0 cells.y1 in
    let x = span_in cells.x0 cells.x1 (i / rows) h (div_below i rows (count_between cells.x0 cells.x1) (omega arith) low) in
    let y = span_in cells.y0 cells.y1 (i % rows) k (mod_below i rows (omega arith)) in
    (x.0, x.1, y.0, y.1)

none_more : (c : ℤ) → (c +ℤ pos 0) ≡ c
none_more c = omega (arith, ints)

one_more : (c d : ℤ) (n : ℕ) → d ≡ (c +ℤ pos n) → (c +ℤ pos (n + 1)) ≡ (d +ℤ pos 1)
one_more c d n e = omega (arith, ints)

-- at the first place is the cell of the first column and the first row
pub first_place : (cells : Cells) → cell_in cells 0 ≡ (record { band = cells.band; x = cells.x0; y = cells.y0 })
first_place cells =
    let rows = count_between cells.y0 cells.y1 in
    let some : 0 < rows = omega arith in
    let at_x : (cells.x0 +ℤ pos (0 / rows)) ≡ cells.x0 = ap (λ (n : ℕ). cells.x0 +ℤ pos n) (no_rows rows some).0 ∙ none_more cells.x0 in
    let at_y : (cells.y0 +ℤ pos (0 % rows)) ≡ cells.y0 = ap (λ (n : ℕ). cells.y0 +ℤ pos n) (no_rows rows some).1 ∙ none_more cells.y0 in
    same_cell _ _ _ _ _ _ refl at_x at_y
  where
    no_rows : (rows : ℕ) → 0 < rows → (0 / rows ≡ 0) × (0 % rows ≡ 0)
    no_rows rows some = (let low = div_below 0 rows 1 some (omega arith) in omega arith, let d = div-add-mod' 0 rows in omega arith)

-- the place behind that of a cell below the last row is the place of the cell above it
pub place_above : (cells : Cells) (i : ℕ) (c : Cell) → c ≡ cell_in cells i → cells.y0 ≤ℤ cells.y1 → (c.y +ℤ pos 1) ≤ℤ cells.y1 →
    cell_in cells (i + 1) ≡ (record { band = c.band; x = c.x; y = c.y +ℤ pos 1 })
place_above cells i c e h low =
    let rows = count_between cells.y0 cells.y1 in
    let q = i / rows in
    let r = i % rows in
    let x_is : c.x ≡ (cells.x0 +ℤ pos q) = ap (λ (d : Cell). d.x) e in
    let y_is : c.y ≡ (cells.y0 +ℤ pos r) = ap (λ (d : Cell). d.y) e in
    let next : r + 1 < rows = row_low cells.y0 cells.y1 c.y r h y_is low in
    let split : i + 1 ≡ q * rows + (r + 1) = (let d = div-add-mod' i rows in omega arith) in
    let at_x : (cells.x0 +ℤ pos ((i + 1) / rows)) ≡ c.x = ap (λ (n : ℕ). cells.x0 +ℤ pos (n / rows)) split ∙ ap (λ (n : ℕ). cells.x0 +ℤ pos n) (div-mul-add q rows (r + 1) next) ∙ sym x_is in
    let at_y : (cells.y0 +ℤ pos ((i + 1) % rows)) ≡ (c.y +ℤ pos 1) =
    ap (λ (n : ℕ). cells.y0 +ℤ pos (n % rows)) split ∙ ap (λ (n : ℕ). cells.y0 +ℤ pos n) (mod-mul-add q rows (r + 1) next) ∙ one_more cells.y0 c.y r y_is in
    same_cell _ _ _ _ _ _ (sym (ap (λ (d : Cell). d.band) e)) at_x at_y
  where
    row_low : (a b y : ℤ) (r : ℕ) → a ≤ℤ b → y ≡ (a +ℤ pos r) → (y +ℤ pos 1) ≤ℤ b → r + 1 < count_between a b
    row_low a b y r h e low = omega (arith, ints)

-- the place behind that of a cell of the last row is the place of the first cell of the next column
pub place_beside : (cells : Cells) (i : ℕ) (c : Cell) → c ≡ cell_in cells i → cells.y0 ≤ℤ cells.y1 → cells.y1 ≤ℤ c.y →
    cell_in cells (i + 1) ≡ (record { band = c.band; x = c.x +ℤ pos 1; y = cells.y0 })
place_beside cells i c e h high =
    let rows = count_between cells.y0 cells.y1 in
    let q = i / rows in
    let r = i % rows in
    let some : 0 < rows = omega arith in
    let x_is : c.x ≡ (cells.x0 +ℤ pos q) = ap (λ (d : Cell). d.x) e in
    let y_is : c.y ≡ (cells.y0 +ℤ pos r) = ap (λ (d : Cell). d.y) e in
    let last : r + 1 ≡ rows = row_last cells.y0 cells.y1 c.y r h y_is high (mod_below i rows some) in
    let split : i + 1 ≡ (q + 1) * rows + 0 = (let d = div-add-mod' i rows in let m = one_row_more q rows in omega arith) in
    let at_x : (cells.x0 +ℤ pos ((i + 1) / rows)) ≡ (c.x +ℤ pos 1) =
    ap (λ (n : ℕ). cells.x0 +ℤ pos (n / rows)) split ∙ ap (λ (n : ℕ). cells.x0 +ℤ pos n) (div-mul-add (q + 1) rows 0 some) ∙ one_more cells.x0 c.x q x_is in
    let at_y : (cells.y0 +ℤ pos ((i + 1) % rows)) ≡ cells.y0 =
    ap (λ (n : ℕ). cells.y0 +ℤ pos (n % rows)) split ∙ ap (λ (n : ℕ). cells.y0 +ℤ pos n) (mod-mul-add (q + 1) rows 0 some) ∙ none_more cells.y0 in
    same_cell _ _ _ _ _ _ (sym (ap (λ (d : Cell). d.band) e)) at_x at_y
  where
    row_last : (a b y : ℤ) (r : ℕ) → a ≤ℤ b → y ≡ (a +ℤ pos r) → b ≤ℤ y → r < count_between a b → r + 1 ≡ count_between a b
    row_last a b y r h e high low = omega (arith, ints)

    one_row_more : (q rows : ℕ) → (q + 1) * rows ≡ q * rows + rows
    one_row_more q rows = grind arith

-- each cell has a place
pub place_of_cell : (cells : Cells) (x y : ℤ) → IsAmongCells cells x y → (i : ℕ) × (i < cell_count cells) × (cell_in cells i ≡ (record { band = cells.band; x = x; y = y }))
place_of_cell cells x y among =
    let rows = count_between cells.y0 cells.y1 in
    let p = unsigned_abs (x -ℤ cells.x0) in
    let q = unsigned_abs (y -ℤ cells.y0) in
    let q_low : q < rows = span_less cells.y0 y cells.y1 among.2 among.3 in
    let low : p * rows + q < rows * count_between cells.x0 cells.x1 = mul-add-lt p rows q (count_between cells.x0 cells.x1) (span_less cells.x0 x cells.x1 among.0 among.1) q_low in
    let at_x : (cells.x0 +ℤ pos ((p * rows + q) / rows)) ≡ x = ap (λ (n : ℕ). cells.x0 +ℤ pos n) (div-mul-add p rows q q_low) ∙ span_is cells.x0 x among.0 in
    let at_y : (cells.y0 +ℤ pos ((p * rows + q) % rows)) ≡ y = ap (λ (n : ℕ). cells.y0 +ℤ pos n) (mod-mul-add p rows q q_low) ∙ span_is cells.y0 y among.2 in
    (p * rows + q, (omega arith), same_cell _ _ _ _ _ _ refl at_x at_y)

-- two places with one cell are one
pub place_once : (cells : Cells) (i j : ℕ) → cell_in cells i ≡ cell_in cells j → i ≡ j
place_once cells i j e =
    let rows = count_between cells.y0 cells.y1 in
    let x = span_one cells.x0 (i / rows) (j / rows) (ap (λ (c : Cell). c.x) e) in
    let y = span_one cells.y0 (i % rows) (j % rows) (ap (λ (c : Cell). c.y) e) in
    sym (div-add-mod' i rows) ∙ (ap (λ (n : ℕ). n * rows + i % rows) x ∙ ap (λ (n : ℕ). j / rows * rows + n) y) ∙ div-add-mod' j rows
