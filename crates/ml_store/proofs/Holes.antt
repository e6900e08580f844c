-- Columns while a number is in hand: its cell is a hole, which the numbers of other cells fill in turn.
use Rattle.std.proofs.Common.{◌≡◌, ◌≢◌, ℕ, ◌+◌, ◌-◌, ◌*◌, ◌/◌, ◌%◌, ◌<◌, List, length, get_or, set, inl, inr, refl, sym, ap, ap₂, ◌∙◌, arith}
use Rattle.std.proofs.Common.{length-set, get_or-set_same, get_or-set_other, set-set, subst}
use Rattle.std.specs.List.{swap}
use Rattle.std.proofs.lemmas.Bool.{cases_eq}
use Rattle.std.proofs.lemmas.List.{set-get_or, set_comm}
use Rattle.std.proofs.lemmas.List.Edits.{swap_is}
use Rattle.ml_store.specs.Tiers.{order_of, cell_at, LeadsBack, AreTiers, shifted}
use Rattle.ml_store.proofs.Orders.{shifted_same, moved_more, swapped_back, swapped_on}
use Rattle.ml_store.proofs.Rings.{cell_in, cell_low, cell_apart, length_tiers, swapped_order, turned_by, tiers_turned, turned_back, turned_on}

-- the columns as they are with the number in the hole: those of all numbers
pub record AreOpen (cells cell_of heads : List ℕ) (number hole : ℕ) : Type 0 where
  pub tiers : AreTiers (set cells hole number) (set cell_of number hole) heads
  pub low : number < 32768
  pub cell : hole < 32768

-- the hole is filled, and another cell is one: what one column tells leads back by the other, as it did
leads_back : (there back : List ℕ) (hole next number mate : ℕ) → length there ≡ 32768 → length back ≡ 32768 → number < 32768 → mate < 32768 →
    hole < 32768 → next < 32768 →
    next ≢ hole → mate ≢ number → get_or (set back number hole) mate 0 ≡ next → get_or (set there hole number) next 0 ≡ mate →
    LeadsBack (set there hole number) (set back number hole) →
    LeadsBack (set (set there hole mate) next number) (set (set back mate hole) number next)
leads_back there back hole next number mate n m low mate_low cell lt apart differ mate_back mate_there leads k in' =
    let n1 = length-set there hole mate in
    let n2 = length-set back mate hole in
    let here : get_or (set there hole number) hole 0 ≡ number = get_or-set_same there hole number 0 (omega arith) in
    let number_back : get_or (set back number hole) number 0 ≡ hole = get_or-set_same back number hole 0 (omega arith) in
    elim (cases_eq k next) [
      | inl same ↦
          let is : get_or (set (set there hole mate) next number) k 0 ≡ number = rw same
          (get_or-set_same (set there hole mate) next number 0 (omega arith)) in
          rw is (low, get_or-set_same (set back mate hole) number next 0 (omega arith) ∙ sym same)
      | inr past ↦ elim (cases_eq k hole) [
        | inl same ↦
            let is : get_or (set (set there hole mate) next number) k 0 ≡ mate =
            get_or-set_other (set there hole mate) next k number 0 past ∙ rw same (get_or-set_same there hole mate 0 (omega arith)) in
            rw is (
              mate_low,
              get_or-set_other (set back mate hole) number mate next 0 differ ∙ get_or-set_same back mate hole 0 (omega arith) ∙ sym same,
            )
        | inr other ↦
            let was : get_or (set there hole number) k 0 ≡ get_or there k 0 = get_or-set_other there hole k number 0 other in
            let is : get_or (set (set there hole mate) next number) k 0 ≡ get_or there k 0 =
            get_or-set_other (set there hole mate) next k number 0 past ∙ get_or-set_other there hole k mate 0 other in
            let led = rw was at (leads k in') in
            let no : get_or there k 0 ≢ number = (λ e. other (sym led.1 ∙ ap (λ j. get_or (set back number hole) j 0) e ∙ number_back)) in
            let nor : get_or there k 0 ≢ mate = (λ e. past (sym led.1 ∙ ap (λ j. get_or (set back number hole) j 0) e ∙ mate_back)) in
            rw is (
              led.0,
              get_or-set_other (set back mate hole) number (get_or there k 0) next 0 no ∙ get_or-set_other back mate (get_or there k 0) hole 0 nor
                  ∙ sym (get_or-set_other back number (get_or there k 0) hole 0 no) ∙ led.1,
            )
      ]
    ]

-- the columns when the number of another cell fills the hole, and leaves one
pub hole_filled : (cells cell_of heads : List ℕ) (number hole next mate : ℕ) → AreOpen cells cell_of heads number hole → next < 32768 → next ≢ hole →
    mate ≡ get_or cells next 0 →
    AreOpen (set cells hole mate) (set cell_of mate hole) heads number next
hole_filled cells cell_of heads number hole next mate o lt apart is =
    let cells_many : length (set cells hole number) ≡ 32768 = o.tiers.all_cells in
    let numbers_many : length (set cell_of number hole) ≡ 32768 = o.tiers.all_numbers in
    let low : number < 32768 = o.low in
    let cell : hole < 32768 = o.cell in
    let many : length cells ≡ 32768 = sym (length-set cells hole number) ∙ cells_many in
    let all : length cell_of ≡ 32768 = sym (length-set cell_of number hole) ∙ numbers_many in
    let there : get_or (set cells hole number) next 0 ≡ mate = get_or-set_other cells hole next number 0 apart ∙ sym is in
    let here : get_or (set cells hole number) hole 0 ≡ number = get_or-set_same cells hole number 0 (omega arith) in
    let back : get_or (set cell_of number hole) number 0 ≡ hole = get_or-set_same cell_of number hole 0 (omega arith) in
    let led = rw there at (o.tiers.told next lt) in
    let differ : mate ≢ number = (λ e. apart (sym led.1 ∙ ap (λ m. get_or (set cell_of number hole) m 0) e ∙ back)) in
    record {
      tiers = record {
        all_cells = length-set (set cells hole mate) next number ∙ length-set cells hole mate ∙ many;
        all_numbers = length-set (set cell_of mate hole) number next ∙ length-set cell_of mate hole ∙ all;
        all_heads = o.tiers.all_heads;
        told = leads_back cells cell_of hole next number mate many all low led.0 cell lt apart differ led.1 there o.tiers.told;
        found = rw (set_comm cell_of mate number hole next differ, set_comm cells hole next mate number (λ e. apart (sym e)))
            (leads_back cell_of cells number mate hole next all many cell lt low led.0 differ apart there led.1 o.tiers.found);
        turns = o.tiers.turns;
      };
      low = low;
      cell = lt;
    }

-- which is an exchange of two cells, as long as the number counts as in the hole
pub hole_swapped : (cells cell_of heads : List ℕ) (number hole next mate : ℕ) → AreOpen cells cell_of heads number hole → next < 32768 → next ≢ hole →
    mate ≡ get_or cells next 0 →
    set (set cells hole mate) next number ≡ swap (set cells hole number) hole next
hole_swapped cells cell_of heads number hole next mate o lt apart is =
    let many : length (set cells hole number) ≡ 32768 = o.tiers.all_cells in
    let n = length-set cells hole number in
    let cell : hole < 32768 = o.cell in
    let one : mate ≡ get_or (set cells hole number) next 0 = is ∙ sym (get_or-set_other cells hole next number 0 apart) in
    let other : number ≡ get_or (set cells hole number) hole 0 = sym (get_or-set_same cells hole number 0 (omega arith)) in
    ap (λ l. set l next number) (sym (set-set cells hole number mate))
    ∙ ap₂ (λ a b. set (set (set cells hole number) hole a) next b) one other
    ∙ swap_is (set cells hole number) hole next 0 (omega arith) (omega arith)

-- ---- a number on its way from a place of the old order

-- it counts as in the hole, the cell of the place that it has come to
pub record IsCarried (old cells cell_of heads : List ℕ) (number hole from at : ℕ) : Type 0 where
  pub open' : AreOpen cells cell_of heads number hole
  pub here : hole ≡ cell_at heads at
  pub moved : order_of heads (set cells hole number) ≡ shifted old from at

-- it is taken out of its cell
pub taken_out : (cells cell_of heads : List ℕ) (number hole from at : ℕ) → AreTiers cells cell_of heads → from < 32768 → at ≡ from →
    hole ≡ cell_at heads from → number ≡ get_or cells hole 0 →
    IsCarried (order_of heads cells) cells cell_of heads number hole from at
taken_out cells cell_of heads number hole from at t lt start here is =
    let many = length_tiers cells cell_of heads t in
    let low : hole < 32768 = (let c = cell_low heads from lt in omega arith) in
    let back = t.told hole low in
    let same : set cells hole number ≡ cells = rw is (set-get_or cells hole 0) in
    let e : get_or cell_of number 0 ≡ hole = rw is back.1 in
    let told : set cell_of number hole ≡ cell_of = ap (set cell_of number) (sym e) ∙ set-get_or cell_of number 0 in
    rw start (record {
      open' = record { tiers = rw (same, told) t; low = rw is back.0; cell = low };
      here = here;
      moved = ap (order_of heads) same ∙ shifted_same (order_of heads cells) from (omega arith);
    })

-- the cell of the place before, in the same block
pub cell_before : (heads : List ℕ) (hole at to : ℕ) → hole ≡ cell_at heads at → to + 1 ≡ at → to / 128 ≡ at / 128 →
    hole / 128 * 128 + (hole + 128 - 1) % 128 ≡ cell_at heads to
cell_before heads hole at to here step block =
    let head : get_or heads (to / 128) 0 ≡ get_or heads (at / 128) 0 = ap (λ b. get_or heads b 0) block in
    omega arith

-- the cell of the place behind, in the same block
pub cell_behind : (heads : List ℕ) (hole at to : ℕ) → hole ≡ cell_at heads at → to ≡ at + 1 → to / 128 ≡ at / 128 →
    hole / 128 * 128 + (hole + 1) % 128 ≡ cell_at heads to
cell_behind heads hole at to here step block =
    let head : get_or heads (to / 128) 0 ≡ get_or heads (at / 128) 0 = ap (λ b. get_or heads b 0) block in
    omega arith

-- the number of another place is one of all
pub mate_low : (old cells cell_of heads : List ℕ) (number hole next from at to : ℕ) → IsCarried old cells cell_of heads number hole from at →
    to < 32768 → to ≢ at → next ≡ cell_at heads to →
    get_or cells next 0 < 32768
mate_low old cells cell_of heads number hole next from at to i lt other there =
    let low : next < 32768 = (let c = cell_low heads to lt in omega arith) in
    let apart : next ≢ hole = (λ e. other (cell_apart heads to at (sym there ∙ e ∙ i.here))) in
    (rw (get_or-set_other cells hole next number 0 apart) at (i.open'.tiers.told next low)).0

-- it comes to the place before
pub carried_back : (old cells cell_of heads : List ℕ) (number hole next mate from at to : ℕ) → IsCarried old cells cell_of heads number hole from at →
    length old ≡ 32768 → from < 32768 → at < 32768 → to + 1 ≡ at → next ≡ cell_at heads to → mate ≡ get_or cells next 0 →
    IsCarried old (set cells hole mate) (set cell_of mate hole) heads number next from to
carried_back old cells cell_of heads number hole next mate from at to i size f a step there is =
    let low : next < 32768 = (let c = cell_low heads to (omega arith) in omega arith) in
    let here : hole ≡ cell_at heads at = i.here in
    let apart : next ≢ hole = (λ e. let same : to ≡ at = cell_apart heads to at (sym there ∙ e ∙ here) in omega arith) in
    let many = length_tiers (set cells hole number) (set cell_of number hole) heads i.open'.tiers in
    let e : at - 1 ≡ to = omega arith in
    let swapped = swapped_order (set cells hole number) (set cell_of number hole) heads (set (set cells hole mate) next number) at to i.open'.tiers a
    (omega arith) hole next here there (hole_swapped cells cell_of heads number hole next mate i.open' low apart is) in
    record {
      open' = hole_filled cells cell_of heads number hole next mate i.open' low apart is;
      here = there;
      moved = moved_more old (order_of heads (set cells hole number)) (order_of heads (set (set cells hole mate) next number)) from at to at to
          (omega arith) (omega arith) i.moved
          (swapped ∙ (rw e at (swapped_back (order_of heads (set cells hole number)) at (omega arith) (omega arith)))) refl refl;
    }

-- it comes to the place behind
pub carried_on : (old cells cell_of heads : List ℕ) (number hole next mate from at to : ℕ) → IsCarried old cells cell_of heads number hole from at →
    length old ≡ 32768 → from < 32768 → to < 32768 → to ≡ at + 1 → next ≡ cell_at heads to → mate ≡ get_or cells next 0 →
    IsCarried old (set cells hole mate) (set cell_of mate hole) heads number next from to
carried_on old cells cell_of heads number hole next mate from at to i size f a step there is =
    let low : next < 32768 = (let c = cell_low heads to a in omega arith) in
    let here : hole ≡ cell_at heads at = i.here in
    let apart : next ≢ hole = (λ e. let same : to ≡ at = cell_apart heads to at (sym there ∙ e ∙ here) in omega arith) in
    let many = length_tiers (set cells hole number) (set cell_of number hole) heads i.open'.tiers in
    let swapped = swapped_order (set cells hole number) (set cell_of number hole) heads (set (set cells hole mate) next number) at to i.open'.tiers
    (omega arith) a hole next here there (hole_swapped cells cell_of heads number hole next mate i.open' low apart is) in
    record {
      open' = hole_filled cells cell_of heads number hole next mate i.open' low apart is;
      here = there;
      moved = moved_more old (order_of heads (set cells hole number)) (order_of heads (set (set cells hole mate) next number)) from at to at to
          (omega arith) (omega arith) i.moved
          (swapped ∙ (rw (← step) at (swapped_on (order_of heads (set cells hole number)) at (omega arith)))) refl refl;
    }

-- its block turns, with it in the last place, which comes to be the first
pub carried_over_back : (old cells cell_of heads : List ℕ) (number hole from b : ℕ) →
    IsCarried old cells cell_of heads number hole from (128 * b + 127) → length old ≡ 32768 → from < 32768 →
    b < 256 → IsCarried old cells cell_of (turned_by heads b 127) number hole from (128 * b)
carried_over_back old cells cell_of heads number hole from b i size f lt =
    let blocks : length heads ≡ 256 = i.open'.tiers.all_heads in
    let was = cell_in heads (128 * b + 127) b (get_or heads b 0) (omega arith) refl in
    let head : get_or (turned_by heads b 127) b 0 ≡ (get_or heads b 0 + 127) % 128 = get_or-set_same heads b ((get_or heads b 0 + 127) % 128) 0
    (omega arith) in
    let is = cell_in (turned_by heads b 127) (128 * b) b ((get_or heads b 0 + 127) % 128) (omega arith) head in
    let here : hole ≡ cell_at heads (128 * b + 127) = i.here in
    record {
      open' = record {
        tiers = tiers_turned (set cells hole number) (set cell_of number hole) heads b 127 i.open'.tiers lt;
        low = i.open'.low;
        cell = i.open'.cell;
      };
      here = here ∙ was ∙ (let e : 128 * b + ((128 * b + 127) % 128 + get_or heads b 0) % 128 ≡ 128 * b +
          ((128 * b) % 128 + (get_or heads b 0 + 127) % 128) % 128 = omega arith in e) ∙ sym is;
      moved = moved_more old (order_of heads (set cells hole number)) (order_of (turned_by heads b 127) (set cells hole number)) from (128 * b + 127)
          (128 * b) (128 * b + 127) (128 * b)
          (omega arith) (omega arith) i.moved (turned_back (set cells hole number) (set cell_of number hole) heads b i.open'.tiers lt) refl refl;
    }

-- its block turns, with it in the first place, which comes to be the last
pub carried_over_on : (old cells cell_of heads : List ℕ) (number hole from b : ℕ) → IsCarried old cells cell_of heads number hole from (128 * b) →
    length old ≡ 32768 → from < 32768 →
    b < 256 → IsCarried old cells cell_of (turned_by heads b 1) number hole from (128 * b + 127)
carried_over_on old cells cell_of heads number hole from b i size f lt =
    let blocks : length heads ≡ 256 = i.open'.tiers.all_heads in
    let was = cell_in heads (128 * b) b (get_or heads b 0) (omega arith) refl in
    let head : get_or (turned_by heads b 1) b 0 ≡ (get_or heads b 0 + 1) % 128 = get_or-set_same heads b ((get_or heads b 0 + 1) % 128) 0
    (omega arith) in
    let is = cell_in (turned_by heads b 1) (128 * b + 127) b ((get_or heads b 0 + 1) % 128) (omega arith) head in
    let here : hole ≡ cell_at heads (128 * b) = i.here in
    record {
      open' = record {
        tiers = tiers_turned (set cells hole number) (set cell_of number hole) heads b 1 i.open'.tiers lt;
        low = i.open'.low;
        cell = i.open'.cell;
      };
      here = here ∙ was ∙ (let e : 128 * b + ((128 * b) % 128 + get_or heads b 0) % 128 ≡ 128 * b +
          ((128 * b + 127) % 128 + (get_or heads b 0 + 1) % 128) % 128 = omega arith in e) ∙ sym is;
      moved = moved_more old (order_of heads (set cells hole number)) (order_of (turned_by heads b 1) (set cells hole number)) from (128 * b)
          (128 * b + 127) (128 * b) (128 * b + 127)
          (omega arith) (omega arith) i.moved (turned_on (set cells hole number) (set cell_of number hole) heads b i.open'.tiers lt) refl refl;
    }

-- ---- whole blocks

-- the cell of the first place of a block
pub first_cell : (heads : List ℕ) (b : ℕ) → get_or heads b 0 < 128 → b * 128 + get_or heads b 0 ≡ cell_at heads (128 * b)
first_cell heads b low = let e = cell_in heads (128 * b) b (get_or heads b 0) (omega arith) refl in omega arith

-- the cell of the last place of a block
pub last_cell : (heads : List ℕ) (b : ℕ) → get_or heads b 0 < 128 → b * 128 + (get_or heads b 0 + 128 - 1) % 128 ≡ cell_at heads (128 * b + 127)
last_cell heads b low = let e = cell_in heads (128 * b + 127) b (get_or heads b 0) (omega arith) refl in omega arith

-- the number comes from the first place of a block to the first of the block before
pub passed_back : (old cells cell_of heads : List ℕ) (number hole mate from at to b head : ℕ) →
    IsCarried old cells cell_of heads number hole from at → length old ≡ 32768 → from < 32768 →
    b < 255 → at ≡ 128 * b + 128 → to ≡ 128 * b → head ≡ (get_or heads b 0 + 128 - 1) % 128 → mate ≡ get_or cells (b * 128 + head) 0 →
    IsCarried old (set cells hole mate) (set cell_of mate hole) (set heads b head) number (b * 128 + head) from to
passed_back old cells cell_of heads number hole mate from at to b head i size f lt start end is read =
    let low : get_or heads b 0 < 128 = i.open'.tiers.turns b (omega arith) in
    let there : b * 128 + head ≡ cell_at heads (128 * b + 127) = ap (λ h. b * 128 + h) is ∙ last_cell heads b low in
    let e : head ≡ (get_or heads b 0 + 127) % 128 = omega arith in
    let step = carried_back old cells cell_of heads number hole (b * 128 + head) mate from at (128 * b + 127) i size f (omega arith) (omega arith)
    there read in
    let turned = carried_over_back old (set cells hole mate) (set cell_of mate hole) heads number (b * 128 + head) from b step size f (omega arith) in
    subst (λ (h : ℕ). IsCarried old (set cells hole mate) (set cell_of mate hole) (set heads b h) number (b * 128 + head) from to) (sym e)
    (subst (λ (t : ℕ). IsCarried old (set cells hole mate) (set cell_of mate hole) (turned_by heads b 127) number (b * 128 + head) from t) (sym end)
    turned)

-- the number comes from the last place of a block to the last of the block behind
pub passed_on : (old cells cell_of heads : List ℕ) (number hole mate from at to b head : ℕ) → IsCarried old cells cell_of heads number hole from at →
    length old ≡ 32768 → from < 32768 →
    b < 256 → at + 1 ≡ 128 * b → to ≡ 128 * b + 127 → head ≡ (get_or heads b 0 + 1) % 128 → mate ≡ get_or cells (b * 128 + get_or heads b 0) 0 →
    IsCarried old (set cells hole mate) (set cell_of mate hole) (set heads b head) number (b * 128 + get_or heads b 0) from to
passed_on old cells cell_of heads number hole mate from at to b head i size f lt start end is read =
    let low : get_or heads b 0 < 128 = i.open'.tiers.turns b lt in
    let step = carried_on old cells cell_of heads number hole (b * 128 + get_or heads b 0) mate from at (128 * b) i size f (omega arith) (omega arith)
    (first_cell heads b low) read in
    let turned = carried_over_on old (set cells hole mate) (set cell_of mate hole) heads number (b * 128 + get_or heads b 0) from b step size f lt in
    subst (λ (h : ℕ). IsCarried old (set cells hole mate) (set cell_of mate hole) (set heads b h) number (b * 128 + get_or heads b 0) from to)
    (sym is)
    (subst (λ (t : ℕ). IsCarried old (set cells hole mate) (set cell_of mate hole) (turned_by heads b 1) number (b * 128 + get_or heads b 0) from t)
    (sym end) turned)
