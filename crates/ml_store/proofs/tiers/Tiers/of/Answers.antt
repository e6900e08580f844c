use Rattle.std.proofs.Common.{ℕ, ◌≡◌, ◌<◌, List, length, get_or, replicate, ap, ◌∙◌, arith}
use Rattle.std.proofs.lemmas.List.{get_or-replicate, length-replicate}
use Rattle.ml_store.specs.Tiers.{LeadsBack, AreTiers}
use Rattle.ml_store.proofs.Rings.{all_in_tiers, first_flat, read_flat}
use Rattle.ml_store.proofs.tiers.Tiers.of.Goals as goal

-- no block is turned
flat : (heads : List ℕ) → heads ≡ replicate 256 0 → (b : ℕ) → b < 256 → get_or heads b 0 ≡ 0
flat heads is b lt = ap (λ l. get_or l b 0) is ∙ get_or-replicate {A = ℕ} 256 b 0 0 lt

-- so the columns are those of all numbers
made : (cells cell_of heads : List ℕ) → length cells ≡ 32768 → length cell_of ≡ 32768 → heads ≡ replicate 256 0 → LeadsBack cells cell_of → LeadsBack cell_of cells → AreTiers cells cell_of heads
made cells cell_of heads n m is told found = record {
  all_cells = n;
  all_numbers = m;
  all_heads = ap length is ∙ length-replicate {A = ℕ} 256 0;
  told = told;
  found = found;
  turns = λ b lt. (let none = flat heads is b lt in omega arith);
}

pub returns-clause-all : goal.returns-clause-all
returns-clause-all c =
    let is = c.in_ok-heads.ensures.items_if_clones_equal (λ y e. e) in
    all_in_tiers c.write_order.new.cells.items c.write_order.new.cell_of.items c.in_ok-heads.heads.items
    (made c.write_order.new.cells.items c.write_order.new.cell_of.items c.in_ok-heads.heads.items c.write_order.ensures.all_cells c.write_order.ensures.all_numbers is
    c.write_order.ensures.told c.write_order.ensures.found)

pub returns-clause-first : goal.returns-clause-first
returns-clause-first c =
    let is = c.in_ok-heads.ensures.items_if_clones_equal (λ y e. e) in
    first_flat c.write_order.new.cells.items c.write_order.new.cell_of.items c.in_ok-heads.heads.items c.args.order.now
    (made c.write_order.new.cells.items c.write_order.new.cell_of.items c.in_ok-heads.heads.items c.write_order.ensures.all_cells c.write_order.ensures.all_numbers is
    c.write_order.ensures.told c.write_order.ensures.found) (flat c.in_ok-heads.heads.items is) c.requires.few c.write_order.ensures.order

pub returns-clause-behind : goal.returns-clause-behind
returns-clause-behind c k le lt =
    let is = c.in_ok-heads.ensures.items_if_clones_equal (λ y e. e) in
    read_flat c.write_order.new.cells.items c.write_order.new.cell_of.items c.in_ok-heads.heads.items k 0
    (made c.write_order.new.cells.items c.write_order.new.cell_of.items c.in_ok-heads.heads.items c.write_order.ensures.all_cells c.write_order.ensures.all_numbers is
    c.write_order.ensures.told c.write_order.ensures.found) (flat c.in_ok-heads.heads.items is) lt ∙ c.write_order.ensures.behind k le lt
