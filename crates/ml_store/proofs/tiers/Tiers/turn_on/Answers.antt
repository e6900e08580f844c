use Rattle.std.proofs.Common.{arith, ◌≡◌, ◌+◌, ◌%◌, ◌∙◌, ap, set, length, get_or}
use Rattle.std.proofs.lemmas.List.{get_or_default}
use Rattle.ml_store.specs.Tiers.{order_of}
use Rattle.ml_store.proofs.Rings.{block_low, turned_on}
use Rattle.ml_store.proofs.tiers.Tiers.turn_on.Goals as goal

pub index-requires : goal.index-requires
index-requires c =
    let low = block_low c.self.inside.cells.items c.self.inside.cell_of.items c.self.inside.heads.items c.args.block c.self.invariant (rw (← c.self.view_is) at c.requires) in
    let blocks : length c.self.inside.heads.items ≡ 256 = c.self.invariant.all_heads in
    omega arith

pub index_mut-requires : goal.index_mut-requires
index_mut-requires c =
    let low = block_low c.self.inside.cells.items c.self.inside.cell_of.items c.self.inside.heads.items c.args.block c.self.invariant (rw (← c.self.view_is) at c.requires) in
    let blocks : length c.self.inside.heads.items ≡ 256 = c.self.invariant.all_heads in
    omega arith

pub returns : goal.returns
returns c =
    let low = block_low c.self.inside.cells.items c.self.inside.cell_of.items c.self.inside.heads.items c.args.block c.self.invariant (rw (← c.self.view_is) at c.requires) in
    let blocks : length c.self.inside.heads.items ≡ 256 = c.self.invariant.all_heads in
    let read : c.index.result.now ≡ get_or c.self.inside.heads.items c.args.block 0 = c.index.ensures ∙ get_or_default c.self.inside.heads.items c.args.block c.index.result.now 0 (omega arith) in
    let head : (c.index.result.now + 1) % 128 ≡ (get_or c.self.inside.heads.items c.args.block 0 + 1) % 128 = omega arith in
    rw (← c.self.view_is) (ap (λ h. order_of (set c.self.inside.heads.items c.args.block h) c.self.inside.cells.items) head
    ∙ turned_on c.self.inside.cells.items c.self.inside.cell_of.items c.self.inside.heads.items c.args.block c.self.invariant low)
