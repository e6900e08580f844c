-- The ends of rows whose numbers are their places.
use Rattle.std.proofs.Common.{◌≡◌, ℕ, ◌+◌, ◌<◌, List, [], ◌∷◌, ◌++◌, length, get_or, take, sym, ap, ◌∙◌}
use Rattle.std.specs.Prelude.{Box}
use Rattle.std.specs.declared.alloc.Global.{Global}
use Rattle.std.proofs.lemmas.List.{get_or-map, map-append, take_more}
use Rattle.ml_ratio.specs.declared.ratio.Ratio.{Ratio}
use Rattle.ml_grid.specs.Marks.{end_by}
use Rattle.ml_grid.specs.declared.marks.Ends.{Ends}
use Rattle.ml_store.specs.Boxes.{unboxed}
use Rattle.ml_store.specs.Rows.{AreInTurn, untils_in}
use Rattle.ml_store.specs.declared.row.Row.{Row}
use Rattle.ml_store.proofs.Gathered.{box_read, row_there}
use Rattle.ml_store.proofs.Naming.{number_read}

-- one end more is read
pub untils_next : (boxes : List (Box Row Global)) (i : ℕ) (b : Box Row Global) → i < length boxes → b ≡ get_or boxes i b →
    untils_in (take (i + 1) (unboxed boxes)) ≡ untils_in (take i (unboxed boxes)) ++ b.value.slot.until ∷ []
untils_next boxes i b lt read =
    let rows = unboxed boxes in
    ap untils_in (take_more rows i b.value (row_there boxes i b lt read)) ∙ map-append (λ (r : Row). r.slot.until) (take i rows) (get_or rows i b.value ∷ [])
    ∙ ap (λ (r : Row). untils_in (take i rows) ++ r.slot.until ∷ []) (sym (box_read boxes i b lt read))

module _ (boxes : List (Box Row Global)) (i : ℕ) (b : Box Row Global) (lt : i < length boxes) (read : b ≡ get_or boxes i b) (turn : AreInTurn (unboxed boxes)) where
  -- the row's number is its place
  pub in_place : b.value.number ≡ i
  in_place = sym (number_read (unboxed boxes) i b.value (row_there boxes i b lt read) (box_read boxes i b lt read)) ∙ turn i (row_there boxes i b lt read)

  -- where its end is found
  pub end_found : (ends : Ends) → ends.by_number.items ≡ untils_in (unboxed boxes) → end_by ends b.value.number ≡ b.value.slot.until
  end_found ends all =
      ap (λ (n : ℕ). end_by ends n) in_place ∙ ap (λ (l : List Ratio). get_or l i ends.other) all
      ∙ get_or-map (λ (r : Row). r.slot.until) (unboxed boxes) i b.value ends.other (row_there boxes i b lt read) ∙ ap (λ (r : Row). r.slot.until) (sym (box_read boxes i b lt read))
