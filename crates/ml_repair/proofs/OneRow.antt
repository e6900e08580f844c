-- Rows are told apart by number and by id.
use Rattle.std.proofs.Common.{◌≡◌, ℕ, ◌<◌, List, length, get_or, Contains, inl, inr, sym, ap, ◌∙◌, arith}
use Rattle.std.proofs.lemmas.Bool.{cases_eq}
use Rattle.std.proofs.lemmas.List.{get_or_default, length-map}
use Rattle.ml_cone.specs.Label.{IsLabelList}
use Rattle.ml_store.specs.Rows.{numbers_in, labels_in, HaveOwnNumbers}
use Rattle.ml_store.specs.declared.row.Row.{Row}
use Rattle.ml_repair.proofs.Placing.{only_id}
use Rattle.ml_ratio.proofs.lemmas.Lists.{same_place, map_read}

module _ (rows : List Row) (r s : Row) (in_r : Contains rows r) (in_s : Contains rows s) where
  same_at : in_r.0 ≡ in_s.0 → r ≡ s
  same_at e =
      let lt : in_s.0 < length rows = in_s.1 in
      sym in_r.2 ∙ ap (λ k. get_or rows k r) e ∙ get_or_default rows in_s.0 r s lt ∙ in_s.2

  -- two rows with one number are one row, where rows have numbers of their own
  pub one_number : HaveOwnNumbers rows → r.number ≡ s.number → r ≡ s
  one_number differ e =
      let many = length-map rows (λ (t : Row). t.number) in
      let a : in_r.0 < length rows = in_r.1 in
      let b : in_s.0 < length rows = in_s.1 in
      same_at (same_place (numbers_in rows) in_r.0 in_s.0 0 differ (omega arith) (omega arith)
      (map_read (λ (t : Row). t.number) rows in_r.0 r 0 in_r.1 (sym in_r.2) ∙ e ∙ sym (map_read (λ (t : Row). t.number) rows in_s.0 s 0 in_s.1 (sym in_s.2))))

  -- two rows with one id are one row, where the labels are in priority order
  pub one_id : IsLabelList (labels_in rows) → r.label.order.id ≡ s.label.order.id → r ≡ s
  one_id up e =
      let a : in_r.0 < length rows = in_r.1 in
      let b : in_s.0 < length rows = in_s.1 in
      elim (cases_eq in_r.0 in_s.0) [
        | inl same ↦ same_at same
        | inr apart ↦
            let f : get_or rows in_r.0 s ≡ r = get_or_default rows in_r.0 s r a ∙ in_r.2 in
            absurd (only_id rows s.label.order.id in_s.0 in_r.0 s up b a (ap (λ (t : Row). t.label.order.id) in_s.2) apart (ap (λ (t : Row). t.label.order.id) f ∙ e))
      ]

-- a place has a row
pub row_at : (rows : List Row) (k : ℕ) (r : Row) → k < length rows → r ≡ get_or rows k r → Contains rows r
row_at rows k r lt e = (k, lt, sym e)
