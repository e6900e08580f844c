use Rattle.std.proofs.Common.{[], ℕ, List, Bor, sym, ◌∙◌, ap, map}
use Rattle.ml_pass.proofs.RowLemmas.{four_parts, box_from}
use Rattle.ml_pass.proofs.row.read_box.Goals as goal

pub returns-in-len4 : goal.returns-in-len4
returns-in-len4 c =
    let none : Bor (List ℕ) = record { ref_ptr = (0, 0); now = [] } in
    let four = four_parts c.as_slice.result.now none c.in-len4.len_at_least c.in-len4.len_below in
    let split = sym c.in_ok-offsets.ensures ∙ ap (map (λ part. part.now)) (sym c.as_slice.ensures.value) ∙ four in
    box_from c.args.text.now _ _ _ _ c.box_of.result split c.box_of.ensures
