-- Rows with low numbers of their own, as one comes or goes.
use Rattle.std.proofs.Common.{ℕ, ◌<◌, ◌≤◌, List, ◌∷◌, length, get_or, arith}
use Rattle.std.specs.Prelude.{insert, remove}
use Rattle.std.proofs.lemmas.List.{get_or_default, length-map}
use Rattle.std.proofs.lemmas.List.Edits.{length-insert, length-remove}
use Rattle.std.proofs.lemmas.List.Elements.{All-cons, All-tail}
use Rattle.std.proofs.lemmas.List.Sorted.{All-permutation, IsPermutation-insert, IsPermutation-remove}
use Rattle.ml_store.specs.Numbered.{AreNumbered}
use Rattle.ml_store.specs.Rows.{numbers_in, AreInTurn, IsFresh}
use Rattle.ml_store.specs.declared.row.Row.{Row}
use Rattle.ml_store.proofs.Fresh.{differ_inserted, differ_in_turn, differ_removed}
use Rattle.ml_ratio.proofs.lemmas.Lists.{map_insert, map_remove}

-- rows with low numbers of their own still have such when one comes in with a low number that no row has, if there is room for it
pub numbered_inserted : (rows : List Row) (at : ℕ) (r : Row) → AreNumbered rows → at ≤ length rows → length rows < 32768 → IsFresh r.number rows → r.number < 32768 → AreNumbered (insert rows at r)
numbered_inserted rows at r numbered le few fresh low = record {
  few = (let n = length-insert rows at r le in omega arith);
  differ = differ_inserted rows at r numbered.differ le fresh;
  low = rw (map_insert (λ (s : Row). s.number) rows at r) (All-permutation (λ n. n < 32768) (r.number ∷ numbers_in rows) (insert (numbers_in rows) at r.number)
      (IsPermutation-insert (numbers_in rows) at r.number) (All-cons (λ n. n < 32768) r.number (numbers_in rows) low numbered.low));
}

-- rows with low numbers of their own still have such when one row is taken out
pub numbered_removed : (rows : List Row) (at : ℕ) → AreNumbered rows → at < length rows → AreNumbered (remove rows at)
numbered_removed rows at numbered lt =
    let many = length-map rows (λ (s : Row). s.number) in
    let n : ℕ = get_or (numbers_in rows) at 0 in
    record {
      few = (let m = length-remove rows at lt in let f = numbered.few in omega arith);
      differ = differ_removed rows at numbered.differ lt;
      low = rw (map_remove (λ (s : Row). s.number) rows at) (All-tail (λ n. n < 32768) n (remove (numbers_in rows) at) (All-permutation (λ n. n < 32768) (numbers_in rows)
          (n ∷ remove (numbers_in rows) at) (IsPermutation-remove (numbers_in rows) at n (omega arith) (get_or_default (numbers_in rows) at 0 n (omega arith))) numbered.low));
    }

-- not too many rows whose numbers are their places have low numbers of their own
pub numbered_in_turn : (rows : List Row) → length rows ≤ 32768 → AreInTurn rows → AreNumbered rows
numbered_in_turn rows few turn = record {
  few = few;
  differ = differ_in_turn rows turn;
  low = (λ k d lt.
      let many = length-map rows (λ (s : Row). s.number) in
      let here = turn k (omega arith) in
      let same = get_or_default (numbers_in rows) k d 0 lt in
      omega arith);
}
