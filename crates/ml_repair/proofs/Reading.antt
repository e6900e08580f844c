-- Lists that are read one item after another.
use Rattle.std.proofs.Common.{◌≡◌, ℕ, ◌+◌, ◌<◌, List, [], ◌∷◌, ◌++◌, length, get_or, map, take, Contains, sym, ap, ◌∙◌, arith}
use Rattle.std.specs.Prelude.{All}
use Rattle.std.proofs.lemmas.List.{take_more, map-append, length-map}
use Rattle.std.proofs.lemmas.List.Elements.{Contains-get_or}
use Rattle.ml_store.specs.Rows.{numbers_in, number_at, IsLive}
use Rattle.ml_store.specs.declared.row.Row.{Row}
use Rattle.ml_ratio.proofs.lemmas.Lists.{map_contains, map_read}

-- one number more
pub number_more : (rows : List Row) (k : ℕ) (r : Row) (numbers next : List ℕ) → k < length rows → r ≡ get_or rows k r →
    numbers ≡ take k (numbers_in rows) → next ≡ numbers ++ r.number ∷ [] → next ≡ take (k + 1) (numbers_in rows)
number_more rows k r numbers next lt read so_far e =
    let many = length-map rows (λ (t : Row). t.number) in
    e ∙ ap (λ ns. ns ++ r.number ∷ []) so_far ∙ sym (take_more (numbers_in rows) k 0 (omega arith) ∙ ap (λ n. take k (numbers_in rows) ++ n ∷ []) (map_read (λ (t : Row). t.number) rows k r 0 lt read))

-- one number more, of the row at the next of some places
pub place_more : (rows : List Row) (places : List ℕ) (k : ℕ) (r : Row) (numbers next : List ℕ) → k < length places → get_or places k 0 < length rows → r ≡ get_or rows (get_or places k 0) r →
    numbers ≡ map (number_at rows) (take k places) → next ≡ numbers ++ r.number ∷ [] → next ≡ map (number_at rows) (take (k + 1) places)
place_more rows places k r numbers next lt p_in read so_far e =
    e ∙ ap (λ ns. ns ++ r.number ∷ []) so_far
    ∙ sym (ap (map (number_at rows)) (take_more places k 0 lt) ∙ map-append (number_at rows) (take k places) (get_or places k 0 ∷ [])
    ∙ ap (λ n. map (number_at rows) (take k places) ++ n ∷ []) (map_read (λ (t : Row). t.number) rows (get_or places k 0) r 0 p_in read))

-- numbers of rows are live
pub live_number : (rows : List Row) (n : ℕ) → Contains (numbers_in rows) n → IsLive rows n
live_number rows n there = let s = map_contains (λ (t : Row). t.number) rows n there in (s.0, s.1, s.2)

-- the numbers of all rows are live
pub live_all : (rows : List Row) (numbers : List ℕ) → numbers ≡ numbers_in rows → All (IsLive rows) numbers
live_all rows numbers e = rw e (λ k d lt. live_number rows (get_or (numbers_in rows) k d) (Contains-get_or (numbers_in rows) k d lt))
