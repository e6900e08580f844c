use Rattle.std.proofs.Common.{◌≡◌, ◌≢◌, ◌∙◌, ◌+◌, ◌<◌, ◌++◌, [], ◌∷◌, ℕ, List, sym, ap, subst, arith, length, get_or, set, take}
use Rattle.std.specs.Prelude.{All}
use Rattle.std.proofs.lemmas.List.{get_or-map, get_or-replicate, get_or-take, length-map, length-replicate, length-take-le, take_more}
use Rattle.ml_store.specs.Rows.{AreDifferent}
use Rattle.ml_store.specs.declared.moved.Moved.{Moved}
use Rattle.ml_repair.specs.Moves.{numbers_of, IsColumn}
use Rattle.ml_repair.proofs.Moving.{column_none, column_more, few_moves}
use Rattle.ml_repair.proofs.moves.column_of.Goals as goal

pub loop-k-init : goal.loop-k-init
loop-k-init c =
    rw (c.in_ok-column.ensures.items) (column_none _ (length-replicate {A = ℕ} 32768 0) (λ k lt. get_or-replicate 32768 k 0 0 lt))

pub overflow_cast-k : goal.overflow_cast-k
overflow_cast-k c =
    let few = few_moves c.args.moved.now c.requires.low c.requires.differ in
    let lt = c.loop-k-test.true in
    omega arith

-- the number of the new slot at k
number_at : (moved : List Moved) (k : ℕ) (m : Moved) → k < length moved → get_or (numbers_of moved) k 0 ≡ (get_or moved k m).number
number_at moved k m lt = get_or-map (λ (x : Moved). x.number) moved k m 0 lt

low_at : (moved : List Moved) (k : ℕ) (m : Moved) → k < length moved → All (λ n. n < 32768) (numbers_of moved) → (get_or moved k m).number < 32768
low_at moved k m lt low =
    let many = length-map moved (λ (x : Moved). x.number) in
    subst (λ (n : ℕ). n < 32768) (number_at moved k m lt) (low k 0 (omega arith))

-- none of the first k has the number at k
none_before : (moved : List Moved) (k : ℕ) (m : Moved) → k < length moved → AreDifferent (numbers_of moved) →
    (j : ℕ) → j < length (take k moved) → get_or (numbers_of (take k moved)) j 0 ≢ (get_or moved k m).number
none_before moved k m lt differ j in' same =
    let many = length-map moved (λ (x : Moved). x.number) in
    let long = length-take-le k moved (omega arith) in
    let less : j < k = omega arith in
    let here : get_or (numbers_of moved) j 0 ≡ (get_or (take k moved) j m).number =
    number_at moved j m (omega arith) ∙ ap (λ (x : Moved). x.number) (sym (get_or-take k moved j m less)) in
    differ j k 0 less (omega arith) (here ∙ sym (number_at (take k moved) j m in') ∙ same ∙ sym (number_at moved k m lt))

pub index_mut-requires : goal.index_mut-requires
index_mut-requires c =
    let low = low_at c.args.moved.now c.loop-k.k c.index-moved-k.result c.loop-k-test.true c.requires.low in
    let all : length c.loop-k.column.items ≡ 32768 = c.loop-k.invariant.all_numbers in
    omega arith

pub loop-k-preserved : goal.loop-k-preserved
loop-k-preserved c =
    let moved = c.args.moved.now in
    let k = c.loop-k.k in
    let m : Moved = c.index-moved-k.result in
    let lt : k < length moved = c.loop-k-test.true in
    let long : length (take k moved) ≡ k = length-take-le k moved (omega arith) in
    let it : Moved = get_or moved k m in
    let more : IsColumn (take k moved ++ it ∷ []) (set c.loop-k.column.items it.number (length (take k moved) + 1)) =
    column_more (take k moved) it.number it.slot (none_before moved k m lt c.requires.differ) c.loop-k.column.items (low_at moved k m lt c.requires.low) c.loop-k.invariant in
    rw (take_more moved k m lt) (subst (λ (n : ℕ). IsColumn (take k moved ++ it ∷ []) (set c.loop-k.column.items it.number (n + 1))) long more)
