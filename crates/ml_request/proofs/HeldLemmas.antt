-- Bytes that are held in a part of a buffer.
use Rattle.std.proofs.Common.{◌≡◌, ℕ, ◌+◌, ◌-◌, ◌≤◌, List, ◌++◌, length, take, drop, min, Option, ap, ◌∙◌, sym, arith, Result, Ok, Err}
use Rattle.std.specs.Prelude.{OnErr}
use Rattle.std.proofs.Math.Seq.{take-add}
use Rattle.std.proofs.lemmas.List.{drop-drop, drop-take, take-append-le, length-drop, length-take}
use Rattle.ml_io.specs.Takes.{Draws}
use Rattle.ml_request.specs.Held.{Gains}
use Rattle.ml_request.proofs.lemmas.Takes.{takes_nothing}

-- the first bytes are passed over
pub passed : (bytes : List ℕ) (start count n : ℕ) → n ≤ count → take (count - n) (drop (start + n) bytes) ≡ drop n (take count (drop start bytes))
passed bytes start count n within =
    let total : n + (count - n) ≡ count = omega (arith, within) in
    ap (take (count - n)) (sym (drop-drop n start bytes))
    ∙ sym (drop-take n (count - n) (drop start bytes))
    ∙ ap (λ m. drop n (take m (drop start bytes))) total

-- what stands in a part of a buffer stays where the bytes up to its end stay
pub kept : (old new : List ℕ) (start count : ℕ) → take (start + count) new ≡ take (start + count) old → take count (drop start new) ≡ take count (drop start old)
kept old new start count same = sym (drop-take start count new) ∙ ap (drop start) same ∙ drop-take start count old

-- bytes that came behind a part of a buffer
pub filled : (old new : List ℕ) (start count n : ℕ) → take (start + count) new ≡ take (start + count) old →
    take (count + n) (drop start new) ≡ take count (drop start old) ++ take n (drop (start + count) new)
filled old new start count n same =
    take-add count n (drop start new)
    ∙ ap (λ xs. xs ++ take n (drop count (drop start new))) (kept old new start count same)
    ∙ ap (λ xs. take count (drop start old) ++ take n xs) (drop-drop count start new)

-- bytes that are moved to the front of a buffer
pub turned : (bytes : List ℕ) (start count : ℕ) → start + count ≤ length bytes → take count (drop start bytes ++ take start bytes) ≡ take count (drop start bytes)
turned bytes start count within = take-append-le count (drop start bytes) (take start bytes) (omega (arith, within, length-drop start bytes))

-- the bytes held after the first are passed over
pub pass_of : (bytes held : List ℕ) (start count n : ℕ) → take count (drop start bytes) ≡ held → n ≤ length held → take (count - n) (drop (start + n) bytes) ≡ drop n held
pass_of bytes held start count n is within =
    let size : length held ≡ min count (length (drop start bytes)) = ap length (sym is) ∙ length-take count (drop start bytes) in
    passed bytes start count n (omega (arith, within, size)) ∙ ap (drop n) is

-- the bytes held after room was made
pub stays_of : (old mid new held : List ℕ) (before start count : ℕ) → take count (drop before old) ≡ held →
    take count (drop start mid) ≡ take count (drop before old) → take (start + count) new ≡ take (start + count) mid → take count (drop start new) ≡ held
stays_of old mid new held before start count is same front = kept mid new start count front ∙ same ∙ is

-- the bytes held after more came
pub fill_of : (left left_after : Option (List ℕ)) (old mid new held : List ℕ) (before start count n : ℕ) → take count (drop before old) ≡ held →
    take count (drop start mid) ≡ take count (drop before old) → take (start + count) new ≡ take (start + count) mid →
    Draws left left_after (take n (drop (start + count) new)) → Gains left left_after held (take (count + n) (drop start new))
fill_of left left_after old mid new held before start count n is same front takes = record {
  taken = take n (drop (start + count) new);
  takes = takes;
  behind = filled mid new start count n front ∙ ap (λ xs. xs ++ take n (drop (start + count) new)) (same ∙ is);
}

-- what holds at any rate holds where there is a fault
pub on_any_err : {T E : Type 0} (result : Result T E) (P : Type 0) → P → OnErr result P
on_any_err (Ok x) P p = tt
on_any_err (Err e) P p = p
