-- The first CR LF CR LF of a list of bytes, and of what goes on behind them.
use Rattle.std.proofs.Common.{◌≡◌, ℕ, ◌+◌, ◌-◌, ◌<◌, ◌≤◌, min, List, ◌++◌, length, take, drop, ap, ◌∙◌, sym, subst, arith, inl, inr}
use Rattle.std.proofs.lemmas.Bool.{cases_lt}
use Rattle.std.proofs.lemmas.List.{take-append-le, drop-append-le, length-take, length-drop, take-append-drop}
use Rattle.ml_request.specs.Stream.{IsMarkAt, HasNoMark, IsHeadSize}

-- a mark stands within the bytes
pub mark_fits : (bytes : List ℕ) (at : ℕ) → IsMarkAt bytes at → at + 4 ≤ length bytes
mark_fits bytes at mark =
    let size : min 4 (length bytes - at) ≡ 4 = sym (length-take 4 (drop at bytes) ∙ ap (min 4) (length-drop at bytes)) ∙ ap length mark in
    omega arith

-- where four bytes stand, what follows the bytes does not change them
four_grow : (bytes more : List ℕ) (at : ℕ) → at + 4 ≤ length bytes → take 4 (drop at (bytes ++ more)) ≡ take 4 (drop at bytes)
four_grow bytes more at fits =
    let small : at ≤ length bytes = omega arith in
    let room : 4 ≤ length (drop at bytes) = omega (arith, length-drop at bytes) in
    ap (take 4) (drop-append-le at bytes more small) ∙ take-append-le 4 (drop at bytes) more room

-- what follows the bytes leaves a mark in them where it is
pub mark_grows : (bytes more : List ℕ) (at : ℕ) → IsMarkAt bytes at → IsMarkAt (bytes ++ more) at
mark_grows bytes more at mark = four_grow bytes more at (mark_fits bytes at mark) ∙ mark

-- a mark that ends within the bytes stands there without what follows them, too
pub mark_stays : (bytes more : List ℕ) (at : ℕ) → at + 4 ≤ length bytes → IsMarkAt (bytes ++ more) at → IsMarkAt bytes at
mark_stays bytes more at fits mark = sym (four_grow bytes more at fits) ∙ mark

-- a head ends within the bytes
pub size_fits : (bytes : List ℕ) (size : ℕ) → IsHeadSize bytes size → size ≤ length bytes
size_fits bytes size head = let within = mark_fits bytes head.at head.mark in omega (arith, within, head.behind)

-- what follows the bytes does not change their first head
pub size_grows : (bytes more : List ℕ) (size : ℕ) → IsHeadSize bytes size → IsHeadSize (bytes ++ more) size
size_grows bytes more size head =
    let within = mark_fits bytes head.at head.mark in
    record {
      at = head.at;
      behind = head.behind;
      mark = mark_grows bytes more head.at head.mark;
      first = λ k below mark. head.first k below (mark_stays bytes more k (omega (arith, within, below)) mark);
    }

-- a list of bytes has one first mark
one_at : (bytes : List ℕ) (a b : ℕ) → IsMarkAt bytes a → IsMarkAt bytes b → ((k : ℕ) → k < a → ¬ (IsMarkAt bytes k)) → ((k : ℕ) → k < b → ¬ (IsMarkAt bytes k)) → a ≡ b
one_at bytes a b at_a at_b none_a none_b = elim (cases_lt a b) [
  | inl below ↦ absurd (none_b a below at_a)
  | inr above ↦ elim (cases_lt b a) [ inl below ↦ absurd (none_a b below at_b) | inr other ↦ omega (arith, above, other) ]
]

-- bytes have one first head at most
pub one_size : (bytes : List ℕ) (a b : ℕ) → IsHeadSize bytes a → IsHeadSize bytes b → a ≡ b
one_size bytes a b first second =
    first.behind ∙ ap (λ n. n + 4) (one_at bytes first.at second.at first.mark second.mark first.first second.first) ∙ sym second.behind

-- where the first bytes have a first mark, all of them have it
pub size_of_all : (bytes : List ℕ) (n size : ℕ) → IsHeadSize (take n bytes) size → IsHeadSize bytes size
size_of_all bytes n size head = subst (λ all. IsHeadSize all size) (take-append-drop n bytes) (size_grows (take n bytes) (drop n bytes) size head)

-- a first mark that ends within the first bytes is theirs
pub no_mark_short : (bytes : List ℕ) (n size : ℕ) → IsHeadSize bytes size → size ≤ n → ¬ (HasNoMark (take n bytes))
no_mark_short bytes n size head short none =
    let within = mark_fits bytes head.at head.mark in
    let joined : take n bytes ++ drop n bytes ≡ bytes = take-append-drop n bytes in
    let size_is : length (take n bytes) ≡ min n (length bytes) = length-take n bytes in
    none head.at (mark_stays (take n bytes) (drop n bytes) head.at (omega (arith, size_is, within, short, head.behind)) (subst (λ all. IsMarkAt all head.at) (sym joined) head.mark))
