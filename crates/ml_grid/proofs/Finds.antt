-- The numbers that a search finds.
use Rattle.std.proofs.Common.{◌≡◌, refl, ℕ, ◌+◌, ◌<◌, ◌≤◌, arith, Bool, true, false, List, inl, inr}
use Rattle.std.specs.Prelude.{Contains, ◌⊎◌, ◌↔◌, ◌&&◌, OnOk, Result, Ok, Err, ℤ, pos, ◌+ℤ◌, ◌≤ℤ◌}
use Rattle.std.specs.Ordering.{is_le, nat_cmp}
use Rattle.std.proofs.lemmas.Bool.{false≢true}
use Rattle.std.proofs.lemmas.Bool.Decides.{nat_tests}
use Rattle.std.proofs.lemmas.Int.{ints, by_lt_z}
use Rattle.ml_ratio.specs.Fraction.{value_of, IsAtMost}
use Rattle.ml_ratio.specs.RatioOrder.{ratio_cmp}
use Rattle.ml_ratio.specs.declared.ratio.Ratio.{Ratio}
use Rattle.ml_cone.specs.declared.cells.Cells.{Cells}
use Rattle.ml_spans.specs.Search.{is_within, IsValueOf, HasPassing}
use Rattle.ml_grid.specs.Cell.{cell_cmp}
use Rattle.ml_grid.specs.Column.{IsInColumn, IsInColumnFrom, IsAmongFrom}
use Rattle.ml_grid.proofs.Partial.{IsAmongFirst, IsAmongFirstFrom}
use Rattle.ml_grid.specs.Count.{count_between}
use Rattle.ml_grid.specs.Entry.{Entry}
use Rattle.ml_grid.specs.Found.{IsNumberOf, HasEntry, Finds, IsAmong}
use Rattle.ml_grid.proofs.Columns.{in_column, of_column}

-- ---- numbers that come in, as sets

number_same : (P Q : Entry → Type 0) (entries : List Entry) → ((e : Entry) → P e → Q e) → (n : ℕ) → IsNumberOf P entries n → IsNumberOf Q entries n
number_same P Q entries f n h = (h.0, h.1, h.2, f h.0 h.3)

-- a search for a property that no entry has finds no number
pub finds_none : (P : Entry → Type 0) (entries : List Entry) (a : List ℕ) → ((e : Entry) → ¬ (P e)) → Finds P entries a a
finds_none P entries a none n = (λ h. inl h, λ h. elim h [ inl old ↦ old | inr new ↦ absurd (none new.0 new.3) ])

-- two searches in a row find what one search for either property does
pub finds_both : (P Q R : Entry → Type 0) (entries : List Entry) (a b c : List ℕ) → Finds P entries a b → Finds Q entries b c → ((e : Entry) → R e ↔ (P e ⊎ Q e)) → Finds R entries a c
finds_both P Q R entries a b c h k r n = (
  λ new. elim ((k n).0 new) [
    | inl in_b ↦ elim ((h n).0 in_b) [ inl in_a ↦ inl in_a | inr first ↦ inr (number_same P R entries (λ e p. (r e).1 (inl p)) n first) ]
    | inr second ↦ inr (number_same Q R entries (λ e q. (r e).1 (inr q)) n second)
  ],
  λ old. elim old [
    | inl in_a ↦ (k n).1 (inl ((h n).1 (inl in_a)))
    | inr some ↦ elim ((r some.0).0 some.3) [
      | inl first ↦ (k n).1 (inl ((h n).1 (inr (some.0, some.1, some.2, first))))
      | inr second ↦ (k n).1 (inr (some.0, some.1, some.2, second))
    ]
  ],
)

-- a search finds the same numbers by a property in other words
pub finds_same : (P Q : Entry → Type 0) (entries : List Entry) (a b : List ℕ) → Finds P entries a b → ((e : Entry) → Q e ↔ P e) → Finds Q entries a b
finds_same P Q entries a b h r n = (
  λ new. elim ((h n).0 new) [ inl in_a ↦ inl in_a | inr some ↦ inr (number_same P Q entries (λ e. (r e).1) n some) ],
  λ old. elim old [ inl in_a ↦ (h n).1 (inl in_a) | inr some ↦ (h n).1 (inr (number_same Q P entries (λ e. (r e).0) n some)) ],
)

-- what a search appended
pub finds_tested : (p : Entry → Bool) (P : Entry → Type 0) (entries : List Entry) (a b : List ℕ) →
    ((e : Entry) → P e ↔ (p e ≡ true)) → ((n : ℕ) → Contains b n ↔ (Contains a n ⊎ IsValueOf p entries n)) → Finds P entries a b
finds_tested p P entries a b r found n = (
  λ new. elim ((found n).0 new) [ inl old ↦ inl old | inr f ↦ inr (f.0, f.1, f.3, (r f.0).1 f.2) ],
  λ h. (found n).1 (elim h [ inl old ↦ inl old | inr f ↦ inr (f.0, f.1, (r f.0).0 f.3, f.2) ]),
)

-- whether a search gives anything
pub some_tested : (p : Entry → Bool) (P : Entry → Type 0) (entries : List Entry) → ((e : Entry) → P e ↔ (p e ≡ true)) → HasPassing p entries ↔ HasEntry P entries
some_tested p P entries r = (λ some. (some.0, some.1, (r some.0).1 some.2), λ has. (has.0, has.1, (r has.0).0 has.2))

-- what is true where a search succeeds may be said in weaker words
pub on_ok : {E : Type 0} (r : Result (Unit {0}) E) (P Q : Type 0) → (P → Q) → OnOk r P → OnOk r Q
on_ok (Ok u) P Q f h = f h
on_ok (Err e) P Q f h = h

-- ---- columns

-- an entry is in a column of the cells just if its key lies between those of the lowest and the highest cell there
pub column_tests : (cells : Cells) (x : ℤ) (e : Entry) →
    IsInColumn cells x e ↔ (is_within cell_cmp (record { band = cells.band; x = x; y = cells.y0 }) (record { band = cells.band; x = x; y = cells.y1 }) e.key ≡ true)
column_tests cells x e = (λ h. of_column cells.band x cells.y0 cells.y1 e.key h.0 h.1 h.2 h.3, λ h. in_column cells.band x cells.y0 cells.y1 e.key h)

both_true : (b c : Bool) → b ≡ true → c ≡ true → (b && c) ≡ true
both_true b c p q = rw (p, q) refl

first_true : (b c : Bool) → (b && c) ≡ true → b ≡ true
first_true true c h = refl
first_true false c h = h

second_true : (b c : Bool) → (b && c) ≡ true → c ≡ true
second_true true c h = h
second_true false c h = absurd (false≢true h)

le_of : (p q : ℕ) → p ≤ q → is_le (nat_cmp p q) ≡ true
le_of p q h = grind (arith, nat_tests)

of_le : (p q : ℕ) → is_le (nat_cmp p q) ≡ true → p ≤ q
of_le p q h = grind (arith, nat_tests)

at_most_tests : (s u : Ratio) → IsAtMost (value_of s) (value_of u) ↔ (is_le (ratio_cmp s u) ≡ true)
at_most_tests s u = (λ h. le_of _ _ h, λ h. of_le _ _ h)

-- an entry that ends at the scale at the earliest is in a column of the cells just if its key and its end pass the tests
pub column_from_tests : (cells : Cells) (x : ℤ) (s : Ratio) (e : Entry) → IsInColumnFrom cells x s e ↔
    ((is_within cell_cmp (record { band = cells.band; x = x; y = cells.y0 }) (record { band = cells.band; x = x; y = cells.y1 }) e.key && is_le (ratio_cmp s e.end)) ≡ true)
column_from_tests cells x s e = (
  λ h. both_true _ _ ((column_tests cells x e).0 h.0) ((at_most_tests s e.end).0 h.1),
  λ h. ((column_tests cells x e).1 (first_true _ _ h), (at_most_tests s e.end).1 (second_true _ _ h)),
)

-- ---- column by column

-- no entry is in the first 0 columns
pub none_first : (cells : Cells) (e : Entry) → ¬ (IsAmongFirst cells 0 e)
none_first cells e h = let a = h.1 in let b = h.2 in omega (arith, ints)

-- an entry is in one of the first i + 1 columns just if it is in one of the first i or in the next one
pub first_more : (cells : Cells) (i : ℕ) (e : Entry) → IsAmongFirst cells (i + 1) e ↔ (IsAmongFirst cells i e ⊎ IsInColumn cells (cells.x0 +ℤ pos i) e)
first_more cells i e = (
  λ h. by_lt_z e.key.x (cells.x0 +ℤ pos i) (λ less. inl (h.0, h.1, less, h.3, h.4)) (λ more. (let a = h.2 in inr (h.0, omega (arith, ints), h.3, h.4))),
  λ h. elim h [
    | inl before ↦ (let a = before.2 in (before.0, before.1, omega (arith, ints), before.3, before.4))
    | inr here ↦ (let a = here.1 in (here.0, omega (arith, ints), omega (arith, ints), here.2, here.3))
  ],
)

-- an entry is in one of the cells just if it is in one of the first n columns, where there are n
pub first_all : (cells : Cells) (n : ℕ) → cells.x0 ≤ℤ cells.x1 → n ≡ count_between cells.x0 cells.x1 → (e : Entry) → IsAmong cells e ↔ IsAmongFirst cells n e
first_all cells n h is e = (
  λ k. let a = k.1.1 in (k.0, k.1.0, omega (arith, ints), k.1.2, k.1.3),
  λ k. let a = k.2 in (k.0, (k.1, omega (arith, ints), k.3, k.4)),
)

-- ---- the same with ends

-- no entry that ends at the scale at the earliest is in the first 0 columns
pub none_first_from : (cells : Cells) (s : Ratio) (e : Entry) → ¬ (IsAmongFirstFrom cells s 0 e)
none_first_from cells s e h = none_first cells e h.0

-- such an entry is in one of the first i + 1 columns just if it is in one of the first i or in the next one
pub first_more_from : (cells : Cells) (s : Ratio) (i : ℕ) (e : Entry) → IsAmongFirstFrom cells s (i + 1) e ↔ (IsAmongFirstFrom cells s i e ⊎ IsInColumnFrom cells (cells.x0 +ℤ pos i) s e)
first_more_from cells s i e = (
  λ h. elim ((first_more cells i e).0 h.0) [ inl before ↦ inl (before, h.1) | inr here ↦ inr (here, h.1) ],
  λ h. elim h [ inl before ↦ ((first_more cells i e).1 (inl before.0), before.1) | inr here ↦ ((first_more cells i e).1 (inr here.0), here.1) ],
)

-- such an entry is in one of the cells just if it is in one of the first n columns, where there are n
pub first_all_from : (cells : Cells) (s : Ratio) (n : ℕ) → cells.x0 ≤ℤ cells.x1 → n ≡ count_between cells.x0 cells.x1 → (e : Entry) → IsAmongFrom cells s e ↔ IsAmongFirstFrom cells s n e
first_all_from cells s n h is e = (λ k. ((first_all cells n h is e).0 k.0, k.1), λ k. ((first_all cells n h is e).1 k.0, k.1))

-- ---- whether there is one at all

first_upto : (cells : Cells) (s : Ratio) (i n : ℕ) (e : Entry) → i ≤ n → IsAmongFirstFrom cells s i e → IsAmongFirstFrom cells s n e
first_upto cells s i n e le h = let a = h.0.2 in ((h.0.0, h.0.1, omega (arith, ints), h.0.3, h.0.4), h.1)

-- the first 0 columns have no entry that ends at the scale at the earliest
pub lacks_none : (cells : Cells) (s : Ratio) (entries : List Entry) → ¬ (HasEntry (IsAmongFirstFrom cells s 0) entries)
lacks_none cells s entries h = none_first_from cells s h.0 h.2

-- the first i + 1 columns have no such entry if neither the first i nor the next one has any
pub lacks_more : (cells : Cells) (s : Ratio) (i : ℕ) (entries : List Entry) → ¬ (HasEntry (IsAmongFirstFrom cells s i) entries) →
    ¬ (HasEntry (IsInColumnFrom cells (cells.x0 +ℤ pos i) s) entries) → ¬ (HasEntry (IsAmongFirstFrom cells s (i + 1)) entries)
lacks_more cells s i entries before here h =
    elim ((first_more_from cells s i h.0).0 h.2) [
      | inl one ↦ before (h.0, h.1, one)
      | inr one ↦ here (h.0, h.1, one)
    ]

-- the cells have such an entry if one of their columns has any
pub has_here : (cells : Cells) (s : Ratio) (i n : ℕ) (entries : List Entry) → i < n → cells.x0 ≤ℤ cells.x1 →
    n ≡ count_between cells.x0 cells.x1 → HasEntry (IsInColumnFrom cells (cells.x0 +ℤ pos i) s) entries → HasEntry (IsAmongFrom cells s) entries
has_here cells s i n entries low some is h = (h.0, h.1, (first_all_from cells s n some is h.0).1 (first_upto cells s (i + 1) n h.0 (omega arith) ((first_more_from cells s i h.0).1 (inr h.2))))

-- the cells have no such entry if the first n columns have none, where there are n
pub lacks_all_from : (cells : Cells) (s : Ratio) (n : ℕ) (entries : List Entry) → cells.x0 ≤ℤ cells.x1 →
    n ≡ count_between cells.x0 cells.x1 → ¬ (HasEntry (IsAmongFirstFrom cells s n) entries) → ¬ (HasEntry (IsAmongFrom cells s) entries)
lacks_all_from cells s n entries some is none h = none (h.0, h.1, (first_all_from cells s n some is h.0).0 h.2)
