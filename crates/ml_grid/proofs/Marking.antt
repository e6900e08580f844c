-- Marks stand to one another as their entries do, and a mark more is an entry more.
use Rattle.std.proofs.Common.{◌≡◌, ◌≢◌, ℕ, ◌/◌, ◌%◌, ◌^◌, ◌<◌, List, [], ◌∷◌, ◌++◌, length, arith, refl, sym, ap, ◌∙◌, inl, inr, subst}
use Rattle.std.specs.Prelude.{Contains, AllPairs}
use Rattle.std.specs.Cmp.{tied_itself}
use Rattle.std.specs.List.{AllByRecursion}
use Rattle.std.specs.List.Sorted.{IsPermutation, IsSorted}
use Rattle.std.specs.Ordering.{nat_cmp, int_cmp, ordering_then}
use Rattle.std.specs.declared.cmp.Ordering.{Ordering}
use Rattle.std.specs.declared.cmp.Ordering.TheVariants.{Less, Equal, Greater}
use Rattle.std.proofs.lemmas.Cmp.{nat_cmp_total}
use Rattle.std.proofs.lemmas.List.{get_or-map, get_or_default, length-map, map-append}
use Rattle.std.proofs.lemmas.List.Elements.{Contains-append_left, Contains-append_right, Contains-append_cases}
use Rattle.std.proofs.lemmas.List.Quantifiers.{all_pairs_push}
use Rattle.std.proofs.lemmas.Map.Lookups.{exact_unsigned}
use Rattle.ml_ratio.specs.RatioOrder.{ratio_cmp, ratio_total}
use Rattle.ml_ratio.proofs.lemmas.Lists.{contains_cons}
use Rattle.ml_spans.specs.Order.{entry_order, IsRising}
use Rattle.ml_spans.specs.Spans.{entry_of}
use Rattle.ml_spans.proofs.lemmas.Sorted.{rises_sorted}
use Rattle.ml_grid.specs.Cell.{cell_cmp}
use Rattle.ml_grid.specs.Entry.{Entry, Adds, AreApart}
use Rattle.ml_grid.specs.Marks.{cell_marked, number_marked, end_by, entry_marked, marked}
use Rattle.ml_grid.specs.declared.cell.Cell.{Cell}
use Rattle.ml_grid.specs.declared.marks.Ends.{Ends}
use Rattle.ml_grid.proofs.Digits.{by_digits, lowered, same_numbers}

-- the marks tell the order of cells, and then that of numbers
by_cells : (m n : ℕ) → nat_cmp m n ≡ ordering_then (cell_cmp (cell_marked m) (cell_marked n)) (nat_cmp (number_marked m) (number_marked n))
by_cells m n =
    let w : ℕ = 2 ^ 22 in
    let r : ℕ = m / 2 ^ 15 in
    let s : ℕ = n / 2 ^ 15 in
    let number : Ordering = nat_cmp (number_marked m) (number_marked n) in
    let row : Ordering = int_cmp (cell_marked m).y (cell_marked n).y in
    let column : Ordering = int_cmp (cell_marked m).x (cell_marked n).x in
    let band : Ordering = nat_cmp (cell_marked m).band (cell_marked n).band in
    let columns : nat_cmp (r / 2 ^ 22) (s / 2 ^ 22) ≡ ordering_then band column =
    by_digits (2 ^ 22) (r / 2 ^ 22) (s / 2 ^ 22) (omega arith) ∙ ap (λ (o : Ordering). ordering_then band o) (lowered (r / 2 ^ 22 % 2 ^ 22) (s / 2 ^ 22 % 2 ^ 22)) in
    let rows : nat_cmp r s ≡ ordering_then (ordering_then band column) row =
    by_digits (2 ^ 22) r s (omega arith) ∙ ap (λ (o : Ordering). ordering_then o (nat_cmp (r % 2 ^ 22) (s % 2 ^ 22))) columns
    ∙ ap (λ (o : Ordering). ordering_then (ordering_then band column) o) (lowered (r % 2 ^ 22) (s % 2 ^ 22)) in
    by_digits (2 ^ 15) m n (omega arith) ∙ ap (λ (o : Ordering). ordering_then o number) rows

-- what settles nothing where the first does not
settled : (p q : Ordering) → (p ≡ Equal → q ≡ Equal) → ordering_then p q ≡ p
settled Less q h = refl
settled Greater q h = refl
settled Equal q h = h refl

module _ (ends : Ends) where
  -- and so that of the entries, since the end goes by the number
  pub by_marks : (m n : ℕ) → entry_order cell_cmp ratio_cmp nat_cmp (entry_marked ends m) (entry_marked ends n) ≡ nat_cmp m n
  by_marks m n =
      let number : Ordering = nat_cmp (number_marked m) (number_marked n) in
      let end : Ordering = ratio_cmp (end_by ends (number_marked m)) (end_by ends (number_marked n)) in
      let tied : number ≡ Equal → end ≡ Equal =
      λ e. ap (λ (k : ℕ). ratio_cmp (end_by ends k) (end_by ends (number_marked n))) (same_numbers (number_marked m) (number_marked n) e) ∙ tied_itself ratio_total (end_by ends (number_marked n)) in
      ap (λ (o : Ordering). ordering_then (cell_cmp (cell_marked m) (cell_marked n)) o) (settled number end tied) ∙ sym (by_cells m n)

  all_marked : (m : ℕ) (ms : List ℕ) → AllByRecursion (λ n. nat_cmp m n ≡ Less) ms → AllByRecursion (λ e. entry_order cell_cmp ratio_cmp nat_cmp (entry_marked ends m) e ≡ Less) (marked ends ms)
  all_marked m [] h = tt
  all_marked m (n ∷ ns) h = (by_marks m n ∙ h.0, all_marked m ns h.1)

  rises_marked : (ms : List ℕ) → IsRising nat_cmp ms → IsRising (entry_order cell_cmp ratio_cmp nat_cmp) (marked ends ms)
  rises_marked [] h = tt
  rises_marked (m ∷ ms) h = (all_marked m ms h.0, rises_marked ms h.1)

  marks_apart : (ms : List ℕ) → AreApart (marked ends ms) → AllPairs (λ m n. m ≢ n) ms
  marks_apart ms apart i j d below within e =
      let many = length-map ms (entry_marked ends) in
      let low : i < length ms = omega arith in
      apart i j (entry_marked ends d) below (omega arith)
      (get_or-map (entry_marked ends) ms i d (entry_marked ends d) low ∙ ap (entry_marked ends) e ∙ sym (get_or-map (entry_marked ends) ms j d (entry_marked ends d) within))

  -- the entries of marks in order are in order
  pub marked_in_order : (ms ns : List ℕ) → AreApart (marked ends ms) → IsPermutation ms ns → IsSorted nat_cmp ns → IsRising (entry_order cell_cmp ratio_cmp nat_cmp) (marked ends ns)
  marked_in_order ms ns apart moved sorted = rises_marked ns (rises_sorted nat_cmp nat_cmp_total exact_unsigned ms ns (marks_apart ms apart) moved sorted)

  module _ (ms : List ℕ) (m : ℕ) (c : Cell) (number : ℕ) (cell : cell_marked m ≡ c) (its : number_marked m ≡ number) where
    entry_is : entry_marked ends m ≡ entry_of c (end_by ends number) number
    entry_is = ap (λ (d : Cell). entry_of d (end_by ends (number_marked m)) (number_marked m)) cell ∙ ap (λ (n : ℕ). entry_of c (end_by ends n) n) its

    marked_more : marked ends (ms ++ m ∷ []) ≡ marked ends ms ++ (entry_of c (end_by ends number) number) ∷ []
    marked_more = map-append (entry_marked ends) ms (m ∷ []) ∙ ap (λ (e : Entry). marked ends ms ++ e ∷ []) entry_is

    -- no two marked entries are the same after one more mark, if its entry was not marked before
    pub apart_more : AreApart (marked ends ms) → ¬ (Contains (marked ends ms) (entry_of c (end_by ends number) number)) → AreApart (marked ends (ms ++ m ∷ []))
    apart_more apart new =
        let e : Entry = entry_of c (end_by ends number) number in
        subst AreApart (sym marked_more) (all_pairs_push (λ (one other : Entry). one ≢ other) (marked ends ms) e apart (λ k d lt same. new (k, lt, get_or_default (marked ends ms) k e d lt ∙ same)))

    -- one more mark of a cell and a number adds the entry of that cell and number, with the number's end, and no other
    pub adds_more : Adds (λ e. e ≡ entry_of c (end_by ends number) number) (marked ends ms) (marked ends (ms ++ m ∷ []))
    adds_more e = (
      λ there. elim (Contains-append_cases (marked ends ms) (entry_of c (end_by ends number) number ∷ []) e (subst (λ (l : List Entry). Contains l e) marked_more there)) [
        | inl old ↦ inl old
        | inr new ↦ elim (contains_cons (entry_of c (end_by ends number) number) e [] new) [
          | inl same ↦ inr (sym same)
          | inr none ↦ absurd (let h = none.1 in omega arith)
        ]
      ],
      λ h. subst (λ (l : List Entry). Contains l e) (sym marked_more) (elim h [
        | inl old ↦ Contains-append_left (marked ends ms) (entry_of c (end_by ends number) number ∷ []) e old
        | inr same ↦ Contains-append_right (marked ends ms) (entry_of c (end_by ends number) number ∷ []) e (0, omega arith, sym same)
      ]),
    )
