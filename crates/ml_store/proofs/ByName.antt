-- Numbers in byte order of ids.
use Rattle.std.proofs.Common.{◌≡◌, ◌≢◌, ℕ, ◌+◌, ◌<◌, ◌≤◌, List, [], length, get_or, Contains, inl, inr, refl, sym, ap, ◌∙◌, subst, arith}
use Rattle.std.specs.Prelude.{insert, remove, AllPairs}
use Rattle.std.specs.Cmp.Lexicographic.{slice_cmp}
use Rattle.std.specs.Ordering.{nat_cmp, ordering_reverse}
use Rattle.std.specs.declared.cmp.Ordering.{Ordering}
use Rattle.std.specs.declared.cmp.Ordering.TheVariants.{Less, Equal, Greater}
use Rattle.std.proofs.lemmas.Bool.{cases_lt}
use Rattle.std.proofs.lemmas.Cmp.{nat_list_cmp_total, tied_itself}
use Rattle.std.proofs.lemmas.List.{get_or-map, length-map}
use Rattle.std.proofs.lemmas.List.Edits.{length-remove, get_or-remove_below, get_or-remove_above}
use Rattle.std.proofs.lemmas.List.Elements.{Contains-get_or}
use Rattle.std.proofs.lemmas.List.Quantifiers.{all_pairs_remove}
use Rattle.ml_ratio.specs.Lists.{IsAdded}
use Rattle.ml_store.specs.Names.{Name, AreByName, IsIdBefore, IsIdPlace, HaveId}
use Rattle.ml_ratio.proofs.lemmas.Sorting.{tied_keys}
use Rattle.ml_ratio.proofs.lemmas.Lists.{all_pairs_insert, map_insert, map_remove, added_has, added_insert, added_only, added_remove, contained}

-- ---- ids

-- an id comes before a third one if it comes before a second one that comes before the third
pub before_trans : (a b c : List ℕ) → IsIdBefore a b → IsIdBefore b c → IsIdBefore a c
before_trans a b c = nat_list_cmp_total.trans a b c

-- no id comes before itself
pub not_before_itself : (a : List ℕ) → ¬ (IsIdBefore a a)
not_before_itself a h = let e = tied_itself nat_list_cmp_total a in cc

-- what neither ties nor stands before stands behind
turned : (one other : Ordering) → one ≡ ordering_reverse other → ¬ (one ≡ Less) → ¬ (one ≡ Equal) → other ≡ Less
turned one Less e a b = refl
turned one Equal e a b = absurd (b e)
turned one Greater e a b = absurd (a e)

-- of two different ids the second comes before the first, if the first does not come before the second
pub before_other : (a b : List ℕ) → ¬ (IsIdBefore a b) → a ≢ b → IsIdBefore b a
before_other a b not differ = turned (slice_cmp nat_cmp a b) (slice_cmp nat_cmp b a) (nat_list_cmp_total.antisymm a b) not (λ tie. differ (tied_keys a b tie))

-- what stands once is gone once it is taken out
not_twice : (sorted : List Name) (at : ℕ) (name : Name) → at < length sorted → get_or sorted at name ≡ name → AllPairs (λ a b. IsIdBefore a.id b.id) sorted → ¬ (Contains (remove sorted at) name)
not_twice sorted at name lt is up there =
    let n = length-remove sorted at lt in
    let k = there.0 in
    let in' : k < length (remove sorted at) = there.1 in
    let e : get_or (remove sorted at) k name ≡ name = there.2 in
    elim (cases_lt k at) [
      | inl low ↦
          let f : get_or sorted k name ≡ name = sym (get_or-remove_below sorted at name k low lt) ∙ e in
          not_before_itself name.id (rw (ap (λ (x : Name). x.id) f, ap (λ (x : Name). x.id) is) at (up k at name low lt))
      | inr high ↦
          let f : get_or sorted (k + 1) name ≡ name = sym (get_or-remove_above sorted at name k high lt) ∙ e in
          not_before_itself name.id (rw (ap (λ (x : Name). x.id) f, ap (λ (x : Name). x.id) is) at (up at (k + 1) name (omega arith) (omega arith)))
    ]

-- ---- names of which no two have one number

-- names that have one number are one name
abbrev pub AreUnique : List Name → Type 0
AreUnique names = (a b : Name) → Contains names a → Contains names b → a.number ≡ b.number → a ≡ b

module _ (names : List Name) (numbers : List ℕ) (own : AreUnique names) (by : AreByName names numbers) where
  -- there are as many numbers as names that were sorted by id
  pub length_sorted : length numbers ≡ length by.sorted
  length_sorted = ap length by.numbers_are ∙ length-map by.sorted (λ (x : Name). x.number)

  number_sorted : (k : ℕ) (d : Name) → k < length numbers → get_or numbers k 0 ≡ (get_or by.sorted k d).number
  number_sorted k d lt = ap (λ ns. get_or ns k 0) by.numbers_are ∙ get_or-map (λ (x : Name). x.number) by.sorted k d 0 (let n = length_sorted in omega arith)

  sorted_there : (k : ℕ) (d : Name) → k < length numbers → Contains names (get_or by.sorted k d)
  sorted_there k d lt = (by.members (get_or by.sorted k d)).0 (Contains-get_or by.sorted k d (let n = length_sorted in omega arith))

  -- the name of a number that stands at a place
  pub name_here : (k : ℕ) (name d : Name) → k < length numbers → Contains names name → get_or numbers k 0 ≡ name.number → get_or by.sorted k d ≡ name
  name_here k name d lt there same = own (get_or by.sorted k d) name (sorted_there k d lt) there (sym (number_sorted k d lt) ∙ same)

  -- a name's number stands at some place
  pub name_place : (name : Name) → Contains names name → (k : ℕ) × (k < length numbers) × (get_or numbers k 0 ≡ name.number)
  name_place name there =
      let at = (by.members name).1 there in
      let n = length_sorted in
      let lt : at.0 < length by.sorted = at.1 in
      let in' : at.0 < length numbers = omega arith in
      (at.0, in', number_sorted at.0 name in' ∙ ap (λ (x : Name). x.number) at.2)

  -- of two numbers in the list, the id of the earlier one's name comes before that of the later one's
  pub order_here : (i j : ℕ) (a b : Name) → i < j → j < length numbers → Contains names a → Contains names b → get_or numbers i 0 ≡ a.number → get_or numbers j 0 ≡ b.number → IsIdBefore a.id b.id
  order_here i j a b less lt in_a in_b at_a at_b =
      let n = length_sorted in
      rw (← name_here i a a (omega arith) in_a at_a, ← name_here j b a lt in_b at_b) (by.ascending i j a less (omega arith))

  -- a number in the list is that of some name
  pub some_name : (k : ℕ) → k < length numbers → (name : Name) × Contains names name × (get_or numbers k 0 ≡ name.number)
  some_name k lt =
      let n = length_sorted in
      let d : Name = record { number = 0; id = [] } in
      (get_or by.sorted k d, sorted_there k d lt, number_sorted k d lt)

  -- ---- the search

  -- where the id of the name at the middle place comes before the id sought, so do those of all names up to that place
  pub before_more : (id : List ℕ) (middle : ℕ) (name : Name) → middle < length numbers → Contains names name → get_or numbers middle 0 ≡ name.number → IsIdBefore name.id id →
      (k : ℕ) (other : Name) → k < middle + 1 → Contains names other → get_or numbers k 0 ≡ other.number → IsIdBefore other.id id
  before_more id middle name lt there at before k other in' there' at' =
      elim (cases_lt k middle) [
        | inl less ↦ before_trans other.id name.id id (order_here k middle other name less lt there' there at' at) before
        | inr more ↦
            let same : k ≡ middle = omega arith in
            let e : name ≡ other = own name other there there' (sym at ∙ ap (λ m. get_or numbers m 0) (sym same) ∙ at') in
            subst (λ (x : Name). IsIdBefore x.id id) e before
      ]

  -- where the id of the name at the middle place does not come before the id sought, neither do those of all names from there on
  pub after_more : (id : List ℕ) (middle : ℕ) (name : Name) → middle < length numbers → Contains names name → get_or numbers middle 0 ≡ name.number → ¬ (IsIdBefore name.id id) →
      (k : ℕ) (other : Name) → middle ≤ k → k < length numbers → Contains names other → get_or numbers k 0 ≡ other.number → ¬ (IsIdBefore other.id id)
  after_more id middle name lt there at not k other le in' there' at' before =
      elim (cases_lt middle k) [
        | inl less ↦ not (before_trans name.id other.id id (order_here middle k name other less in' there there' at at') before)
        | inr more ↦
            let same : k ≡ middle = omega arith in
            let e : other ≡ name = own other name there' there (sym at' ∙ ap (λ m. get_or numbers m 0) same ∙ at) in
            not (subst (λ (x : Name). IsIdBefore x.id id) e before)
      ]

  -- a name with the id stands at the place of the id
  pub found_at : (id : List ℕ) (at : ℕ) (name : Name) → IsIdPlace names numbers id at → Contains names name → name.id ≡ id → (at < length numbers) × (get_or numbers at 0 ≡ name.number)
  found_at id at name place there same =
      let p = name_place name there in
      let k = p.0 in
      let lt : k < length numbers = p.1 in
      elim (cases_lt k at) [
        | inl less ↦ absurd (not_before_itself id (subst (λ x. IsIdBefore x id) same (place.before k name less there p.2)))
        | inr more ↦ elim (cases_lt at k) [
          | inl less ↦
              let first = some_name at (omega arith) in
              absurd (place.after at first.0 (omega arith) (omega arith) first.1 first.2 (subst (λ x. IsIdBefore first.0.id x) same (order_here at k first.0 name less lt first.1 there first.2 p.2)))
          | inr here ↦
              let e : at ≡ k = omega arith in
              (omega arith, ap (λ m. get_or numbers m 0) e ∙ p.2)
        ]
      ]

  -- ---- a name comes or goes

  -- when a name of a new id comes in, with its number put at the place of the id, the numbers are still in byte order of ids
  pub named_in : (name : Name) (at : ℕ) (more : List Name) → IsIdPlace names numbers name.id at → ¬ (HaveId names name.id) → IsAdded name names more → AreByName more (insert numbers at name.number)
  named_in name at more place new added =
      let n = length_sorted in
      let b : at ≤ length numbers = place.bound in
      record {
        sorted = insert by.sorted at name;
        ascending = all_pairs_insert (λ (a : Name) (b : Name). IsIdBefore a.id b.id) by.sorted at name (omega arith)
            (λ k d lt. place.before k (get_or by.sorted k d) lt (sorted_there k d (omega arith)) (number_sorted k d (omega arith)))
            (λ k d le lt.
            let it = get_or by.sorted k d in
            before_other it.id name.id (place.after k it le (omega arith) (sorted_there k d (omega arith)) (number_sorted k d (omega arith)))
            (λ e. new (it, sorted_there k d (omega arith), e)))
            by.ascending;
        members = λ x. (
          λ c. elim (added_only (added_insert by.sorted at name) x c) [
            | inl same ↦ subst (Contains more) same (contained added)
            | inr old ↦ added_has added x ((by.members x).0 old)
          ],
          λ c. elim (added_only added x c) [
            | inl same ↦ subst (Contains (insert by.sorted at name)) same (contained (added_insert by.sorted at name))
            | inr old ↦ added_has (added_insert by.sorted at name) x ((by.members x).1 old)
          ],
        );
        numbers_are = ap (λ ns. insert ns at name.number) by.numbers_are ∙ sym (map_insert (λ (x : Name). x.number) by.sorted at name);
      }

  -- when a name goes, with its number taken from its place, the other numbers are still in byte order of ids
  pub named_out : (name : Name) (at : ℕ) (less : List Name) → at < length numbers → get_or numbers at 0 ≡ name.number →
      ¬ (Contains less name) → IsAdded name less names → AreByName less (remove numbers at)
  named_out name at less lt here gone added =
      let n = length_sorted in
      let is : get_or by.sorted at name ≡ name = name_here at name name lt (contained added) here in
      let cut = added_remove by.sorted at name (omega arith) (sym is) in
      record {
        sorted = remove by.sorted at;
        ascending = all_pairs_remove (λ (a : Name) (b : Name). IsIdBefore a.id b.id) by.sorted at (omega arith) by.ascending;
        members = λ x. (
          λ c. elim (added_only added x ((by.members x).0 (added_has cut x c))) [
            | inl same ↦
                absurd (not_twice by.sorted at name (omega arith) is by.ascending (subst (Contains (remove by.sorted at)) (sym same) c))
            | inr old ↦ old
          ],
          λ c. elim (added_only cut x ((by.members x).1 (added_has added x c))) [
            | inl same ↦ absurd (gone (subst (Contains less) (sym same) c))
            | inr old ↦ old
          ],
        );
        numbers_are = ap (λ ns. remove ns at) by.numbers_are ∙ sym (map_remove (λ (x : Name). x.number) by.sorted at);
      }
