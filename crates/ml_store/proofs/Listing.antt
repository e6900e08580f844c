-- The numbers of rows in byte order of their ids.
use Rattle.std.proofs.Common.{◌≡◌, ℕ, ◌<◌, ◌↔◌, List, length, get_or, Contains, sym, ap, ◌∙◌, arith}
use Rattle.std.proofs.lemmas.List.{get_or_default, length-map}
use Rattle.ml_store.specs.Rows.{numbers_in, AreDifferent, AreInTurn, HaveOwnNumbers}
use Rattle.ml_store.specs.Names.{Name, names_in, AreByName}
use Rattle.ml_store.specs.declared.row.Row.{Row}
use Rattle.ml_store.proofs.ByName.{some_name, name_place, order_here, not_before_itself}
use Rattle.ml_store.proofs.Fresh.{differ_in_turn}
use Rattle.ml_store.proofs.Naming.{unique_names, name_there, number_there}

-- a number in the list of ids is that of a row
pub number_listed : (rows : List Row) (ids : List ℕ) (n : ℕ) → HaveOwnNumbers rows → AreByName (names_in rows) ids → Contains ids n → Contains (numbers_in rows) n
number_listed rows ids n differ by there =
    let some = some_name (names_in rows) ids (unique_names rows differ) by there.0 there.1 in
    let e : n ≡ some.0.number = sym there.2 ∙ get_or_default ids there.0 n 0 there.1 ∙ some.2 in
    rw e (number_there rows some.0 some.1)

-- the number of a row is in the list of ids
pub listed_number : (rows : List Row) (ids : List ℕ) (n : ℕ) → HaveOwnNumbers rows → AreByName (names_in rows) ids → Contains (numbers_in rows) n → Contains ids n
listed_number rows ids n differ by there =
    let name = name_there rows n there in
    let at = name_place (names_in rows) ids (unique_names rows differ) by name.0 name.1 in
    (at.0, at.1, get_or_default ids at.0 n 0 at.1 ∙ at.2 ∙ name.2)

-- no number stands twice in the list of ids
pub listed_differ : (rows : List Row) (ids : List ℕ) → HaveOwnNumbers rows → AreByName (names_in rows) ids → AreDifferent ids
listed_differ rows ids differ by i j d less lt same =
    let own = unique_names rows differ in
    let a = some_name (names_in rows) ids own by i (omega arith) in
    let b = some_name (names_in rows) ids own by j lt in
    let e : a.0.number ≡ b.0.number = sym a.2 ∙ get_or_default ids i 0 d (omega arith) ∙ same ∙ get_or_default ids j d 0 lt ∙ b.2 in
    let before = order_here (names_in rows) ids own by i j a.0 b.0 less lt a.1 b.1 a.2 b.2 in
    not_before_itself a.0.id (rw (← ap (λ (x : Name). x.id) (own a.0 b.0 a.1 b.1 e)) at before)

-- of rows whose numbers are their places, just those below their count are in the list of ids
pub listed_in_turn : (rows : List Row) (ids : List ℕ) (n : ℕ) → AreInTurn rows → AreByName (names_in rows) ids → length ids ≡ length rows → Contains ids n ↔ (n < length ids)
listed_in_turn rows ids n turn by many =
    let differ = differ_in_turn rows turn in
    let long = length-map rows (λ (t : Row). t.number) in (
      (λ there.
          let c = number_listed rows ids n differ by there in
          let lt : c.0 < length (numbers_in rows) = c.1 in
          let is : get_or (numbers_in rows) c.0 0 ≡ n = get_or_default (numbers_in rows) c.0 0 n lt ∙ c.2 in
          let place = turn c.0 (omega arith) in
          omega arith),
      λ lt. listed_number rows ids n differ by (n, omega arith, get_or_default (numbers_in rows) n n 0 (omega arith) ∙ turn n (omega arith)),
    )
