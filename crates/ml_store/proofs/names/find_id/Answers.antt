use Rattle.std.proofs.Common.{◌≡◌, ◌∙◌, ℕ, List, sym, ap, refl, arith, subst, Contains}
use Rattle.std.proofs.lemmas.Bool.{false≢true}
use Rattle.ml_store.specs.Names.{Name, names_in}
use Rattle.ml_store.proofs.Naming.{unique_names, number_there}
use Rattle.ml_store.proofs.ByName.{some_name, found_at}
use Rattle.ml_store.proofs.names.find_id.Goals as goal

abbrev named : ℕ → List ℕ → Name
named k i = record { number = k; id = i }

-- a number and an id make the name that has them
remade : (name : Name) (n : ℕ) (id : List ℕ) (names : List Name) → n ≡ name.number → name.id ≡ id → Contains names name → Contains names (record { number = n; id = id })
remade name n id names e f there = subst (λ (x : Name). Contains names x) (ap (λ (k : ℕ). named k name.id) (sym e) ∙ ap (λ i. named n i) f) there

pub returns-then-at-len : goal.returns-then-at-len
returns-then-at-len c have =
    let rows = c.args.rows.now in
    let own = unique_names rows c.requires.differ in
    let here = found_at (names_in rows) c.args.ids.now own c.requires.by_name c.args.id.now c.id_place-at.result have.0 c.id_place-at.ensures have.1 have.2 in
    let lt = here.0 in
    absurd (omega (arith, c.len.ensures.count))

pub has_id-requires : goal.has_id-requires
has_id-requires c =
    let rows = c.args.rows.now in
    let own = unique_names rows c.requires.differ in
    let b = c.id_place-at.ensures.bound in
    let some = some_name (names_in rows) c.args.ids.now own c.requires.by_name c.id_place-at.result (omega (arith, c.len.ensures.count)) in
    record { live = rw (c.at-number.ensures, some.2) (number_there rows some.0 some.1) }

pub returns-then-has_id : goal.returns-then-has_id
returns-then-has_id c =
    let rows = c.args.rows.now in
    let own = unique_names rows c.requires.differ in
    let b = c.id_place-at.ensures.bound in
    let some = some_name (names_in rows) c.args.ids.now own c.requires.by_name c.id_place-at.result (omega (arith, c.len.ensures.count)) in
    let is = c.at-number.ensures ∙ some.2 in
    let yes = (c.if-has_id.ensures some.0 some.1 (sym is)).0 refl in
    remade some.0 c.at-number.result c.args.id.now (names_in rows) is yes some.1

pub returns-else-has_id : goal.returns-else-has_id
returns-else-has_id c have =
    let rows = c.args.rows.now in
    let own = unique_names rows c.requires.differ in
    let here = found_at (names_in rows) c.args.ids.now own c.requires.by_name c.args.id.now c.id_place-at.result have.0 c.id_place-at.ensures have.1 have.2 in
    false≢true ((c.if-has_id.ensures have.0 have.1 (sym (c.at-number.ensures ∙ here.1))).1 have.2)
