-- States that are all adopted are answered in one way.
use Rattle.std.proofs.Common.{◌≡◌, ℕ, suc, ◌<◌, true, List, [], ◌∷◌, ◌++◌, length, map, get_or, Option, Some, None, inl, inr, refl, sym, ap, subst, ◌∙◌, arith}
use Rattle.std.specs.Ordering.{nat_cmp}
use Rattle.std.specs.Cmp.Lexicographic.{slice_cmp}
use Rattle.std.specs.List.Sorted.{IsStrictlySortedBy}
use Rattle.std.specs.declared.cmp.Ordering.TheVariants.{Less}
use Rattle.std.proofs.lemmas.Bool.{false≢true}
use Rattle.std.proofs.lemmas.Cmp.{nat_list_cmp_total, tied_itself}
use Rattle.std.proofs.lemmas.List.{get_or-map, length-map, append-nil}
use Rattle.std.proofs.lemmas.Map.Keys.{Less-from_sorted}
use Rattle.ml_io.specs.Files.{FileSet}
use Rattle.ml_cone.specs.declared.label.Label.{Label}
use Rattle.ml_cone.specs.declared.slot.Slot.{Slot}
use Rattle.ml_follow.specs.Changes.{AreChanges, IsChange}
use Rattle.ml_follow.specs.Follower.{held_labels, held_slots}
use Rattle.ml_follow.specs.States.{AreStates}
use Rattle.ml_follow.specs.declared.state.State.{State}
use Rattle.ml_label.proofs.lemmas.SameLists.{one_list}
use Rattle.ml_watch.specs.declared.change.Change.{Change}
use Rattle.ml_command.specs.Following.{AllAdopted, Following, HasStates, IsAdoption, IsOffer, Offered, Offers}
use Rattle.ml_command.proofs.OneAnswer.{same_file}

-- a told file holds one list of states
pub same_states : ((bytes : List ℕ) (states others : List State) → AreStates bytes states → AreStates bytes others → states ≡ others)
    → (files : FileSet) (name : List ℕ) (states others : List State) → HasStates (Some files) name states → HasStates (Some files) name others → states ≡ others
same_states reading files name states others x y =
    let bytes : y.0 ≡ x.0 = same_file files name y.0 x.0 y.1 x.1 in
    reading x.0 states others x.2 (rw bytes at y.2)

-- ---- the changes between two states

abbrev less : Change → Change → Type 0
less a b = slice_cmp nat_cmp a.id b.id ≡ Less

not_both : (a b : Change) → less a b → less b a → ⊥
not_both a b first second =
    let looped = nat_list_cmp_total.trans a.id b.id a.id first second in
    let tie = tied_itself nat_list_cmp_total a.id in
    cc

ascending : (changes : List Change) → IsStrictlySortedBy (slice_cmp nat_cmp) (map (λ (c : Change). c.id) changes) →
    (j i : ℕ) (d : Change) → j < i → i < length changes → less (get_or changes j d) (get_or changes i d)
ascending changes up j i d lt within =
    let id_of : Change → List ℕ = λ (c : Change). c.id in
    let many = length-map changes id_of in
    let before : j < length changes = omega (arith, lt, within) in
    let at_j : get_or (map id_of changes) j d.id ≡ (get_or changes j d).id = get_or-map id_of changes j d d.id before in
    let at_i : get_or (map id_of changes) i d.id ≡ (get_or changes i d).id = get_or-map id_of changes i d d.id within in
    let sorted = Less-from_sorted (slice_cmp nat_cmp) (map id_of changes) j i d.id up lt (omega (arith, within, many)) in
    subst (λ (b : List ℕ). slice_cmp nat_cmp (get_or changes j d).id b ≡ Less) at_i (subst (λ (a : List ℕ). slice_cmp nat_cmp a (get_or (map id_of changes) i d.id) ≡ Less) at_j sorted)

same_changes : (labels : List Label) (slots : List Slot) (new_labels : List Label) (new_slots : List Slot) (changes others : List Change) →
    AreChanges labels slots new_labels new_slots changes → AreChanges labels slots new_labels new_slots others → changes ≡ others
same_changes labels slots new_labels new_slots changes others a b =
    one_list less not_both changes others (ascending changes a.ascending) (ascending others b.ascending)
    (λ c there. b.whole c (subst (IsChange labels slots new_labels new_slots) there.2 (a.sound there.0 c there.1)))
    (λ c there. a.whole c (subst (IsChange labels slots new_labels new_slots) there.2 (b.sound there.0 c there.1)))

-- ---- what is offered

-- an answer that adopts is an adoption
adoption : (held : Option State) (state : State) (answer : Offered) (after : Option State) → answer.adopted ≡ true → IsOffer held state answer after → IsAdoption held state answer after
adoption held state answer after adopts (inl is) = is
adoption held state answer after adopts (inr (inl is)) = absurd (false≢true (sym is.2.says ∙ adopts))
adoption held state answer after adopts (inr (inr is)) = absurd (false≢true (sym is.4.says ∙ adopts))

-- a state that is adopted is answered in one way
same_adoption : (held : Option State) (state : State) (a b : Offered) (after next : Option State) → IsAdoption held state a after → IsAdoption held state b next → (a ≡ b) × (after ≡ next)
same_adoption held state a b after next x y =
    let changes = same_changes (held_labels held) (held_slots held) state.labels state.slots a.changes b.changes x.changes y.changes in
    let line : a.line ≡ b.line = x.line_is ∙ sym y.line_is in
    let says : a.adopted ≡ b.adopted = x.says ∙ sym y.says in
    (λ i. record { line = line i; adopted = says i; changes = changes i }, x.held_is ∙ sym y.held_is)

first_adopts : (a : Offered) (rest : List Offered) → AllAdopted (a ∷ rest) → a.adopted ≡ true
first_adopts a rest all = all 0 a (omega arith)

rest_adopts : (a : Offered) (rest : List Offered) → AllAdopted (a ∷ rest) → AllAdopted rest
rest_adopts a rest all k d lt = all (suc k) d (omega (arith, lt))

same_offers : (held : Option State) (states : List State) (xs ys : List Offered) (after next : Option State) →
    AllAdopted xs → AllAdopted ys → Offers held states xs after → Offers held states ys next → (xs ≡ ys) × (after ≡ next)
same_offers held [] [] [] after next p q x y = (refl, x ∙ sym y)
same_offers held [] (a ∷ xs) ys after next p q x y = absurd x
same_offers held [] [] (b ∷ ys) after next p q x y = absurd y
same_offers held (state ∷ states) [] ys after next p q x y = absurd x
same_offers held (state ∷ states) (a ∷ xs) [] after next p q x y = absurd y
same_offers held (state ∷ states) (a ∷ xs) (b ∷ ys) after next p q (mid, x, more) (between, y, others) =
    let one = same_adoption held state a b mid between (adoption held state a mid (first_adopts a xs p) x) (adoption held state b between (first_adopts b ys q) y) in
    let rest = same_offers mid states xs ys after next (rest_adopts a xs p) (rest_adopts b ys q) more (rw (sym one.1) at others) in
    (ap (λ (o : Offered). o ∷ xs) one.0 ∙ ap (λ (os : List Offered). b ∷ os) rest.0, rest.1)

-- where nothing is left over, all states were offered
all_offered : {states : List State} (f : Following states) → f.rest ≡ [] → f.offered ≡ states
all_offered f none = sym (append-nil f.offered) ∙ ap (λ (ss : List State). f.offered ++ ss) (sym none) ∙ sym f.are

both : (states : List State) (f g : Following states) → f.rest ≡ [] → g.rest ≡ [] → AllAdopted f.answers → AllAdopted g.answers → (f.answers ≡ g.answers) × (f.held ≡ g.held)
both states f g none empty p q =
    same_offers None states f.answers g.answers f.held g.held p q (rw (all_offered f none) at f.offers) (rw (all_offered g empty) at g.offers)

-- two followings in which all states are offered and adopted have the same answers
pub same_answers : (states : List State) (f g : Following states) → f.rest ≡ [] → g.rest ≡ [] → AllAdopted f.answers → AllAdopted g.answers → f.answers ≡ g.answers
same_answers states f g none empty p q = (both states f g none empty p q).0

-- and they hold the same in the end
pub same_held : (states : List State) (f g : Following states) → f.rest ≡ [] → g.rest ≡ [] → AllAdopted f.answers → AllAdopted g.answers → f.held ≡ g.held
same_held states f g none empty p q = (both states f g none empty p q).1
