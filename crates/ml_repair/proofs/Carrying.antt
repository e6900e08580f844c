-- Own slots among other rivals: the laws of what may be left out and what may join, for facts that a test decides.
use Rattle.std.proofs.Common.{◌≡◌, ℕ, ◌<◌, Bool, true, false, inl, inr, refl, arith, Option, Some, None}
use Rattle.std.specs.Prelude.{◌↔◌, ◌==◌, ◌&&◌, ◌||◌, not, nat_lt, IsTrue}
use Rattle.std.proofs.lemmas.Bool.Decides.{nat_tests}
use Rattle.ml_ratio.specs.Fraction.{Fraction, value_of}
use Rattle.ml_cone.specs.Slots.{Rival, IsOwnSlot, IsFirstAt, IsSetter}
use Rattle.ml_cone.specs.declared.label.Label.{Label}
use Rattle.ml_cone.specs.declared.slot.Slot.{Slot}
use Rattle.ml_conflict.specs.Carried.{holds, AreCarried, AreJoined}
use Rattle.ml_repair.specs.Repair.{Stands}

-- ---- the same rivals stand, said otherwise

first_same : (rivals : ℕ → Rival) (P Q : ℕ → Type 0) → ((j : ℕ) → P j ↔ Q j) → (low : Label) (f : Fraction) (n : ℕ) → IsFirstAt rivals P low f n → IsFirstAt rivals Q low f n
first_same rivals P Q same low f n first = record {
  place = first.place;
  is_standing = (same first.place).0 first.is_standing;
  its_number = first.its_number;
  sets = first.sets;
  first = λ k less q. first.first k less ((same k).1 q);
}

setter_same : (rivals : ℕ → Rival) (P Q : ℕ → Type 0) → ((j : ℕ) → P j ↔ Q j) → (low : Label) (u : Fraction) (b : Option ℕ) → IsSetter rivals P low u b → IsSetter rivals Q low u b
setter_same rivals P Q same low u None h = h
setter_same rivals P Q same low u (Some n) h = (h.0, first_same rivals P Q same low u n h.1)

-- a label's own slot stays its own where the same rivals stand, however that is said
pub own_same : (rivals : ℕ → Rival) (P Q : ℕ → Type 0) → ((j : ℕ) → P j ↔ Q j) → (low : Label) (slot : Slot) → IsOwnSlot rivals P low slot → IsOwnSlot rivals Q low slot
own_same rivals P Q same low slot own = record {
  is_end = own.is_end;
  allowed = λ j q. own.allowed j ((same j).1 q);
  greatest = λ e end all. own.greatest e end (λ j p. all j ((same j).0 p));
  setter = setter_same rivals P Q same low (value_of slot.until) slot.blocker own.setter;
}

-- ---- the laws

-- the law: where two lists of rivals set a label the same limits in the same order, they leave it the same slot
abbrev pub CarriedLaw : Type 0
CarriedLaw = (low : Label) (rivals others : ℕ → Rival) (stands stays : ℕ → Bool) (link : ℕ → ℕ → Bool) →
    AreCarried low rivals others (holds stands) (holds stays) (λ j k. IsTrue (link j k)) → (slot : Slot) →
    IsOwnSlot rivals (holds stands) low slot → IsOwnSlot others (holds stays) low slot

-- the law: a label keeps its slot as rivals join that allow its end and do not set it
abbrev pub JoinedLaw : Type 0
JoinedLaw = (low : Label) (rivals others : ℕ → Rival) (stands stays : ℕ → Bool) (link : ℕ → ℕ → Bool) (slot : Slot) →
    AreJoined low (value_of slot.until) rivals others (holds stands) (holds stays) (λ j k. IsTrue (link j k)) →
    IsOwnSlot rivals (holds stands) low slot → IsOwnSlot others (holds stays) low slot

module _ (P Q : ℕ → Type 0) (p q : ℕ → Bool) (is_p : (j : ℕ) → P j ↔ IsTrue (p j)) (is_q : (j : ℕ) → Q j ↔ IsTrue (q j))
    (L : ℕ → ℕ → Type 0) (link : ℕ → ℕ → Bool) (is_link : (j k : ℕ) → L j k ↔ IsTrue (link j k)) where
  -- rivals that set the same limits in the same order leave the same slot, where tests decide who stands and who is linked
  pub carried_by : CarriedLaw → (low : Label) (rivals others : ℕ → Rival) → AreCarried low rivals others P Q L → (slot : Slot) → IsOwnSlot rivals P low slot → IsOwnSlot others Q low slot
  carried_by law low rivals others c slot own =
      own_same others (holds q) Q (λ j. ((is_q j).1, (is_q j).0)) low slot
      (law low rivals others p q link (record {
        forth = λ j h. elim (c.forth j ((is_p j).1 h)) [ inl free ↦ inl free | inr t ↦ inr (t.0, (is_q t.0).0 t.1, t.2, (is_link j t.0).0 t.3) ];
        back = λ k h. elim (c.back k ((is_q k).1 h)) [ inl free ↦ inl free | inr t ↦ inr (t.0, (is_p t.0).0 t.1, t.2, (is_link t.0 k).0 t.3) ];
        order = λ j k i m a b less. c.order j k i m ((is_link j k).1 a) ((is_link i m).1 b) less;
      }) slot (own_same rivals P (holds p) is_p low slot own))

  -- the slot stays as rivals join that do not set its end, where tests decide who stands and who is linked
  pub joined_by : JoinedLaw → (low : Label) (rivals others : ℕ → Rival) (slot : Slot) →
      AreJoined low (value_of slot.until) rivals others P Q L → IsOwnSlot rivals P low slot → IsOwnSlot others Q low slot
  joined_by law low rivals others slot c own =
      own_same others (holds q) Q (λ j. ((is_q j).1, (is_q j).0)) low slot
      (law low rivals others p q link slot (record {
        forth = λ j h. let t = c.forth j ((is_p j).1 h) in (t.0, (is_q t.0).0 t.1, t.2, (is_link j t.0).0 t.3);
        back = λ k h. elim (c.back k ((is_q k).1 h)) [ inl free ↦ inl free | inr t ↦ inr (t.0, (is_p t.0).0 t.1, t.2, (is_link t.0 k).0 t.3) ];
        order = λ j k i m a b less. c.order j k i m ((is_link j k).1 a) ((is_link i m).1 b) less;
      }) (own_same rivals P (holds p) is_p low slot own))

-- ---- tests

-- whether two truth values are the same
abbrev pub same_bool : Bool → Bool → Bool
same_bool true b = b
same_bool false b = not b

-- the test of whether the label at j stands before that at i, the edited one only where it is there
abbrev pub stand_test : Bool → Bool → ℕ → ℕ → ℕ → Bool
stand_test comes after at i j = nat_lt j i && (not (j == at) || same_bool comes after)

below_test : (j n : ℕ) → (j < n) ↔ IsTrue (nat_lt j n)
below_test j n = (λ h. grind (arith, nat_tests), λ h. grind (arith, nat_tests))

-- a test decides whether j is below n
pub is_below : (n j : ℕ) → (j < n) ↔ IsTrue (nat_lt j n)
is_below n j = below_test j n

-- a test decides whether two places are the same
pub is_same : (j k : ℕ) → (j ≡ k) ↔ IsTrue (j == k)
is_same j k = (λ h. grind (arith, nat_tests), λ h. grind (arith, nat_tests))

both_true : (a b : Bool) (A B : Type 0) → A ↔ IsTrue a → B ↔ IsTrue b → (A × B) ↔ IsTrue (a && b)
both_true true b A B f g = (λ h. g.0 h.1, λ h. (f.1 refl, g.1 h))
both_true false b A B f g = (λ h. f.0 h.0, λ h. absurd (let e : false ≡ true = h in cc))

if_same : (comes after : Bool) (same : Bool) (E : Type 0) → E ↔ IsTrue same → (E → comes ≡ after) ↔ IsTrue (not same || same_bool comes after)
if_same true true true E e = (λ h. refl, λ h x. refl)
if_same true false true E e = (λ h. let f : true ≡ false = h (e.1 refl) in cc, λ h. absurd (let f : false ≡ true = h in cc))
if_same false true true E e = (λ h. let f : false ≡ true = h (e.1 refl) in cc, λ h. absurd (let f : false ≡ true = h in cc))
if_same false false true E e = (λ h. refl, λ h x. refl)
if_same comes after false E e = (λ h. refl, λ h x. absurd (let f : false ≡ true = e.0 x in cc))

-- a label stands before another exactly where the test for that is true
pub is_standing : (comes after : Bool) (at i j : ℕ) → Stands comes after at i j ↔ IsTrue (stand_test comes after at i j)
is_standing comes after at i j = both_true (nat_lt j i) (not (j == at) || same_bool comes after) (j < i)
    (j ≡ at → comes ≡ after) (below_test j i) (if_same comes after (j == at) (j ≡ at) (is_same j at))

-- two facts hold together exactly where their two tests are true
pub both_tests : (a b : Bool) (A B : Type 0) → A ↔ IsTrue a → B ↔ IsTrue b → (A × B) ↔ IsTrue (a && b)
both_tests a b A B f g = both_true a b A B f g
