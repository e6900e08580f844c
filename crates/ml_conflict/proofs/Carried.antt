-- What sets no limit may be left out of the rivals, and what is alike may stand in.
use Rattle.std.proofs.Common.{◌≡◌, ℕ, inl, inr, arith, Option, Some, None, sym, ◌∙◌, ap, refl}
use Rattle.std.specs.Prelude.{MatchOption}
use Rattle.ml_ratio.specs.Fraction.{Fraction, value_of, IsLess, IsAtMost, IsSame}
use Rattle.ml_cone.specs.Choice.{IsEnd, IsLimit}
use Rattle.ml_cone.specs.Slots.{Rival, RivalAllows, IsFirstAt, IsOwnSlot}
use Rattle.ml_cone.specs.declared.label.Label.{Label}
use Rattle.ml_cone.specs.declared.slot.Slot.{Slot}
use Rattle.ml_conflict.specs.Carried.{SetsNoLimit, AreSameRival, AreCarried, AreJoined}
use Rattle.ml_conflict.proofs.Greedy.{Allows-smaller}

-- two rivals that are equal have one number and label, and one end by value
pub alike_of : (r s : Rival) → r ≡ s → AreSameRival r s
alike_of r s e =
    record {
      number = ap (λ (r : Rival). r.number) e;
      label = ap (λ (r : Rival). r.label) e;
      until = let n : r.until.num ≡ s.until.num = ap (λ (r : Rival). r.until.num) e in let d : r.until.den ≡ s.until.den = ap (λ (r : Rival). r.until.den) e in rw (n, d) refl;
    }

-- of two rivals with one number, label and end, either may be named first
pub alike_turned : (r s : Rival) → AreSameRival r s → AreSameRival s r
alike_turned r s h = let u = h.until in record { number = sym h.number; label = sym h.label; until = omega arith }

-- a rival that sets no limit allows every end
free_allows : (low : Label) (r : Rival) (e : Fraction) → IsEnd low e → SetsNoLimit low r → RivalAllows low e r
free_allows low r e e_end free = Allows-smaller low r.label (value_of r.until) (value_of r.until) e (value_of low.max) (omega arith) e_end.1 free

alike_allows : (low : Label) (r s : Rival) (e : Fraction) → AreSameRival r s → RivalAllows low e s → RivalAllows low e r
alike_allows low r s e same h =
    let u = same.until in
    rw same.label (Allows-smaller low s.label (value_of s.until) (value_of r.until) e e (omega arith) (omega arith) h)

free_no_limit : (low : Label) (r : Rival) (f : Fraction) → IsLess f (value_of low.max) → SetsNoLimit low r → ¬ (IsLimit low r.label (value_of r.until) f)
free_no_limit low r f below free limit =
    let range : IsLess (value_of low.min) (value_of low.max) = low.range in
    let most : IsAtMost (value_of low.max) f = limit.greatest (value_of low.max) (omega arith, omega arith) free in
    omega arith

alike_limit : (low : Label) (r s : Rival) (f : Fraction) → AreSameRival r s → IsLimit low s.label (value_of s.until) f → IsLimit low r.label (value_of r.until) f
alike_limit low r s f same limit =
    record {
      is_end = limit.is_end;
      allowed = alike_allows low r s f same limit.allowed;
      greatest = λ e e_end h. limit.greatest e e_end (alike_allows low s r e (alike_turned r s same) h);
    }

module _ (low : Label) (rivals others : ℕ → Rival) (stands stays : ℕ → Type 0) (link : ℕ → ℕ → Type 0) (carried : AreCarried low rivals others stands stays link) where
  allows_forth : (e : Fraction) → IsEnd low e → ((k : ℕ) → stays k → RivalAllows low e (others k)) → (j : ℕ) → stands j → RivalAllows low e (rivals j)
  allows_forth e e_end all j h =
      elim (carried.forth j h) [
        | inl free ↦ free_allows low (rivals j) e e_end free
        | inr there ↦ alike_allows low (rivals j) (others there.0) e there.2 (all there.0 there.1)
      ]

  allows_back : (e : Fraction) → IsEnd low e → ((j : ℕ) → stands j → RivalAllows low e (rivals j)) → (k : ℕ) → stays k → RivalAllows low e (others k)
  allows_back e e_end all k h =
      elim (carried.back k h) [
        | inl free ↦ free_allows low (others k) e e_end free
        | inr there ↦ alike_allows low (others k) (rivals there.0) e (alike_turned (rivals there.0) (others k) there.2) (all there.0 there.1)
      ]

  first_forth : (f : Fraction) (n : ℕ) → IsLess f (value_of low.max) → IsFirstAt rivals stands low f n → IsFirstAt others stays low f n
  first_forth f n below at =
      elim (carried.forth at.place at.is_standing) [
        | inl free ↦ absurd (free_no_limit low (rivals at.place) f below free at.sets)
        | inr there ↦
            record {
              place = there.0;
              is_standing = there.1;
              its_number = sym there.2.number ∙ at.its_number;
              sets = alike_limit low (others there.0) (rivals at.place) f (alike_turned (rivals at.place) (others there.0) there.2) at.sets;
              first = λ m less h limit.
                  elim (carried.back m h) [
                    | inl free ↦ free_no_limit low (others m) f below free limit
                    | inr other ↦ at.first other.0 (carried.order at.place there.0 other.0 m there.3 other.3 less) other.1 (alike_limit low (rivals other.0) (others m) f other.2 limit)
                  ];
            }
      ]

  setter_forth : (u : Fraction) (b : Option ℕ) → MatchOption b (IsSame u (value_of low.max)) (λ n. IsLess u (value_of low.max) × IsFirstAt rivals stands low u n) →
      MatchOption b (IsSame u (value_of low.max)) (λ n. IsLess u (value_of low.max) × IsFirstAt others stays low u n)
  setter_forth u None h = h
  setter_forth u (Some n) h = (h.0, first_forth u n h.0 h.1)

  -- an own slot among the one is one among the others
  pub own_carried : (slot : Slot) → IsOwnSlot rivals stands low slot → IsOwnSlot others stays low slot
  own_carried slot own =
      record {
        is_end = own.is_end;
        allowed = allows_back (value_of slot.until) own.is_end own.allowed;
        greatest = λ e e_end all. own.greatest e e_end (allows_forth e e_end all);
        setter = setter_forth (value_of slot.until) slot.blocker own.setter;
      }

-- an own slot stays one where rivals join that allow its end and do not set it
module _ (low : Label) (rivals others : ℕ → Rival) (stands stays : ℕ → Type 0) (link : ℕ → ℕ → Type 0)
    (slot : Slot) (joined : AreJoined low (value_of slot.until) rivals others stands stays link) where
  joined_first : (n : ℕ) → IsFirstAt rivals stands low (value_of slot.until) n → IsFirstAt others stays low (value_of slot.until) n
  joined_first n at =
      let there = joined.forth at.place at.is_standing in
      record {
        place = there.0;
        is_standing = there.1;
        its_number = sym there.2.number ∙ at.its_number;
        sets = alike_limit low (others there.0) (rivals at.place) (value_of slot.until) (alike_turned (rivals at.place) (others there.0) there.2) at.sets;
        first = λ m less h limit.
            elim (joined.back m h) [
              | inl beyond ↦ beyond.1 limit
              | inr other ↦ at.first other.0 (joined.order at.place there.0 other.0 m there.3 other.3 less) other.1 (alike_limit low (rivals other.0) (others m) (value_of slot.until) other.2 limit)
            ];
      }

  joined_setter : (b : Option ℕ) → MatchOption b (IsSame (value_of slot.until) (value_of low.max))
      (λ n. IsLess (value_of slot.until) (value_of low.max) × IsFirstAt rivals stands low (value_of slot.until) n) →
      MatchOption b (IsSame (value_of slot.until) (value_of low.max)) (λ n. IsLess (value_of slot.until) (value_of low.max) × IsFirstAt others stays low (value_of slot.until) n)
  joined_setter None h = h
  joined_setter (Some n) h = (h.0, joined_first n h.1)

  -- so an own slot among the rivals is one among the others, that is with those that joined them
  pub own_joined : IsOwnSlot rivals stands low slot → IsOwnSlot others stays low slot
  own_joined own =
      record {
        is_end = own.is_end;
        allowed = λ k h.
            elim (joined.back k h) [
              | inl beyond ↦ beyond.0
              | inr there ↦ alike_allows low (others k) (rivals there.0) (value_of slot.until) (alike_turned (rivals there.0) (others k) there.2) (own.allowed there.0 there.1)
            ];
        greatest = λ e e_end all.
            own.greatest e e_end (λ j h. let there = joined.forth j h in alike_allows low (rivals j) (others there.0) e there.2 (all there.0 there.1));
        setter = joined_setter slot.blocker own.setter;
      }

-- an own slot among the same rivals at the same places
pub own_like : (low : Label) (rivals others : ℕ → Rival) (stands stays : ℕ → Type 0) → ((j : ℕ) → stands j → stays j × (rivals j ≡ others j)) →
    ((j : ℕ) → stays j → stands j) → (slot : Slot) → IsOwnSlot rivals stands low slot → IsOwnSlot others stays low slot
own_like low rivals others stands stays forth back =
    own_carried low rivals others stands stays (λ j k. j ≡ k)
    (record {
      forth = λ j h. let f = forth j h in inr (j, f.0, alike_of (rivals j) (others j) f.1, refl);
      back = λ k h. let f = forth k (back k h) in inr (k, back k h, alike_of (rivals k) (others k) f.1, refl);
      order = λ j k i m e f lt. omega arith;
    })
