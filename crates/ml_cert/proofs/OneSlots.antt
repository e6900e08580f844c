-- A text of slots has one reading at most, none where it is refused, and one line at fault.
use Rattle.std.proofs.Common.{◌≡◌, ℕ, ◌<◌, List, [], ◌∷◌, length, get_or, Option, Some, None, inl, inr, refl, sym, ap, subst, ◌∙◌, arith}
use Rattle.std.specs.Prelude.{codes, Result, Ok, Err, IfOk, IfErr}
use Rattle.ml_ratio.specs.Refusal.{RefusesExactly}
use Rattle.std.proofs.lemmas.Bool.{cases_order}
use Rattle.std.proofs.lemmas.List.{same_lists, get_or_default}
use Rattle.ml_ratio.specs.Lines.{entries, entry}
use Rattle.ml_ratio.specs.Ratio.{ReadsRatio}
use Rattle.ml_ratio.proofs.lemmas.Lists.{pick}
use Rattle.ml_ratio.proofs.lemmas.Numerals.{ratio_same}
use Rattle.ml_cone.specs.Places.{IsPlaceOf, IsNoId}
use Rattle.ml_cone.specs.Slots.{no_slot}
use Rattle.ml_cone.specs.declared.label.Label.{Label}
use Rattle.ml_cone.specs.declared.slot.Slot.{Slot}
use Rattle.ml_cert.specs.SlotLine.{WritesBlocker, IsSlotLine}
use Rattle.ml_cert.specs.SlotsText.{HaveOwnIds, AreSlotLines, AreGoodBefore, IsFaultyLine, IsSlotsFault, GivesSlots}
use Rattle.ml_cert.specs.declared.fault.SlotsFault.{SlotsFault}
use Rattle.ml_cert.specs.declared.fault.SlotsFault.TheVariants.{BadLine, Memory}
use Rattle.ml_ratio.proofs.lemmas.Intervals.{equal_ratio}

module _ (labels : List Label) (differ : HaveOwnIds labels) (named : IsNoId labels (codes "-")) where
  one_place : (id : List ℕ) (i j : ℕ) → IsPlaceOf labels id i → IsPlaceOf labels id j → i ≡ j
  one_place id i j p q =
      let d = pick labels i p.0 in
      elim (cases_order i j) [
        | inl same ↦ same
        | inr (inl less) ↦ absurd (differ i j d less q.0 (p.1 d ∙ sym (q.1 d)))
        | inr (inr more) ↦ absurd (differ j i d more p.0 (q.1 d ∙ sym (p.1 d)))
      ]

  blocker_same : (word : List ℕ) (a b : Option ℕ) → WritesBlocker labels word a → WritesBlocker labels word b → a ≡ b
  blocker_same word None None h k = refl
  blocker_same word None (Some j) h k = absurd (named j (subst (λ (id : List ℕ). IsPlaceOf labels id j) h k))
  blocker_same word (Some i) None h k = absurd (named i (subst (λ (id : List ℕ). IsPlaceOf labels id i) k h))
  blocker_same word (Some i) (Some j) h k = ap Some (one_place word i j h k)

  slot_same : (i : ℕ) (line : List ℕ) (a b : Slot) → IsSlotLine labels i line a → IsSlotLine labels i line b → a ≡ b
  slot_same i line a b v w =
      let e : v.id ∷ v.until ∷ v.blocker ∷ [] ≡ w.id ∷ w.until ∷ w.blocker ∷ [] = sym v.words ∙ w.words in
      let e1 : v.until ≡ w.until = cc e in
      let e2 : v.blocker ≡ w.blocker = cc e in
      let until = equal_ratio a.until b.until (ratio_same v.until a.until b.until v.write.its_end (subst (λ (word : List ℕ). ReadsRatio word (Some b.until)) (sym e1) w.write.its_end)) in
      let blocker = blocker_same v.blocker a.blocker b.blocker v.write.its_blocker (subst (λ (word : List ℕ). WritesBlocker labels word b.blocker) (sym e2) w.write.its_blocker) in
      (λ t. record { until = until t; blocker = blocker t })

  -- where ids differ and none is a minus, a text writes one list of slots at most
  pub one_slots : (bytes : List ℕ) (slots others : List Slot) → AreSlotLines labels bytes slots → AreSlotLines labels bytes others → slots ≡ others
  one_slots bytes slots others v w =
      let n = v.one_slot in
      let m = w.one_slot in
      same_lists slots others (n ∙ sym m) (λ k d lt.
      let inside : k < length labels = omega arith in
      get_or_default slots k d no_slot lt ∙ slot_same k (entry bytes k).1 (get_or slots k no_slot) (get_or others k no_slot) (v.written k inside) (w.written k inside)
      ∙ get_or_default others k no_slot d (omega arith))

module _ (labels : List Label) (bytes : List ℕ) where
  -- a text that gives slots has no faulty line and lacks none
  pub faultless : (slots : List Slot) (k : ℕ) → AreSlotLines labels bytes slots → ¬ (IsSlotsFault labels bytes (BadLine k))
  faultless slots k are (inl fault) =
      let n = are.one_line in
      let lt = fault.is_there in
      fault.faulty (get_or slots fault.place no_slot) (are.written fault.place (omega arith))
  faultless slots k are (inr wanting) = let n = are.one_line in let fewer = wanting.fewer in omega arith

  good_line : (n place k : ℕ) → AreGoodBefore labels bytes n → place < n → (fault : IsFaultyLine labels bytes k) → fault.place ≡ place → ⊥
  good_line n place k good lt fault same =
      let one = good place lt in
      fault.faulty one.0 (subst (λ (p : ℕ). IsSlotLine labels p (entry bytes p).1 one.0) (sym same) one.1)

  -- a text of slots is at fault at one number only, be it that of a faulty line or of the first that is wanting
  pub one_fault : (k j : ℕ) → IsSlotsFault labels bytes (BadLine k) → IsSlotsFault labels bytes (BadLine j) → k ≡ j
  one_fault k j (inl one) (inl two) =
      elim (cases_order one.place two.place) [
        | inl same ↦ sym one.number ∙ ap (λ (p : ℕ). (entry bytes p).0) same ∙ two.number
        | inr (inl less) ↦ absurd (good_line two.place one.place k two.good less one refl)
        | inr (inr more) ↦ absurd (good_line one.place two.place j one.good more two refl)
      ]
  one_fault k j (inl one) (inr two) = absurd (good_line (length (entries bytes)) one.place k two.good one.is_there one refl)
  one_fault k j (inr one) (inl two) = absurd (good_line (length (entries bytes)) two.place j one.good two.is_there two refl)
  one_fault k j (inr one) (inr two) = one.number ∙ sym two.number

  -- ---- what an answer says is all that there is to say

  -- a text that gives slots is read as those, where ids differ and none is a minus, unless memory is wanting
  pub reads_from : (r : Result (List Slot) SlotsFault) → IfOk r (λ slots. AreSlotLines labels bytes slots) → IfErr r (λ fault. IsSlotsFault labels bytes fault) →
      HaveOwnIds labels → IsNoId labels (codes "-") → (slots : List Slot) → AreSlotLines labels bytes slots → GivesSlots r slots
  reads_from (Ok others) ok err differ named slots are = inl (ap Ok (one_slots labels differ named bytes others slots ok are))
  reads_from (Err (BadLine k)) ok err differ named slots are = absurd (faultless slots k are err)
  reads_from (Err Memory) ok err differ named slots are = inr refl

  -- a text of slots is refused at a number exactly where it is at fault there
  pub refused_from : (r : Result (List Slot) SlotsFault) → IfOk r (λ slots. AreSlotLines labels bytes slots) →
      IfErr r (λ fault. IsSlotsFault labels bytes fault) → (k : ℕ) → RefusesExactly r (BadLine k) Memory (IsSlotsFault labels bytes (BadLine k))
  refused_from (Ok slots) ok err k = (λ e. absurd (cc e), λ is. absurd (faultless slots k ok is))
  refused_from (Err (BadLine j)) ok err k = (
    λ e.
        let same : j ≡ k = cc e in
        subst (λ (n : ℕ). IsSlotsFault labels bytes (BadLine n)) same err,
    λ is. inl (ap (λ (n : ℕ). Err (BadLine n)) (one_fault j k err is)),
  )
  refused_from (Err Memory) ok err k = (λ e. absurd (cc e), λ is. inr refl)
