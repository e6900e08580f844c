-- Changes that are noted move by move.
use Rattle.std.proofs.Common.{◌≡◌, ◌≢◌, ℕ, ◌+◌, ◌*◌, ◌<◌, ◌≤◌, List, [], ◌∷◌, ◌++◌, length, get_or, Contains, ◌⊎◌, inl, inr, sym, ap, ◌∙◌, subst, arith}
use Rattle.std.specs.Ordering.{nat_cmp}
use Rattle.std.specs.declared.cmp.Ordering.TheVariants.{Equal}
use Rattle.std.proofs.lemmas.Bool.{cases_lt}
use Rattle.std.proofs.lemmas.Bool.Decides.{nat_tests}
use Rattle.std.proofs.lemmas.List.{get_or_default, get_or-map, length-map}
use Rattle.std.proofs.lemmas.List.Elements.{Contains-append_left, Contains-push, Contains-push_cases, Contains-get_or}
use Rattle.std.proofs.lemmas.List.Quantifiers.{all_pairs_push}
use Rattle.ml_ratio.specs.Fraction.{value_of, IsSame}
use Rattle.ml_ratio.specs.RatioExact.{ratio_exact}
use Rattle.ml_ratio.specs.declared.ratio.Ratio.{Ratio}
use Rattle.ml_cone.specs.Label.{IsLabelList}
use Rattle.ml_cone.specs.declared.slot.Slot.{Slot}
use Rattle.ml_watch.specs.declared.change.Change.{Change}
use Rattle.ml_store.specs.Rows.{numbers_in, labels_in, HaveOwnNumbers, IsFresh, AreDifferent}
use Rattle.ml_store.specs.declared.row.Row.{Row}
use Rattle.ml_repair.specs.Moves.{numbers_of}
use Rattle.ml_repair.specs.Plan.{slot_for}
use Rattle.ml_repair.specs.Stays.{IsStayChange, IsPushedFor, stay_change}
use Rattle.ml_watch.specs.ById.{HaveOwnIds}
use Rattle.ml_store.specs.declared.moved.Moved.{Moved}
use Rattle.ml_repair.proofs.Moving.{slot_new, slot_kept}
use Rattle.std.specs.Prelude.{◌↔◌}
use Rattle.ml_repair.proofs.Enough.{contained_or_not}
use Rattle.ml_repair.proofs.OneRow.{one_number, one_id}
use Rattle.ml_ratio.proofs.lemmas.Lists.{contains_map}

-- equal values are one ratio
pub same_ratio : (a b : Ratio) → IsSame (value_of a) (value_of b) → a ≡ b
same_ratio a b e = ratio_exact a b (same_cmp (a.num * b.den) (b.num * a.den) e)
  where
    same_cmp : (p q : ℕ) → p ≡ q → nat_cmp p q ≡ Equal
    same_cmp p q e = grind (arith, nat_tests)

-- the changes of the first k moves
pub record Noted (rows : List Row) (moved : List Moved) (k : ℕ) (out : List Change) : Type 0 where
  pub sound : (c : Change) → Contains out c → (s : IsStayChange rows moved c) × (j : ℕ) × (j < k) × (get_or (numbers_of moved) j 0 ≡ s.row.number)
  pub whole : (r : Row) → Contains rows r → (j : ℕ) → j < k → get_or (numbers_of moved) j 0 ≡ r.number →
      r.slot.until ≢ (slot_for r.number r.slot moved).until → Contains out (stay_change r (slot_for r.number r.slot moved))
  pub own : HaveOwnIds out

-- before the first move no change is noted
pub noted_none : (rows : List Row) (moved : List Moved) → Noted rows moved 0 []
noted_none rows moved = record {
  sound = λ c h. absurd (let lt : h.0 < 0 = h.1 in omega arith);
  whole = λ r there j lt e differ. absurd (omega arith);
  own = λ i j d less lt. absurd (omega arith);
}

module _ (rows : List Row) (moved : List Moved) (k : ℕ) (out : List Change) (noted : Noted rows moved k out) where
  later : (c : Change) → Contains out c → (s : IsStayChange rows moved c) × (j : ℕ) × (j < k + 1) × (get_or (numbers_of moved) j 0 ≡ s.row.number)
  later c h = let s = noted.sound c h in let lt : s.1 < k = s.2 in (s.0, s.1, omega arith, s.3)

  -- no row has the number
  pub noted_fresh : IsFresh (get_or (numbers_of moved) k 0) rows → Noted rows moved (k + 1) out
  noted_fresh fresh = record {
    sound = later;
    whole = λ r there j lt e differ. elim (cases_lt j k) [
      | inl less ↦ noted.whole r there j less e differ
      | inr here ↦ let f : j ≡ k = omega arith in
          absurd (fresh (subst (Contains (numbers_in rows)) (sym e ∙ ap (λ i. get_or (numbers_of moved) i 0) f) (contains_map (λ (t : Row). t.number) rows r there)))
    ];
    own = noted.own;
  }

  module _ (m : Moved) (r : Row) (after : List Change) (distinct : AreDifferent (numbers_of moved)) (k_in : k < length moved)
      (read : get_or moved k m ≡ m) (differ : HaveOwnNumbers rows) (up : IsLabelList (labels_in rows))
      (there : Contains rows r) (number : r.number ≡ m.number) (pushed : IsPushedFor r m.slot out after) where
    number_k : get_or (numbers_of moved) k 0 ≡ r.number
    number_k = get_or-map (λ (x : Moved). x.number) moved k m 0 k_in ∙ ap (λ (x : Moved). x.number) read ∙ sym number

    slot_k : slot_for r.number r.slot moved ≡ m.slot
    slot_k = slot_new r.number r.slot moved k m distinct k_in number_k ∙ ap (λ (x : Moved). x.slot) read

    same_row : (s : Row) → Contains rows s → (j : ℕ) → j ≡ k → get_or (numbers_of moved) j 0 ≡ s.number → s ≡ r
    same_row s in_s j e f = one_number rows s r in_s there differ (sym f ∙ ap (λ i. get_or (numbers_of moved) i 0) e ∙ number_k)

    -- some row has the number: its change was pushed if its end differs, so one more move is noted
    pub noted_more : Noted rows moved (k + 1) after
    noted_more =
        elim pushed [
          | inl same ↦ rw same.1 (record {
            sound = later;
            whole = λ s in_s j lt e apart. elim (cases_lt j k) [
              | inl less ↦ noted.whole s in_s j less e apart
              | inr here ↦
                  let f : s ≡ r = same_row s in_s j (omega arith) e in
                  absurd (apart (subst (λ (t : Row). t.slot.until ≡ (slot_for t.number t.slot moved).until) (sym f) (same.0 ∙ sym (ap (λ (x : Slot). x.until) slot_k))))
            ];
            own = noted.own;
          })
          | inr new ↦
              let c : Change = stay_change r m.slot in
              let stays : IsStayChange rows moved c = record { row = r; there = there; change_is = ap (stay_change r) (sym slot_k); differ = (λ e. new.0 (e ∙ ap (λ (x : Slot). x.until) slot_k)) } in
              rw new.1 (record {
                sound = λ x h. elim (Contains-push_cases out c x h) [
                  | inl old ↦ later x old
                  | inr same ↦ subst (λ (y : Change). (s : IsStayChange rows moved y) × (j : ℕ) × (j < k + 1) × (get_or (numbers_of moved) j 0 ≡ s.row.number)) same (stays, k, omega arith, number_k)
                ];
                whole = λ s in_s j lt e apart. elim (cases_lt j k) [
                  | inl less ↦ Contains-append_left out (c ∷ []) (stay_change s (slot_for s.number s.slot moved)) (noted.whole s in_s j less e apart)
                  | inr here ↦
                      let f : s ≡ r = same_row s in_s j (omega arith) e in
                      subst (Contains (out ++ c ∷ [])) (ap (stay_change r) (sym slot_k) ∙ sym (ap (λ (t : Row). stay_change t (slot_for t.number t.slot moved)) f)) (Contains-push out c)
                ];
                own = all_pairs_push (λ (a : Change) (b : Change). a.id ≢ b.id) out c noted.own (λ i d lt e.
                    let old : Change = get_or out i d in
                    let s = noted.sound old (Contains-get_or out i d lt) in
                    let lt' : s.1 < k = s.2 in
                    let id : s.0.row.label.order.id ≡ r.label.order.id = sym (ap (λ (x : Change). x.id) s.0.change_is) ∙ e in
                    let f : s.0.row ≡ r = one_id rows s.0.row r s.0.there there up id in
                    let many = length-map moved (λ (x : Moved). x.number) in
                    distinct s.1 k 0 lt' (omega arith) (s.3 ∙ ap (λ (t : Row). t.number) f ∙ sym number_k));
              })
        ]

-- all moves
pub noted_all : (rows : List Row) (moved : List Moved) (out : List Change) (k : ℕ) → length moved ≤ k → Noted rows moved k out → (c : Change) → Contains out c ↔ IsStayChange rows moved c
noted_all rows moved out k le noted c = (
  λ h. (noted.sound c h).0,
  λ s.
      subst (Contains out) (sym s.change_is)
      (elim (has (numbers_of moved) s.row.number) [
        | inl there ↦
            let many = length-map moved (λ (x : Moved). x.number) in
            let lt : there.0 < length (numbers_of moved) = there.1 in
            noted.whole s.row s.there there.0 (omega arith) (get_or_default (numbers_of moved) there.0 0 s.row.number there.1 ∙ there.2) s.differ
        | inr none ↦
            let many = length-map moved (λ (x : Moved). x.number) in
            absurd (s.differ (sym (ap (λ (x : Slot). x.until)
            (slot_kept s.row.number s.row.slot moved (λ j lt e. none (j, omega arith, get_or_default (numbers_of moved) j s.row.number 0 (omega arith) ∙ e))))))
      ]),
)
  where
    has : (xs : List ℕ) (x : ℕ) → Contains xs x ⊎ (¬ (Contains xs x))
    has xs x = contained_or_not xs x
