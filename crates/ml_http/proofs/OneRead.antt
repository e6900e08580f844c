-- A request that changes nothing has one reply.
use Rattle.std.proofs.Common.{◌≡◌, ℕ, ◌<◌, Bool, List, length, get_or, Contains, Option, Some, None, Result, Ok, Err, inl, inr, refl, sym, ap, subst, ◌∙◌, arith}
use Rattle.std.specs.Prelude.{MatchOption, codes}
use Rattle.std.proofs.lemmas.Bool.{cases_order}
use Rattle.std.proofs.lemmas.List.{get_or_default, get_or-map, length-map}
use Rattle.std.proofs.lemmas.List.Sorted.{Contains-permutation, IsPermutation-sym}
use Rattle.ml_ratio.specs.Fraction.{Fraction, IsSame, value_of}
use Rattle.ml_ratio.specs.declared.feature.Feature.{Feature}
use Rattle.ml_ratio.specs.declared.ratio.Ratio.{Ratio}
use Rattle.ml_cone.specs.Slots.{IsBlockerBy, AreSlots, ends, no_slot}
use Rattle.ml_cone.specs.declared.label.Label.{Label}
use Rattle.ml_cone.specs.declared.slot.Slot.{Slot}
use Rattle.ml_label.specs.Labelling.{IsLabelling, IsSameAnswer}
use Rattle.ml_label.specs.Labels.{AreLabelsOf}
use Rattle.ml_label.specs.declared.reason.Reason.{Reason}
use Rattle.ml_store.specs.Rows.{labels_in, slots_in, number_at}
use Rattle.ml_store.specs.declared.row.Row.{Row}
use Rattle.ml_repair.specs.Settled.{IsSettled}
use Rattle.ml_editor.specs.State.{State, IsState}
use Rattle.ml_editor.specs.declared.standing.Standing.{Standing}
use Rattle.ml_editor.specs.declared.standing.Standing.TheVariants.{Unlabelled, Labelled}
use Rattle.ml_answer.specs.Edit.{rev_text}
use Rattle.ml_answer.specs.MapView.{json_body, svg_body}
use Rattle.ml_answer.specs.Reason.{reason_text}
use Rattle.ml_answer.specs.Slot.{slot_text}
use Rattle.ml_follow.specs.StateText.{state_text}
use Rattle.ml_http.specs.declared.kind.Kind.TheVariants as kinds
use Rattle.ml_http.specs.declared.route.ReadRoute.{ReadRoute}
use Rattle.ml_http.specs.declared.route.ReadRoute.TheVariants as reads
use Rattle.ml_http.specs.Alike.{LookAlike}
use Rattle.ml_http.specs.Replies.{json_reply, query_reply}
use Rattle.ml_http.specs.Reply.{reply_text}
use Rattle.ml_http.specs.Routes.{id_in}
use Rattle.ml_http.specs.StateReply.{IsStateText, IsStateReply}
use Rattle.ml_http.specs.Step.{Query, IsIdOf, IsSlotText, IsStandingReply, IsWhyReply, IsRevReply, IsRead}
use Rattle.ml_label.proofs.lemmas.SameLabels.{same_labels, its_feature}
use Rattle.ml_http.proofs.SameReplies.{OneLabel, json_made, svg_made, same_view_reply}
use Rattle.ml_http.proofs.SameViews.{KnownChoice, row_of, same_untils}

itself : (s : State) → LookAlike s s
itself s = record { style = refl; features = λ f. (λ h. h, λ h. h) }

module _ (one : OneLabel) (known : KnownChoice) (s : State) where
  -- a map in one state has one list of labels
  pub labels_again : (a b : List Label) → AreLabelsOf s.style s.features a → AreLabelsOf s.style s.features b → a ≡ b
  labels_again a b first second = same_labels one s.style s.features s.features a b first second (λ f. (λ h. h, λ h. h))

  -- ---- the revision and the state

  rev_again : (closes : Bool) (a b : List ℕ) → IsRevReply s closes a → IsRevReply s closes b → a ≡ b
  rev_again closes a b first second =
      let labels = labels_again (labels_in first.0) (labels_in second.0) first.1.labels second.1.labels in
      let many : length first.0 ≡ length second.0 = sym (length-map first.0 (λ r. r.label)) ∙ ap length labels ∙ length-map second.0 (λ r. r.label) in
      first.2 ∙ ap (λ (n : ℕ). json_reply 200 closes (rev_text s.rev (length s.features) n)) many ∙ sym second.2

  -- a map in one state has one text that tells the state of its labels
  pub state_text_again : (a b : List ℕ) → IsStateText s a → IsStateText s b → a ≡ b
  state_text_again a b (labels, are, (slots, best, is)) (others, those, (rest, also, text)) =
      let same = labels_again labels others are those in
      let slots_same = known.slots (λ j. j) others slots rest (subst (λ (ls : List Label). AreSlots (λ j. j) ls slots) same best) also in
      is ∙ ap (λ (ls : List Label). state_text s.rev ls slots) same ∙ ap (state_text s.rev others) slots_same ∙ sym text

  state_again : (closes : Bool) (a b : List ℕ) → IsStateReply s closes a → IsStateReply s closes b → a ≡ b
  state_again closes a b first second = first.2 ∙ ap (reply_text 200 kinds.Text None closes) (state_text_again first.0 second.0 first.1 second.1) ∙ sym second.2

  -- ---- the slot of a label

  -- the blocker by its place
  by_place : (rows : List Row) (d : Label) (p : ℕ) (blocker : Option ℕ) → IsBlockerBy (number_at rows) (labels_in rows) (ends (slots_in rows)) p blocker →
      (x : Option ℕ) × IsBlockerBy (λ j. j) (labels_in rows) (ends (slots_in rows)) p x × MatchOption blocker (x ≡ None) (λ n. (j : ℕ) × (x ≡ Some j) × (number_at rows j ≡ n) × (j < p))
  by_place rows d p None is = (None, is, refl)
  by_place rows d p (Some n) (j, number, blocks, first) = (Some j, (j, refl, blocks, first), (j, refl, number, (blocks d).0))

  -- the id of a label at a place, if there is one
  id_at : List Label → Label → Option ℕ → Option (List ℕ)
  id_at labels d None = None
  id_at labels d (Some j) = Some (get_or labels j d).order.id

  -- the id of the blocker is that of the label at its place
  id_by_place : (rows : List Row) (d : Label) (p : ℕ) (blocker : Option ℕ) (id : Option (List ℕ)) (x : Option ℕ) → IsSettled rows → p < length rows →
      IsIdOf rows blocker id → MatchOption blocker (x ≡ None) (λ n. (j : ℕ) × (x ≡ Some j) × (number_at rows j ≡ n) × (j < p)) → id ≡ id_at (labels_in rows) d x
  unfolding id_at
  id_by_place rows d p None id x settled lt is place = is ∙ ap (id_at (labels_in rows) d) (sym place)
  id_by_place rows d p (Some n) id x settled lt (row, there, number, is) (j, x_is, at, less) =
      let within : j < length rows = omega arith in
      let found = row_of rows row j settled.own_numbers there within (number ∙ sym at) in
      let label : get_or (labels_in rows) j d ≡ row.label = get_or-map (λ r. r.label) rows j row d within ∙ ap (λ (r : Row). r.label) found in
      is ∙ sym (ap (λ (l : Label). Some l.order.id) label) ∙ ap (id_at (labels_in rows) d) (sym x_is)

  slot_again : (id : List ℕ) (a b : List ℕ) → IsSlotText s id a → IsSlotText s id b → a ≡ b
  slot_again id a b (rows, are, (row, there, named, (blocker, blocker_is, text))) (others, those, (other, here, called, (rival, rival_is, words))) =
      let labels = labels_again (labels_in rows) (labels_in others) are.labels those.labels in
      let d = row.label in
      let p = there.0 in
      let q = here.0 in
      let many : length (labels_in rows) ≡ length rows = length-map rows (λ r. r.label) in
      let many_too : length (labels_in others) ≡ length others = length-map others (λ r. r.label) in
      let sized = ap length labels in
      let p_in : p < length rows = there.1 in
      let q_in : q < length others = here.1 in
      let at_p : get_or (labels_in rows) p d ≡ row.label = get_or-map (λ r. r.label) rows p row d p_in ∙ ap (λ (r : Row). r.label) there.2 in
      let at_q : get_or (labels_in others) q d ≡ other.label = get_or-map (λ r. r.label) others q other d q_in ∙ ap (λ (r : Row). r.label) here.2 in
      let on_q : get_or (labels_in rows) q d ≡ other.label = ap (λ (ls : List Label). get_or ls q d) labels ∙ at_q in
      let ids : (get_or (labels_in rows) p d).order.id ≡ (get_or (labels_in rows) q d).order.id =
      ap (λ (l : Label). l.order.id) at_p ∙ named ∙ sym called ∙ sym (ap (λ (l : Label). l.order.id) on_q) in
      let places : p ≡ q =
      elim (cases_order p q) [
        | inl same ↦ same
        | inr (inl less) ↦ absurd ((are.settled.in_order p q d less (omega arith)).1 ids)
        | inr (inr more) ↦ absurd ((are.settled.in_order q p d more (omega arith)).1 (sym ids))
      ] in
      let same_label : row.label ≡ other.label = sym at_p ∙ ap (λ (k : ℕ). get_or (labels_in rows) k d) places ∙ on_q in
      let slot_p : get_or (slots_in rows) p no_slot ≡ row.slot = get_or-map (λ r. r.slot) rows p row no_slot p_in ∙ ap (λ (r : Row). r.slot) there.2 in
      let slot_q : get_or (slots_in others) q no_slot ≡ other.slot = get_or-map (λ r. r.slot) others q other no_slot q_in ∙ ap (λ (r : Row). r.slot) here.2 in
      let untils = same_untils known.longest rows others are.settled those.settled labels in
      let inside : p < length (labels_in rows) = omega arith in
      let until : row.slot.until ≡ other.slot.until =
      ap (λ (c : Slot). c.until) (sym slot_p) ∙ untils p inside ∙ ap (λ (k : ℕ). (get_or (slots_in others) k no_slot).until) places ∙ ap (λ (c : Slot). c.until) slot_q in
      let first : IsBlockerBy (number_at rows) (labels_in rows) (ends (slots_in rows)) p row.slot.blocker =
      subst (λ (c : Slot). IsBlockerBy (number_at rows) (labels_in rows) (ends (slots_in rows)) p c.blocker) slot_p (are.settled.slots.blockers p inside) in
      let second : IsBlockerBy (number_at others) (labels_in others) (ends (slots_in others)) q other.slot.blocker =
      subst (λ (c : Slot). IsBlockerBy (number_at others) (labels_in others) (ends (slots_in others)) q c.blocker) slot_q (those.settled.slots.blockers q (omega arith)) in
      let x = by_place rows d p row.slot.blocker first in
      let y = by_place others d q other.slot.blocker second in
      let y_there : IsBlockerBy (λ j. j) (labels_in rows) (ends (slots_in others)) p y.0 =
      subst (λ (k : ℕ). IsBlockerBy (λ j. j) (labels_in rows) (ends (slots_in others)) k y.0) (sym places)
      (subst (λ (ls : List Label). IsBlockerBy (λ j. j) ls (ends (slots_in others)) q y.0) (sym labels) y.1) in
      let blockers = known.blocker (λ j. j) (labels_in rows) (ends (slots_in rows)) (ends (slots_in others))
      (λ k k_in. subst (λ (f : Fraction). IsSame (ends (slots_in rows) k) f) (ap value_of (untils k k_in)) refl) p inside x.0 y.0 x.1 y_there in
      let id_x = id_by_place rows d p row.slot.blocker blocker x.0 are.settled p_in blocker_is x.2 in
      let id_y = id_by_place others d q other.slot.blocker rival y.0 those.settled q_in rival_is y.2 in
      let blocker_ids : blocker ≡ rival = id_x ∙ ap (id_at (labels_in rows) d) blockers ∙ ap (λ (ls : List Label). id_at ls d y.0) labels ∙ sym id_y in
      text ∙ ap (λ (l : Label). slot_text l row.slot.until blocker) same_label ∙ ap (λ (u : Ratio). slot_text other.label u blocker) until
      ∙ ap (slot_text other.label other.slot.until) blocker_ids ∙ sym words

  -- ---- how a feature stands

  same_feature : IsState s → (f g : Feature) → Contains s.features f → Contains s.features g → f.id ≡ g.id → f ≡ g
  same_feature is f g there here ids =
      let k = there.0 in
      let m = here.0 in
      let at_m : get_or s.features m f ≡ g = get_or_default s.features m f g here.1 ∙ here.2 in
      elim (cases_order k m) [
        | inl same ↦ sym there.2 ∙ ap (λ (i : ℕ). get_or s.features i f) same ∙ at_m
        | inr (inl less) ↦ absurd (is.own_ids k m f less here.1 (ap (λ (h : Feature). h.id) there.2 ∙ ids ∙ sym (ap (λ (h : Feature). h.id) at_m)))
        | inr (inr more) ↦ absurd (is.own_ids m k f more there.1 (ap (λ (h : Feature). h.id) at_m ∙ sym ids ∙ sym (ap (λ (h : Feature). h.id) there.2)))
      ]

  -- the feature of a label that is told
  told_feature : (id text : List ℕ) → IsSlotText s id text → (f : Feature) × Contains s.features f × (f.id ≡ id) × ((l : Label) × IsLabelling s.style f (Ok l))
  told_feature id text (rows, are, (row, there, named, rest)) =
      let labels = labels_in rows in
      let listed : Contains labels row.label =
      (there.0, omega (arith, there.1, length-map rows (λ r. r.label)), get_or-map (λ r. r.label) rows there.0 row row.label there.1 ∙ ap (λ (r : Row). r.label) there.2) in
      let unsorted = Contains-permutation labels are.labels.unsorted row.label (IsPermutation-sym are.labels.unsorted labels are.labels.same) listed in
      let found = its_feature one s.style s.features are.labels.made.answers row.label are.labels.made.answered
      (subst (λ (ys : List Label). Contains ys row.label) are.labels.made.labels_are unsorted) in
      (found.0, found.1, sym found.2.ordered.id_is ∙ named, (row.label, found.2))

  answers_again : IsState s → (id : List ℕ) (f g : Feature) (a b : Result Label Reason) → Contains s.features f →
      Contains s.features g → f.id ≡ id → g.id ≡ id → IsLabelling s.style f a → IsLabelling s.style g b → IsSameAnswer a b
  answers_again is id f g a b there here f_id g_id of_f of_g =
      let same = same_feature is f g there here (f_id ∙ sym g_id) in
      one s.style g a b (subst (λ (h : Feature). IsLabelling s.style h a) same of_f) of_g

  standing_again : IsState s → (closes : Bool) (id : List ℕ) (x y : Option Standing) (a b : List ℕ) → IsStandingReply s closes id x a → IsStandingReply s closes id y b → a ≡ b
  standing_again is closes id None None a b v w = v.1 ∙ sym w.1
  standing_again is closes id None (Some (Unlabelled reason)) a b v w = absurd (v.0 (w.0, w.1, w.2))
  standing_again is closes id None (Some (Labelled number)) a b v w = (let found = told_feature id w.0 w.1 in absurd (v.0 (found.0, found.1, found.2)))
  standing_again is closes id (Some (Unlabelled reason)) None a b v w = absurd (w.0 (v.0, v.1, v.2))
  standing_again is closes id (Some (Labelled number)) None a b v w = (let found = told_feature id v.0 v.1 in absurd (w.0 (found.0, found.1, found.2)))
  standing_again is closes id (Some (Unlabelled reason)) (Some (Unlabelled other)) a b v w =
      let same : reason ≡ other = answers_again is id v.0 w.0 (Err reason) (Err other) v.1 w.1 v.2 w.2 v.3 w.3 in
      v.4 ∙ ap (λ (r : Reason). json_reply 200 closes (reason_text id r)) same ∙ sym w.4
  standing_again is closes id (Some (Unlabelled reason)) (Some (Labelled number)) a b v w =
      let found = told_feature id w.0 w.1 in
      absurd (answers_again is id v.0 found.0 (Err reason) (Ok found.3.0) v.1 found.1 v.2 found.2 v.3 found.3.1)
  standing_again is closes id (Some (Labelled number)) (Some (Unlabelled reason)) a b v w =
      let found = told_feature id v.0 v.1 in
      absurd (answers_again is id found.0 w.0 (Ok found.3.0) (Err reason) found.1 w.1 found.2 w.2 found.3.1 w.3)
  standing_again is closes id (Some (Labelled number)) (Some (Labelled other)) a b v w = v.2 ∙ ap (json_reply 200 closes) (slot_again id v.0 w.0 v.1 w.1) ∙ sym w.2

  why_again : IsState s → (closes : Bool) (query : Query) (a b : List ℕ) → IsWhyReply s closes query a → IsWhyReply s closes query b → a ≡ b
  why_again is closes query a b v w = by_id (id_in query) v w
    where
      by_id : (o : Option (List ℕ)) → MatchOption o (a ≡ query_reply closes (codes "id")) (λ id. (standing : Option Standing) × IsStandingReply s closes id standing a) →
          MatchOption o (b ≡ query_reply closes (codes "id")) (λ id. (standing : Option Standing) × IsStandingReply s closes id standing b) → a ≡ b
      by_id None v w = v ∙ sym w
      by_id (Some id) v w = standing_again is closes id v.0 w.0 a b v.1 w.1

  -- a request that changes nothing has one reply
  pub one_read : IsState s → (route : ReadRoute) (closes : Bool) (query : Query) (a b : List ℕ) → IsRead route s closes query a → IsRead route s closes query b → a ≡ b
  one_read is reads.View closes query a b v w = same_view_reply one known.longest json_body json_made kinds.Json s s closes query a b (itself s) v w
  one_read is reads.Svg closes query a b v w = same_view_reply one known.longest svg_body svg_made kinds.Svg s s closes query a b (itself s) v w
  one_read is reads.Why closes query a b v w = why_again is closes query a b v w
  one_read is reads.Map closes query a b v w = v ∙ sym w
  one_read is reads.Rev closes query a b v w = rev_again closes a b v w
  one_read is reads.State closes query a b v w = state_again closes a b v w
