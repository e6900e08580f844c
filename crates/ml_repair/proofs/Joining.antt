-- The change of the edited label beside those of labels that stay.
use Rattle.std.proofs.Common.{◌≡◌, ◌≢◌, List, [], ◌∷◌, ◌++◌, get_or, Contains, ◌⊎◌, inl, inr, sym, ap, ◌∙◌, subst, Option, Some, None}
use Rattle.std.specs.Prelude.{◌↔◌, IfSome}
use Rattle.std.proofs.lemmas.List.Elements.{Contains-append_left, Contains-push, Contains-push_cases, Contains-get_or}
use Rattle.std.proofs.lemmas.List.Quantifiers.{all_pairs_push}
use Rattle.ml_watch.specs.declared.change.Change.{Change}
use Rattle.ml_store.specs.Rows.{labels_in, HasId}
use Rattle.ml_store.specs.declared.row.Row.{Row}
use Rattle.ml_repair.specs.Stays.{IsStayChange, IsJoinedBy}
use Rattle.ml_watch.specs.ById.{HaveOwnIds}
use Rattle.ml_store.specs.declared.moved.Moved.{Moved}
use Rattle.ml_ratio.proofs.lemmas.Lists.{contains_map}

module _ (rows : List Row) (moved : List Moved) where
  -- with the edited label's change, if there is one, the changes are those of the labels that stay, and that change
  pub joined_same : (edited : Option Change) (before after : List Change) → ((c : Change) → Contains before c ↔ IsStayChange rows moved c) →
      IsJoinedBy edited before after → (c : Change) → Contains after c ↔ (IsStayChange rows moved c ⊎ (edited ≡ Some c))
  joined_same None before after are joined c = rw joined (λ h. inl ((are c).0 h), λ h. elim h [ inl s ↦ (are c).1 s | inr e ↦ absurd (let f : None ≡ Some c = e in cc) ])
  joined_same (Some x) before after are joined c =
      rw joined (
        λ h. elim (Contains-push_cases before x c h) [ inl old ↦ inl ((are c).0 old) | inr same ↦ inr (ap (λ (y : Change). Some y) same) ],
        λ h. elim h [
          | inl s ↦ Contains-append_left before (x ∷ []) c ((are c).1 s)
          | inr e ↦ let f : x ≡ c = cc in subst (Contains (before ++ x ∷ [])) f (Contains-push before x)
        ],
      )

  -- no two of these changes have one id, as no label that stays has the id of the edited one
  pub joined_own : (edited : Option Change) (before after : List Change) → ((c : Change) → Contains before c ↔ IsStayChange rows moved c) →
      HaveOwnIds before → IfSome edited (λ c. ¬ (HasId (labels_in rows) c.id)) → IsJoinedBy edited before after → HaveOwnIds after
  joined_own None before after are own none joined = rw joined own
  joined_own (Some x) before after are own none joined =
      rw joined (all_pairs_push (λ (a : Change) (b : Change). a.id ≢ b.id) before x own (λ k d lt e.
      let old : Change = get_or before k d in
      let s = (are old).0 (Contains-get_or before k d lt) in
      none (s.row.label, contains_map (λ (t : Row). t.label) rows s.row s.there, sym (ap (λ (y : Change). y.id) s.change_is) ∙ e)))
