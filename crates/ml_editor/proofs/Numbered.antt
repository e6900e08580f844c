-- Features by number after an edit of them: each is found by its id, and the edit is that of the features in order.
use Rattle.std.proofs.Common.{◌≡◌, ℕ, ◌+◌, ◌<◌, cond, not, List, [], ◌∷◌, ◌++◌, length, filter, map, Option, Some, None, IsSome, refl, sym, ap, subst, ◌∙◌, arith, length-append}
use Rattle.std.specs.Prelude.{All, nat_eq}
use Rattle.std.specs.List.{IsDistinct}
use Rattle.std.specs.Map.{keys_of, values_of, lookup, remove_entry, set_value}
use Rattle.std.specs.Str.{bytes_eq}
use Rattle.std.proofs.lemmas.Cmp.{nat_list_eq_equiv}
use Rattle.std.proofs.lemmas.List.Elements.{All-push, All-weaker}
use Rattle.std.proofs.lemmas.Map.{keys-set_value, length-set_value}
use Rattle.std.proofs.lemmas.Map.Keys.{IsDistinct-push}
use Rattle.ml_ratio.specs.declared.feature.Feature.{Feature}
use Rattle.ml_geojson.specs.Map.{ids}
use Rattle.ml_editor.specs.State.{HasFeature, in_place}
use Rattle.ml_editor.specs.Features.{AreNumbered, standing, number_with}
use Rattle.ml_editor.proofs.Entries.{Entry, found_none, found_some, removed_is, replaced_is}
use Rattle.ml_editor.proofs.Numbers.{Place, Held, by_id, by_values, by_keys, by_own, by_length, standing_behind, values_behind, ids_behind, keys_behind}
use Rattle.ml_editor.proofs.Numbers.{number_behind, number_lacks, none_by, found_by, lacks_any, taken_is, kept_is, gone_is, left_is, one_less, out_differ, none_goes}

-- a name by an id
abbrev pub Name : Type 0
Name = List ℕ × ℕ

-- ids that differ are keys that differ, and the other way round
differ_by : (es : List Held) → IsDistinct bytes_eq (ids (values_of es)) → IsDistinct bytes_eq (keys_of (by_id es))
differ_by es own = subst (IsDistinct bytes_eq) (sym (by_keys es)) own

own_by : (es : List Held) (entries : List Entry) → by_id es ≡ entries → IsDistinct bytes_eq (keys_of entries) → IsDistinct bytes_eq (ids (values_of es))
own_by es entries is differ = subst (IsDistinct bytes_eq) (ap keys_of (sym is) ∙ by_keys es) differ

-- a feature with an id has a number, or none has the id
number_new : (es : List Held) (id : List ℕ) → ¬ (HasFeature (values_of es) id) → number_with id es ≡ None
number_new es id new =
    let P : List Feature → Type 0 = λ fs. ¬ (HasFeature fs id) in
    number_lacks id es (found_none id (by_id es) (by_own es) (subst P (sym (by_values es)) new))

number_is : (id : List ℕ) (es : List Held) (o : Option ℕ) → number_with id es ≡ o → IsSome (lookup (bytes_eq id) (by_id es)) → IsSome o
number_is id es None is some = let P : Option Feature → Type 0 = IsSome in subst P (none_by id es is) some
number_is id es (Some n) is some = refl

-- an id that a feature has has a number
pub number_known : (es : List Held) (id : List ℕ) → HasFeature (values_of es) id → IsSome (number_with id es)
number_known es id known =
    let P : List Feature → Type 0 = λ fs. HasFeature fs id in
    number_is id es (number_with id es) refl (found_some id (by_id es) (by_own es) (subst P (sym (by_values es)) known))

module _ (places : List Place) (names : List Name) (next taken : ℕ) (are : AreNumbered places names next taken) where
  -- ---- a feature more

  module _ (new : List Place) (f : Feature) (is : new ≡ places ++ (next, Some f) ∷ []) where
    stands_behind : standing new ≡ standing places ++ (next, f) ∷ []
    stands_behind = ap standing is ∙ standing_behind places next f

    -- it is behind all others
    pub list_behind : values_of (standing new) ≡ values_of (standing places) ++ f ∷ []
    list_behind = ap values_of stands_behind ∙ values_behind (standing places) next f

    -- and the features stay numbered if the names tell its number besides the others; the next number and the count rise by one
    pub are_behind : (called : List Name) → ¬ (HasFeature (values_of (standing places)) f.id) → IsDistinct nat_eq (keys_of new) →
        ((q : List ℕ) → lookup (bytes_eq q) called ≡ cond (bytes_eq f.id q) (Some next) (lookup (bytes_eq q) names)) → AreNumbered new called (next + 1) (taken + 1)
    are_behind called new_id differ names_is =
        let none = number_new (standing places) f.id new_id in
        let low = All-weaker (λ n. n < next) (λ n. n < next + 1) (λ n lt. omega arith) (keys_of places) are.low in
        record {
          differ = differ;
          low = subst (All (λ n. n < next + 1)) (sym (ap keys_of is ∙ keys_behind places next (Some f))) (All-push (λ n. n < next + 1) (keys_of places) next low (omega arith));
          found = λ q. names_is q ∙ ap (λ o. cond (bytes_eq f.id q) (Some next) o) (are.found q) ∙ sym (ap (number_with q) stands_behind ∙ number_behind f next q (standing places) none);
          own_ids = subst (IsDistinct bytes_eq) (sym (ap ids list_behind ∙ ids_behind (values_of (standing places)) f))
              (IsDistinct-push nat_list_eq_equiv (ids (values_of (standing places))) f.id are.own_ids (lacks_any f.id (standing places) none));
          counted = omega (arith, are.counted, ap length stands_behind, length-append (standing places) ((next, f) ∷ []));
        }

  -- ---- a feature in the place of another

  module _ (new : List Place) (f : Feature) (n : ℕ) (has : number_with f.id (standing places) ≡ Some n) (is : new ≡ set_value (nat_eq n) places (Some f)) where
    stands_in_place : by_id (standing new) ≡ set_value (bytes_eq f.id) (by_id (standing places)) f
    stands_in_place = ap (λ es. by_id (standing es)) is ∙ taken_is f n places are.differ has

    -- it is where that with its id was
    pub list_in_place : values_of (standing new) ≡ map (in_place f) (values_of (standing places))
    list_in_place =
        sym (by_values (standing new)) ∙ ap values_of stands_in_place
        ∙ replaced_is f (by_id (standing places)) (by_own (standing places)) (differ_by (standing places) are.own_ids)
        ∙ ap (map (in_place f)) (by_values (standing places))

    -- and the features stay numbered by the same names, with the same next number and the same count
    pub are_in_place : keys_of new ≡ keys_of places → AreNumbered new names next taken
    are_in_place keys = record {
      differ = subst (IsDistinct nat_eq) (sym keys) are.differ;
      low = subst (All (λ n. n < next)) (sym keys) are.low;
      found = λ q. are.found q ∙ sym (ap (λ es. number_with q (standing es)) is ∙ kept_is f n q places are.differ has);
      own_ids = own_by (standing new) _ stands_in_place (subst (IsDistinct bytes_eq) (sym (keys-set_value (bytes_eq f.id) (by_id (standing places)) f)) (differ_by (standing places) are.own_ids));
      counted = are.counted ∙ sym (sym (by_length (standing new)) ∙ ap length stands_in_place ∙ length-set_value (bytes_eq f.id) (by_id (standing places)) f ∙ by_length (standing places));
    }

  -- ---- a feature that goes

  module _ (id : List ℕ) (n : ℕ) (has : number_with id (standing places) ≡ Some n) where
    -- there is one
    pub some_goes : 0 < taken
    some_goes = omega (arith, are.counted, by_length (standing places), one_less id (by_id (standing places)) (found_by id n (standing places) has))

    module _ (new : List Place) (is : standing new ≡ standing (set_value (nat_eq n) places None)) where
      stands_without : by_id (standing new) ≡ remove_entry (bytes_eq id) (by_id (standing places))
      stands_without = ap by_id is ∙ gone_is id n places are.differ has

      -- all others are left
      pub list_without : values_of (standing new) ≡ filter (λ (f : Feature). not (bytes_eq f.id id)) (values_of (standing places))
      list_without =
          sym (by_values (standing new)) ∙ ap values_of stands_without
          ∙ removed_is id (by_id (standing places)) (by_own (standing places)) (differ_by (standing places) are.own_ids)
          ∙ ap (filter (λ (f : Feature). not (bytes_eq f.id id))) (by_values (standing places))

      -- and the features stay numbered if the names tell no number of the id any more; the count falls by one
      pub are_without : (called : List Name) (left : ℕ) → IsDistinct nat_eq (keys_of new) → All (λ n. n < next) (keys_of new) → left + 1 ≡ taken →
          ((q : List ℕ) → lookup (bytes_eq q) called ≡ cond (bytes_eq id q) None (lookup (bytes_eq q) names)) → AreNumbered new called next left
      are_without called left differ low count names_is = record {
        differ = differ;
        low = low;
        found = λ q. names_is q ∙ ap (λ o. cond (bytes_eq id q) None o) (are.found q) ∙ sym (ap (number_with q) is ∙ left_is id n q places are.differ are.own_ids has);
        own_ids = own_by (standing new) _ stands_without (out_differ id (by_id (standing places)) (differ_by (standing places) are.own_ids));
        counted = omega (
          arith,
          count,
          are.counted,
          by_length (standing new),
          by_length (standing places),
          ap length stands_without,
          one_less id (by_id (standing places)) (found_by id n (standing places) has),
        );
      }

  -- where none has the id, none goes
  pub list_same : (id : List ℕ) → number_with id (standing places) ≡ None → values_of (standing places) ≡ filter (λ (f : Feature). not (bytes_eq f.id id)) (values_of (standing places))
  list_same id none =
      sym (by_values (standing places)) ∙ ap values_of (sym (none_goes id (by_id (standing places)) (none_by id (standing places) none)))
      ∙ removed_is id (by_id (standing places)) (by_own (standing places)) (differ_by (standing places) are.own_ids)
      ∙ ap (filter (λ (f : Feature). not (bytes_eq f.id id))) (by_values (standing places))
