-- Classes that are read one after another.
use Rattle.std.proofs.Common.{◌≡◌, ℕ, ◌+◌, ◌<◌, List, [], ◌∷◌, ◌++◌, length, drop, sym, ap, ◌∙◌, append_assoc, get_or}
use Rattle.toml.specs.Data.{Data, Items, item}
use Rattle.toml.specs.View.{view, items_view}
use Rattle.toml.proofs.Views.{items_view-drop}
use Rattle.toml.specs.declared.value.Value.{Value}
use Rattle.ml_style.specs.Faults.{Refuses}
use Rattle.ml_style.specs.ClassFaults.{class_faults, classes_faults, IsClassOf, AreClasses}
use Rattle.ml_style.specs.declared.class.Class.{Class}
use Rattle.ml_style.specs.declared.fault.StyleFault.{StyleFault}
use Rattle.ml_style.proofs.Refusals.{refuses_on}

-- the value at a place, and those behind it
pub at_place : (values : List Value) (k : ℕ) (value : Value) → k < length values → value ≡ get_or values k value → items_view (drop k values) ≡ item (view value) (items_view (drop (k + 1) values))
at_place values k value h e = items_view-drop values k value h ∙ ap (λ (v : Value). item (view v) (items_view (drop (k + 1) values))) (sym e)

module _ (version : ℕ) (names : List (List ℕ)) (k : ℕ) (items rest : Items) (d : Data) (e : items ≡ item d rest) where
  -- past a class without faults
  pub past_faults : (total : List StyleFault) → classes_faults version names k items ≡ total → class_faults version names k d ≡ [] → classes_faults version names (k + 1) rest ≡ total
  past_faults total h none = sym (ap (λ (x : List StyleFault). x ++ classes_faults version names (k + 1) rest) none) ∙ sym (ap (classes_faults version names k) e) ∙ h

  -- the refusal of a class is that of all
  pub refused_at : (fault : StyleFault) (total : List StyleFault) → classes_faults version names k items ≡ total → Refuses fault (class_faults version names k d) → Refuses fault total
  refused_at fault total h r = rw (← h, e) (refuses_on fault (class_faults version names k d) (classes_faults version names (k + 1) rest) r)

-- one more class
pub one_more_class : (version : ℕ) (all items rest : Items) (d : Data) (done : List Class) (class : Class) → items ≡ item d rest → IsClassOf version d class
    → ((xs : List Class) → AreClasses version items xs → AreClasses version all (done ++ xs))
    → (xs : List Class) → AreClasses version rest xs → AreClasses version all ((done ++ class ∷ []) ++ xs)
one_more_class version all items rest d done class e is h xs r = rw (append_assoc done (class ∷ []) xs) (h (class ∷ xs) (rw e (is, r)))
