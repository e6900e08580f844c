-- The text of features reads back as them.
use Rattle.std.proofs.Common.{◌≡◌, ℕ, zero, suc, ◌<◌, List, [], ◌∷◌, length, map as mapped, get_or, take, Bool, true, false, ◌||◌, Ok, refl, sym, ◌∙◌, arith}
use Rattle.std.specs.Str.{bytes_eq}
use Rattle.std.proofs.lemmas.List.{length-map}
use Rattle.std.proofs.lemmas.Slice.Eq.{bytes_eq-Decides}
use Rattle.ml_json.specs.Answer.{IsText}
use Rattle.ml_json.specs.Canonical.{settled}
use Rattle.ml_ratio.specs.declared.feature.Feature.{Feature}
use Rattle.ml_geojson.specs.Collection.{Parts, own_parts, feature, collection}
use Rattle.ml_geojson.specs.Ids.{is_among}
use Rattle.ml_geojson.specs.Map.{ids, AreMadeOf, IsMap, IsFeature, HaveDifferentIds}
use Rattle.ml_geojson.specs.Text.{feature_tree, collection_tree}

-- a feature's text
pub feature_written : (f : Feature) (text : List ℕ) → IsText text (settled (feature_tree f)) →
    feature 0 (settled (feature_tree f)) ≡ Ok (own_parts f) → IsFeature text f
feature_written f text h back = record {
  tree = settled (feature_tree f);
  text = h;
  parts = own_parts f;
  reads = back;
  named = refl;
  made = record { shape = refl; props = refl };
}

parts_at : (fs : List Feature) (k : ℕ) (p : Parts) (f : Feature) → k < length fs → get_or (mapped own_parts fs) k p ≡ own_parts (get_or fs k f)
parts_at [] k p f lt = absurd (omega arith)
parts_at (g ∷ fs) zero p f lt = refl
parts_at (g ∷ fs) (suc k) p f lt = parts_at fs k p f (omega arith)

not_same : (a b : List ℕ) → ¬ (b ≡ a) → (t : Bool) → bytes_eq a b ≡ t → t ≡ false
not_same a b h true e = absurd (h (sym ((bytes_eq-Decides a b).0 e)))
not_same a b h false e = refl

either : (a b : Bool) → a ≡ false → b ≡ false → (a || b) ≡ false
either a b e g = rw (e, g) refl

-- a text that differs from the first ids is not among them
front_new : (fs : List Feature) (k : ℕ) (f : Feature) (text : List ℕ) → ((i : ℕ) → i < k → i < length fs → ¬ ((get_or fs i f).id ≡ text)) → is_among (take k (ids fs)) text ≡ false
front_new [] zero f text h = refl
front_new [] (suc k) f text h = refl
front_new (g ∷ fs) zero f text h = refl
front_new (g ∷ fs) (suc k) f text h =
    let one = not_same text g.id (h 0 (omega arith) (omega arith)) (bytes_eq text g.id) refl in
    either (bytes_eq text g.id) (is_among (take k (ids fs)) text) one (front_new fs k f text (λ i less lt. h (suc i) (omega arith) (omega arith)))

module _ (fs : List Feature) (differ : HaveDifferentIds fs) where
  made_of : AreMadeOf (mapped own_parts fs) fs
  made_of = record {
    one_each = sym (length-map fs own_parts);
    made = λ k p f lt. (let n = length-map fs own_parts in rw (parts_at fs k p f (omega arith)) (record { shape = refl; props = refl }));
    named = λ k p f lt.
        let n = length-map fs own_parts in
        let new : is_among (take k (ids fs)) (get_or fs k f).id ≡ false = front_new fs k f (get_or fs k f).id (λ i less lt'. differ i k f less (omega arith)) in
        rw (parts_at fs k p f (omega arith)) (record { new = λ e. refl; known = λ e. absurd (let both : true ≡ false = sym e ∙ new in cc) });
  }

  -- a collection's text
  pub collection_written : (text : List ℕ) → IsText text (settled (collection_tree fs)) →
      collection (settled (collection_tree fs)) ≡ Ok (mapped own_parts fs) → IsMap text fs
  collection_written text h back = record {
    tree = settled (collection_tree fs);
    text = h;
    parts = mapped own_parts fs;
    reads = back;
    made = made_of;
  }
