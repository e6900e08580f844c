-- The labels of features, one feature at a time.
use Rattle.std.proofs.Common.{ℕ, ◌<◌, ◌≤◌, List, [], ◌∷◌, zero, suc, length, get_or, All, Result, Ok, Err, refl, sym, ap, subst, arith}
use Rattle.std.specs.Prelude.{◌≢◌}
use Rattle.std.specs.List.{AllPairs}
use Rattle.std.proofs.lemmas.List.Elements.{All-cons}
use Rattle.std.proofs.lemmas.List.Kept.{AllPairs-cons}
use Rattle.ml_ratio.specs.declared.feature.Feature.{Feature}
use Rattle.ml_cone.specs.declared.label.Label.{Label}
use Rattle.ml_style.specs.declared.style.Style.{Style}
use Rattle.ml_label.specs.Labelling.{IsLabelling}
use Rattle.ml_label.specs.Labels.{AreLabellings, labels_in, AreUnsorted}
use Rattle.ml_label.specs.declared.reason.Reason.{Reason}

module _ (style : Style) where
  -- the answers behind the first
  rest_of : (f : Feature) (fs : List Feature) (a : Result Label Reason) (given : List (Result Label Reason)) → AreLabellings style (f ∷ fs) (a ∷ given) → AreLabellings style fs given
  rest_of f fs a given all = (let one = all.one_each in record { one_each = omega arith; each = λ k g b h. all.each (suc k) g b (omega arith) })

  -- one answer more in front
  more_of : (f : Feature) (fs : List Feature) (a : Result Label Reason) (given : List (Result Label Reason)) →
      IsLabelling style f a → AreLabellings style fs given → AreLabellings style (f ∷ fs) (a ∷ given)
  more_of f fs a given is all = (let one = all.one_each in record { one_each = omega arith; each = each })
    where
      each : (k : ℕ) (g : Feature) (b : Result Label Reason) → k < length (f ∷ fs) → IsLabelling style (get_or (f ∷ fs) k g) (get_or (a ∷ given) k b)
      each zero g b h = is
      each (suc k) g b h = all.each k g b (omega arith)

  -- no features have no labels
  pub none : AreUnsorted style [] []
  none = record { answers = []; answered = record { one_each = refl; each = λ k f a h. absurd (omega arith) }; labels_are = refl }

  -- a feature with a label in front of others
  pub labelled : (f : Feature) (fs : List Feature) (label : Label) (labels : List Label) → IsLabelling style f (Ok label) → AreUnsorted style fs labels → AreUnsorted style (f ∷ fs) (label ∷ labels)
  labelled f fs label labels is rest =
      record { answers = Ok label ∷ rest.answers; answered = more_of f fs (Ok label) rest.answers is rest.answered; labels_are = ap (λ (ls : List Label). label ∷ ls) rest.labels_are }

  -- a feature without a label in front of others
  pub unlabelled : (f : Feature) (fs : List Feature) (reason : Reason) (labels : List Label) → IsLabelling style f (Err reason) → AreUnsorted style fs labels → AreUnsorted style (f ∷ fs) labels
  unlabelled f fs reason labels is rest = record { answers = Err reason ∷ rest.answers; answered = more_of f fs (Err reason) rest.answers is rest.answered; labels_are = rest.labels_are }

  few_in : (given : List (Result Label Reason)) → length (labels_in given) ≤ length given
  few_in [] = omega arith
  few_in (Ok label ∷ given) = (let few = few_in given in omega arith)
  few_in (Err reason ∷ given) = (let few = few_in given in omega arith)

  -- no more labels than features
  pub few : (features : List Feature) (labels : List Label) → AreUnsorted style features labels → length labels ≤ length features
  few features labels is =
      let same = ap length is.labels_are in
      let one = is.answered.one_each in
      omega (arith, few_in is.answers)

  -- what holds of the ids of features holds of those of their labels
  ids_kept : (P : List ℕ → Type 0) (fs : List Feature) (given : List (Result Label Reason)) → AreLabellings style fs given → All (λ f. P f.id) fs → All (λ l. P l.order.id) (labels_in given)
  ids_kept P fs [] all h = λ k d t. absurd (omega arith)
  ids_kept P [] (a ∷ given) all h = absurd (let one = all.one_each in omega arith)
  ids_kept P (f ∷ fs) (Ok label ∷ given) all h =
      let is = all.each zero f (Ok label) (omega arith) in
      All-cons (λ l. P l.order.id) label (labels_in given) (subst P (sym is.ordered.id_is) (h zero f (omega arith)))
      (ids_kept P fs given (rest_of f fs (Ok label) given all) (λ k d t. h (suc k) d (omega arith)))
  ids_kept P (f ∷ fs) (Err reason ∷ given) all h = ids_kept P fs given (rest_of f fs (Err reason) given all) (λ k d t. h (suc k) d (omega arith))

  ids_differ : (fs : List Feature) (given : List (Result Label Reason)) → AreLabellings style fs given →
      AllPairs (λ (f g : Feature). f.id ≢ g.id) fs → AllPairs (λ (a b : Label). a.order.id ≢ b.order.id) (labels_in given)
  ids_differ fs [] all h = λ i j d l t. absurd (omega arith)
  ids_differ [] (a ∷ given) all h = absurd (let one = all.one_each in omega arith)
  ids_differ (f ∷ fs) (Ok label ∷ given) all h =
      let is = all.each zero f (Ok label) (omega arith) in
      let others : All (λ g. label.order.id ≢ g.id) fs = λ k d t. subst (λ (id : List ℕ). id ≢ (get_or fs k d).id) (sym is.ordered.id_is) (h zero (suc k) d (omega arith) (omega arith)) in
      AllPairs-cons (λ (a b : Label). a.order.id ≢ b.order.id) label (labels_in given)
      (ids_kept (λ id. label.order.id ≢ id) fs given (rest_of f fs (Ok label) given all) others)
      (ids_differ fs given (rest_of f fs (Ok label) given all) (λ i j d l t. h (suc i) (suc j) d (omega arith) (omega arith)))
  ids_differ (f ∷ fs) (Err reason ∷ given) all h = ids_differ fs given (rest_of f fs (Err reason) given all) (λ i j d l t. h (suc i) (suc j) d (omega arith) (omega arith))

  -- features with ids of their own have labels with ids of their own
  pub own_ids : (features : List Feature) (labels : List Label) → AreUnsorted style features labels →
      AllPairs (λ (f g : Feature). f.id ≢ g.id) features → AllPairs (λ (a b : Label). a.order.id ≢ b.order.id) labels
  own_ids features labels is differ = rw (sym is.labels_are) at (ids_differ features is.answers is.answered differ)
