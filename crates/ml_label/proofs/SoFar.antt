-- The labels of features that are taken one after another.
use Rattle.std.proofs.Common.{◌≡◌, ℕ, ◌+◌, ◌≤◌, List, [], ◌∷◌, ◌++◌, suc, length, get_or, drop, append-nil, Ok, Err, sym, ap, ◌∙◌, subst, arith}
use Rattle.std.proofs.Math.Seq.{drop-cons}
use Rattle.std.proofs.lemmas.List.{append_assoc, drop_all}
use Rattle.ml_ratio.specs.declared.feature.Feature.{Feature}
use Rattle.ml_cone.specs.declared.label.Label.{Label}
use Rattle.ml_style.specs.declared.style.Style.{Style}
use Rattle.ml_label.specs.Labelling.{IsLabelling}
use Rattle.ml_label.specs.Labels.{AreUnsorted}
use Rattle.ml_label.specs.declared.reason.Reason.{Reason}
use Rattle.ml_label.proofs.LabelsLemmas.{none, labelled, unlabelled}

-- with whatever labels the features have that are still to come, the labels so far are the labels of all
abbrev pub AreSoFar : Style → List Feature → ℕ → List Label → Type 0
AreSoFar style features i labels = (rest : List Label) → AreUnsorted style (drop i features) rest → AreUnsorted style features (labels ++ rest)

module _ (style : Style) (features : List Feature) (i : ℕ) (labels : List Label) where
  -- the features from a place on
  from_place : (f : Feature) → suc i ≤ length features → f ≡ get_or features i f → f ∷ drop (i + 1) features ≡ drop i features
  from_place f there is = ap (λ (g : Feature). g ∷ drop (i + 1) features) is
      ∙ (ap (λ (n : ℕ). get_or features i f ∷ drop n features) (let e : i + 1 ≡ suc i = omega arith in e) ∙ sym (drop-cons features i f there))

  -- one feature with a label more
  pub with_label : (f : Feature) (label : Label) (more : List Label) → suc i ≤ length features → f ≡ get_or features i f →
      IsLabelling style f (Ok label) → more ≡ labels ++ label ∷ [] → AreSoFar style features i labels → AreSoFar style features (i + 1) more
  with_label f label more there is answer grown so_far rest left =
      let here = subst (λ (fs : List Feature). AreUnsorted style fs (label ∷ rest)) (from_place f there is) (labelled style f (drop (i + 1) features) label rest answer left) in
      let same : labels ++ label ∷ rest ≡ more ++ rest = sym (append_assoc labels (label ∷ []) rest) ∙ ap (λ (ls : List Label). ls ++ rest) (sym grown) in
      subst (λ (ls : List Label). AreUnsorted style features ls) same (so_far (label ∷ rest) here)

  -- one feature without a label more
  pub without_label : (f : Feature) (reason : Reason) (more : List Label) → suc i ≤ length features → f ≡ get_or features i f →
      IsLabelling style f (Err reason) → more ≡ labels → AreSoFar style features i labels → AreSoFar style features (i + 1) more
  without_label f reason more there is answer grown so_far rest left =
      let here = subst (λ (fs : List Feature). AreUnsorted style fs rest) (from_place f there is) (unlabelled style f (drop (i + 1) features) reason rest answer left) in
      subst (λ (ls : List Label). AreUnsorted style features (ls ++ rest)) (sym grown) (so_far rest here)

  -- no feature is left
  pub all_labelled : length features ≤ i → AreSoFar style features i labels → AreUnsorted style features labels
  all_labelled past so_far =
      let left : AreUnsorted style (drop i features) [] = subst (λ (fs : List Feature). AreUnsorted style fs []) (sym (drop_all i features past)) (none style) in
      subst (λ (ls : List Label). AreUnsorted style features ls) (append-nil labels) (so_far [] left)
