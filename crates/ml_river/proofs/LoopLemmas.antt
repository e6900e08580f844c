-- The boxes of the first clusters, as the loop makes them.
use Rattle.std.proofs.Common.{◌≡◌, ℕ, ◌+◌, ◌<◌, ◌≤◌, List, [], ◌∷◌, ◌++◌, length, get_or, take, sum, ℤ, inl, inr, refl, sym, ap, ◌∙◌, subst, arith}
use Rattle.std.specs.Prelude.{All}
use Rattle.std.proofs.lemmas.Bool.{cases_lt}
use Rattle.std.proofs.lemmas.List.{get_or_append_left, get_or_push, length_push}
use Rattle.std.proofs.lemmas.List.Elements.{All-nil, All-push}
use Rattle.std.proofs.lemmas.List.Sums.{sum_by_more}
use Rattle.ml_ratio.specs.declared.geometry.Pos.{Pos}
use Rattle.ml_cone.specs.declared.label.BoxPx.{BoxPx}
use Rattle.ml_cone.specs.Plane.{IsBox}
use Rattle.ml_river.specs.declared.class.RiverClass.{RiverClass}
use Rattle.ml_river.specs.Chain.{IsClusterBox, IsChain}

-- the boxes are those of the first k clusters, whose advances have the sum
pub record IsChainBefore (c : RiverClass) (run : List Pos) (x y : ℤ) (advances : List ℕ) (k before : ℕ) (boxes : List BoxPx) : Type 0 where
  pub sum_is : before ≡ sum (take k advances)
  pub one_each : length boxes ≡ k
  pub each : (j : ℕ) (d : BoxPx) → j < length boxes → IsClusterBox c run x y advances j (get_or boxes j d)
  pub good : All (λ p. IsBox p.l p.b p.r p.t) boxes

-- none
pub none_before : (c : RiverClass) (run : List Pos) (x y : ℤ) (advances : List ℕ) (boxes : List BoxPx) → boxes ≡ [] → IsChainBefore c run x y advances 0 0 boxes
none_before c run x y advances boxes e =
    subst (λ (l : List BoxPx). IsChainBefore c run x y advances 0 0 l) (sym e) (record {
      sum_is = refl;
      one_each = refl;
      each = λ j d h. absurd (omega arith);
      good = All-nil (λ p. IsBox p.l p.b p.r p.t);
    })

-- one more
pub one_more : (c : RiverClass) (run : List Pos) (x y : ℤ) (advances : List ℕ) (k before a : ℕ) (boxes new : List BoxPx) (box : BoxPx) →
    k < length advances → a ≡ get_or advances k 0 → IsChainBefore c run x y advances k before boxes →
    IsClusterBox c run x y advances k box × IsBox box.l box.b box.r box.t → new ≡ boxes ++ box ∷ [] → IsChainBefore c run x y advances (k + 1) (before + a) new
one_more c run x y advances k before a boxes new box h ea b made e =
    subst (λ (l : List BoxPx). IsChainBefore c run x y advances (k + 1) (before + a) l) (sym e) (record {
      sum_is = (let m = sum_by_more (λ (n : ℕ). n) advances k 0 h in let s = b.sum_is in omega (arith, m, s, ea));
      one_each = length_push boxes box ∙ ap (λ (n : ℕ). n + 1) b.one_each;
      each = λ j d m.
          let n = length_push boxes box in
          elim (cases_lt j (length boxes)) [
            | inl l ↦ subst (λ (p : BoxPx). IsClusterBox c run x y advances j p) (sym (get_or_append_left boxes (box ∷ []) d j l)) (b.each j d l)
            | inr g ↦
                let same : length boxes ≡ j = omega (arith, n, m, g) in
                let here : k ≡ j = sym b.one_each ∙ same in
                subst (λ (p : BoxPx). IsClusterBox c run x y advances j p) (sym (get_or_push boxes box d j same)) (subst (λ (i : ℕ). IsClusterBox c run x y advances i box) here made.0)
          ];
      good = All-push (λ p. IsBox p.l p.b p.r p.t) boxes box b.good made.1;
    })

-- all
pub all_made : (c : RiverClass) (run : List Pos) (x y : ℤ) (advances : List ℕ) (k before : ℕ) (boxes : List BoxPx) → length advances ≤ 64 →
    length advances ≤ k → k ≤ length advances → IsChainBefore c run x y advances k before boxes → IsChain c run x y advances boxes
all_made c run x y advances k before boxes few h m b =
    record {
      few = few;
      one_each = b.one_each ∙ (let e : k ≡ length advances = omega arith in e);
      each = b.each;
      good = b.good;
    }
