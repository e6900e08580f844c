-- Slots have one verdict.
use Rattle.std.proofs.Common.{◌≡◌, ℕ, ◌<◌, List, length, arith, refl, sym, ap, subst, inl, inr}
use Rattle.std.proofs.lemmas.Bool.{cases_order}
use Rattle.ml_ratio.specs.Fraction.{value_of}
use Rattle.ml_ratio.specs.declared.ratio.Ratio.{Ratio}
use Rattle.ml_ratio.proofs.lemmas.Intervals.{equal_ratio}
use Rattle.ml_ratio.proofs.lemmas.Lists.{pick}
use Rattle.ml_cone.specs.Slots.{ends}
use Rattle.ml_cone.specs.Sound.{HasGoodEnd, IsCovered, IsSound}
use Rattle.ml_cone.specs.declared.label.Label.{Label}
use Rattle.ml_cone.specs.declared.slot.Slot.{Slot}
use Rattle.ml_cert.specs.Judged.{AllAllowBefore, IsClash, IsUncovered, IsFirstInQuestion, IsVerdict}
use Rattle.ml_cert.specs.declared.verdict.Verdict.{Verdict}
use Rattle.ml_cert.specs.declared.verdict.Verdict.TheVariants.{Best, BadEnd, Clash, Uncovered, BadBlocker}

module _ (labels : List Label) (slots : List Slot) where
  -- a label that ends below its maximum and is not blocked is not covered
  is_uncovered : (i : ℕ) → i < length labels → IsUncovered labels (ends slots) i → ¬ (IsCovered labels (ends slots) i)
  is_uncovered i lt un (inl same) =
      let d = pick labels i lt in
      let less = un.below d in
      let e = same d in
      omega arith
  is_uncovered i lt un (inr (j, blocks)) = un.unblocked j blocks

  clash_unsound : (i j : ℕ) (f : Ratio) → IsClash labels (ends slots) i j f → ¬ (IsSound labels slots i)
  clash_unsound i j f clash sound = clash.refused (sound.free j clash.earlier)

  uncovered_unsound : (i : ℕ) → i < length labels → IsUncovered labels (ends slots) i → ¬ (IsSound labels slots i)
  uncovered_unsound i lt un sound = is_uncovered i lt un sound.covered

  -- what is wrong at a verdict's label
  abbrev IsWrongAt : ℕ → Type 0
  IsWrongAt i = IsFirstInQuestion labels slots i × ¬ (IsSound labels slots i)

  wrong_end : (i : ℕ) → IsVerdict labels slots (BadEnd i) → IsWrongAt i
  wrong_end i v = (v.0, λ sound. v.1 sound.good_end)

  wrong_clash : (i j : ℕ) (f : Ratio) → IsVerdict labels slots (Clash i j f) → IsWrongAt i
  wrong_clash i j f v = (v.0, clash_unsound i j f v.2)

  wrong_uncovered : (i : ℕ) → IsVerdict labels slots (Uncovered i) → IsWrongAt i
  wrong_uncovered i v = (v.0, uncovered_unsound i v.0.is_label v.3)

  wrong_blocker : (i : ℕ) → IsVerdict labels slots (BadBlocker i) → IsWrongAt i
  wrong_blocker i v = (v.0, λ sound. v.4 sound.blocker)

  -- two verdicts speak of one label
  one_label : (i k : ℕ) → IsWrongAt i → IsWrongAt k → i ≡ k
  one_label i k a b =
      elim (cases_order i k) [
        | inl same ↦ same
        | inr (inl less) ↦ absurd (a.1 (b.0.before i less))
        | inr (inr more) ↦ absurd (b.1 (a.0.before k more))
      ]

  not_best : (i : ℕ) → IsVerdict labels slots Best → IsWrongAt i → ⊥
  not_best i best a = a.1 (best i a.0.is_label)

  -- ---- verdicts of two kinds

  end_good : (i k : ℕ) → i ≡ k → ¬ (HasGoodEnd labels (ends slots) i) → HasGoodEnd labels (ends slots) k → ⊥
  end_good i k same bad good = bad (subst (HasGoodEnd labels (ends slots)) (sym same) good)

  clash_allowed : (i k j : ℕ) (f : Ratio) → i ≡ k → IsClash labels (ends slots) i j f → AllAllowBefore labels (ends slots) k k → ⊥
  clash_allowed i k j f same clash all =
      let here : AllAllowBefore labels (ends slots) i i = subst (λ (n : ℕ). AllAllowBefore labels (ends slots) n n) (sym same) all in
      clash.refused (here j clash.earlier)

  uncovered_covered : (i k : ℕ) → i < length labels → i ≡ k → IsUncovered labels (ends slots) i → IsCovered labels (ends slots) k → ⊥
  uncovered_covered i k lt same un cover = is_uncovered i lt un (subst (IsCovered labels (ends slots)) (sym same) cover)

  -- ---- two clashes

  one_rival : (i j m : ℕ) (f g : Ratio) → IsClash labels (ends slots) i j f → IsClash labels (ends slots) i m g → j ≡ m
  one_rival i j m f g a b =
      elim (cases_order j m) [
        | inl same ↦ same
        | inr (inl less) ↦ absurd (a.refused (b.first j less))
        | inr (inr more) ↦ absurd (b.refused (a.first m more))
      ]

  one_limit : (i j : ℕ) (f g : Ratio) → i < length labels → IsClash labels (ends slots) i j f → IsClash labels (ends slots) i j g → f ≡ g
  one_limit i j f g lt a b =
      let d = pick labels i lt in
      let p = a.limit d in
      let q = b.limit d in
      let low = q.greatest (value_of f) p.is_end p.allowed in
      let high = p.greatest (value_of g) q.is_end q.allowed in
      equal_ratio f g (omega arith)

  one_clash : (i j k m : ℕ) (f g : Ratio) → IsVerdict labels slots (Clash i j f) → IsVerdict labels slots (Clash k m g) → Clash i j f ≡ Clash k m g
  one_clash i j k m f g v w =
      let is = one_label i k (wrong_clash i j f v) (wrong_clash k m g w) in
      let there : IsClash labels (ends slots) i m g = subst (λ (n : ℕ). IsClash labels (ends slots) n m g) (sym is) w.2 in
      let js = one_rival i j m f g v.2 there in
      let again : IsClash labels (ends slots) i j g = subst (λ (n : ℕ). IsClash labels (ends slots) i n g) (sym js) there in
      let fs = one_limit i j f g v.0.is_label v.2 again in
      λ t. Clash (is t) (js t) (fs t)

  -- slots have one verdict: two that hold of them name the same fault of the same label
  pub one_verdict : (v w : Verdict) → IsVerdict labels slots v → IsVerdict labels slots w → v ≡ w
  one_verdict Best Best v w = refl
  one_verdict Best (BadEnd k) v w = absurd (not_best k v (wrong_end k w))
  one_verdict Best (Clash k m g) v w = absurd (not_best k v (wrong_clash k m g w))
  one_verdict Best (Uncovered k) v w = absurd (not_best k v (wrong_uncovered k w))
  one_verdict Best (BadBlocker k) v w = absurd (not_best k v (wrong_blocker k w))
  one_verdict (BadEnd i) Best v w = absurd (not_best i w (wrong_end i v))
  one_verdict (BadEnd i) (BadEnd k) v w = ap BadEnd (one_label i k (wrong_end i v) (wrong_end k w))
  one_verdict (BadEnd i) (Clash k m g) v w = absurd (end_good i k (one_label i k (wrong_end i v) (wrong_clash k m g w)) v.1 w.1)
  one_verdict (BadEnd i) (Uncovered k) v w = absurd (end_good i k (one_label i k (wrong_end i v) (wrong_uncovered k w)) v.1 w.1)
  one_verdict (BadEnd i) (BadBlocker k) v w = absurd (end_good i k (one_label i k (wrong_end i v) (wrong_blocker k w)) v.1 w.1)
  one_verdict (Clash i j f) Best v w = absurd (not_best i w (wrong_clash i j f v))
  one_verdict (Clash i j f) (BadEnd k) v w = absurd (end_good k i (one_label k i (wrong_end k w) (wrong_clash i j f v)) w.1 v.1)
  one_verdict (Clash i j f) (Clash k m g) v w = one_clash i j k m f g v w
  one_verdict (Clash i j f) (Uncovered k) v w = absurd (clash_allowed i k j f (one_label i k (wrong_clash i j f v) (wrong_uncovered k w)) v.2 w.2)
  one_verdict (Clash i j f) (BadBlocker k) v w = absurd (clash_allowed i k j f (one_label i k (wrong_clash i j f v) (wrong_blocker k w)) v.2 w.2)
  one_verdict (Uncovered i) Best v w = absurd (not_best i w (wrong_uncovered i v))
  one_verdict (Uncovered i) (BadEnd k) v w = absurd (end_good k i (one_label k i (wrong_end k w) (wrong_uncovered i v)) w.1 v.1)
  one_verdict (Uncovered i) (Clash k m g) v w = absurd (clash_allowed k i m g (one_label k i (wrong_clash k m g w) (wrong_uncovered i v)) w.2 v.2)
  one_verdict (Uncovered i) (Uncovered k) v w = ap Uncovered (one_label i k (wrong_uncovered i v) (wrong_uncovered k w))
  one_verdict (Uncovered i) (BadBlocker k) v w = absurd (uncovered_covered i k v.0.is_label (one_label i k (wrong_uncovered i v) (wrong_blocker k w)) v.3 w.3)
  one_verdict (BadBlocker i) Best v w = absurd (not_best i w (wrong_blocker i v))
  one_verdict (BadBlocker i) (BadEnd k) v w = absurd (end_good k i (one_label k i (wrong_end k w) (wrong_blocker i v)) w.1 v.1)
  one_verdict (BadBlocker i) (Clash k m g) v w = absurd (clash_allowed k i m g (one_label k i (wrong_clash k m g w) (wrong_blocker i v)) w.2 v.2)
  one_verdict (BadBlocker i) (Uncovered k) v w = absurd (uncovered_covered k i w.0.is_label (one_label k i (wrong_uncovered k w) (wrong_blocker i v)) w.3 v.3)
  one_verdict (BadBlocker i) (BadBlocker k) v w = ap BadBlocker (one_label i k (wrong_blocker i v) (wrong_blocker k w))
