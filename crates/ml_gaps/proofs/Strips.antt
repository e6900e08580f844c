-- The labels that block others are those with strips.
use Rattle.std.proofs.Common.{◌≡◌, ℕ, ◌+◌, ◌<◌, ◌↔◌, inl, inr, List, [], ◌∷◌, ◌++◌, length, get_or, sym, ap, subst, ◌∙◌, arith, length-append}
use Rattle.std.proofs.Math.ListN.{get_or-append}
use Rattle.std.proofs.lemmas.Bool.{cases_lt}
use Rattle.std.proofs.lemmas.List.{get_or_default, get_or_push}
use Rattle.std.proofs.lemmas.List.Elements.{Contains-get_or}
use Rattle.std.specs.Prelude.{Contains}
use Rattle.ml_ratio.specs.Fraction.{Fraction, value_of}
use Rattle.ml_ratio.proofs.lemmas.Anys.{any_none, any_left, any_right, any_either}
use Rattle.ml_cone.specs.declared.label.Label.{Label}
use Rattle.ml_conflict.specs.Reach.{anchor_on, Reaches}
use Rattle.ml_conflict.specs.declared.axis.Axis.{Axis}
use Rattle.ml_gaps.specs.Blocked.{IsBlocked, IsPairPiece, IsBlockedBy}
use Rattle.ml_gaps.specs.Gap.{IsActive}
use Rattle.ml_gaps.specs.Piece.{HoldsScale, HaveScale, AddsPieces}
use Rattle.ml_gaps.specs.Strip.{IsStripAbout, IsStripIn}
use Rattle.ml_gaps.specs.Bundle.{IsOneOf, HasStrip, AreStrips, AddsStrip}
use Rattle.ml_gaps.specs.Places.{Gathers, AreEnough}
use Rattle.ml_gaps.specs.declared.bundle.Bundle.{Bundle}
use Rattle.ml_gaps.specs.declared.gap.Gap.{Gap}
use Rattle.ml_gaps.specs.declared.strip.Strip.{Strip}
use Rattle.ml_gaps.specs.declared.piece.Piece.{Piece}

-- one of the labels at the first n places, with its gap, blocks the label at s
abbrev pub IsBlockedAmong : Label → List Label → List Gap → List ℕ → ℕ → Fraction → Type 0
IsBlockedAmong a labels gaps places n s =
    (k : ℕ) × (j : ℕ) × (b : Label) × (g : Gap) × (k < n) × (get_or places k j ≡ j) × (get_or labels j b ≡ b) × (get_or gaps j g ≡ g) × IsBlocked a b g s

-- ---- the pieces, one place after another

module _ (a : Label) (labels : List Label) (gaps : List Gap) (places : List ℕ) where
  -- before the first place there is none
  pub among_none : (pieces : List Piece) → pieces ≡ [] → (s : Fraction) → HaveScale pieces s ↔ IsBlockedAmong a labels gaps places 0 s
  among_none pieces empty s = (
    λ h. absurd (any_none (λ p. HoldsScale p s) (subst (λ (l : List Piece). HaveScale l s) empty h)),
    λ (k, j, b, g, lt, e, e', e'', blocked). absurd (omega arith),
  )

  module _ (i j : ℕ) (at : j ≡ get_or places i j) (lt : i < length places) where
    -- what stands there is the place
    same_place : (k u : ℕ) → k ≡ i → get_or places k u ≡ u → u ≡ j
    same_place k u z e = sym e ∙ (ap (λ (n : ℕ). get_or places n u) z ∙ (get_or_default places i u j lt ∙ sym at))

    -- the pieces at which the label at the place blocks come in
    pub among_more : (most : ℕ) (old new : List Piece) (b : Label) (g : Gap) → b ≡ get_or labels j b → g ≡ get_or gaps j g →
        j < length labels → j < length gaps → AddsPieces (IsBlocked a b g) (IsPairPiece a b g) most old new →
        ((s : Fraction) → HaveScale old s ↔ IsBlockedAmong a labels gaps places i s) → (s : Fraction) → HaveScale new s ↔ IsBlockedAmong a labels gaps places (i + 1) s
    among_more most old new b g at_b at_g lt_b lt_g adds so_far s = (forth, back)
      where
        forth : HaveScale new s → IsBlockedAmong a labels gaps places (i + 1) s
        forth h =
            elim (any_either (λ p. HoldsScale p s) old adds.added (subst (λ (l : List Piece). HaveScale l s) adds.appended h)) [
              | inl before ↦ let (k, u, c, f, less, e, e', e'', blocked) = (so_far s).0 before in (k, u, c, f, omega arith, e, e', e'', blocked)
              | inr now ↦ (i, j, b, g, omega arith, sym at, sym at_b, sym at_g, (adds.union s).0 now)
            ]

        back : IsBlockedAmong a labels gaps places (i + 1) s → HaveScale new s
        back (k, u, c, f, less, e, e', e'', blocked) =
            subst (λ (l : List Piece). HaveScale l s) (sym adds.appended) (
            elim (cases_lt k i) [
              | inl before ↦ any_left (λ p. HoldsScale p s) old adds.added ((so_far s).1 (k, u, c, f, before, e, e', e'', blocked))
              | inr now ↦
                  let here : u ≡ j = same_place k u (omega arith) e in
                  let label : c ≡ b = sym e' ∙ (ap (λ (p : ℕ). get_or labels p c) here ∙ (get_or_default labels j c b lt_b ∙ sym at_b)) in
                  let gap : f ≡ g = sym e'' ∙ (ap (λ (p : ℕ). get_or gaps p f) here ∙ (get_or_default gaps j f g lt_g ∙ sym at_g)) in
                  any_right (λ p. HoldsScale p s) old adds.added ((adds.union s).1 (subst (λ (x : Label). IsBlocked a x g s) label (subst (λ (y : Gap). IsBlocked a c y s) gap blocked)))
            ])

  -- the labels at enough places block where all do
  pub among_all : AreEnough a labels gaps places → (n : ℕ) → n ≡ length places →
      (s : Fraction) → IsBlockedAmong a labels gaps places n s ↔ IsBlockedBy a labels gaps (length gaps) s
  among_all enough n e s = (forth, back)
    where
      forth : IsBlockedAmong a labels gaps places n s → IsBlockedBy a labels gaps (length gaps) s
      forth (k, j, b, g, less, at, e', e'', blocked) = (j, b, g, subst (λ (p : ℕ). p < length gaps) at (enough.within k j (omega arith)), e', e'', blocked)

      back : IsBlockedBy a labels gaps (length gaps) s → IsBlockedAmong a labels gaps places n s
      back (j, b, g, less, e', e'', blocked) =
          let it : IsBlocked a (get_or labels j b) (get_or gaps j g) s =
          subst (λ (x : Label). IsBlocked a x (get_or gaps j g) s) (sym e') (subst (λ (y : Gap). IsBlocked a b y s) (sym e'') blocked) in
          let (k, lt, at) = enough.whole j b g s less it in (k, j, b, g, omega arith, at, e', e'', blocked)

-- ---- the strips, one label after another

-- bundles of no strip have none
pub none_had : (bundles : List Bundle) (t : Strip) → bundles ≡ [] → ¬ (HasStrip bundles t)
none_had bundles t none h = any_none (λ bundle. IsOneOf bundle.strips.items t) (subst (λ (l : List Bundle). HasStrip l t) none h)

-- before the first gap there are no strips
pub strips_none : (axis : Axis) (labels : List Label) (gaps : List Gap) (bundles : List Bundle) → gaps ≡ [] → bundles ≡ [] → AreStrips axis labels gaps bundles
strips_none axis labels gaps bundles e f =
    let n = ap length e in
    record {
      each = λ t h. absurd (none_had bundles t f h);
      whole = λ j g s lt active. absurd (omega arith);
    }

module _ (axis : Axis) (labels : List Label) (gaps : List Gap) (bundles : List Bundle) (so_far : AreStrips axis labels gaps bundles) (gap : Gap) where
  -- the gaps with this one behind them
  abbrev pub more : List Gap
  more = gaps ++ gap ∷ []

  -- a strip stays one where a gap comes behind the others
  still_in : (t : Strip) → IsStripIn axis labels gaps t → IsStripIn axis labels more t
  still_in t is =
      let in' = is.within in
      record {
        within = omega (arith, length-append gaps (gap ∷ []));
        about = λ b g. rw (get_or-append gaps (gap ∷ []) g t.place is.within) (is.about b g);
      }

  -- one of the bundles has a strip about the label at the place
  abbrev HasPlace : List Bundle → ℕ → Type 0
  HasPlace others j = (t : Strip) × HasStrip others t × (t.place ≡ j)

  -- a gap at which the label is active has its strip, where the last one has
  whole_with : (others : List Bundle) → ((t : Strip) → HasStrip bundles t → HasStrip others t) →
      ((s : Fraction) → IsActive gap s → HasPlace others (length gaps)) → (j : ℕ) (g : Gap) (s : Fraction) →
      j < length more → IsActive (get_or more j g) s → HasPlace others j
  whole_with others kept last j g s lt active =
      let many = length-append gaps (gap ∷ []) in
      elim (cases_lt j (length gaps)) [
        | inl inside ↦ let (t, h, e) = so_far.whole j g s inside (subst (λ (x : Gap). IsActive x s) (get_or-append gaps (gap ∷ []) g j inside) active) in (t, kept t h, e)
        | inr behind ↦
            let z : length gaps ≡ j = omega arith in
            subst (λ (p : ℕ). HasPlace others p) z (last s (subst (λ (x : Gap). IsActive x s) (get_or_push gaps gap g j z) active))
      ]

  -- the label with the gap has a strip, or is active nowhere
  pub strips_more : (b : Label) (strip : Strip) (others : List Bundle) → ((d : Label) → get_or labels (length gaps) d ≡ b) → strip.place ≡ length gaps →
      IsStripAbout axis b (value_of gap.until) strip → AddsStrip gap strip bundles others → AreStrips axis labels more others
  strips_more b strip others own place about (inl puts) =
      let here : (d : Label) → get_or labels strip.place d ≡ b = λ d. subst (λ (p : ℕ). get_or labels p d ≡ b) (sym place) (own d) in
      let new : IsStripIn axis labels more strip =
      record {
        within = omega (arith, length-append gaps (gap ∷ []));
        about = λ d g. rw (here d, get_or_push gaps gap g strip.place (sym place)) about;
      } in
      record {
        each = λ t h. elim (puts.only t h) [
          | inl before ↦ still_in t (so_far.each t before)
          | inr same ↦ subst (λ (u : Strip). IsStripIn axis labels more u) same new
        ];
        whole = whole_with others puts.kept (λ s h. (strip, puts.here, place));
      }
  strips_more b strip others own place about (inr (kept, nowhere)) =
      subst (λ (l : List Bundle). AreStrips axis labels more l) (sym kept) (
      record {
        each = λ t h. still_in t (so_far.each t h);
        whole = whole_with bundles (λ t h. h) (λ s h. absurd (nowhere s h));
      })

-- ---- the places of strips that a label is not past

-- in an empty list nothing stands
none_stands : (places : List ℕ) (j : ℕ) → places ≡ [] → ¬ (Contains places j)
none_stands places j none (k, lt, e) = let n = ap length none in omega arith

-- they are enough for the label
pub enough : (axis : Axis) (a : Label) (labels : List Label) (gaps : List Gap) (bundles : List Bundle) (reach : ℕ) (old places : List ℕ) → old ≡ [] →
    AreStrips axis labels gaps bundles → Reaches axis a reach → Gathers (anchor_on axis a) reach (HasStrip bundles) old places → AreEnough a labels gaps places
enough axis a labels gaps bundles reach old places none strips reaches gathers = record {
  within = λ k d lt. elim (gathers.only (get_or places k d) (Contains-get_or places k d lt)) [
    | inl there ↦ absurd (none_stands old (get_or places k d) none there)
    | inr (t, h, e) ↦ subst (λ (p : ℕ). p < length gaps) e (strips.each t h).within
  ];
  whole = λ j b g s lt blocked.
      let (t, h, e) = strips.whole j g s lt blocked.2 in
      elim (gathers.found t h) [
        | inl there ↦ subst (λ (p : ℕ). Contains places p) e there
        | inr past ↦
            let about : IsStripAbout axis (get_or labels j b) (value_of (get_or gaps j g).until) t =
            subst (λ (p : ℕ). IsStripAbout axis (get_or labels p b) (value_of (get_or gaps p g).until) t) e ((strips.each t h).about b g) in
            absurd (about a reach reaches past s blocked.2.1 blocked.3)
      ];
}
