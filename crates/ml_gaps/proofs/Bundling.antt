-- Bundles of strips: what they tell of their strips, and a strip more.
use Rattle.std.proofs.Common.{◌≡◌, ◌≢◌, ℕ, ◌<◌, ◌≤◌, ◌↔◌, List, [], ◌∷◌, ◌++◌, length, get_or, set, inl, inr, refl, sym, ap, subst, ◌∙◌, arith, ◌≤ℤ◌}
use Rattle.std.specs.Prelude.{All}
use Rattle.std.proofs.lemmas.Bool.{cases_order}
use Rattle.std.proofs.lemmas.Int.{ints}
use Rattle.std.proofs.lemmas.List.{get_or_default, get_or-set_other, get_or-set_same, length-set}
use Rattle.std.proofs.lemmas.List.Elements.{All-push, All-weaker}
use Rattle.ml_ratio.proofs.lemmas.Anys.{any_at, any_of, any_none, any_here, any_left, any_right, any_push_cases}
use Rattle.ml_gaps.specs.Bundle.{LiesIn, IsBundle, IsOneOf, HasStrip, PutsStrip}
use Rattle.ml_gaps.specs.declared.bundle.Bundle.{Bundle}
use Rattle.ml_gaps.specs.declared.strip.Strip.{Strip}

-- no strip breaks what an empty bundle tells
pub empty_bundle : (bundle : Bundle) → bundle.strips.items ≡ [] → IsBundle bundle
empty_bundle bundle none k d lt = let n = ap length none in absurd (omega arith)

-- an empty bundle more has no strip more
pub empty_more : (bundles : List Bundle) (bundle : Bundle) (strip : Strip) → bundle.strips.items ≡ [] → HasStrip (bundles ++ bundle ∷ []) strip → HasStrip bundles strip
empty_more bundles bundle strip none h =
    elim (any_push_cases (λ other. IsOneOf other.strips.items strip) bundles bundle h) [
      | inl before ↦ before
      | inr last ↦ absurd (any_none (λ other. other ≡ strip) (subst (λ (l : List Strip). IsOneOf l strip) none last))
    ]

-- a strip that one of the bundles has is still there with one bundle more
pub still_had : (bundles : List Bundle) (bundle : Bundle) (strip : Strip) → HasStrip bundles strip → HasStrip (bundles ++ bundle ∷ []) strip
still_had bundles bundle strip h = any_left (λ other. IsOneOf other.strips.items strip) bundles (bundle ∷ []) h

-- a bundle keeps what it tells where a strip comes to it, and what it tells widens as the strip needs
pub bundle_more : (old new : Bundle) (strip : Strip) → new.strips.items ≡ old.strips.items ++ strip ∷ [] → LiesIn new strip →
    new.least ≤ℤ old.least → old.most ≤ℤ new.most → old.reach ≤ new.reach → old.last ≤ new.last → IsBundle old → IsBundle new
bundle_more old new strip is lies from to reach last so_far =
    subst (λ (l : List Strip). All (LiesIn new) l) (sym is)
    (All-push (LiesIn new) old.strips.items strip (All-weaker (LiesIn old) (LiesIn new) wider old.strips.items so_far) lies)
  where
    wider : (t : Strip) → LiesIn old t → LiesIn new t
    wider t in' =
        let low = in'.from in
        let high = in'.to in
        let wide = in'.reach in
        let late = in'.last in
        record {
          from = omega (arith, ints);
          to = omega (arith, ints);
          reach = omega arith;
          last = omega arith;
        }

-- a strip of the bundle keeps to what it tells
pub lies_of : (bundle : Bundle) (strip : Strip) → IsBundle bundle → IsOneOf bundle.strips.items strip → LiesIn bundle strip
lies_of bundle strip all (k, other, lt, at, is) = subst (LiesIn bundle) (at ∙ is) (all k other lt)

-- the strip comes to the same others
pub puts_same : (strip : Strip) (old between new : List Bundle) → ((other : Strip) → HasStrip between other ↔ HasStrip old other) →
    PutsStrip strip between new → PutsStrip strip old new
puts_same strip old between new same puts = record {
  kept = λ other h. puts.kept other ((same other).1 h);
  here = puts.here;
  only = λ other h. elim (puts.only other h) [
    | inl before ↦ inl ((same other).0 before)
    | inr is ↦ inr is
  ];
}

module _ (bundles : List Bundle) (home : ℕ) (old new : Bundle) (strip : Strip) (in' : home < length bundles)
    (at : old ≡ get_or bundles home old) (is : new.strips.items ≡ old.strips.items ++ strip ∷ []) where
  -- the bundle has the strip
  abbrev Has : Strip → Bundle → Type 0
  Has t bundle = IsOneOf bundle.strips.items t

  there : home < length (set bundles home new)
  there = omega (arith, length-set bundles home new)

  -- a strip of the new bundle is one of the bundles'
  at_home : (t : Strip) → Has t new → HasStrip (set bundles home new) t
  at_home t h = any_of (Has t) (set bundles home new) home new there (rw (get_or-set_same bundles home new new in') h)

  elsewhere : (t : Strip) (k : ℕ) → k ≢ home → k < length bundles → Has t (get_or bundles k new) → HasStrip (set bundles home new) t
  elsewhere t k apart lt h = any_of (Has t) (set bundles home new) k new (omega (arith, length-set bundles home new)) (rw (get_or-set_other bundles home k new new apart) h)

  was_elsewhere : (t : Strip) (k : ℕ) → k ≢ home → k < length bundles → Has t (get_or (set bundles home new) k new) → HasStrip bundles t
  was_elsewhere t k apart lt h = any_of (Has t) bundles k new lt (subst (Has t) (get_or-set_other bundles home k new new apart) h)

  -- with a strip put into one of them, the bundles have it beside those that they had
  pub puts_set : PutsStrip strip bundles (set bundles home new)
  puts_set = record {
    kept = λ t h.
        let (k, lt, has) = any_at (Has t) bundles new h in
        elim (cases_order k home) [
          | inl same ↦
              let was : Has t old =
              subst (Has t) (get_or_default bundles home new old in' ∙ sym at) (subst (λ (m : ℕ). Has t (get_or bundles m new)) same has) in
              at_home t (subst (λ (l : List Strip). IsOneOf l t) (sym is) (any_left (λ other. other ≡ t) old.strips.items (strip ∷ []) was))
          | inr (inl less) ↦ elsewhere t k (omega arith) lt has
          | inr (inr more) ↦ elsewhere t k (omega arith) lt has
        ];
    here = at_home strip (subst (λ (l : List Strip). IsOneOf l strip) (sym is)
        (any_right (λ other. other ≡ strip) old.strips.items (strip ∷ []) (any_here (λ other. other ≡ strip) strip [] refl)));
    only = λ t h.
        let (k, lt, has) = any_at (Has t) (set bundles home new) new h in
        let in_old : k < length bundles = omega (arith, length-set bundles home new) in
        elim (cases_order k home) [
          | inl same ↦
              let now : Has t new = subst (Has t) (get_or-set_same bundles home new new in') (subst (λ (m : ℕ). Has t (get_or (set bundles home new) m new)) same has) in
              elim (any_push_cases (λ other. other ≡ t) old.strips.items strip (subst (λ (l : List Strip). IsOneOf l t) is now)) [
                | inl before ↦ inl (any_of (Has t) bundles home old in' (subst (Has t) at before))
                | inr last ↦ inr last
              ]
          | inr (inl less) ↦ inl (was_elsewhere t k (omega arith) in_old has)
          | inr (inr more) ↦ inl (was_elsewhere t k (omega arith) in_old has)
        ];
  }
