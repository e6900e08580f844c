-- The clusters of a text make it up, and so do their advances.
use Rattle.std.proofs.Common.{◌≡◌, ℕ, ◌+◌, ◌*◌, ◌<◌, ◌≤◌, min, Bool, true, false, cond, List, [], ◌∷◌, ◌++◌, map, length, sum_by, Result, Ok, Err, IfOk, subst, refl, sym, ap, ◌∙◌, arith}
use Rattle.std.proofs.lemmas.Bool.{and_parts}
use Rattle.std.proofs.lemmas.List.Sums.{sum_by-cons}
use Rattle.std.proofs.lemmas.Str.{chars-encodes, scalars-chars}
use Rattle.std.specs.List.{AllByRecursion, concat}
use Rattle.std.specs.Str.{IsUtf8, chars, encode_utf8_all}
use Rattle.unicode_segmentation.specs.Segments.{Rule, cut, prepend, segments}
use Rattle.unicode_segmentation.specs.Grapheme.{graphemes, is_grapheme_break}
use Rattle.unicode_segmentation.proofs.SegmentsLemmas.{concat-segments}
use lib.Utf8.{scalar, scalars}
use Rattle.ml_style.specs.Font.{advance_of}
use Rattle.ml_style.specs.declared.font.Font.{Font}
use Rattle.ml_text.specs.Width.{advance_sum}
use Rattle.ml_text.specs.Cluster.{cluster_of, clusters_of}
use Rattle.ml_text.specs.declared.cluster.Cluster.{Cluster}
use Rattle.ml_text.proofs.Sums.{sum_low}

module _ (f : ℕ → ℕ) where
  -- a character in front of some pieces, as a piece of its own or as the first of the first
  attached : (is_break : Bool) (c : ℕ) (ps : List (List ℕ)) → sum_by (sum_by f) (cond is_break ((c ∷ []) ∷ ps) (prepend (c ∷ []) ps)) ≡ f c + sum_by (sum_by f) ps
  attached true c ps = sum_by-cons (sum_by f) (c ∷ []) ps ∙ ap (λ (n : ℕ). n + sum_by (sum_by f) ps) (sum_by-cons f c [] ∙ omega arith)
  attached false c [] = sum_by-cons (sum_by f) (c ∷ []) [] ∙ ap (λ (n : ℕ). n + sum_by (sum_by f) []) (sum_by-cons f c [] ∙ omega arith)
  attached false c (p ∷ ps) =
      let one = sum_by-cons (sum_by f) ((c ∷ []) ++ p) ps in
      let two = sum_by-cons f c p in
      let three = sum_by-cons (sum_by f) p ps in
      omega (arith, one, two, three)

  -- the sums of the pieces are the sum of all
  cut_total : (rule : Rule) (before cs after : List ℕ) → sum_by (sum_by f) (cut rule before cs after) ≡ sum_by f cs
  unfolding cut
  cut_total rule before [] after = refl
  cut_total rule before (c ∷ cs) after =
      attached (rule (c ∷ before) (cs ++ after)) c (cut rule (c ∷ before) cs after) ∙ ap (λ (n : ℕ). f c + n) (cut_total rule (c ∷ before) cs after) ∙ sym (sum_by-cons f c cs)

-- pieces of characters
abbrev AreScalars : List (List ℕ) → Type 0
AreScalars ps = AllByRecursion (λ p. scalars p ≡ true) ps

attached_scalars : (is_break : Bool) (c : ℕ) (ps : List (List ℕ)) → scalar c ≡ true → AreScalars ps → AreScalars (cond is_break ((c ∷ []) ∷ ps) (prepend (c ∷ []) ps))
attached_scalars true c ps s h = (rw s refl, h)
attached_scalars false c [] s h = (rw s refl, tt)
attached_scalars false c (p ∷ ps) s h = (rw (s, h.0) refl, h.1)

cut_scalars : (rule : Rule) (before cs after : List ℕ) → scalars cs ≡ true → AreScalars (cut rule before cs after)
unfolding cut
cut_scalars rule before [] after h = tt
cut_scalars rule before (c ∷ cs) after h =
    let (here, more) = and_parts (scalar c) (scalars cs) h in
    attached_scalars (rule (c ∷ before) (cs ++ after)) c _ here (cut_scalars rule (c ∷ before) cs after more)

module _ (font : Font) where
  encoded : (ps : List (List ℕ)) → AreScalars ps → sum_by (advance_sum font) (map encode_utf8_all ps) ≡ sum_by (sum_by (advance_of font)) ps
  encoded [] h = refl
  encoded (p ∷ ps) h =
      let one = sum_by-cons (advance_sum font) (encode_utf8_all p) (map encode_utf8_all ps) in
      let two = sum_by-cons (sum_by (advance_of font)) p ps in
      let three : advance_sum font (encode_utf8_all p) ≡ sum_by (advance_of font) p = ap (sum_by (advance_of font)) (chars-encodes p h.0) in
      omega (arith, one, two, three, encoded ps h.1)

  -- the advances of the segments are those of the text
  segments_total : (rule : Rule) (text : List ℕ) → IsUtf8 text → sum_by (advance_sum font) (segments rule text) ≡ advance_sum font text
  unfolding segments
  segments_total rule text u = encoded _ (cut_scalars rule [] (chars text) [] (scalars-chars text u)) ∙ cut_total (advance_of font) rule [] (chars text) []

  capped : (pieces : List (List ℕ)) → sum_by (λ (c : Cluster). c.advance) (map (cluster_of font) pieces) ≤ sum_by (advance_sum font) pieces
  capped [] = omega arith
  capped (p ∷ ps) =
      let one = sum_by-cons (λ (c : Cluster). c.advance) (cluster_of font p) (map (cluster_of font) ps) in
      let two = sum_by-cons (advance_sum font) p ps in
      omega (arith, one, two, capped ps)

  uncapped : (pieces : List (List ℕ)) → sum_by (advance_sum font) pieces < 18446744073709551616 → sum_by (λ (c : Cluster). c.advance) (map (cluster_of font) pieces) ≡ sum_by (advance_sum font) pieces
  uncapped [] h = refl
  uncapped (p ∷ ps) h =
      let one = sum_by-cons (λ (c : Cluster). c.advance) (cluster_of font p) (map (cluster_of font) ps) in
      let two = sum_by-cons (advance_sum font) p ps in
      let three = uncapped ps (omega arith) in
      omega (arith, one, two, three)

  -- the advances of the clusters are within those of the text
  pub clusters_low : (text : List ℕ) → IsUtf8 text → sum_by (λ (c : Cluster). c.advance) (clusters_of font text) ≤ 65535 * length text
  clusters_low text u = omega (arith, capped (graphemes true text), segments_total (is_grapheme_break true) text u, sum_low font text u)

  -- and are the same, where these are below 2^64
  pub clusters_total : (text : List ℕ) → IsUtf8 text → advance_sum font text < 18446744073709551616 → sum_by (λ (c : Cluster). c.advance) (clusters_of font text) ≡ advance_sum font text
  clusters_total text u h =
      let same = segments_total (is_grapheme_break true) text u in
      uncapped (graphemes true text) (omega arith) ∙ same

  reaching : (pieces : List (List ℕ)) → min (sum_by (advance_sum font) pieces) 18446744073709551615 ≤ sum_by (λ (c : Cluster). c.advance) (map (cluster_of font) pieces)
  reaching [] = omega arith
  reaching (p ∷ ps) =
      let one = sum_by-cons (λ (c : Cluster). c.advance) (cluster_of font p) (map (cluster_of font) ps) in
      let two = sum_by-cons (advance_sum font) p ps in
      omega (arith, one, two, reaching ps)

  -- the advances of the clusters reach those of the text, or 2^64 - 1
  pub clusters_reach : (text : List ℕ) → IsUtf8 text → min (advance_sum font text) 18446744073709551615 ≤ sum_by (λ (c : Cluster). c.advance) (clusters_of font text)
  clusters_reach text u =
      let same = segments_total (is_grapheme_break true) text u in
      omega (arith, reaching (graphemes true text), same)

  pieces : (ps : List (List ℕ)) → concat (map (λ (c : Cluster). c.text) (map (cluster_of font) ps)) ≡ concat ps
  pieces [] = refl
  pieces (p ∷ ps) = ap (λ (t : List ℕ). p ++ t) (pieces ps)

  -- the clusters make up the text
  pub clusters_joined : (text : List ℕ) → IsUtf8 text → concat (map (λ (c : Cluster). c.text) (clusters_of font text)) ≡ text
  clusters_joined text u = pieces (graphemes true text) ∙ concat-segments (is_grapheme_break true) text u

-- what holds of the clusters holds of an answer that has them
pub of_answer : {E : Type 0} (P : List Cluster → Type 0) (font : Font) (text shown : List ℕ) (r : Result (List Cluster) E) →
    shown ≡ text → P (clusters_of font text) → IfOk r (λ all. all ≡ clusters_of font shown) → IfOk r P
of_answer P font text shown (Ok all) same h is = subst P (sym (is ∙ ap (clusters_of font) same)) h
of_answer P font text shown (Err e) same h is = tt
