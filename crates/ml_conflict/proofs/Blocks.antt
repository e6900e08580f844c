-- Blocks of strips: what their areas hold, and labels that are too far away block by block.
use Rattle.std.proofs.Common.{◌≡◌, ◌≢◌, ℕ, ◌+◌, ◌*◌, ◌/◌, ◌%◌, ◌<◌, ◌≤◌, List, [], ◌∷◌, length, get_or, set, inl, inr, sym, ap, subst, arith}
use Rattle.std.specs.Prelude.{All}
use Rattle.std.proofs.lemmas.Bool.{cases_lt, cases_order}
use Rattle.std.proofs.lemmas.List.{get_or-set_other, get_or-set_same, length-set}
use Rattle.std.proofs.lemmas.Nat.{mod_below, div-add-mod'}
use Rattle.ml_ratio.specs.Fraction.{Fraction}
use Rattle.ml_cone.specs.declared.label.Label.{Label}
use Rattle.ml_conflict.specs.Area.{IsInArea}
use Rattle.ml_conflict.specs.Begin.{SetsNoneUpTo}
use Rattle.ml_conflict.specs.Field.{HasSpot}
use Rattle.ml_conflict.specs.Strip.{AreStrips, AreBlocks, AreAway}
use Rattle.ml_conflict.specs.declared.area.Area.{Area}
use Rattle.ml_conflict.specs.declared.spot.Spot.{Spot}
use Rattle.ml_conflict.specs.declared.strip.Strip.{Strip}
use Rattle.ml_conflict.proofs.lemmas.Strips as strips

-- no label has its spot among none
none_has : (spots : List Spot) (j : ℕ) → spots ≡ [] → ¬ (HasSpot spots j)
none_has spots j none has = absurd (let lt = has.1.1 in let long = ap length none in omega arith)

-- whatever areas are blocks of strips without spots
pub blocks_empty : (held : List Strip) (blocks : List Area) → All (λ strip. strip.spots.items ≡ []) held → AreBlocks held blocks
blocks_empty held blocks none b k e d j a b_in low high k_in has in' = absurd (none_has (get_or held k d).spots.items j (none k d k_in) has)

-- where a place lies among strips, there is a strip
some_strip : (held : List Strip) (k : ℕ) → k < length held → Strip
some_strip [] k lt = absurd (omega arith)
some_strip (strip ∷ held) k lt = strip

-- the block of a strip is the one that its place tells
own_block : (home b : ℕ) → b * 8 ≤ home → home < b * 8 + 8 → b ≡ home / 8
own_block home b low high =
    let whole = div-add-mod' home 8 in
    let rest : home % 8 < 8 = mod_below home 8 (omega arith) in
    omega arith

module _ (held : List Strip) (home : ℕ) (strip : Strip) (old new : List Area) (in' : home < length held) (are : AreBlocks held old) (many : length new ≡ length old) where
  -- a strip changes, and its block holds what lies in it then
  pub blocks_set : ((b : ℕ) (e : Area) → b ≢ home / 8 → get_or new b e ≡ get_or old b e) →
      ((e : Area) (a : Label) → IsInArea a (get_or old (home / 8) e) → IsInArea a (get_or new (home / 8) e)) →
      (home / 8 < length old → (e : Area) (a : Label) → IsInArea a strip.area → IsInArea a (get_or new (home / 8) e)) → AreBlocks (set held home strip) new
  blocks_set others kept here b k e d j a b_in low high k_in has inside =
      elim (cases_order k home) [
        | inl same ↦
            let own : b ≡ home / 8 = own_block home b (omega arith) (omega arith) in
            let lies : IsInArea a strip.area = subst (λ (s : Strip). IsInArea a s.area) (get_or-set_same held home strip d in')
            (subst (λ (m : ℕ). IsInArea a (get_or (set held home strip) m d).area) same inside) in
            subst (λ (m : ℕ). IsInArea a (get_or new m e)) (sym own) (here (omega arith) e a lies)
        | inr (inl less) ↦ other (omega arith)
        | inr (inr more) ↦ other (omega arith)
      ]
    where
      other : k ≢ home → IsInArea a (get_or new b e)
      other apart =
          let stays = get_or-set_other held home k strip d apart in
          let was : IsInArea a (get_or old b e) =
          are b k e d j a (omega arith) low high (let long = length-set held home strip in omega arith) (subst (λ (s : Strip). HasSpot s.spots.items j) stays has)
          (subst (λ (s : Strip). IsInArea a s.area) stays inside) in
          elim (cases_order b (home / 8)) [
            | inl same ↦ subst (λ (m : ℕ). IsInArea a (get_or new m e)) (sym same) (kept e a (subst (λ (m : ℕ). IsInArea a (get_or old m e)) same was))
            | inr (inl less) ↦ subst (IsInArea a) (sym (others b e (omega arith))) was
            | inr (inr more) ↦ subst (IsInArea a) (sym (others b e (omega arith))) was
          ]

module _ (labels : List Label) (held : List Strip) (area : Area) (bound : Fraction) where
  -- between a strip and itself stands none
  pub away_none : (at : ℕ) → AreAway labels held at at area bound
  away_none at low j u in' saw = absurd (omega (arith, saw.1, saw.2))

  -- some strips and those behind them
  pub away_both : (from middle until : ℕ) → AreAway labels held from middle area bound → AreAway labels held middle until area bound → AreAway labels held from until area bound
  away_both from middle until one two low j u in' saw =
      elim (cases_lt saw.0 middle) [
        | inl less ↦ one low j u in' (saw.0, saw.1, less, saw.3)
        | inr more ↦ two low j u in' (saw.0, more, saw.2, saw.3)
      ]

  -- where the area of a block is too far away, so are all labels in its strips
  pub block_away : (blocks : List Area) (at : ℕ) (block : Area) → AreStrips labels held → AreBlocks held blocks → at % 8 ≡ 0 → at / 8 < length blocks →
      get_or blocks (at / 8) block ≡ block → ((low high : Label) (u : Fraction) → IsInArea low area → IsInArea high block → SetsNoneUpTo low high u bound) →
      (until : ℕ) → until ≤ at + 8 → until ≤ length held → AreAway labels held at until area bound
  block_away blocks at block are their whole b_in is away until few until_in low j u in' saw =
      let k : ℕ = saw.0 in
      let from = saw.1 in
      let upto = saw.2 in
      let digits = div-add-mod' at 8 in
      let k_in : k < length held = omega arith in
      let no_strip : Strip = some_strip held k k_in in
      let strip : Strip = get_or held k no_strip in
      strips.none_away labels low strip.spots.items strip.area (are k no_strip k_in) (λ _. u) bound
      (λ high v lies. away low high v in' (subst (IsInArea high) is (their (at / 8) k block no_strip j high b_in (omega arith) (omega arith) k_in (saw.3 no_strip) lies))) j (saw.3 no_strip)
