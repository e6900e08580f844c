-- A tile has one view.
use Rattle.std.proofs.Common.{◌≡◌, ℕ, ◌*◌, ◌^◌, ◌%◌, ◌<◌, ◌≤◌, Bool, true, false, ◌∙◌, ap, sym, subst, rules}
use Rattle.std.specs.Prelude.{MatchBool}
use Rattle.std.specs.Bool.{IsTrue}
use Rattle.std.proofs.lemmas.Bool.{false≢true}
use Rattle.std.proofs.Props.{props}
use mathlib.Core.HLevel.{is_prop→PathP}
use Rattle.ml_ratio.specs.Fraction.{value_of}
use Rattle.ml_ratio.specs.World.{IsInWorld}
use Rattle.ml_ratio.specs.declared.ratio.Ratio.{Ratio}
use Rattle.ml_ratio.proofs.lemmas.Intervals.{equal_ratio}
use Rattle.ml_cone.specs.Range.{ActiveBetween}
use Rattle.ml_cone.specs.Shown.{IsInView}
use Rattle.ml_cone.specs.declared.label.Label.{Label}
use Rattle.ml_cone.specs.declared.slot.Span.{Span}
use Rattle.ml_cone.specs.declared.view.View.{View}
use Rattle.ml_tile.specs.Cache.{ShowsIn}
use Rattle.ml_tile.specs.Tile.{IsTileView}
use Rattle.ml_tile.specs.declared.key.TileKey.{TileKey}

same_ratio : (a b : Ratio) → a.num ≡ b.num → a.den ≡ b.den → a ≡ b
same_ratio a b n d = equal_ratio a b (ap (λ (k : ℕ). k * b.den) n ∙ ap (λ (k : ℕ). b.num * k) (sym d))

-- views with the same parts are the same: each fact of theirs has one proof at most
by_parts : (v u : View) → v.cx ≡ u.cx → v.cy ≡ u.cy → v.w ≡ u.w → v.h ≡ u.h → v.scale ≡ u.scale → v ≡ u
by_parts v u x y w h s n =
    record {
      cx = x n;
      cy = y n;
      w = w n;
      h = h n;
      scale = s n;
      world_x = is_prop→PathP (λ m. IsInWorld (x m)) (λ m. hlevel props) v.world_x u.world_x n;
      world_y = is_prop→PathP (λ m. IsInWorld (y m)) (λ m. hlevel props) v.world_y u.world_y n;
      some_w = is_prop→PathP (λ m. 2 ≤ w m) (λ m. hlevel props) v.some_w u.some_w n;
      some_h = is_prop→PathP (λ m. 2 ≤ h m) (λ m. hlevel props) v.some_h u.some_h n;
      low_w = is_prop→PathP (λ m. w m ≤ 4096) (λ m. hlevel props) v.low_w u.low_w n;
      low_h = is_prop→PathP (λ m. h m ≤ 4096) (λ m. hlevel props) v.low_h u.low_h n;
      even_w = is_prop→PathP (λ m. w m % 2 ≡ 0) (λ m. hlevel props) v.even_w u.even_w n;
      even_h = is_prop→PathP (λ m. h m % 2 ≡ 0) (λ m. hlevel props) v.even_h u.even_h n;
      above = is_prop→PathP (λ m. 0 < (s m).num) (λ m. hlevel props) v.above u.above n;
      below = is_prop→PathP (λ m. (s m).num < 2 ^ 28 * (s m).den) (λ m. hlevel props) v.below u.below n;
    }

-- two views of one tile have one middle, one size and one scale, and so are the same
pub one_view : (key : TileKey) (v u : View) → IsTileView key.z key.i key.j v → IsTileView key.z key.i key.j u → v ≡ u
one_view key v u p q =
    by_parts v u (p.cx_is ∙ sym q.cx_is) (p.cy_is ∙ sym q.cy_is) (p.w_is ∙ sym q.w_is) (p.h_is ∙ sym q.h_is)
    (same_ratio v.scale u.scale (p.num_is ∙ sym q.num_is) (p.den_is ∙ sym q.den_is))

-- a label that is not active at the scale of the tile's view is not shown in it
pub not_active : (label : Label) (span : Span) (key : TileKey) (v : View) → IsTileView key.z key.i key.j v →
    ¬ (ActiveBetween (value_of span.min) (value_of span.until) (value_of v.scale)) → ¬ (ShowsIn label span key)
not_active label span key v p never s = never (subst (λ u. ActiveBetween (value_of span.min) (value_of span.until) (value_of u.scale)) (one_view key s.0 v s.1 p) s.2)

-- a label that is active there is shown in the tile just where it is in the view
pub shown_if : (label : Label) (span : Span) (key : TileKey) (v : View) (b : Bool) → IsTileView key.z key.i key.j v → ActiveBetween (value_of span.min) (value_of span.until) (value_of v.scale) →
    (IsTrue b → IsInView label v) → (IsInView label v → IsTrue b) → MatchBool b (ShowsIn label span key) (¬ (ShowsIn label span key))
shown_if label span key v true p a one other = (v, p, a, one (search rules))
shown_if label span key v false p a one other = λ s. false≢true (other (subst (λ u. IsInView label u) (one_view key s.0 v s.1 p) s.3))
