-- Keys are the same where their numbers are.
use Rattle.std.proofs.Common.{◌≡◌, ◌≤◌, Bool, true, refl, subst}
use Rattle.std.specs.Bool.{Decides}
use Rattle.std.proofs.lemmas.Bool.Decides.{Decides-and, Decides-eqb, Decides-int_eq}
use Rattle.std.proofs.Props.{props}
use mathlib.Core.HLevel.{is_prop→PathP}
use Rattle.ml_ratio.specs.World.{IsInWorld}
use Rattle.ml_tile.specs.Place.{middle}
use Rattle.ml_tile.specs.declared.key.TileKey.{TileKey}
use Rattle.ml_tile.specs.contracts.key.TileKeyPartialEq.TheImpl.{eq-value}

-- equality of keys as the program tests it, by their numbers
abbrev pub same_key : TileKey → TileKey → Bool
same_key = eq-value.it

decides : (a b : TileKey) → Decides (same_key a b) ((a.z ≡ b.z) × ((a.i ≡ b.i) × (a.j ≡ b.j)))
decides a b = Decides-and _ _ (Decides-eqb a.z b.z) (Decides-and _ _ (Decides-int_eq a.i b.i) (Decides-int_eq a.j b.j))

-- keys with the same numbers are the same: each fact of theirs has one proof at most
by_parts : (a b : TileKey) → a.z ≡ b.z → a.i ≡ b.i → a.j ≡ b.j → a ≡ b
by_parts a b e f g n =
    record {
      z = e n;
      i = f n;
      j = g n;
      deep = is_prop→PathP (λ m. e m ≤ 21) (λ m. hlevel props) a.deep b.deep n;
      world_x = is_prop→PathP (λ m. IsInWorld (middle (e m) (f m))) (λ m. hlevel props) a.world_x b.world_x n;
      world_y = is_prop→PathP (λ m. IsInWorld (middle (e m) (g m))) (λ m. hlevel props) a.world_y b.world_y n;
    }

-- keys that pass the test are the same
pub key_of_same : (a b : TileKey) → same_key a b ≡ true → a ≡ b
key_of_same a b h = let p = (decides a b).0 h in by_parts a b p.0 p.1.0 p.1.1

-- each key passes the test with itself
pub same_itself : (a : TileKey) → same_key a a ≡ true
same_itself a = (decides a a).1 (refl, (refl, refl))

-- equality of keys tells whether they are the same
pub same_decides : (a b : TileKey) → Decides (same_key a b) (a ≡ b)
same_decides a b = (key_of_same a b, λ e. subst (λ k. same_key a k ≡ true) e (same_itself a))
