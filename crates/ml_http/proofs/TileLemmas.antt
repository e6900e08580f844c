-- Tiles that are told of what is held, and anew.
use Rattle.std.proofs.Common.{◌≡◌, ℕ, Bool, true, false, List, Contains, inl, inr}
use Rattle.std.specs.Prelude.{MatchBool}
use Rattle.ml_cone.specs.declared.view.View.{View}
use Rattle.ml_editor.specs.State.{State}
use Rattle.ml_tile.specs.Cache.{Cache, IsHeld, IsHit}
use Rattle.ml_tile.specs.Tile.{IsTileView}
use Rattle.ml_tile.specs.declared.key.TileKey.{TileKey}
use Rattle.ml_http.specs.Link.{AreTexts}
use Rattle.ml_http.specs.Replies.{json_reply}
use Rattle.ml_answer.specs.MapView.{IsViewText, json_body}
use Rattle.ml_http.specs.TileReply.{IsTileTold}
use Rattle.ml_http.specs.TileWork.{IsKept}

-- a tile that is held is told as a hit, with the body that is held
pub told_of_held : (s : State) (closes : Bool) (key : TileKey) (old new : Cache) (body reply : List ℕ) (touched : Bool) →
    AreTexts s old.tiles → Contains old.tiles (key, body) → reply ≡ json_reply 200 closes body →
    MatchBool touched ((b : List ℕ) × IsHit key b old new) ((¬ (IsHeld key old.tiles)) × (new ≡ old)) → IsTileTold s closes key old new reply
told_of_held s closes key old new body reply true texts there is hit = (body, texts (key, body) there, is, inl hit)
told_of_held s closes key old new body reply false texts there is (absent, same) = absurd (absent (body, there))

-- a tile that is not held is told with a body made anew, which is kept if it may be
pub told_anew : (s : State) (closes : Bool) (key : TileKey) (old new : Cache) (view : View) (text reply : List ℕ) →
    ¬ (IsHeld key old.tiles) → IsTileView key.z key.i key.j view → IsViewText json_body s view text →
    reply ≡ json_reply 200 closes text → IsKept (key, text) old new → IsTileTold s closes key old new reply
told_anew s closes key old new view text reply absent is made made_reply kept = (text, (view, is, made), made_reply, inr (absent, kept))
