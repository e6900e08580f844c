-- The reply to a request for a tile, and what becomes of the tiles that are held.
use Rattle.std.specs.Prelude.{◌≡◌, ℕ, Bool, List, Result, Ok, Err}
use Rattle.ml_editor.specs.State.{State}
use Rattle.ml_tile.specs.Cache.{Cache}
use Rattle.ml_tile.specs.declared.key.TileKey.{TileKey}
use Rattle.ml_http.specs.Replies.{json_reply, query_reply}
use Rattle.ml_http.specs.Step.{IsTileText, tile_name}
use Rattle.ml_http.specs.TileWork.{IsAsked}

-- the reply is the body of the tile, which was asked for
abbrev pub IsTileTold : State → Bool → TileKey → Cache → Cache → List ℕ → Type 0
IsTileTold s closes key old new reply = (text : List ℕ) × IsTileText s key text × (reply ≡ json_reply 200 closes text) × IsAsked (key, text) old new

-- the reply for the tile that was asked for, or where the query asks for none
abbrev pub IsTileReply : State → Bool → Result TileKey ℕ → Cache → Cache → List ℕ → Type 0
IsTileReply s closes (Err place) old new reply = (reply ≡ query_reply closes (tile_name place)) × (new ≡ old)
IsTileReply s closes (Ok key) old new reply = IsTileTold s closes key old new reply
