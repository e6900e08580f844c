use Rattle.std.proofs.Common.{◌≡◌, true}
use Rattle.std.specs.Char.{encode_utf8}
use Rattle.ml_json.specs.Strings.{is_low}
use Rattle.ml_json.proofs.units.single.Goals as goal

pub returns-then-is_low : goal.returns-then-is_low
unfolding encode_utf8
returns-then-is_low c = let h : is_low c.args.unit ≡ true = cc in rw h c.in_ok-push.ensures.bytes
