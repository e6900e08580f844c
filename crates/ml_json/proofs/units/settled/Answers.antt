use Rattle.std.proofs.Common.{◌++◌, ◌∙◌, ap, sym, string_bytes}
use Rattle.std.specs.Char.{encode_utf8}
use Rattle.ml_json.specs.Strings.{lone}
use Rattle.ml_json.proofs.units.settled.Goals as goal

pub returns-in_ok-push-in-Some : goal.returns-in_ok-push-in-Some
unfolding encode_utf8
returns-in_ok-push-in-Some c = c.in_ok-push-in-Some.ensures.bytes ∙ ap (λ h. string_bytes c.args.text ++ lone h) (sym c.in-Some.is)
