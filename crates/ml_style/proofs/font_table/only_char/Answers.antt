use Rattle.std.specs.Str.{chars}
use Rattle.std.proofs.lemmas.Str.{chars_past_char}
use Rattle.ml_style.proofs.TableLemmas.{one_left, more_left}
use Rattle.ml_style.proofs.font_table.only_char.Goals as goal

pub returns-in-None : goal.returns-in-None
returns-in-None c =
    let head = rw c.chars-chars.ensures.rest at c.in_ok-ch.ensures.steps.0 in
    one_left (chars c.args.text.now) _ c.in_ok-ch.ch (chars_past_char c.args.text.now _ c.in_ok-ch.ch c.utf8.text head) c.in-None.ensures.steps.2

pub returns-in-Some : goal.returns-in-Some
returns-in-Some c =
    let head = rw c.chars-chars.ensures.rest at c.in_ok-ch.ensures.steps.0 in
    more_left (chars c.args.text.now) _ c.in_ok-ch.ch c.in-Some.field-0 (chars_past_char c.args.text.now _ c.in_ok-ch.ch c.utf8.text head) c.in-Some.ensures.steps.2
