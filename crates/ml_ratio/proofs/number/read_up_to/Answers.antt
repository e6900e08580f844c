use Rattle.std.proofs.Common.{sym, ◌∙◌, ap}
use Rattle.std.specs.Result.{result_ok}
use Rattle.ml_ratio.proofs.lemmas.Numerals.{up_to_some}
use Rattle.ml_ratio.proofs.Numbers.{parse_up_to, up_to_none}
use Rattle.ml_ratio.proofs.number.read_up_to.Goals as goal

pub returns-then-is_up_to : goal.returns-then-is_up_to
returns-then-is_up_to c =
    let test = sym c.is_up_to.ensures ∙ c.if-is_up_to.true in
    c.ok.ensures.value ∙ ap result_ok (parse_up_to c.args.most c.args.text.now c.parse.result c.requires test c.parse.ensures.value.0) ∙ sym (up_to_some c.args.most c.args.text.now test)

pub returns-else-is_up_to : goal.returns-else-is_up_to
returns-else-is_up_to c = sym (up_to_none c.args.most c.args.text.now (sym c.is_up_to.ensures ∙ c.if-is_up_to.false))
