use Rattle.std.proofs.Common.{sym, subst}
use Rattle.ml_json.specs.Tree.{Tree}
use Rattle.ml_json.specs.Leaps.{PlainScalar, a_string, a_number}
use Rattle.ml_json.proofs.ViewLemmas.{tree_str, tree_num}
use Rattle.ml_json.proofs.plain.plain_scalar.Goals as goal

pub returns-in_ok-text-in-34 : goal.returns-in_ok-text-in-34
returns-in_ok-text-in-34 c = subst (λ (v : Tree). PlainScalar v c.args.bytes.now c.in_ok-text-in-34.rest.now) (sym (tree_str c.in_ok-text-in-34.text)) (a_string c.in_ok-text-in-34.ensures)

pub returns-in_ok-text-in_default : goal.returns-in_ok-text-in_default
returns-in_ok-text-in_default c =
    subst (λ (v : Tree). PlainScalar v c.args.bytes.now c.in_ok-text-in_default.rest.now) (sym (tree_num c.in_ok-text-in_default.text)) (a_number c.in_ok-text-in_default.ensures)
