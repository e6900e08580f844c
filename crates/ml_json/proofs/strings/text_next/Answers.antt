use Rattle.std.proofs.Common.{◌++◌, ◌∙◌, ap, sym, ◌∷◌, []}
use Rattle.std.specs.Str.{is_utf8}
use Rattle.ml_json.specs.Partial.{tail_of}
use Rattle.ml_json.proofs.Utf8Table.{table_utf8}
use Rattle.ml_json.proofs.strings.text_next.Goals as goal

pub invariant_of-result-in-Some : goal.invariant_of-result-in-Some
invariant_of-result-in-Some c = record {
  whole = λ cs f.
      ap (λ x. is_utf8 (x ++ cs)) (c.in_ok-push-in-Some.ensures.items ∙ ap (λ x. x ++ c.args.byte ∷ []) c.new-got.ensures.items)
      ∙ table_utf8 c.args.byte (tail_of c.in-Some.tail) cs (sym c.in-Some.ensures) f;
}
