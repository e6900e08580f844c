use Rattle.std.proofs.Common.{◌≡◌, ◌∙◌, sym, ap, subst, [], ◌++◌, append-nil}
use Rattle.ml_json.specs.Answer.{IsText}
use Rattle.ml_json.specs.Canonical.{canonical, settled}
use Rattle.ml_json.specs.View.{tree_of}
use Rattle.ml_json.proofs.CanonicalText.{canonical_text, printed_text}
use Rattle.ml_json.proofs.writer.write.Goals as goal

pub returns-clause-reads : goal.returns-clause-reads
returns-clause-reads c w =
    let tree = tree_of c.args.value.now in
    let text : c.of_vec.result ≡ canonical tree = c.of_vec.ensures ∙ sym (append-nil c.put_value.new.out.items)
    ∙ c.in_ok-put_value.ensures.text [] ∙ ap (λ s. s ++ canonical tree) c.new-out.ensures.items in
    subst (λ s. IsText s (settled tree)) (sym text) (printed_text tree w c.in_ok-put_value.ensures.utf8)

pub returns-clause-back : goal.returns-clause-back
returns-clause-back c w =
    let tree = tree_of c.args.value.now in
    let text : c.of_vec.result ≡ canonical tree = c.of_vec.ensures ∙ sym (append-nil c.put_value.new.out.items)
    ∙ c.in_ok-put_value.ensures.text [] ∙ ap (λ s. s ++ canonical tree) c.new-out.ensures.items in
    subst (λ s. IsText s tree) (sym text) (canonical_text tree w c.in_ok-put_value.ensures.utf8)
