use Rattle.std.proofs.Common.{IsUtf8, ◌≡◌, true, false, ◌∙◌, sym, ap, subst}
use Rattle.ml_watch.specs.Line.{id_text}
use Rattle.ml_watch.specs.Spelling.{spelled}
use Rattle.ml_ratio.proofs.lemmas.Sorting.{keys_decide}
use Rattle.ml_watch.proofs.Spellings.{spelled_id}
use Rattle.ml_watch.proofs.id.read_id.Goals as goal

pub returns-in_default : goal.returns-in_default
returns-in_default c id s =
    let e : c.deref.result.now ≡ id = c.deref.ensures.value ∙ c.in_ok-bytes.ensures ∙ ap spelled c.as_bytes.ensures.value ∙ spelled_id c.args.text.now id s in
    c.in_default.ensures.cases.0 (subst IsUtf8 (sym e) s.is_text)

pub returns : goal.returns
returns c id s =
    let e : c.deref.result.now ≡ id = c.deref.ensures.value ∙ c.in_ok-bytes.ensures ∙ ap spelled c.as_bytes.ensures.value ∙ spelled_id c.args.text.now id s in
    let own : c.in_ok-id.id ≡ id = c.in_ok-id.ensures ∙ c.in-Ok.ensures.cases.0 ∙ e in
    let same : c.as_slice.result.now ≡ c.as_bytes-2.result.now = c.as_slice.ensures ∙ c.in_ok-again.ensures ∙ ap id_text own ∙ s.spelled ∙ sym c.as_bytes-2.ensures.value in
    let yes : c.eq.result ≡ true = c.eq.ensures ∙ (keys_decide c.as_slice.result.now c.as_bytes-2.result.now).1 same in
    let no : c.eq.result ≡ false = c.if-eq.false in
    let clash : true ≡ false = sym yes ∙ no in
    absurd cc
