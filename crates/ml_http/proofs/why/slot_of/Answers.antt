use Rattle.std.proofs.Common.{ap, ◌∙◌, subst}
use Rattle.std.proofs.lemmas.Result.{IfOk-weaker}
use Rattle.std.specs.Option.{option_copied}
use Rattle.ml_answer.specs.Slot.{slot_text}
use Rattle.ml_http.specs.Step.{IsIdOf}
use Rattle.ml_http.proofs.why.slot_of.Goals as goal

pub returns : goal.returns
returns c =
    let row = c.requires.0 in
    let label = c.label_at.ensures row c.requires.1 c.requires.3 in
    let slot = c.slot_at-slot.ensures.slot row c.requires.1 c.requires.3 in
    IfOk-weaker c.slot_json.result _ _
    (λ text is. (
      c.args.editor.now.engine.rows,
      record { labels = c.slot_at-slot.ensures.holds.labels; settled = c.slot_at-slot.ensures.holds.settled },
      (
        row,
        c.requires.1,
        c.requires.2,
        (
          option_copied c.blocker_of-blocker.result,
          subst (λ s. IsIdOf c.args.editor.now.engine.rows s.blocker (option_copied c.blocker_of-blocker.result)) slot c.blocker_of-blocker.ensures,
          is ∙ ap (λ l. slot_text l c.slot_at-slot.result.until (option_copied c.blocker_of-blocker.result)) label
              ∙ ap (λ s. slot_text row.label s.until (option_copied c.blocker_of-blocker.result)) slot,
        ),
      ),
    ))
    c.slot_json.ensures
