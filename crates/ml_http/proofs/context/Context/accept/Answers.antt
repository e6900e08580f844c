use Rattle.std.proofs.Common.{refl, sym, ap, subst, ◌∙◌}
use Rattle.ml_label.specs.Labels.{AreLabelsOf}
use Rattle.ml_store.specs.Rows.{labels_in}
use Rattle.ml_editor.specs.Editing.{rows_after}
use Rattle.ml_answer.specs.Edit.{edit_text}
use Rattle.ml_http.specs.Replies.{json_reply}
use Rattle.ml_http.specs.Step.{work_of}
use Rattle.ml_http.proofs.context.Context.accept.Goals as goal

pub returns-clause-ok : goal.returns-clause-ok
returns-clause-ok g c =
    let state = c.args.self.now.editor.now.state in
    let rows = c.args.self.now.editor.now.engine.rows in
    let ready = c.args.ready in
    let of_state = c.requires.of_state in
    record {
      answer = record { reply = c.in_ok-reply.reply.items; changes = ready.changes; cost = ready.evaluated; work = work_of ready.edit rows (rows_after ready.work rows) };
      carried = record {
        state = c.commit.ensures.step;
        before = rows;
        after = rows_after ready.work rows;
        rows_before = record { labels = c.commit.ensures.stood.labels; settled = c.commit.ensures.stood.settled };
        rows_after = record { labels = subst (λ s. AreLabelsOf s.style s.features (labels_in (rows_after ready.work rows))) (sym c.commit.ensures.step) of_state.labels; settled = of_state.settled };
        changes = of_state.changes;
        cost = of_state.cost;
        reply =
            c.in_ok-reply.ensures
            ∙ ap (λ r. json_reply 200 c.args.closes (edit_text r ready.changes)) (of_state.rev ∙ sym (ap (λ s. s.rev) c.commit.ensures.step));
        work = refl;
      };
      hears = c.commit.ensures.told;
      done = c.forget_changes.ensures;
      costs = refl;
      spent = refl;
      is = refl;
    }
