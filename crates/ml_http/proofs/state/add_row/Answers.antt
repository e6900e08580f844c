use Rattle.std.proofs.Common.{◌∷◌, [], ◌++◌, ap, ◌∙◌}
use Rattle.std.proofs.lemmas.Result.{on_ok_weaker}
use Rattle.ml_cone.specs.declared.slot.Slot.{Slot}
use Rattle.ml_follow.specs.StateText.{begun_text}
use Rattle.ml_http.proofs.StatePlaces.{placed_by}
use Rattle.ml_http.proofs.state.add_row.Goals as goal

pub returns : goal.returns
returns c =
    let live = c.requires.live in
    let rows = c.args.editor.now.engine.rows in
    let slot : Slot = record { until = c.slot_at-slot.result.until; blocker = c.place_of-blocker.result } in
    let label = c.label_at.ensures live.0 live.1 live.2 in
    on_ok_weaker c.add.result
    (λ added. record {
      row = live.0;
      there = live.1;
      its_number = live.2;
      slot = slot;
      placed = placed_by rows c.args.places.now live.0.slot c.slot_at-slot.result c.place_of-blocker.result c.requires.places
          (c.slot_at-slot.ensures.slot live.0 live.1 live.2) c.slot_at-slot.ensures.blocker c.place_of-blocker.ensures;
      added = λ rev count labels slots size is. added rev count labels slots size is ∙ ap (λ l. begun_text rev count (labels ++ l ∷ []) (slots ++ slot ∷ [])) label;
    })
    c.add.ensures.begun
