use Rattle.std.proofs.lemmas.Result.{IfOk-weaker}
use Rattle.ml_command.proofs.zoom.zoom_of.Goals as goal

pub returns : goal.returns
returns c =
    let labels = c.args.labels.now in
    let window = c.args.window.now in
    let slots = c.in_ok-slots.slots in
    let all = c.in_ok-all.all in
    let peak = c.in_ok-peak.peak in
    let timelines = rw c.as_slice.ensures at c.in_ok-all.ensures.timelines in
    IfOk-weaker c.zoom_text.result _ _ (λ text lines. record {
      slots = slots;
      all = all;
      peak = peak;
      best = c.in_ok-slots.ensures.slots;
      timelines = timelines;
      peaked = c.in_ok-peak.ensures.peak;
      views = λ view places through shown. record {
        shown = c.stays_tell_views.ensures labels slots window all view places timelines through shown;
        few = c.no_view_shows_more.ensures labels slots window all peak.count view places timelines c.in_ok-peak.ensures.most through shown;
      };
      lines = rw c.as_slice-2.ensures at lines;
    }) c.zoom_text.ensures
