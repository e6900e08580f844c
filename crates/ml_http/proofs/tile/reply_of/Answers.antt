use Rattle.std.proofs.Common.{ap, ◌∙◌}
use Rattle.ml_http.specs.Replies.{json_reply}
use Rattle.ml_http.proofs.TileLemmas.{told_of_held, told_anew}
use Rattle.ml_http.proofs.tile.reply_of.Goals as goal

pub returns-in-Some-clause-ok : goal.returns-in-Some-clause-ok
returns-in-Some-clause-ok c =
    let found = rw c.in-Some.is at c.in_ok-reply.ensures in
    told_of_held c.args.editor.now.state c.args.closes c.args.key c.args.tiles.now c.touch.new.self found.0 c.in-Some.reply.items c.touch.result c.requires.texts found.1 found.2 c.touch.ensures

pub returns-clause-ok : goal.returns-clause-ok
returns-clause-ok c =
    let absent = rw c.in_default.is at c.in_ok-reply.ensures in
    told_anew c.args.editor.now.state c.args.closes c.args.key c.args.tiles.now c.keep.new.tiles c.view.result c.in_ok-text.text c.in_ok-reply-2.reply.items absent c.view.ensures c.in_ok-text.ensures
    (c.in_ok-reply-2.ensures ∙ ap (json_reply 200 c.args.closes) c.as_slice.ensures) c.keep.ensures
