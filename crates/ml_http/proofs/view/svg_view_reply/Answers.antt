use Rattle.std.proofs.Common.{Ok, Err, None, ap, ◌∙◌}
use Rattle.std.proofs.lemmas.Result.{IfOk-weaker}
use Rattle.ml_http.specs.declared.kind.Kind.TheVariants as kinds
use Rattle.ml_http.specs.Reply.{reply_text}
use Rattle.ml_http.specs.Replies.{query_reply}
use Rattle.ml_http.proofs.view.svg_view_reply.Goals as goal

pub returns-in_ok-text-in-Ok : goal.returns-in_ok-text-in-Ok
returns-in_ok-text-in-Ok c =
    IfOk-weaker c.reply.result _ _
    (λ bytes is. (Ok c.in-Ok.view, c.in-Ok.ensures, (c.in_ok-text-in-Ok.text, c.in_ok-text-in-Ok.ensures, is ∙ ap (λ t. reply_text 200 kinds.Svg None c.args.closes t) c.as_slice.ensures)))
    c.reply.ensures

pub returns-in-Err : goal.returns-in-Err
returns-in-Err c =
    IfOk-weaker c.query_reply.result _ _
    (λ bytes is. (Err c.in-Err.place, c.in-Err.ensures, is ∙ ap (query_reply c.args.closes) c.view_name.ensures))
    c.query_reply.ensures
