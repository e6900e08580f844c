use Rattle.std.proofs.Common.{rules, refl, ◌∙◌, ap}
use Rattle.ml_ratio.specs.Count.{one_more}
use Rattle.ml_serve.specs.declared.serve_end.ServeEnd.TheVariants.{Done, WriteFault}
use Rattle.ml_serve.proofs.SessionLemmas.{served_none}
use Rattle.ml_serve.proofs.CommandLemmas.{end_done, end_cut, end_first, end_fault, end_fault_later, served_from, headline_of}
use Rattle.ml_serve.proofs.command.serve.Goals as goal

pub returns-in-Err-clause-served : goal.returns-in-Err-clause-served
returns-in-Err-clause-served g c =
    headline_of _ c.hear_nothing.ensures c.hear_twice.ensures _ _ _ _ c.args.hours.count 0 _ _ _ c.say_fault.result
    (served_none c.take_nothing.ensures c.append_nothing.ensures _ _ _ c.listen.ensures.same.1 c.listen.ensures.same.2)
    (end_fault _ _ _ _ c.say_fault.result (rw c.in-Err.is at c.listen.ensures.listens) c.in-Err.ensures.cause.failed c.say_fault.ensures.said)

pub returns-in-Err-put_all-clause-served : goal.returns-in-Err-put_all-clause-served
returns-in-Err-put_all-clause-served g c =
    headline_of _ c.hear_nothing.ensures c.hear_twice.ensures _ _ _ _ c.args.hours.count 0 _ _ _ WriteFault
    (served_none c.take_nothing.ensures c.append_nothing.ensures _ _ _ c.listen.ensures.same.1 c.listen.ensures.same.2)
    (end_first _ _ _ _ (rw c.in-Ok.is at c.listen.ensures.listens, c.in-Ok.ensures.cause.fine) c.in-Err-put_all.ensures.err)

pub returns-in-Ok-put_served-clause-served : goal.returns-in-Ok-put_served-clause-served
returns-in-Ok-put_served-clause-served g c =
    headline_of _ c.hear_nothing.ensures c.hear_twice.ensures _ _ _ _ c.args.hours.count c.in-Ok-serve_links.number _ _ _ Done
    (served_from _ _ _ _ _ _ c.listen.ensures.same.1 refl c.listen.ensures.same.2 refl c.in-Ok-serve_links.ensures.ok.1)
    (end_done c.append_twice.ensures _ _ _ _ _ _ (c.serve_links.ensures.listens, c.in-Ok-serve_links.ensures.cause.fine ∙ c.in-Ok.ensures.cause.fine)
    c.in-Ok-serve_links.ensures.ok.0 c.in-Ok-serve_links.ensures.ok.2 c.in-Ok-put_all.ensures.ok c.in-Ok-put_served.ensures.ok)

pub returns-in-Err-put_served-clause-served : goal.returns-in-Err-put_served-clause-served
returns-in-Err-put_served-clause-served g c =
    headline_of _ c.hear_nothing.ensures c.hear_twice.ensures _ _ _ _ c.args.hours.count c.in-Ok-serve_links.number _ _ _ WriteFault
    (served_from _ _ _ _ _ _ c.listen.ensures.same.1 refl c.listen.ensures.same.2 refl c.in-Ok-serve_links.ensures.ok.1)
    (end_cut c.append_twice.ensures _ _ _ _ _ _ (c.serve_links.ensures.listens, c.in-Ok-serve_links.ensures.cause.fine ∙ c.in-Ok.ensures.cause.fine)
    c.in-Ok-serve_links.ensures.ok.0 c.in-Ok-serve_links.ensures.ok.2 c.in-Ok-put_all.ensures.ok c.in-Err-put_served.ensures.err)

pub returns-in-Err-serve_links-clause-served : goal.returns-in-Err-serve_links-clause-served
returns-in-Err-serve_links-clause-served g c =
    headline_of _ c.hear_nothing.ensures c.hear_twice.ensures _ _ _ _ c.args.hours.count c.in-Err-serve_links.ensures.err.0 _ _ _ c.say_fault-in-Err-serve_links.result
    (served_from _ _ _ _ _ _ c.listen.ensures.same.1 refl c.listen.ensures.same.2 refl c.in-Err-serve_links.ensures.err.2)
    (end_fault_later c.append_twice.ensures _ _ _ _ _ _ c.say_fault-in-Err-serve_links.result
    c.serve_links.ensures.listens (c.in-Err-serve_links.ensures.cause.failed ∙ ap one_more c.in-Ok.ensures.cause.fine)
    c.in-Err-serve_links.ensures.err.1 c.in-Ok-put_all.ensures.ok c.say_fault-in-Err-serve_links.ensures.said)
