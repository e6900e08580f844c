use Rattle.ml_editor.specs.Faults.{wish_of}
use Rattle.ml_editor.proofs.Checks.{kept_so, refused_so, fault_of_edit}
use Rattle.ml_editor.proofs.editor.Editor.check.Goals as goal

pub returns-clause-ok : goal.returns-clause-ok
returns-clause-ok c =
    kept_so c.in_ok-edit.edit _ _ c.check_edit.result _ c.and.ensures
    (λ may. record { present = c.in_ok-check_rev.ensures.ok; asked = c.in_ok-edit.ensures.ok; allowed = may.0; not_last = may.1 }) c.check_edit.ensures.ok

pub returns-clause-err : goal.returns-clause-err
returns-clause-err c =
    refused_so c.in_ok-edit.edit _ _ c.check_edit.result _ c.and.ensures
    (fault_of_edit c.args.self.now.state c.args.rev (wish_of c.args.asked) c.in_ok-check_rev.ensures.ok c.in_ok-edit.edit c.in_ok-edit.ensures.ok) c.check_edit.ensures.err
