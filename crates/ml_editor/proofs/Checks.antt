-- What the checks of an edit's parts say of the edit.
use Rattle.std.proofs.Common.{◌≡◌, ℕ, inl, inr, sym, subst, Option, Result, Ok, Err}
use Rattle.std.specs.Prelude.{IfOk, IfErr, OnOk}
use Rattle.std.specs.Result.{result_and}
use Rattle.ml_editor.specs.State.{State}
use Rattle.ml_editor.specs.Faults.{Wish, AsksFor, IsPresent, IsUnread, IsRefused, IsFault, OrMemory}
use Rattle.ml_editor.specs.declared.edit.Edit.{Edit}
use Rattle.ml_editor.specs.declared.fault.EditFault.{EditFault}

-- what is kept unless a first answer is a refusal
module _ {T U E : Type 0} (kept : U) where
  -- what is kept has what follows from all that the first answer tells where it is no refusal
  pub kept_so : (P : Type 0) (Q : U → Type 0) (first : Result T E) (both : Result U E) → both ≡ result_and first (Ok kept) → (P → Q kept) → OnOk first P → IfOk both Q
  kept_so P Q (Ok x) both is so h = subst (λ (r : Result U E). IfOk r Q) (sym is) (so h)
  kept_so P Q (Err e) both is so h = subst (λ (r : Result U E). IfOk r Q) (sym is) tt

  -- a refusal is that of the first answer, and has what follows from what that has
  pub refused_so : (Q R : E → Type 0) (first : Result T E) (both : Result U E) → both ≡ result_and first (Ok kept) → ((e : E) → Q e → R e) → IfErr first Q → IfErr both R
  refused_so Q R (Ok x) both is so h = subst (λ (r : Result U E). IfErr r R) (sym is) tt
  refused_so Q R (Err e) both is so h = subst (λ (r : Result U E). IfErr r R) (sym is) (so e h)

-- the revision is the present one
module _ (s : State) (rev : Option ℕ) (wish : Wish) (present : IsPresent s rev) where
  -- why the body is no edit is why the request is refused, and so is the want of memory
  pub fault_of_body : (e : EditFault) → OrMemory (IsUnread wish) e → OrMemory (IsFault s rev wish) e
  fault_of_body e (inl memory) = inl memory
  fault_of_body e (inr unread) = inr (inr (present, inl unread))

  -- why the edit that is asked for is not made is why the request is refused, and so is the want of memory
  pub fault_of_edit : (edit : Edit) → AsksFor wish edit → (e : EditFault) → OrMemory (IsRefused s edit) e → OrMemory (IsFault s rev wish) e
  fault_of_edit edit makes e (inl memory) = inl memory
  fault_of_edit edit makes e (inr refused) = inr (inr (present, inr (edit, makes, refused)))
