-- What an answer says.
use Rattle.std.proofs.Common.{Result, Ok, Err}
use Rattle.std.specs.Prelude.{IfOk}

-- what follows from a fact about the value of an answer holds of it too; an error says nothing of it
pub if_ok : {A E : Type 0} (r : Result A E) (P Q : A → Type 0) → ((x : A) → P x → Q x) → IfOk r P → IfOk r Q
if_ok (Ok x) P Q f h = f x h
if_ok (Err e) P Q f h = h

-- the same of what follows from two facts about the value together
pub if_both : {A E : Type 0} (r : Result A E) (P R Q : A → Type 0) → ((x : A) → P x → R x → Q x) → IfOk r P → IfOk r R → IfOk r Q
if_both (Ok x) P R Q f h k = f x h k
if_both (Err e) P R Q f h k = h
