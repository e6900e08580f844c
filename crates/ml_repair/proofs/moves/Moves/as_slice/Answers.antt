use Rattle.std.proofs.Common.{arith}
use Rattle.std.proofs.lemmas.List.{length-map}
use Rattle.ml_store.specs.declared.moved.Moved.{Moved}
use Rattle.ml_repair.specs.Moves.{numbers_of}
use Rattle.ml_repair.proofs.Pigeons.{at_most}
use Rattle.ml_repair.proofs.moves.Moves.as_slice.Goals as goal

pub returns-clause-few : goal.returns-clause-few
returns-clause-few c =
    let many = length-map c.args.self.now (λ (m : Moved). m.number) in
    let few = at_most 32768 (numbers_of c.args.self.now) (rw c.self.view_is at c.self.invariant.differ) (rw c.self.view_is at c.self.invariant.low) in
    omega arith
