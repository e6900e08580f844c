use Rattle.ml_conflict.proofs.Own.{blocks_limit, limit_blocks}
use Rattle.ml_conflict.proofs.laws.blocking.Goals as goal

pub returns-clause-limits : goal.returns-clause-limits
returns-clause-limits c = blocks_limit

pub returns-clause-blocks : goal.returns-clause-blocks
returns-clause-blocks c = limit_blocks
