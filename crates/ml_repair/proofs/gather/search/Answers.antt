use Rattle.std.proofs.Common.{List, ℕ}
use Rattle.ml_repair.proofs.Answered.{if_ok}
use Rattle.ml_repair.proofs.Gathering.{lasts_from}
use Rattle.ml_repair.proofs.gather.search.Goals as goal

pub returns : goal.returns
returns c =
    if_ok c.overlapping.result _ _ (λ (places : List ℕ) found. record {
      within = found.within;
      whole = λ p over unmoved reaches later. found.whole p over (lasts_from c.args.sought.now.roster.now c.args.sought.now.moves.now
          c.args.sought.now.low.now c.args.band p c.least_end-scale.result c.least_end-scale.ensures over.0 unmoved reaches later);
    }) c.overlapping.ensures
