use Rattle.std.proofs.Common.{[], sym, arith, append-nil}
use Rattle.std.proofs.lemmas.List.Elements.{All-nil}
use Rattle.ml_ratio.specs.Fraction.{value_of}
use Rattle.ml_gaps.specs.Blocked.{IsPairPiece}
use Rattle.ml_gaps.specs.Piece.{HoldsScale}
use Rattle.ml_ratio.proofs.lemmas.Anys.{any_none}
use Rattle.ml_gaps.proofs.choice.add_blocked.Goals as goal

pub returns-then-is_apart : goal.returns-then-is_apart
returns-then-is_apart c =
    record {
      added = [];
      appended = sym (append-nil c.args.pieces.now);
      each = All-nil (IsPairPiece c.args.label.now c.args.other.now c.args.gap.now);
      union = λ s. (
        λ h. absurd (any_none (λ p. HoldsScale p s) h),
        λ h. absurd (c.is_apart.ensures c.if-is_apart.true c.args.label.now c.args.other.now (value_of c.args.label.now.max)
            (value_of c.args.gap.now.until) c.requires.own c.requires.near s h.1.1 h.2.1 h.3),
      );
      few = omega arith;
    }
