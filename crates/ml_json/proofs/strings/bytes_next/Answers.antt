use Rattle.std.proofs.Common.{◌≡◌, sym, subst, true}
use Rattle.std.specs.Str.{IsUtf8}
use Rattle.ml_json.specs.Characters.{low, high}
use Rattle.ml_ratio.specs.JsonNumber.{is_between}
use Rattle.ml_json.specs.Partial.{tail_of}
use Rattle.ml_json.proofs.PartialLemmas.{partial_more, partial_done}
use Rattle.ml_json.proofs.strings.bytes_next.Goals as goal

pub invariant_of-result : goal.invariant_of-result
invariant_of-result c =
    let h : is_between (low (tail_of c.args.partial.tail)) (high (tail_of c.args.partial.tail)) c.args.byte ≡ true = cc in
    record { whole = partial_more c.args.partial.got.items c.push.new.self.items c.args.byte (tail_of c.args.partial.tail) _ c.in_ok-push.ensures.items h (sym c.in-Some.ensures) c.args.partial.whole }

pub unreachable-requires : goal.unreachable-requires
unreachable-requires c =
    let h : is_between (low (tail_of c.args.partial.tail)) (high (tail_of c.args.partial.tail)) c.args.byte ≡ true = cc in
    c.in-Err.ensures.cases.0 (subst IsUtf8 (sym c.as_slice.ensures.value) (partial_done c.args.partial.got.items c.push.new.self.items c.args.byte
    (tail_of c.args.partial.tail) c.in_ok-push.ensures.items h (sym c.in-None.ensures) c.args.partial.whole))
