use Rattle.std.proofs.Common.{ℕ, List, arith, subst, ◌∙◌}
use Rattle.ml_request.specs.Stream.{IsMarkAt, HasNoMark, IsHeadSize}
use Rattle.ml_request.proofs.Marks.{mark_stays, size_fits}
use Rattle.ml_request.proofs.ReaderLemmas.{full}
use Rattle.ml_request.proofs.lemmas.Takes.{gains_twice}
use Rattle.ml_request.proofs.reader.find_head.Goals as goal

pub returns-in-Some-clause-ok : goal.returns-in-Some-clause-ok
returns-in-Some-clause-ok g c =
    let head : IsHeadSize c.search.held c.in-Some.size = subst (λ bytes. IsHeadSize bytes c.in-Some.size) c.as_slice.ensures.bytes c.in-Some.ensures.found in
    (head, omega (arith, size_fits c.search.held c.in-Some.size head, c.as_slice.ensures.room))

pub returns-then-len-eq-ROOM-clause-ok : goal.returns-then-len-eq-ROOM-clause-ok
returns-then-len-eq-ROOM-clause-ok g c =
    full c.search.held (omega (arith, c.len.ensures.len, c.if-len-eq-ROOM.true)) (subst HasNoMark c.as_slice.ensures.bytes c.in_default.ensures.none)

pub search-preserved : goal.search-preserved
search-preserved g c =
    let none : HasNoMark c.search.held = subst HasNoMark c.as_slice.ensures.bytes c.in_default.ensures.none in
    let more : List ℕ = c.fill.ensures.gains.taken in
    record {
      gains = gains_twice _ _ _ _ _ _ c.search.invariant.gains c.fill.ensures.gains;
      within = omega (arith, c.saturating_sub-searched.ensures, c.len-in-search.ensures.len, c.in-Ok.ensures.count);
      before = λ k below mark. none k
          (mark_stays c.search.held more k (omega (arith, c.saturating_sub-searched.ensures, c.len-in-search.ensures.len))
          (subst (λ bytes. IsMarkAt bytes k) c.fill.ensures.gains.behind mark));
      same = c.in-Ok.ensures.cause.fine ∙ c.search.invariant.same;
    }

pub returns-in-Err-clause-gains : goal.returns-in-Err-clause-gains
returns-in-Err-clause-gains g c = gains_twice _ _ _ _ _ _ c.search.invariant.gains c.fill.ensures.gains
