use Rattle.std.proofs.Common.{inl, inr, refl, ap}
use Rattle.ml_io.specs.Files.{seen}
use Rattle.maplabel.specs.Run.{lending}
use Rattle.maplabel.proofs.RunLemmas.{text_end, verdict_end, gen_keeps}
use Rattle.ml_command.specs.declared.command.Command.TheVariants.{OnTable, Check, OnMap, Live, Gen, Follow}
use Rattle.maplabel.proofs.run.run.Goals as goal

pub returns-in-Some-OnTable-clause-end : goal.returns-in-Some-OnTable-clause-end
returns-in-Some-OnTable-clause-end g c =
    let asks = rw c.in-Some-OnTable.field-0-is at c.in-Some-OnTable.ensures in
    let saw = seen g.F.Files.told g.F.Files.faults g.F.Files.failed_name c.args.files.now c.on_table.new.files in
    let is = c.on_table.ensures in
    inl (OnTable c.in-Some-OnTable.table c.in-Some-OnTable.task, asks, (text_end saw _ _ _ c.on_table.result _ is.ok is.stop is.kept c.print_answer.ensures.printed, refl))

pub returns-in-Some-Check-clause-end : goal.returns-in-Some-Check-clause-end
returns-in-Some-Check-clause-end g c =
    let asks = rw c.in-Some-Check.field-0-is at c.in-Some-Check.ensures in
    let saw = seen g.F.Files.told g.F.Files.faults g.F.Files.failed_name c.args.files.now c.check.new.files in
    let is = c.check.ensures in
    inl (Check c.in-Some-Check.table c.in-Some-Check.slots, asks, (verdict_end saw _ _ _ c.check.result _ is.ok is.stop is.kept c.print_verdict.ensures.printed, refl))

pub returns-in-Some-OnMap-clause-end : goal.returns-in-Some-OnMap-clause-end
returns-in-Some-OnMap-clause-end g c =
    let asks = rw c.in-Some-OnMap.field-0-is at c.in-Some-OnMap.ensures in
    let saw = seen g.F.Files.told g.F.Files.faults g.F.Files.failed_name c.args.files.now c.on_map.new.files in
    let is = c.on_map.ensures in
    inl (OnMap c.in-Some-OnMap.style c.in-Some-OnMap.map c.in-Some-OnMap.task, asks, (text_end saw _ _ _ c.on_map.result _ is.ok is.stop is.kept c.print_answer-in-Some-OnMap.ensures.printed, refl))

pub returns-in-Pipe-clause-end : goal.returns-in-Pipe-clause-end
returns-in-Pipe-clause-end g c =
    let asks = rw c.in-Some-Live.field-0-is at c.in-Some-Live.ensures in
    let site = c.in-Ok.ensures in
    inl (
      Live c.in-Some-Live.style c.in-Some-Live.map c.in-Some-Live.task,
      asks,
      rw c.in-Pipe.is (inr (c.in-Ok.site.0.state, site.ok.0, site.kept, (c.pipe.ensures.served, refl))),
    )

pub returns-in-Serve-clause-end : goal.returns-in-Serve-clause-end
returns-in-Serve-clause-end g c =
    let asks = rw c.in-Some-Live.field-0-is at c.in-Some-Live.ensures in
    let site = c.in-Ok.ensures in
    inl (
      Live c.in-Some-Live.style c.in-Some-Live.map c.in-Some-Live.task,
      asks,
      rw c.in-Serve.is (inr (c.in-Ok.site.0.state, site.ok.0, site.kept, (c.serve_at.ensures.served, refl))),
    )

pub returns-in-Err-clause-end : goal.returns-in-Err-clause-end
returns-in-Err-clause-end g c =
    let asks = rw c.in-Some-Live.field-0-is at c.in-Some-Live.ensures in
    let why = c.in-Err.ensures in
    inl (
      Live c.in-Some-Live.style c.in-Some-Live.map c.in-Some-Live.task,
      asks,
      inl ((c.in-Err.stop, why.stop, why.kept, c.print_stop.ensures.printed), refl),
    )

pub returns-in-Some-Gen-clause-end : goal.returns-in-Some-Gen-clause-end
returns-in-Some-Gen-clause-end g c =
    let asks = rw c.in-Some-Gen.field-0-is at c.in-Some-Gen.ensures in
    let saw = seen g.F.Files.told g.F.Files.faults g.F.Files.failed_name c.args.files.now c.args.files.now in
    let is = c.totals_of.ensures in
    let kept = gen_keeps saw c.totals_of.result (refl, refl) is.stop in
    inl (Gen c.in-Some-Gen.groups c.in-Some-Gen.seed, asks, (text_end saw _ _ _ c.totals_of.result _ is.ok is.stop kept c.print_answer-in-Some-Gen.ensures.printed, refl))

pub returns-in-Some-Follow-clause-end : goal.returns-in-Some-Follow-clause-end
returns-in-Some-Follow-clause-end g c =
    let asks = rw c.in-Some-Follow.field-0-is at c.in-Some-Follow.ensures in
    inl (
      Follow c.in-Some-Follow.name,
      asks,
      elim c.follow_file.ensures.end [
        | inl none ↦ inl (none.0, ap (lending c.args.input.now c.args.door.now) none.1)
        | inr is ↦ inr (is.0, is.1, is.2, is.3, refl, refl)
      ],
    )

pub returns-in-None-clause-end : goal.returns-in-None-clause-end
returns-in-None-clause-end g c = inr (c.in-None.ensures, (refl, refl), c.print_usage.ensures.printed, refl)
