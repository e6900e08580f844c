-- Where what the words ask for is ready and no count of faults rose, it is answered, or memory was wanting.
use Rattle.std.proofs.Common.{◌≡◌, ℕ, List, Some, refl, sym, subst, ◌∙◌, inl, inr, arith}
use Rattle.std.specs.Prelude.{◌⊎◌}
use Rattle.ml_io.specs.Calls.{Put, Taken}
use Rattle.ml_ratio.specs.Count.{one_more}
use Rattle.ml_io.specs.Causes.{Rose}
use Rattle.ml_io.specs.Files.{FileSet}
use Rattle.ml_cert.specs.declared.verdict.Verdict.{Verdict}
use Rattle.ml_cert.specs.declared.verdict.Verdict.TheVariants.{Best, BadEnd, Clash, Uncovered, BadBlocker}
use Rattle.ml_cone.specs.declared.label.Label.{Label}
use Rattle.ml_follow.specs.declared.state.State as follow
use Rattle.ml_http.specs.Connection.{HasEndCause}
use Rattle.ml_http.specs.declared.connection_end.ConnEnd.{ConnEnd}
use Rattle.ml_http.specs.declared.connection_end.ConnEnd.TheVariants as ends
use Rattle.ml_style.specs.StyleTable.{IsStyle}
use Rattle.ml_style.specs.declared.style.Style.{Style}
use Rattle.ml_serve.specs.Printed.{DoorSaid, IsEndOfServing, HasServeCause}
use Rattle.ml_serve.specs.declared.serve_end.ServeEnd.{ServeEnd}
use Rattle.ml_serve.specs.declared.serve_end.ServeEnd.TheVariants as serving
use Rattle.ml_command.specs.Following.{Following, HasStates, IsEndOfFollowing, IsStatesStop}
use Rattle.ml_command.specs.Inputs.{HasTable, IsTableStop, IsSlotsStop, IsCheckStop}
use Rattle.maplabel.specs.Generating.{sample_style, IsGenStop}
use Rattle.ml_command.specs.MapInputs.{IsStyleStop, IsMapStop, IsMapAnswerStop}
use Rattle.ml_command.specs.declared.following.FollowEnd.{FollowEnd}
use Rattle.ml_command.specs.declared.following.FollowEnd.TheVariants as follow_end
use Rattle.maplabel.specs.Outcome.{IsPrinted, status_of}
use Rattle.maplabel.specs.Ready.{IsSomeTable, AreSomeSlots, IsSomeStyle, IsSomeMap, IsReady, AreReady, IsCalm, IsAnswered, EndsWell}
use Rattle.maplabel.specs.Run.{Call, IsTold, IsStopped, IsTextEnd, IsDone, IsRun, status_of_following}
use Rattle.maplabel.specs.Serving.{status_of_link, status_of_serving}
use Rattle.ml_command.specs.declared.command.Command.{Command}
use Rattle.ml_command.specs.declared.command.Command.TheVariants.{OnTable, Check, OnMap, Live, Gen, Follow}
use Rattle.ml_command.specs.declared.command.LiveTask.TheVariants.{Pipe, Serve}
use Rattle.maplabel.specs.declared.status.Status.{Status}
use Rattle.maplabel.specs.declared.status.Status.TheVariants.{Done, NotBest, Memory, NotAdopted}
use Rattle.ml_command.specs.declared.stop.Stop.{Stop}
use Rattle.ml_command.specs.declared.stop.Stop.TheVariants as stop
use Rattle.maplabel.proofs.Accepted.{KnownFiles, table_or_not, same_labels, slots_or_not, style_or_not, sample_or_not, map_or_not, states_or_not, not_too_long}

-- one fault more, and the count rose
rose : (before now : ℕ) → now ≡ one_more before → Rose before now
rose before now e = omega (arith, e)

-- a verdict's command is done, or finds the slots not best
of_verdict : (verdict : Verdict) → (status_of verdict ≡ Done) ⊎ (status_of verdict ≡ NotBest)
of_verdict Best = inl refl
of_verdict (BadEnd i) = inr refl
of_verdict (Clash i j limit) = inr refl
of_verdict (Uncovered i) = inr refl
of_verdict (BadBlocker i) = inr refl

-- how one connection ends where neither input nor output failed
piped : (input : Taken) (out : Put) → ¬ (Rose input.faults input.faults_after) → ¬ (Rose out.faults out.faults_after) → (end : ConnEnd) → HasEndCause input out end →
    (status_of_link end ≡ Done) ⊎ (status_of_link end ≡ Memory)
piped input out calm dry ends.Shut cause = inl refl
piped input out calm dry ends.Starved cause = inr refl
piped input out calm dry ends.Closed cause = inl refl
piped input out calm dry ends.ReadFault cause = absurd (calm (rose input.faults input.faults_after cause.reads))
piped input out calm dry ends.WriteFault cause = absurd (dry (rose out.faults out.faults_after cause.writes))

-- how serving ends where neither door nor output failed
served : {X : Type 0} (door : DoorSaid X) (count number : ℕ) (out : Put) → ¬ (Rose door.faults door.faults_after) → ¬ (Rose out.faults out.faults_after) → (end : ServeEnd) →
    IsEndOfServing count number door out.written out.written_after end → HasServeCause door.faults door.faults_after out.faults out.faults_after end → status_of_serving end ≡ Done
served door count number out calm dry serving.Done is cause = refl
served door count number out calm dry serving.WriteFault is cause = absurd (dry (rose out.faults out.faults_after cause.writes))
served door count number out calm dry serving.DoorFault is cause = absurd (calm (rose door.faults door.faults_after is.1.1))

-- how following ends where the output did not fail
followed : {states : List follow.State} (f : Following states) (out : Put) → ¬ (Rose out.faults out.faults_after) → (end : FollowEnd) → IsEndOfFollowing f out end
    → ((status_of_following end ≡ Done) ⊎ (status_of_following end ≡ NotAdopted)) ⊎ (status_of_following end ≡ Memory)
followed f out dry follow_end.Adopted is = inl (inl refl)
followed f out dry follow_end.NotAdopted is = inl (inr refl)
followed f out dry follow_end.WriteFault is = absurd (dry (rose out.faults out.faults_after is.failed))
followed f out dry follow_end.Memory is = inr refl

module _ (known : KnownFiles) (files : FileSet) {S D I O W : Type 0} (r : Call S D I O W) (same : r.files.told ≡ Some files) (calm : IsCalm r) where
  -- a load that failed
  failed : r.files.faults_after ≡ one_more r.files.faults_before → ⊥
  failed e = calm.files (rose r.files.faults_before r.files.faults_after e)

  by_table : (table : List ℕ) → IsSomeTable files table → (s : Stop) → IsTableStop r.files table s → s ≡ stop.Memory
  by_table table is (stop.StyleRefused line) why = absurd why
  by_table table is (stop.InputRefused line) why = absurd (table_or_not known files table is.0 line is.1 (rw same at why))
  by_table table is stop.FileFault why = absurd (failed why.0)
  by_table table is stop.TooLong why = absurd (not_too_long files table is.1.0 is.1.1 (rw same at why))
  by_table table is stop.Memory why = refl

  by_slots : (table slots : List ℕ) (labels : List Label) → AreSomeSlots files table slots → HasTable (Some files) table labels → (s : Stop) → IsSlotsStop r.files labels slots s → s ≡ stop.Memory
  by_slots table slots labels are has (stop.StyleRefused line) why = absurd why
  by_slots table slots labels are has (stop.InputRefused line) why =
      let one = same_labels known files table are.0 labels are.1 has in
      absurd (slots_or_not known files labels slots are.2.0 line (rw one at are.2.1) (rw same at why))
  by_slots table slots labels are has stop.FileFault why = absurd (failed why.0)
  by_slots table slots labels are has stop.TooLong why = absurd (not_too_long files slots are.2.1.0 are.2.1.1 (rw same at why))
  by_slots table slots labels are has stop.Memory why = refl

  by_check : (table slots : List ℕ) → AreSomeSlots files table slots → (s : Stop) → IsCheckStop r.files table slots s → s ≡ stop.Memory
  by_check table slots are s (inl why) = by_table table (are.0, are.1) s why
  by_check table slots are s (inr why) = by_slots table slots why.0 are (rw same at why.1) s why.2

  by_style : (style : List ℕ) → IsSomeStyle files style → (s : Stop) → IsStyleStop r.files style s → s ≡ stop.Memory
  by_style style is (stop.StyleRefused line) why = absurd (style_or_not known files style is.0 line is.1 (rw same at why))
  by_style style is (stop.InputRefused line) why = absurd why
  by_style style is stop.FileFault why = absurd (failed why.0)
  by_style style is stop.TooLong why = absurd (not_too_long files style is.1.0 is.1.1 (rw same at why))
  by_style style is stop.Memory why = refl

  by_map : (map : List ℕ) → IsSomeMap files map → (s : Stop) → IsMapStop r.files map s → s ≡ stop.Memory
  by_map map is (stop.StyleRefused line) why = absurd why
  by_map map is (stop.InputRefused line) why = absurd (map_or_not known files map is.0 line is.1 (rw same at why))
  by_map map is stop.FileFault why = absurd (failed why.0)
  by_map map is stop.TooLong why = absurd (not_too_long files map is.1.0 is.1.1 (rw same at why))
  by_map map is stop.Memory why = refl

  by_both : (style map : List ℕ) → IsSomeStyle files style × IsSomeMap files map → (s : Stop) → IsMapAnswerStop r.files style map s → s ≡ stop.Memory
  by_both style map are s (inl why) = by_style style are.0 s why
  by_both style map are s (inr why) = by_map map are.1 s why.2

  by_sample : ((style : Style) × IsStyle sample_style style) → (s : Stop) → IsGenStop s → s ≡ stop.Memory
  by_sample is (stop.StyleRefused line) why = absurd (sample_or_not known is.0 line is.1 why)
  by_sample is (stop.InputRefused line) why = absurd why
  by_sample is stop.FileFault why = absurd why
  by_sample is stop.TooLong why = absurd why
  by_sample is stop.Memory why = refl

  by_states : (name : List ℕ) → ((states : List follow.State) × HasStates (Some files) name states) → (s : Stop) → IsStatesStop r.files name s → s ≡ stop.Memory
  by_states name are (stop.StyleRefused line) why = absurd why
  by_states name are (stop.InputRefused line) why = absurd (states_or_not known files name are.0 line are.1 (rw same at why))
  by_states name are stop.FileFault why = absurd (failed why.0)
  by_states name are stop.TooLong why = absurd (not_too_long files name are.1.0 are.1.1 (rw same at why))
  by_states name are stop.Memory why = refl

  -- a text that was due was printed whole
  whole : (text : List ℕ) (due status : Status) → IsPrinted text due r.out status → status ≡ due
  whole text due status (inl all) = all.0
  whole text due status (inr part) = absurd (calm.out (rose r.out.faults r.out.faults_after part.2))

  told : (due : Status → List ℕ → Type 0) (P : Status → Type 0) → ((now : Status) (text : List ℕ) → due now text → P now) → (status : Status) → IsTold r.files r.out due status → P status
  told due P says status is = subst P (sym (whole is.1 is.0 status is.4)) (says is.0 is.1 is.2)

  stopped : (stops : Stop → Type 0) → ((s : Stop) → stops s → s ≡ stop.Memory) → (status : Status) → IsStopped r.files r.out stops status → status ≡ Memory
  stopped stops for_memory status is = whole is.3.1 is.3.0 status is.3.3 ∙ (rw (for_memory is.0 is.1) at is.3.2).0

  text_end : (due : Status → List ℕ → Type 0) (stops : Stop → Type 0) (P : Status → Type 0) → ((now : Status) (text : List ℕ) → due now text → P now) →
      ((s : Stop) → stops s → s ≡ stop.Memory) → (status : Status) → IsTextEnd r due stops status → P status ⊎ (status ≡ Memory)
  text_end due stops P says for_memory status is =
      elim is.0 [
        | inl text ↦ inl (told due P says status text)
        | inr none ↦ inr (stopped stops for_memory status none)
      ]

  answered : (command : Command) (status : Status) → IsReady files command → IsDone r command status → IsAnswered command status ⊎ (status ≡ Memory)
  answered (OnTable table task) status ready is = text_end _ _ (λ now. now ≡ Done) (λ now text due. due.1) (by_table table.now ready) status is
  answered (Check table slots) status ready is =
      text_end _ _ (λ now. (now ≡ Done) ⊎ (now ≡ NotBest)) (λ now text due. rw due.2 (of_verdict due.0)) (by_check table.now slots.now ready) status is
  answered (OnMap style map task) status ready is = text_end _ _ (λ now. now ≡ Done) (λ now text due. due.1) (by_both style.now map.now ready) status is
  answered (Gen groups seed) status ready is = text_end _ _ (λ now. now ≡ Done) (λ now text due. due.1) (by_sample ready) status is
  answered (Live style map task) status ready (inl none) = inr (stopped _ (by_both style.now map.now ready) status none.0)
  answered (Live style map Pipe) status ready (inr is) =
      let p = is.3.0 in
      rw p.status_is (piped r.input r.out calm.input calm.out p.end p.cause)
  answered (Live style map (Serve port count)) status ready (inr is) =
      let p = is.3.0 in
      inl (p.status_is ∙ served _ count _ r.out calm.door calm.out p.end p.printed p.cause)
  answered (Follow name) status ready (inl none) = inr (stopped _ (by_states name.now ready) status none.0)
  answered (Follow name) status ready (inr is) = (let p = is.3 in rw p.2 (followed p.1.following r.out calm.out p.0 p.1.ended))

  -- words whose files are ready come to the end that they ask for
  pub completes : (words : List (List ℕ)) (status : Status) → AreReady files words → IsRun r words status → EndsWell words status
  completes words status ready (inl (command, asks, is)) = (command, asks, answered command status (ready.ready command asks) is)
  completes words status ready (inr (none, kept, printed, stays)) = absurd (none ready.form)
