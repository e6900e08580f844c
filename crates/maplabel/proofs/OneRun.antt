-- Two runs of the same words that find the same print the same.
use Rattle.std.proofs.Common.{◌≡◌, ℕ, ◌≤◌, List, [], ◌∷◌, ◌++◌, length, map, Option, Some, None, ◌⊎◌, inl, inr, refl, sym, ap, subst, ◌∙◌, arith}
use Rattle.std.specs.Prelude.{codes, flat_map}
use Rattle.ml_io.specs.Causes.{Appends}
use Rattle.ml_io.specs.Files.{FileSet}
use Rattle.ml_io.specs.Takes.{HasRunOut, Takes}
use Rattle.ml_io.specs.Calls.{LinkEnds, Passed, Put}
use Rattle.ml_io.specs.declared.link.Link.{Link}
use Rattle.ml_cert.specs.declared.verdict.Verdict.{Verdict}
use Rattle.ml_cert.specs.declared.verdict.Verdict.TheVariants.{Best, BadEnd, Clash, Uncovered, BadBlocker}
use Rattle.ml_follow.specs.declared.state.State as follow
use Rattle.ml_watch.specs.Hearing.{AllHear, Hearing}
use Rattle.ml_watch.specs.declared.change.Change.{Change}
use Rattle.ml_editor.specs.State.{IsState, State}
use Rattle.ml_http.specs.Link.{IsLinkServed, LinkState}
use Rattle.ml_http.specs.Once.{Account, AreAccounts, AreLikeStates, EndsWell}
use Rattle.ml_http.specs.Step.{LinkAnswer}
use Rattle.ml_http.specs.declared.connection_end.ConnEnd.{ConnEnd}
use Rattle.ml_http.specs.declared.connection_end.ConnEnd.TheVariants as ends
use Rattle.ml_serve.specs.Headline.{Headline, changes_in}
use Rattle.ml_serve.specs.Once.{AllEndWell, AreOverTheSame, AreTold, Session, written_in}
use Rattle.ml_serve.specs.Printed.{AreDone, IsEndOfServing, served_line}
use Rattle.ml_serve.specs.Session.{Visit}
use Rattle.ml_serve.specs.declared.hours.Hours.{Hours}
use Rattle.ml_serve.specs.declared.serve_end.ServeEnd.{ServeEnd}
use Rattle.ml_serve.specs.declared.serve_end.ServeEnd.TheVariants as serving
use Rattle.ml_command.specs.Answers.{IsMapAnswer, IsTableAnswer}
use Rattle.ml_command.specs.Commands.{Ask}
use Rattle.ml_command.specs.Following.{AllAdopted, Following, HasStates, IsEndOfFollowing, IsPrintedWhole, Offered, changes_of, joined, lines_of}
use Rattle.ml_command.specs.FollowLines.{held_line}
use Rattle.ml_command.specs.Loading.{IsFirstState}
use Rattle.ml_command.specs.Once.{plain}
use Rattle.ml_command.specs.VerdictText.{verdict_line}
use Rattle.ml_command.specs.declared.command.Command.{Command}
use Rattle.ml_command.specs.declared.command.Command.TheVariants.{OnTable, Check, OnMap, Live, Gen, Follow}
use Rattle.ml_command.specs.declared.command.LiveTask.TheVariants.{Pipe, Serve}
use Rattle.ml_command.specs.declared.command.MapTask.{MapTask}
use Rattle.ml_command.specs.declared.command.TableTask.{TableTask}
use Rattle.ml_command.specs.declared.following.FollowEnd.{FollowEnd}
use Rattle.ml_command.specs.declared.following.FollowEnd.TheVariants as follow_end
use Rattle.ml_command.specs.declared.stop.Stop.{Stop}
use Rattle.ml_command.specs.declared.stop.Stop.TheVariants as stop
use Rattle.maplabel.specs.Generating.{IsTotalsOf}
use Rattle.maplabel.specs.Once.{DoAlike, FindAlike, FindLinks, ReadAlike, ServeAlike, TellAlike, TellBytes}
use Rattle.maplabel.specs.Outcome.{IsCheckAnswer, IsPrinted, IsStopLine, IsStopPrinted, status_of, usage_line}
use Rattle.maplabel.specs.Run.{AreFollowed, Call, IsDone, IsRun, IsStopped, IsTextEnd, status_of_following, watchers_of}
use Rattle.maplabel.specs.Serving.{IsAllServed, IsPiped, Watched, at_first, status_of_link, status_of_serving}
use Rattle.maplabel.specs.declared.status.Status.{Status}
use Rattle.maplabel.specs.declared.status.Status.TheVariants.{Done, Usage, StyleRefused, InputRefused, FileFault, Memory, TooLong}

-- ---- what is printed

-- the same text at the end of the same is the same
appended : (w v a b : Option (List ℕ)) (text words : List ℕ) → w ≡ v → text ≡ words → Appends w a text → Appends v b words → a ≡ b
appended w v a b text words same alike x y = again v a b words (subst (λ (t : List ℕ). Appends v a t) alike (subst (λ (o : Option (List ℕ)). Appends o a text) same x)) y
  where
    again : (o a b : Option (List ℕ)) (t : List ℕ) → Appends o a t → Appends o b t → a ≡ b
    again None a b t x y = x ∙ sym y
    again (Some xs) a b t x y = x ∙ sym y

-- where a run is done, its text was printed whole
whole : (text : List ℕ) (now : Status) (out : Put) → IsPrinted text now out Done → (now ≡ Done) × Appends out.written out.written_after text
whole text now out (inl (is, wrote, calm)) = (sym is, wrote)
whole text now out (inr (is, part, failed)) = absurd (cc (is))

-- no stop is done
no_stop : (s : Stop) (out : Put) → IsStopPrinted s out Done → ⊥
no_stop s out (now, text, line, printed) = by_line s (whole text now out printed).0 line
  where
    by_line : (s : Stop) → now ≡ Done → IsStopLine s now text → ⊥
    by_line (stop.StyleRefused l) e x = (let f : Done ≡ StyleRefused = sym e ∙ x.0 in cc (f))
    by_line (stop.InputRefused l) e x = (let f : Done ≡ InputRefused = sym e ∙ x.0 in cc (f))
    by_line stop.FileFault e x = (let f : Done ≡ FileFault = sym e ∙ x.0 in cc (f))
    by_line stop.TooLong e x = (let f : Done ≡ TooLong = sym e ∙ x.0 in cc (f))
    by_line stop.Memory e x = (let f : Done ≡ Memory = sym e ∙ x.0 in cc (f))

-- the text that was due where a run is done
due_text : {S D I O W : Type 0} (r : Call S D I O W) (due : Status → List ℕ → Type 0) (stops : Stop → Type 0) →
    IsTextEnd r due stops Done → (text : List ℕ) × due Done text × Appends r.out.written r.out.written_after text
due_text r due stops (inl (now, text, is, kept, printed), same) =
    let done = whole text now r.out printed in
    (text, subst (λ (s : Status). due s text) done.0 is, done.1)
due_text r due stops (inr (s, why, kept, printed), same) = absurd (no_stop s r.out printed)

-- texts that are due are one
one_text : {S D I O W : Type 0} (r o : Call S D I O W) (due given : Status → List ℕ → Type 0) (stops ceases : Stop → Type 0) → r.out.written ≡ o.out.written →
    ((a b : List ℕ) → due Done a → given Done b → a ≡ b) → IsTextEnd r due stops Done → IsTextEnd o given ceases Done → r.out.written_after ≡ o.out.written_after
one_text r o due given stops ceases same one x y =
    let a = due_text r due stops x in
    let b = due_text o given ceases y in
    appended r.out.written o.out.written r.out.written_after o.out.written_after a.0 b.0 same (one a.0 b.0 a.1 b.1) a.2 b.2

-- the verdict of a run that is done is that the slots are best
best_line : (verdict : Verdict) (ids : List (List ℕ)) → Done ≡ status_of verdict → verdict_line ids verdict ≡ codes "Best\n"
best_line Best ids is = refl
best_line (BadEnd i) ids is = absurd (cc (is))
best_line (Clash i j limit) ids is = absurd (cc (is))
best_line (Uncovered i) ids is = absurd (cc (is))
best_line (BadBlocker i) ids is = absurd (cc (is))

check_text : (told : Option FileSet) (table slots text : List ℕ) → IsCheckAnswer told table slots Done text → text ≡ codes "Best\n"
check_text told table slots text (verdict, is, done) = is.line ∙ best_line verdict _ done

-- ---- ends

adopted : (end : FollowEnd) → Done ≡ status_of_following end → end ≡ follow_end.Adopted
adopted follow_end.Adopted is = refl
adopted follow_end.NotAdopted is = absurd (cc (is))
adopted follow_end.WriteFault is = absurd (cc (is))
adopted follow_end.Memory is = absurd (cc (is))

ended_well : (end : ConnEnd) → Done ≡ status_of_link end → EndsWell end
ended_well ends.Shut is = tt
ended_well ends.Starved is = absurd (cc (is))
ended_well ends.Closed is = tt
ended_well ends.ReadFault is = absurd (cc (is))
ended_well ends.WriteFault is = absurd (cc (is))

served_all : (end : ServeEnd) → Done ≡ status_of_serving end → end ≡ serving.Done
served_all serving.Done is = refl
served_all serving.WriteFault is = absurd (cc (is))
served_all serving.DoorFault is = absurd (cc (is))

-- what a stopped run is not
not_stopped : {S D I O W : Type 0} (r : Call S D I O W) (stops : Stop → Type 0) → IsStopped r.files r.out stops Done → ⊥
not_stopped r stops (s, why, kept, printed) = no_stop s r.out printed

-- ---- the links of a door

-- links at the front of links that tell their bytes tell theirs
front_tells : {I O : Type 0} (ends : LinkEnds I O) (visits : List (Visit I O LinkAnswer)) (links rest : List (Link I O)) →
    links ≡ map (λ (v : Visit I O LinkAnswer). v.came) visits ++ rest → TellBytes ends links → AreTold ends visits
front_tells ends [] links rest is tell = tt
front_tells ends (visit ∷ visits) [] rest is tell = absurd (cc (is))
front_tells {I} {O} ends (visit ∷ visits) (link ∷ links) rest is tell =
    let head : link ≡ visit.came = cc (is) in
    let tail : links ≡ map (λ (v : Visit I O LinkAnswer). v.came) visits ++ rest = cc (is) in
    ((tell.0.0, ap (λ (l : Link I O). ends.left l.source) (sym head) ∙ tell.0.1), front_tells ends visits links rest tail tell.1)

-- as many links were served in both
same_count : (count m n total : ℕ) → m ≤ count → n ≤ count → m ≤ total → n ≤ total → (m ≡ count) ⊎ (m ≡ total) → (n ≡ count) ⊎ (n ≡ total) → m ≡ n
same_count count m n total a b c d (inl e) (inl f) = omega (arith, e, f)
same_count count m n total a b c d (inl e) (inr f) = omega (arith, b, c, e, f)
same_count count m n total a b c d (inr e) (inl f) = omega (arith, a, d, e, f)
same_count count m n total a b c d (inr e) (inr f) = omega (arith, e, f)

size_of : {A B : Type 0} (f : A → B) (xs : List A) (rest all : List B) → all ≡ map f xs ++ rest → (length xs ≤ length all) × (rest ≡ [] → length xs ≡ length all)
size_of f [] rest all is = (omega arith, λ none. sym (ap (λ (ys : List _). length ys) (is ∙ none)))
size_of f (x ∷ xs) rest [] is = absurd (cc (is))
size_of {A} {B} f (x ∷ xs) rest (y ∷ all) is =
    let tail : all ≡ map f xs ++ rest = cc (is) in
    let later = size_of f xs rest all tail in
    ((let low = later.0 in omega (arith, low)), λ none. (let same = later.1 none in omega (arith, same)))

-- how many were served: as many as were asked for, or as there were
how_many : {I O : Type 0} (count : ℕ) (links : List (Link I O)) (coming after : Option (List (Link I O))) (visits : List (Visit I O LinkAnswer)) (lines : List (List ℕ)) →
    coming ≡ Some links → Takes coming after (map (λ (v : Visit I O LinkAnswer). v.came) visits) →
    AreDone count (length visits) after lines → (length visits ≤ length links) × ((length visits ≡ count) ⊎ (length visits ≡ length links))
how_many {I} {O} count links coming after visits lines is takes done =
    let f : Visit I O LinkAnswer → Link I O = λ (v : Visit I O LinkAnswer). v.came in
    let told : Takes (Some links) after (map f visits) = subst (λ (c : Option (List (Link I O))). Takes c after (map f visits)) is takes in
    let sizes = size_of f visits told.0 links told.2 in (
      sizes.0,
      elim done.enough [
        | inl all ↦ inl all
        | inr out ↦ inr (sizes.1 (subst (λ (c : Option (List (Link I O))). HasRunOut c) told.1 out))
      ],
    )

-- ---- one run

-- what is known of commands, connections and sessions
pub record KnownRuns (W I O : Type 0) : Type 0 where
  pub one_command : (words : List (List ℕ)) (one other : Command) → Ask words one → Ask words other → plain one ≡ plain other
  pub table : (files : FileSet) (table : List ℕ) (task : TableTask) (one other : List ℕ) → IsTableAnswer (Some files) table task one → IsTableAnswer (Some files) table task other → one ≡ other
  pub map_text : (files : FileSet) (style name : List ℕ) (task : MapTask) (one other : List ℕ) →
      IsMapAnswer (Some files) style name task one → IsMapAnswer (Some files) style name task other → one ≡ other
  pub totals : (groups seed : ℕ) (one other : List ℕ) → IsTotalsOf groups seed one → IsTotalsOf groups seed other → one ≡ other
  pub first : (files : FileSet) (style name : List ℕ) (one other : State) → IsFirstState (Some files) style name one → IsFirstState (Some files) style name other → one ≡ other
  pub reached : (told : Option FileSet) (style name : List ℕ) (first : State) → IsFirstState told style name first → IsState first
  pub states : (files : FileSet) (name : List ℕ) (states others : List follow.State) → HasStates (Some files) name states → HasStates (Some files) name others → states ≡ others
  pub answers : (states : List follow.State) (one other : Following states) → one.rest ≡ [] → other.rest ≡ [] → AllAdopted one.answers → AllAdopted other.answers → one.answers ≡ other.answers
  pub held : (states : List follow.State) (one other : Following states) → one.rest ≡ [] → other.rest ≡ [] → AllAdopted one.answers → AllAdopted other.answers → one.held ≡ other.held
  pub written : (hearing : W → Hearing) (bytes : List ℕ) (one other : Account W) → AreAccounts hearing bytes one other →
      one.out.written ≡ other.out.written → one.out.written_after ≡ other.out.written_after
  pub told : (hearing : W → Hearing) (bytes : List ℕ) (one other : Account W) (both : AreAccounts hearing bytes one other) →
      flat_map (λ (a : LinkAnswer). a.changes) both.served.served.exchange.answers ≡ flat_map (λ (a : LinkAnswer). a.changes) both.served_too.served.exchange.answers
  pub replies : (hearing : W → Hearing) (ends : LinkEnds I O) (links : List (Link I O)) (one other : Session W I O) →
      AreOverTheSame hearing ends links one other → written_in ends one.visits ≡ written_in ends other.visits
  pub session_told : (hearing : W → Hearing) (ends : LinkEnds I O) (links : List (Link I O)) (one other : Session W I O) →
      AreOverTheSame hearing ends links one other → flat_map changes_in one.visits ≡ flat_map changes_in other.visits

-- where its names stand in memory is nothing to what a command does
done_plain : {S D I O W : Type 0} (r : Call S D I O W) (c : Command) → IsDone r c Done → IsDone r (plain c) Done
done_plain r (OnTable table task) x = x
done_plain r (Check table slots) x = x
done_plain r (OnMap style map task) x = x
done_plain r (Live style map Pipe) x = x
done_plain r (Live style map (Serve port count)) x = x
done_plain r (Gen groups seed) x = x
done_plain r (Follow states) x = x

read_plain : {S D I O W : Type 0} (r o : Call S D I O W) (c : Command) → ReadAlike r o c → ReadAlike r o (plain c)
read_plain r o (OnTable table task) x = x
read_plain r o (Check table slots) x = x
read_plain r o (OnMap style map task) x = x
read_plain r o (Live style map Pipe) x = x
read_plain r o (Live style map (Serve port count)) x = x
read_plain r o (Gen groups seed) x = x
read_plain r o (Follow states) x = x

alike_plain : {S D I O W : Type 0} (r o : Call S D I O W) (c : Command) → DoAlike r o (plain c) → DoAlike r o c
alike_plain r o (OnTable table task) x = x
alike_plain r o (Check table slots) x = x
alike_plain r o (OnMap style map task) x = x
alike_plain r o (Live style map Pipe) x = x
alike_plain r o (Live style map (Serve port count)) x = x
alike_plain r o (Gen groups seed) x = x
alike_plain r o (Follow states) x = x

-- words that a run did are no words of another form
no_usage : {S D I O W : Type 0} (r : Call S D I O W) → IsPrinted usage_line Usage r.out Done → ⊥
no_usage r printed = let e = (whole usage_line Usage r.out printed).0 in cc (e)

-- what was followed to the end, where a run is done
record Followed {W : Type 0} (hearing : W → Hearing) (states : List follow.State) (crowd after : List W) (out : Put) : Type 0 where
  following : Following states
  printed : IsPrintedWhole following out
  adopts : AllAdopted following.answers
  hears : AllHear hearing (changes_of following.answers) crowd after

followed : {W : Type 0} (hearing : W → Hearing) (states : List follow.State) (crowd after : List W) (out : Put) →
    AreFollowed hearing states crowd after out Done → Followed hearing states crowd after out
followed hearing states crowd after out (end, is, status) =
    let ended : IsEndOfFollowing is.following out follow_end.Adopted = subst (λ (e : FollowEnd). IsEndOfFollowing is.following out e) (adopted end status) is.ended in
    record { following = is.following; printed = ended.0; adopts = ended.1; hears = is.hears }

-- what a session printed, where a run is done
served_lines : {W I O : Type 0} (watchers : Watched W) (ends : LinkEnds I O) (first : State) (hours : Hours) (door : Passed I O) (out : Put) → (x : IsAllServed watchers ends first hours door out Done)
    → (lines : List (List ℕ)) × AreDone hours.count (length x.visits) door.coming_after lines × Appends out.written out.written_after (flat_map (λ (line : List ℕ). line) lines)
served_lines watchers ends first hours door out x =
    let printed = subst (λ (e : ServeEnd). IsEndOfServing hours.count (length x.visits)
    (record { listens = door.listens; coming_after = door.coming_after; faults = door.faults; faults_after = door.faults_after }) out.written out.written_after e)
    (served_all x.end x.status_is) x.printed in
    (printed.0, printed.1, printed.3)

like_first : {W : Type 0} (first : State) (crowd others : List W) → AreLikeStates (at_first first crowd) (at_first first others)
like_first first crowd others = record { map_state = refl; spent = refl }

module _ {S D I O W : Type 0} (known : KnownRuns W I O) (r o : Call S D I O W) (words : List (List ℕ)) (found : FindAlike r o words) where
  -- what is told of files, in both
  of_r : (P : Option FileSet → Type 0) → P r.files.told → P (Some found.files)
  of_r P is = subst P found.files_are.0 is

  of_o : (P : Option FileSet → Type 0) → P o.files.told → P (Some found.files)
  of_o P is = subst P found.files_are.1 is

  same_first : (style name : List ℕ) (first start : State) → IsFirstState r.files.told style name first → IsFirstState o.files.told style name start → start ≡ first
  same_first style name first start x y =
      known.first found.files style name start first (of_o (λ t. IsFirstState t style name start) y) (of_r (λ t. IsFirstState t style name first) x)

  -- ---- one connection

  -- a run on `pipe`, as an account of its connection
  abbrev account_of : Call S D I O W → State → LinkState W → ConnEnd → Account W
  account_of c first last end = record { old = at_first first c.old.crowd; new = last; input = c.input; out = c.out; end = end }

  record Piped (bytes : List ℕ) (first : State) : Type 0 where
    last : LinkState W
    again : LinkState W
    end : ConnEnd
    ending : ConnEnd
    both : AreAccounts r.hearing bytes (account_of r first last end) (account_of o first again ending)
    crowd : last.crowd ≡ r.new.crowd
    crowd_too : again.crowd ≡ o.new.crowd

  piped : (bytes : List ℕ) → r.input.left ≡ Some bytes → o.input.left ≡ Some bytes → (first start : State) → IsState first → start ≡ first →
      IsPiped (watchers_of r) first r.input r.out Done → IsPiped (watchers_of o) start o.input o.out Done → Piped bytes first
  piped bytes told told_too first start is same x y =
      let moved : IsLinkServed o.hearing (at_first first o.old.crowd) y.last o.input o.out y.end =
      subst (λ (s : State). IsLinkServed o.hearing (at_first s o.old.crowd) y.last o.input o.out y.end) same y.served in
      let heard : IsLinkServed r.hearing (at_first first o.old.crowd) y.last o.input o.out y.end =
      subst (λ (h : W → Hearing). IsLinkServed h (at_first first o.old.crowd) y.last o.input o.out y.end) found.hearing_is moved in
      record {
        last = x.last;
        again = y.last;
        end = x.end;
        ending = y.end;
        both = record {
          reached = is;
          alike = like_first first r.old.crowd o.old.crowd;
          brings = told;
          brings_too = told_too;
          well = ended_well x.end x.status_is;
          well_too = ended_well y.end y.status_is;
          served = x.served;
          served_too = heard;
        };
        crowd = x.crowd_is;
        crowd_too = y.crowd_is;
      }

  piped_printed : (bytes : List ℕ) (first : State) → r.out.written ≡ o.out.written → Piped bytes first → r.out.written_after ≡ o.out.written_after
  piped_printed bytes first same p = known.written r.hearing bytes (account_of r first p.last p.end) (account_of o first p.again p.ending) p.both same

  piped_told : (bytes : List ℕ) (first : State) → Piped bytes first → TellAlike r o
  piped_told bytes first p =
      let changes = flat_map (λ (a : LinkAnswer). a.changes) p.both.served.served.exchange.answers in
      let others = flat_map (λ (a : LinkAnswer). a.changes) p.both.served_too.served.exchange.answers in
      let same : changes ≡ others = known.told r.hearing bytes (account_of r first p.last p.end) (account_of o first p.again p.ending) p.both in
      let second : AllHear r.hearing changes o.old.crowd p.again.crowd = subst (λ (cs : List Change). AllHear r.hearing cs o.old.crowd p.again.crowd) (sym same) p.both.served_too.hears in (
        changes,
        subst (λ (c : List W). AllHear r.hearing changes r.old.crowd c) p.crowd p.both.served.hears,
        subst (λ (h : W → Hearing). AllHear h changes o.old.crowd o.new.crowd) (sym found.hearing_is) (subst (λ (c : List W). AllHear r.hearing changes o.old.crowd c) p.crowd_too second),
      )

  -- ---- the connections of a door

  record Served (first : State) : Type 0 where
    last : LinkState W
    again : LinkState W
    visits : List (Visit I O LinkAnswer)
    others : List (Visit I O LinkAnswer)
    one : Headline r.hearing r.ends (at_first first r.old.crowd) last r.door visits
    other : Headline r.hearing r.ends (at_first first o.old.crowd) again o.door others
    many : length visits ≡ length others
    lines : (List (List ℕ))
    lines_too : (List (List ℕ))
    same_lines : lines ≡ lines_too
    wrote : Appends r.out.written r.out.written_after (flat_map (λ (line : List ℕ). line) lines)
    wrote_too : Appends o.out.written o.out.written_after (flat_map (λ (line : List ℕ). line) lines_too)
    crowd : last.crowd ≡ r.new.crowd
    crowd_too : again.crowd ≡ o.new.crowd

  served : FindLinks r o → (first start : State) (hours : Hours) → start ≡ first →
      IsAllServed (watchers_of r) r.ends first hours r.door r.out Done → IsAllServed (watchers_of o) o.ends start hours o.door o.out Done → Served first
  served came first start hours same x y =
      let moved : Headline o.hearing o.ends (at_first first o.old.crowd) y.last o.door y.visits =
      subst (λ (s : State). Headline o.hearing o.ends (at_first s o.old.crowd) y.last o.door y.visits) same y.headline in
      let heard : Headline r.hearing o.ends (at_first first o.old.crowd) y.last o.door y.visits =
      subst (λ (h : W → Hearing). Headline h o.ends (at_first first o.old.crowd) y.last o.door y.visits) found.hearing_is moved in
      let ended : Headline r.hearing r.ends (at_first first o.old.crowd) y.last o.door y.visits =
      subst (λ (e : LinkEnds I O). Headline r.hearing e (at_first first o.old.crowd) y.last o.door y.visits) found.ends_are heard in
      let p = served_lines (watchers_of r) r.ends first hours r.door r.out x in
      let q = served_lines (watchers_of o) o.ends start hours o.door o.out y in
      let m = how_many hours.count came.links r.door.coming r.door.coming_after x.visits p.0 came.door_is.0 x.headline.came p.1 in
      let n = how_many hours.count came.links o.door.coming o.door.coming_after y.visits q.0 came.door_is.1 ended.came q.1 in
      let many = same_count hours.count (length x.visits) (length y.visits) (length came.links) p.1.few q.1.few m.0 n.0 m.1 n.1 in
      record {
        last = x.last;
        again = y.last;
        visits = x.visits;
        others = y.visits;
        one = x.headline;
        other = ended;
        many = many;
        lines = p.0;
        lines_too = q.0;
        same_lines = p.1.due ∙ ap (λ (k : ℕ). codes "ready\n" ∷ served_line k ∷ []) many ∙ sym q.1.due;
        wrote = p.2;
        wrote_too = q.2;
        crowd = x.crowd_is;
        crowd_too = y.crowd_is;
      }

  served_printed : (first : State) → r.out.written ≡ o.out.written → Served first → r.out.written_after ≡ o.out.written_after
  served_printed first same p =
      appended r.out.written o.out.written r.out.written_after o.out.written_after (flat_map (λ (line : List ℕ). line) p.lines) (flat_map (λ (line : List ℕ). line) p.lines_too)
      same (ap (λ (ls : List (List ℕ)). flat_map (λ (line : List ℕ). line) ls) p.same_lines) p.wrote p.wrote_too

  served_alike : FindLinks r o → (style name : List ℕ) (first : State) → IsFirstState r.files.told style name first → Served first → ServeAlike r o style name
  served_alike came style name first loaded p =
      let f : Visit I O LinkAnswer → Link I O = λ (v : Visit I O LinkAnswer). v.came in
      let one : Takes (Some came.links) r.door.coming_after (map f p.visits) = subst (λ (c : Option (List (Link I O))). Takes c r.door.coming_after (map f p.visits)) came.door_is.0 p.one.came in
      let told : AreTold r.ends p.visits = front_tells r.ends p.visits came.links one.0 one.2 came.links_tell in
      let session : Session W I O = record { first = at_first first r.old.crowd; last = p.last; door = r.door; visits = p.visits } in
      let again : Session W I O = record { first = at_first first o.old.crowd; last = p.again; door = o.door; visits = p.others } in
      let same : AllEndWell p.visits → AllEndWell p.others → AreOverTheSame r.hearing r.ends came.links session again = λ well fine. record {
        reached = known.reached r.files.told style name first loaded;
        alike = like_first first r.old.crowd o.old.crowd;
        coming = came.door_is.0;
        coming_too = came.door_is.1;
        as_many = p.many;
        headline = p.one;
        headline_too = p.other;
        told = told;
        well = well;
        well_too = fine;
      } in
      let ended : Headline r.hearing o.ends (at_first first o.old.crowd) p.again o.door p.others =
      subst (λ (e : LinkEnds I O). Headline r.hearing e (at_first first o.old.crowd) p.again o.door p.others) (sym found.ends_are) p.other in
      let heard : Headline o.hearing o.ends (at_first first o.old.crowd) p.again o.door p.others =
      subst (λ (h : W → Hearing). Headline h o.ends (at_first first o.old.crowd) p.again o.door p.others) (sym found.hearing_is) ended in
      record {
        first = first;
        loaded = loaded;
        visits = p.visits;
        others = p.others;
        serves = record { last = p.last; headline = p.one; crowd_is = p.crowd };
        serves_too = record { last = p.again; headline = heard; crowd_is = p.crowd_too };
        as_many = p.many;
        replies = λ well fine. known.replies r.hearing r.ends came.links session again (same well fine) ∙ ap (λ (e : LinkEnds I O). written_in e p.others) (sym found.ends_are);
        told = λ well fine. known.session_told r.hearing r.ends came.links session again (same well fine);
      }

  -- ---- states that are followed

  record BothFollowed : Type 0 where
    states : List follow.State
    one : Followed r.hearing states r.old.crowd r.new.crowd r.out
    other : Followed o.hearing states o.old.crowd o.new.crowd o.out
    answers : one.following.answers ≡ other.following.answers
    held : one.following.held ≡ other.following.held

  both_followed : (name : List ℕ) (states others : List follow.State) → HasStates r.files.told name states → HasStates o.files.told name others
      → AreFollowed r.hearing states r.old.crowd r.new.crowd r.out Done → AreFollowed o.hearing others o.old.crowd o.new.crowd o.out Done → BothFollowed
  both_followed name states others has had x y =
      let same : others ≡ states = known.states found.files name others states (of_o (λ t. HasStates t name others) had) (of_r (λ t. HasStates t name states) has) in
      let one = followed r.hearing states r.old.crowd r.new.crowd r.out x in
      let other = subst (λ (ss : List follow.State). Followed o.hearing ss o.old.crowd o.new.crowd o.out) same (followed o.hearing others o.old.crowd o.new.crowd o.out y) in
      record {
        states = states;
        one = one;
        other = other;
        answers = known.answers states one.following other.following one.printed.all other.printed.all one.adopts other.adopts;
        held = known.held states one.following other.following one.printed.all other.printed.all one.adopts other.adopts;
      }

  followed_printed : r.out.written ≡ o.out.written → BothFollowed → r.out.written_after ≡ o.out.written_after
  followed_printed same p =
      appended r.out.written o.out.written r.out.written_after o.out.written_after _ _ same
      (ap (λ (all : List Offered). joined (lines_of all) ++ held_line p.one.following.held) p.answers
      ∙ ap (λ (h : Option follow.State). joined (lines_of p.other.following.answers) ++ held_line h) p.held)
      p.one.printed.wrote p.other.printed.wrote

  followed_told : BothFollowed → TellAlike r o
  followed_told p =
      (changes_of p.one.following.answers, p.one.hears, subst (λ (cs : List Change). AllHear o.hearing cs o.old.crowd o.new.crowd) (sym (ap changes_of p.answers)) p.other.hears)

  -- ---- any command

  printed_by : r.out.written ≡ o.out.written → (c : Command) → ReadAlike r o c → IsDone r c Done → IsDone o c Done → r.out.written_after ≡ o.out.written_after
  printed_by same (OnTable table task) reads x y =
      one_text r o _ _ _ _ same (λ a b p q. known.table found.files table.now task a b (of_r (λ t. IsTableAnswer t table.now task a) p.0) (of_o (λ t. IsTableAnswer t table.now task b) q.0)) x y
  printed_by same (Check table slots) reads x y = one_text r o _ _ _ _ same (λ a b p q. check_text r.files.told table.now slots.now a p ∙ sym (check_text o.files.told table.now slots.now b q)) x y
  printed_by same (OnMap style map task) reads x y =
      one_text r o _ _ _ _ same (λ a b p q. known.map_text found.files style.now map.now task a b
      (of_r (λ t. IsMapAnswer t style.now map.now task a) p.0) (of_o (λ t. IsMapAnswer t style.now map.now task b) q.0)) x y
  printed_by same (Gen groups seed) reads x y = one_text r o _ _ _ _ same (λ a b p q. known.totals groups seed a b p.0 q.0) x y
  printed_by same (Live style map Pipe) reads (inl x) y = absurd (not_stopped r _ x.0)
  printed_by same (Live style map Pipe) reads (inr x) (inl y) = absurd (not_stopped o _ y.0)
  printed_by same (Live style map Pipe) reads (inr (first, is, kept, x)) (inr (start, was, still, y)) =
      piped_printed reads.0 first same (piped reads.0 reads.1 reads.2 first start (known.reached r.files.told style.now map.now first is) (same_first style.now map.now first start is was) x.0 y.0)
  printed_by same (Live style map (Serve port count)) reads (inl x) y = absurd (not_stopped r _ x.0)
  printed_by same (Live style map (Serve port count)) reads (inr x) (inl y) = absurd (not_stopped o _ y.0)
  printed_by same (Live style map (Serve port count)) reads (inr (first, is, kept, x)) (inr (start, was, still, y)) =
      served_printed first same (served reads first start (record { port = port; count = count }) (same_first style.now map.now first start is was) x.0 y.0)
  printed_by same (Follow name) reads (inl x) y = absurd (not_stopped r _ x.0)
  printed_by same (Follow name) reads (inr x) (inl y) = absurd (not_stopped o _ y.0)
  printed_by same (Follow name) reads (inr (states, has, kept, x, input, door)) (inr (others, had, still, y, source, gate)) = followed_printed same (both_followed name.now states others has had x y)

  alike_by : (c : Command) → ReadAlike r o c → IsDone r c Done → IsDone o c Done → DoAlike r o c
  alike_by (OnTable table task) reads x y = (x.1, y.1)
  alike_by (Check table slots) reads x y = (x.1, y.1)
  alike_by (OnMap style map task) reads x y = (x.1, y.1)
  alike_by (Gen groups seed) reads x y = (x.1, y.1)
  alike_by (Live style map Pipe) reads (inl x) y = absurd (not_stopped r _ x.0)
  alike_by (Live style map Pipe) reads (inr x) (inl y) = absurd (not_stopped o _ y.0)
  alike_by (Live style map Pipe) reads (inr (first, is, kept, x)) (inr (start, was, still, y)) =
      piped_told reads.0 first (piped reads.0 reads.1 reads.2 first start (known.reached r.files.told style.now map.now first is) (same_first style.now map.now first start is was) x.0 y.0)
  alike_by (Live style map (Serve port count)) reads (inl x) y = absurd (not_stopped r _ x.0)
  alike_by (Live style map (Serve port count)) reads (inr x) (inl y) = absurd (not_stopped o _ y.0)
  alike_by (Live style map (Serve port count)) reads (inr (first, is, kept, x)) (inr (start, was, still, y)) =
      served_alike reads style.now map.now first is (served reads first start (record { port = port; count = count }) (same_first style.now map.now first start is was) x.0 y.0)
  alike_by (Follow name) reads (inl x) y = absurd (not_stopped r _ x.0)
  alike_by (Follow name) reads (inr x) (inl y) = absurd (not_stopped o _ y.0)
  alike_by (Follow name) reads (inr (states, has, kept, x, input, door)) (inr (others, had, still, y, source, gate)) = followed_told (both_followed name.now states others has had x y)

  -- the command of the words, done in both
  record Both : Type 0 where
    command : Command
    asks : Ask words command
    reads : ReadAlike r o (plain command)
    one : IsDone r (plain command) Done
    other : IsDone o (plain command) Done

  both : IsRun r words Done → IsRun o words Done → Both
  both (inl (c, asks, x)) (inl (d, also, y)) = record {
    command = c;
    asks = asks;
    reads = read_plain r o c (found.reads c asks);
    one = done_plain r c x;
    other = subst (λ (k : Command). IsDone o k Done) (known.one_command words d c also asks) (done_plain o d y);
  }
  both (inr (none, kept, printed, same)) y = absurd (no_usage r printed)
  both (inl x) (inr (none, kept, printed, same)) = absurd (no_usage o printed)

  -- they print the same
  pub printed : IsRun r words Done → IsRun o words Done → r.out.written ≡ o.out.written → r.out.written_after ≡ o.out.written_after
  printed x y same = let p = both x y in printed_by same (plain p.command) p.reads p.one p.other

  -- they do the same besides
  pub alike : IsRun r words Done → IsRun o words Done → (c : Command) × Ask words c × DoAlike r o c
  alike x y = let p = both x y in (p.command, p.asks, alike_plain r o p.command (alike_by (plain p.command) p.reads p.one p.other))
