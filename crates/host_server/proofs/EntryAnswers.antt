-- What is answered where a call makes an entry, or doesn't.
use Rattle.std.proofs.Common.{◌≡◌, ◌⊎◌, inl, inr, ℕ, List, Bool, true, false, ◌&&◌, MatchOption, Option, Some, None, Result, Ok, Err, IsTrue, is_some, refl, sym, ap, subst, ◌∙◌}
use Rattle.host_names.specs.declared.names.SiteName.{SiteName}
use Rattle.blob_store.specs.Calls.{Call}
use Rattle.site_change.specs.declared.commands.Command.{Command}
use Rattle.site_change.specs.declared.commands.Command.TheVariants as command
use Rattle.site_change.specs.declared.refusals.ChangeRefusal.{ChangeRefusal}
use Rattle.site_change.specs.declared.refusals.ChangeRefusal.TheVariants.{Clash, NoSuchDeploy}
use Rattle.change_undo.specs.Histories.{entry_at, may_take_memory}
use Rattle.site_change.specs.declared.entries.Entry.{Entry}
use Rattle.site_change.specs.declared.entries.Entry.TheVariants.{Change, Undo}
use Rattle.http_wire.specs.Requests.{RequestParts}
use Rattle.host_disk.specs.declared.disks.Disk.{Ghosts}
use Rattle.host_api.specs.declared.bodies.Ask.{Ask}
use Rattle.host_api.specs.declared.bodies.Ask.TheVariants as ask
use Rattle.host_api.specs.declared.refusals.Refusal.{Refusal}
use Rattle.host_api.specs.declared.refusals.Refusal.TheVariants as reason
use Rattle.host_api.specs.declared.texts.Told.{Told}
use Rattle.host_api.specs.declared.texts.Told.TheVariants as told
use Rattle.host_replies.specs.Replies.{Answer, Tells, refused_answer, takes_text}
use Rattle.host_answers.specs.Answers.{ChangesBy, FollowsBy, InSite, UndoesBy, told_entry, told_stop}
use Rattle.host_answers.specs.Deploys.{Opening, opened_by, site_of_deploy}
use Rattle.host_answers.specs.declared.stops.Stop.{Stop}
use Rattle.host_answers.specs.declared.stops.Stop.TheVariants as stop
use Rattle.host_server.specs.Asks.{AskStops, ComesOf, DeployStops, HostStops, IsReplyToAsk}
use Rattle.host_server.specs.HeldUp.{holds_up}
use Rattle.host_server.specs.Hosts.{Host}
use Rattle.host_server.specs.Journals.{is_broken}
use Rattle.host_server.specs.Outcomes.{IsCommitted, Outcome, deploy_outcome, entering, outcome_on, refused, unless_refused}
use Rattle.host_server.specs.Reasons.{commit_refusal, undo_refusal}
use Rattle.host_server.specs.ServerHouses.{CommitsAt, EntersAt, UnlessBroken, calls_of}
use Rattle.host_server.specs.ServerJournals.{Breaks, GoesOn}
use Rattle.host_server.specs.declared.servers.Server.{Server}
use Rattle.host_server.proofs.Journaling.{breaks_at, entered_ok, keeps_same}

-- an entry alone, where this is the first reason against it
abbrev pub enter_outcome : Host → Entry → Option ChangeRefusal → Outcome
enter_outcome host entry refusal = unless_refused host refusal (entering host entry)

-- ---- what is told

-- where a call ran out of memory the answer says so
pub no_memory : (answer : Answer) → Tells (told.Refused reason.OutOfMemory) answer → answer ≡ refused_answer reason.OutOfMemory
no_memory answer (inl is) = is
no_memory answer (inr ran_out) = ran_out.0

-- a reason is told that takes no text
pub plainly : (why : Refusal) (answer : Answer) → (takes_text (told.Refused why) ≡ true → ⊥) → Tells (told.Refused why) answer → answer ≡ refused_answer why
plainly why answer plain (inl is) = is
plainly why answer plain (inr ran_out) = absurd (plain ran_out.1)

-- ---- what is answered to what isn't held up

module _ {S D : Type 0} {disk : Ghosts D} (server next : Server S D disk) (answer : Answer) where
  -- an outcome is told; or there was no memory for an entry, or the journal's device failed
  abbrev pub IsDone : (stops : Entry → Type 0) → Outcome → Type 0
  IsDone stops out =
      (Tells out.told answer × (next.house ≡ out.host) × (next.files ≡ server.files) × GoesOn server next)
      ⊎ ((answer ≡ refused_answer reason.OutOfMemory) × (missed : Entry) × stops missed × (next.files ≡ server.files) × GoesOn server next)
      ⊎ ((answer ≡ refused_answer reason.Device) × (missed : Entry) × stops missed × (next.files ≡ server.files) × Breaks server missed next)

  -- where a call ran out of memory there was none for an entry, or the outcome is one whose text takes memory
  abbrev pub Lacks : (stops : Entry → Type 0) → Outcome → Type 0
  Lacks stops out = ((missed : Entry) × stops missed) ⊎ (IsTrue (takes_text out.told) × (next.house ≡ out.host))

  abbrev pub IsBrokenOr : (does : Type 0) → Type 0
  IsBrokenOr does =
      ((is_broken server.journal ≡ true) × (answer ≡ refused_answer reason.Broken) × (next ≡ server))
      ⊎ ((is_broken server.journal ≡ false) × does)

  pub done : (B : Entry → Type 0) (out : Outcome) (tells : Told) → tells ≡ out.told → next.house ≡ out.host → next.files ≡ server.files → GoesOn server next
      → Tells tells answer → IsDone B out
  done B out tells same house files kept says = inl (subst (λ (t : Told). Tells t answer) same says, house, files, kept)

  -- the journal has failed before
  pub unless_told : {Q : Type 0} (does : Server S D disk → Result ℕ Stop → Server S D disk → Type 0) (result : Result ℕ Stop)
      → UnlessBroken (Err stop.Broken) does server result next → Tells (told_entry result) answer → (does server result next → Q) → IsBrokenOr Q
  unless_told does result (inl (broken, is, same)) says then =
      inl (broken, plainly reason.Broken answer (λ e. cc e) (subst (λ (r : Result ℕ Stop). Tells (told_entry r) answer) is says), same)
  unless_told does result (inr (whole, is)) says then = inr (whole, then is)

  -- there is no entry
  pub not_entered : (B : Entry → Type 0) (out : Outcome) (entry : Entry) (refusal : Option ChangeRefusal) (may_lack : Type 0) (why : Stop)
      → ((told_why : ChangeRefusal) → refusal ≡ Some told_why → out ≡ refused server.house (reason.Change told_why))
      → (may_lack → next.house ≡ server.house → Lacks B out) → (refusal ≡ None → next.house ≡ server.house → B entry)
      → EntersAt entry refusal may_lack server (Err why) next → Tells (told.Refused (told_stop why)) answer → IsDone B out
  not_entered B out entry refusal may_lack stop.Broken refuses lacks stops never says = absurd never
  not_entered B out entry refusal may_lack (stop.Refused why) refuses lacks stops (is, (house, journal, files)) says =
      let there = refuses why is in
      done B out (told.Refused (reason.Change why)) (sym (ap (λ (o : Outcome). o.told) there)) (house ∙ sym (ap (λ (o : Outcome). o.host) there)) files
      (keeps_same disk server.house next.house server.journal next.journal house journal) says
  not_entered B out entry refusal may_lack stop.OutOfMemory refuses lacks stops (may, (house, journal, files)) says =
      let kept = keeps_same disk server.house next.house server.journal next.journal house journal in
      elim (lacks may house) [
        | inl (missed, stopped) ↦ inr (inl (no_memory answer says, missed, stopped, files, kept))
        | inr (takes, left) ↦ inl (inr (no_memory answer says, takes), left, files, kept)
      ]
  not_entered B out entry refusal may_lack stop.Device refuses lacks stops (none, house, put, files) says =
      inr (inr (plainly reason.Device answer (λ e. cc e) says, entry, stops none house, files, breaks_at disk entry server.house next.house server.journal next.journal house put))

  pub entered_told : (B : Entry → Type 0) (entry : Entry) (refusal : Option ChangeRefusal) (may_lack : Type 0) (result : Result ℕ Stop)
      → (may_lack → next.house ≡ server.house → Lacks B (enter_outcome server.house entry refusal)) → (refusal ≡ None → next.house ≡ server.house → B entry)
      → EntersAt entry refusal may_lack server result next → Tells (told_entry result) answer → IsDone B (enter_outcome server.house entry refusal)
  entered_told B entry refusal may_lack (Ok number) lacks stops (none, is, house, put, files) says =
      let there : enter_outcome server.house entry refusal ≡ entering server.house entry = ap (enter_outcome server.house entry) none in
      done B (enter_outcome server.house entry refusal) (told.Entered number) (ap told.Entered is ∙ sym (ap (λ (o : Outcome). o.told) there))
      (house ∙ sym (ap (λ (o : Outcome). o.host) there)) files (entered_ok disk entry server.house next.house server.journal next.journal put house) says
  entered_told B entry refusal may_lack (Err why) lacks stops is says =
      not_entered B (enter_outcome server.house entry refusal) entry refusal may_lack why (λ told_why some. ap (enter_outcome server.house entry) some) lacks stops is says

-- ---- what is asked for

pub and_true : (b : Bool) → (b && true) ≡ b
and_true true = refl
and_true false = refl

pub and_false : (b : Bool) → (b && false) ≡ false
and_false true = refl
and_false false = refl

module _ {S D : Type 0} {disk : Ghosts D} (did : S → Call → S → Type 0) (failures : S → ℕ) (server next : Server S D disk) (parts : RequestParts) (body : List ℕ) (answer : Answer) where
  -- the answer to what is asked for that isn't held up
  abbrev pub CarriesOut : Result Ask Refusal → Type 0
  CarriesOut asking =
      (IsReplyToAsk did failures server parts body asking answer next × GoesOn server next)
      ⊎ ((answer ≡ refused_answer reason.OutOfMemory) × (missed : Entry) × AskStops did server body asking missed next × GoesOn server next)
      ⊎ ((answer ≡ refused_answer reason.Device) × (missed : Entry) × AskStops did server body asking missed next × Breaks server missed next)

  -- the answer to what is asked for
  abbrev pub AnswersAsk : Result Ask Refusal → Type 0
  AnswersAsk asking =
      ((holds_up server asking ≡ true) × (answer ≡ refused_answer reason.Broken) × (next ≡ server))
      ⊎ ((holds_up server asking ≡ false) × CarriesOut asking)

  -- what may change the host is held up where the journal is broken
  pub held : (asking : Result Ask Refusal) → holds_up server asking ≡ is_broken server.journal → IsBrokenOr server next answer (CarriesOut asking) → AnswersAsk asking
  held asking is (inl (broken, says, same)) = inl (is ∙ broken, says, same)
  held asking is (inr (whole, does)) = inr (is ∙ whole, does)

  pub free : (asking : Result Ask Refusal) → holds_up server asking ≡ false → CarriesOut asking → AnswersAsk asking
  free asking is does = inr (is, does)

  -- an outcome that comes of what is asked for
  pub carried_out : (asking : Result Ask Refusal) (B : Entry → Type 0) (out : Outcome)
      → (Tells out.told answer → next.house ≡ out.host → next.files ≡ server.files → IsReplyToAsk did failures server parts body asking answer next)
      → ((missed : Entry) → B missed → next.files ≡ server.files → AskStops did server body asking missed next) → IsDone server next answer B out → CarriesOut asking
  carried_out asking B out replies stops (inl (says, house, files, kept)) = inl (replies says house files, kept)
  carried_out asking B out replies stops (inr (inl (says, missed, left, files, kept))) = inr (inl (says, missed, stops missed left files, kept))
  carried_out asking B out replies stops (inr (inr (says, missed, left, files, broken))) = inr (inr (says, missed, stops missed left files, broken))

  pub map_done : {P Q : Type 0} → (P → Q) → IsBrokenOr server next answer P → IsBrokenOr server next answer Q
  map_done f (inl held_up) = inl held_up
  map_done f (inr (whole, does)) = inr (whole, f does)

  -- ---- an undo

  -- the undo isn't refused, or by a clash
  undo_lacks : (entry : Entry) (refusal : Option ChangeRefusal) → IsTrue (may_take_memory refusal) → next.house ≡ server.house
      → Lacks server next answer (λ (missed : Entry). (next.house ≡ server.house) × (refusal ≡ None) × (missed ≡ entry)) (enter_outcome server.house entry refusal)
  undo_lacks entry None may house = inl (entry, (house, refl, refl))
  undo_lacks entry (Some (Clash later cell)) may house = inr (refl, house)
  undo_lacks entry (Some other) may house = absurd (cc may)

  pub undo_told : (site : SiteName) (k : ℕ) → UndoesBy (calls_of did failures) server site k answer next → AnswersAsk (Ok (ask.Undo site k))
  undo_told site k (result, undoes, says) =
      let refusal = undo_refusal server.house site k in
      let may = IsTrue (may_take_memory refusal) in
      let B : Entry → Type 0 = λ missed. (next.house ≡ server.house) × (refusal ≡ None) × (missed ≡ Undo site k) in
      let out = enter_outcome server.house (Undo site k) refusal in
      held (Ok (ask.Undo site k)) (and_true (is_broken server.journal))
      (map_done (carried_out (Ok (ask.Undo site k)) B out (λ says house files. (out, refl, says, house, files)) (λ missed left files. (left, files)))
      (unless_told server next answer (EntersAt (Undo site k) refusal may) result undoes says (λ is.
      entered_told server next answer B (Undo site k) refusal may result (undo_lacks (Undo site k) refusal) (λ none house. (house, none, refl)) is says)))

  -- ---- a command that opens nothing

  -- what comes of it, whatever is told of what is lacking
  abbrev pub CommandDone : Command → Type 0
  CommandDone change =
      (out : Outcome) × ComesOf server.house (Ok (ask.Command change)) out
      × IsDone server next answer (λ (missed : Entry). HostStops server.house (Ok (ask.Command change)) missed next.house) out

  pub command_done : (change : Command) → CommandDone change → CarriesOut (Ok (ask.Command change))
  command_done change (out, comes, is) =
      carried_out (Ok (ask.Command change)) (λ (missed : Entry). HostStops server.house (Ok (ask.Command change)) missed next.house) out
      (λ says house files. (out, comes, says, house, files)) (λ missed left files. (left, files)) is

  -- nothing follows
  only_told : (mid : Server S D disk) (result : Result ℕ Stop) → FollowsBy (calls_of did failures) mid None result answer next → Tells (told_entry result) answer × (next ≡ mid)
  only_told mid (Ok number) is = is
  only_told mid (Err why) is = is

  not_opened : (change : Command) (mid : Server S D disk) (result : Result ℕ Stop) → opened_by change ≡ None → CommitsAt server change result mid
      → FollowsBy (calls_of did failures) mid (opened_by change) result answer next → CommitsAt server change result next × Tells (told_entry result) answer
  not_opened change mid result none commits follows =
      let only = only_told mid result (subst (λ (o : Option Opening). FollowsBy (calls_of did failures) mid o result answer next) none follows) in
      (subst (CommitsAt server change result) (sym only.1) commits, only.0)

  -- the entry of such a command alone
  alone : (B : Entry → Type 0) (change : Command) → opened_by change ≡ None → ChangesBy (calls_of did failures) server change answer next
      → (commit_refusal server.house change ≡ None → next.house ≡ server.house → B (Change change))
      → IsBrokenOr server next answer (IsDone server next answer B (enter_outcome server.house (Change change) (commit_refusal server.house change)))
  alone B change none (result, mid, commits, follows) stops =
      let told_so = not_opened change mid result none commits follows in
      let refusal = commit_refusal server.house change in
      unless_told server next answer (EntersAt (Change change) refusal (refusal ≡ None)) result told_so.0 told_so.1 (λ is.
      entered_told server next answer B (Change change) refusal (refusal ≡ None) result (λ free_of house. inl (Change change, stops free_of house)) stops is told_so.1)

  comes_alone : (change : Command) (refusal : Option ChangeRefusal) → opened_by change ≡ None
      → MatchOption refusal (IsCommitted server.house change (enter_outcome server.house (Change change) refusal)) (λ why.
      enter_outcome server.house (Change change) refusal ≡ refused server.house (reason.Change why))
  comes_alone change (Some why) none = refl
  comes_alone (command.Open site files auto) None none = absurd (cc none)
  comes_alone change None none = refl

  pub commit_told : (change : Command) → opened_by change ≡ None → ChangesBy (calls_of did failures) server change answer next → AnswersAsk (Ok (ask.Command change))
  commit_told change none changes =
      let B : Entry → Type 0 = λ missed. HostStops server.house (Ok (ask.Command change)) missed next.house in
      let refusal = commit_refusal server.house change in
      held (Ok (ask.Command change)) (and_true (is_broken server.journal))
      (map_done (λ is. command_done change (enter_outcome server.house (Change change) refusal, comes_alone change refusal none, is))
      (alone B change none changes (λ is house. (is, inl (house, refl)))))

  -- ---- a command on a deploy

  no_deploy : (B : Entry → Type 0) (change : SiteName → Command) (site : Option SiteName) → site ≡ None → Tells (told.Refused (reason.Change NoSuchDeploy)) answer → next ≡ server
      → IsDone server next answer B (outcome_on server.house change site)
  no_deploy B change site none says same =
      let house = ap (λ (s : Server S D disk). s.house) same in
      let there : outcome_on server.house change site ≡ refused server.house (reason.Change NoSuchDeploy) = ap (outcome_on server.house change) none in
      done server next answer B (outcome_on server.house change site) (told.Refused (reason.Change NoSuchDeploy)) (sym (ap (λ (o : Outcome). o.told) there))
      (house ∙ sym (ap (λ (o : Outcome). o.host) there)) (ap (λ (s : Server S D disk). s.files) same)
      (keeps_same disk server.house next.house server.journal next.journal house (ap (λ (s : Server S D disk). s.journal) same)) says

  pub deploy_told : (n : ℕ) (asking : Ask) (change : SiteName → Command) (site : Option SiteName) → site_of_deploy (entry_at server.house.entries n) ≡ site
      → (holds_up server (Ok asking) ≡ (is_broken server.journal && is_some (site_of_deploy (entry_at server.house.entries n))))
      → ((owner : SiteName) → opened_by (change owner) ≡ None)
      → (IsDone server next answer (λ (missed : Entry). DeployStops server.house n change missed next.house) (deploy_outcome server.house n change) → CarriesOut (Ok asking))
      → InSite (calls_of did failures) server site (λ owner. ChangesBy (calls_of did failures) server (change owner)) answer next → AnswersAsk (Ok asking)
  deploy_told n asking change None is holds none carried (says, same) =
      free (Ok asking) (holds ∙ ap (λ (s : Option SiteName). is_broken server.journal && is_some s) is ∙ and_false (is_broken server.journal))
      (carried (no_deploy (λ missed. DeployStops server.house n change missed next.house) change (site_of_deploy (entry_at server.house.entries n)) is says same))
  deploy_told n asking change (Some owner) is holds none carried changes =
      let B : Entry → Type 0 = λ missed. DeployStops server.house n change missed next.house in
      let refuses : deploy_outcome server.house n change ≡ enter_outcome server.house (Change (change owner)) (commit_refusal server.house (change owner)) =
      ap (outcome_on server.house change) is in
      held (Ok asking) (holds ∙ ap (λ (s : Option SiteName). is_broken server.journal && is_some s) is ∙ and_true (is_broken server.journal))
      (map_done (λ does. carried (subst (IsDone server next answer B) (sym refuses) does))
      (alone B (change owner) (none owner) changes (λ free_of house. (house, owner, is, free_of, refl))))
