-- What is answered to an opening: it becomes an entry, and the deploy is published if it is ready then.
use Rattle.std.proofs.Common.{◌≡◌, inl, inr, ℕ, List, [], ◌∷◌, Bool, true, false, cond, ◌&&◌, is_none, is_some, unwrap_or, MatchOption, Option, Some, None, IsSome, Result, Ok, Err, IsTrue, refl, sym, ap, subst, ◌∙◌}
use Rattle.std.specs.FinMap as map
use Rattle.std.specs.declared.alloc.AllocError.{AllocError}
use Rattle.host_names.specs.declared.cells.Cell.TheVariants as cell
use Rattle.host_names.specs.declared.digests.Digest.{Digest}
use Rattle.host_names.specs.declared.names.SiteName.{SiteName}
use Rattle.byte_view.specs.Contents.{Contents}
use Rattle.blob_store.specs.Calls.{Call}
use Rattle.site_state.specs.Deploys.{is_ready_draft}
use Rattle.site_state.specs.Listings.{Listed}
use Rattle.site_state.specs.Missing.{AreMissing, least_missing_of}
use Rattle.site_state.specs.States.{as_draft, draft_at}
use Rattle.site_state.specs.declared.values.Value.TheVariants as value
use Rattle.site_state.proofs.LackingDigests.{slice_get-missing}
use Rattle.site_state.proofs.MissingLists.{missing_list}
use Rattle.site_change.proofs.Effects.{get-with_cell, same_cell-itself}
use Rattle.site_change.specs.declared.commands.Command.{Command}
use Rattle.site_change.specs.declared.commands.Command.TheVariants.{Open, Publish}
use Rattle.site_change.specs.declared.refusals.ChangeRefusal.{ChangeRefusal}
use Rattle.change_undo.proofs.Runs.{guard, legal-runs, run-change}
use Rattle.site_change.specs.declared.entries.Entry.{Entry}
use Rattle.site_change.specs.declared.entries.Entry.TheVariants.{Change}
use Rattle.http_wire.specs.Requests.{RequestParts}
use Rattle.host_disk.specs.declared.disks.Disk.{Ghosts}
use Rattle.host_api.specs.declared.bodies.Ask.TheVariants as ask
use Rattle.host_api.specs.declared.refusals.Refusal.TheVariants as reason
use Rattle.host_api.specs.declared.texts.Told.{Told}
use Rattle.host_api.specs.declared.texts.Told.TheVariants as told
use Rattle.host_replies.specs.Replies.{Answer, Tells, refused_answer}
use Rattle.host_answers.specs.Answers.{ChangesBy, FollowsBy, LacksBy, OnlyTells, PublishesBy, told_entry, told_publishing}
use Rattle.host_answers.specs.declared.stops.Stop.{Stop}
use Rattle.host_answers.specs.declared.stops.Stop.TheVariants as stop
use Rattle.host_server.specs.Asks.{HostStops}
use Rattle.host_server.specs.Hosts.{Host, IsLawful, next_number, state_of, with_entry}
use Rattle.host_server.specs.Journals.{Puts, is_broken}
use Rattle.host_server.specs.PublishedDeploys.{is_published, opens_published}
use Rattle.host_server.specs.Outcomes.{IsCommitted, Outcome, is_ready, published_if_ready, refused, unless_refused}
use Rattle.host_server.specs.Reasons.{commit_refusal}
use Rattle.host_server.specs.ServerHouses.{CommitsAt, EntersAt, MissesAt, calls_of}
use Rattle.host_server.specs.ServerJournals.{GoesOn}
use Rattle.host_server.specs.declared.servers.Server.{Server}
use Rattle.host_server.proofs.EntryAnswers.{AnswersAsk, CommandDone, IsBrokenOr, IsDone, and_false, and_true, command_done, done, held, map_done, no_memory, not_entered, plainly}
use Rattle.host_server.proofs.Journaling.{breaks_at, breaks_then, entered_ok, keeps_same, keeps_then, puts_whole}

-- ---- whether it is ready

-- it is open, as it was listed
is_open : (old : Host) (site : SiteName) (files : Listed) (auto : Bool) → IsLawful old → commit_refusal old (Open site files auto) ≡ None
    → draft_at (state_of (with_entry old (Change (Open site files auto)))) site (next_number old) ≡ Some (record { auto = auto; files = files })
is_open old site files auto lawful ok =
    let opening = Open site files auto in
    let at = cell.Draft site (next_number old) in
    let draft = value.Draft (record { auto = auto; files = files }) in
    let runs = legal-runs old.uploads old.entries lawful in
    let ran = (run-change old.uploads old.entries opening runs.0 lawful runs.1 (guard _ _ _ ok).1).0 in
    ap (λ o. draft_at (unwrap_or o map.empty) site (next_number old)) ran ∙ ap as_draft (get-with_cell runs.0 at (Some draft) at)
    ∙ ap (λ t. as_draft (cond t (Some draft) (map.get runs.0 at))) (same_cell-itself at)

-- so it is ready where it publishes itself and nothing that it lists is missing
ready_by : (old : Host) (site : SiteName) (files : Listed) (auto : Bool) → IsLawful old → commit_refusal old (Open site files auto) ≡ None
    → is_ready (with_entry old (Change (Open site files auto))) site (next_number old) ≡ (auto && is_none (least_missing_of old.uploads files.1))
ready_by old site files auto lawful ok = ap (is_ready_draft old.uploads) (is_open old site files auto lawful ok)

unready_where : (auto : Bool) (least : Option Digest) → IsSome least → (auto && is_none least) ≡ false
unready_where auto (Some digest) some = and_false auto
unready_where auto None some = absurd (cc some)

-- ---- what comes of its publishing

-- the deploy is published, unless there is this reason against it
abbrev published : Host → SiteName → ℕ → (Option ℕ → Told) → Option ChangeRefusal → Outcome
published host site n tell why = unless_refused host why (record { told = tell (Some (next_number host)); host = with_entry host (Change (Publish site n)) })

publishing_when : (host : Host) (site : SiteName) (n : ℕ) (tell : Option ℕ → Told) (ready : Bool) → is_ready host site n ≡ ready
    → published_if_ready host site n tell ≡ cond ready (published host site n tell (commit_refusal host (Publish site n))) (record { told = tell None; host = host })
publishing_when host site n tell ready is =
    ap (λ b. cond b (published host site n tell (commit_refusal host (Publish site n))) (record { told = tell None; host = host })) is

-- what is told of an opening, by the entry that published its deploy
abbrev opened : ℕ → List Digest → Option ℕ → Told
opened id required = λ entry. told.Opened id entry required

module _ {S D : Type 0} {disk : Ghosts D} (did : S → Call → S → Type 0) (failures : S → ℕ) (server mid next : Server S D disk) (parts : RequestParts) (body : List ℕ) (answer : Answer)
    (site : SiteName) (files : Listed) (auto : Bool) (lawful : IsLawful server.house) where
  abbrev opening : Command
  opening = Open site files auto

  abbrev refusal : Option ChangeRefusal
  refusal = commit_refusal server.house opening

  abbrev RunsOut : Entry → Type 0
  RunsOut missed = HostStops server.house (Ok (ask.Command opening)) missed next.house

  -- what comes of it, where this list is told
  abbrev outcome : List Digest → Option ChangeRefusal → Outcome
  outcome required why =
      unless_refused server.house why
      (published_if_ready (with_entry server.house (Change opening)) site (next_number server.house) (opened (next_number server.house) required))

  comes : (required : List Digest) → AreMissing server.house.uploads files.1 required → (why : Option ChangeRefusal)
      → MatchOption why (IsCommitted server.house opening (outcome required why)) (λ w. outcome required why ≡ refused server.house (reason.Change w))
  comes required missing None = (required, missing, refl)
  comes required missing (Some why) = refl

  comes_to : (required : List Digest) → AreMissing server.house.uploads files.1 required → IsDone server next answer RunsOut (outcome required refusal)
      → CommandDone did failures server next parts body answer opening
  comes_to required missing is = (outcome required refusal, comes required missing refusal, is)

  -- ---- the entry isn't made

  refused_as : (required : List Digest) (why : ChangeRefusal) → refusal ≡ Some why → outcome required refusal ≡ refused server.house (reason.Change why)
  refused_as required why is = ap (outcome required) is

  not_opened : (why : Stop) → EntersAt (Change opening) refusal (refusal ≡ None) server (Err why) next → Tells (told_entry (Err why)) answer
      → CommandDone did failures server next parts body answer opening
  not_opened why is says =
      let (required, missing) = missing_list server.house.uploads files.1 in
      comes_to required missing
      (not_entered server next answer RunsOut (outcome required refusal) (Change opening) refusal (refusal ≡ None) why
      (refused_as required) (λ none house. inl (Change opening, (none, inl (house, refl)))) (λ none house. (none, inl (house, refl))) is says)

  -- ---- the entry is made

  module _ (id : ℕ) (none : refusal ≡ None) (is : id ≡ next_number server.house) (made : mid.house ≡ with_entry server.house (Change opening))
      (put : Puts disk server.journal (Change opening ∷ []) mid.journal) (same : mid.files ≡ server.files) where
    goes_on : GoesOn server mid
    goes_on = entered_ok disk (Change opening) server.house mid.house server.journal mid.journal put made

    ready : (b : Bool) → (auto && is_none (least_missing_of server.house.uploads files.1)) ≡ b → is_ready mid.house site id ≡ b
    ready b now =
        ap (λ (h : Host). is_ready h site id) made ∙ ap (is_ready (with_entry server.house (Change opening)) site) is ∙ ready_by server.house site files auto lawful none ∙ now

    outcome_is : (required : List Digest) → outcome required refusal ≡ published_if_ready mid.house site id (opened id required)
    outcome_is required =
        ap (outcome required) none
        ∙ sym (ap (λ (h : Host). published_if_ready h site id (opened id required)) made
        ∙ ap (λ i. published_if_ready (with_entry server.house (Change opening)) site i (opened i required)) is)

    -- no entry publishes it
    abbrev left_open : List Digest → Outcome
    left_open required = record { told = told.Opened id None required; host = mid.house }

    at_mid : next ≡ mid → GoesOn server next
    at_mid stays = subst (GoesOn server) (sym stays) goes_on

    house_at_mid : next ≡ mid → next.house ≡ mid.house
    house_at_mid stays = ap (λ (s : Server S D disk). s.house) stays

    files_at_mid : next ≡ mid → next.files ≡ server.files
    files_at_mid stays = ap (λ (s : Server S D disk). s.files) stays ∙ same

    -- it isn't ready
    unpublished : (required : List Digest) → AreMissing server.house.uploads files.1 required → (auto && is_none (least_missing_of server.house.uploads files.1)) ≡ false
        → IsDone server next answer RunsOut (left_open required) → CommandDone did failures server next parts body answer opening
    unpublished required missing unready is_done =
        let open_is : published_if_ready mid.house site id (opened id required) ≡ left_open required = publishing_when mid.house site id (opened id required) false (ready false unready) in
        comes_to required missing (subst (IsDone server next answer RunsOut) (sym open_is ∙ sym (outcome_is required)) is_done)

    -- there is no memory to tell what it lacks
    not_listed : IsSome (least_missing_of server.house.uploads files.1) → answer ≡ refused_answer reason.OutOfMemory → next ≡ mid
        → CommandDone did failures server next parts body answer opening
    not_listed some says stays =
        let (required, missing) = missing_list server.house.uploads files.1 in
        unpublished required missing (unready_where auto (least_missing_of server.house.uploads files.1) some)
        (inl (inr (says, refl), house_at_mid stays, files_at_mid stays, at_mid stays))

    lacked : (required : List Digest) → AreMissing server.house.uploads files.1 required → (auto && is_none (least_missing_of server.house.uploads files.1)) ≡ false
        → OnlyTells mid (told.Opened id None required) answer next → CommandDone did failures server next parts body answer opening
    lacked required missing unready (says, stays) =
        unpublished required missing unready
        (done server next answer RunsOut (left_open required) (told.Opened id None required) refl (house_at_mid stays)
        (files_at_mid stays) (at_mid stays) says)

    -- it is ready
    module _ (whole : is_broken server.journal ≡ false) (missing : AreMissing server.house.uploads files.1 []) (by_itself : auto ≡ true) where
      now : is_ready mid.house site id ≡ true
      now =
          ready true (ap (λ a. a && is_none (least_missing_of server.house.uploads files.1)) by_itself
          ∙ ap is_none (sym (slice_get-missing server.house.uploads files.1 [] missing)))

      abbrev publish : Command
      publish = Publish site id

      abbrev against : Option ChangeRefusal
      against = commit_refusal mid.house publish

      opens : against ≡ None → IsTrue (opens_published server.house opening)
      opens free =
          sym (ap (λ (h : Host). is_published h site id) made ∙ ap (is_published (with_entry server.house (Change opening)) site) is)
          ∙ ap (λ b. b && is_none against) now ∙ ap is_none free

      runs_out : against ≡ None → next.house ≡ mid.house → RunsOut (Change publish)
      runs_out free house = (none, inr (house ∙ made, opens free, ap (λ i. Some (Change (Publish site i))) (sym is)))

      abbrev comes_then : Outcome
      comes_then = published mid.house site id (opened id []) against

      tried : (result : Result ℕ Stop) → EntersAt (Change publish) against (against ≡ None) mid result next → Tells (told_publishing id result) answer
          → IsDone server next answer RunsOut comes_then
      tried (Ok number) (free, number_is, house, put_then, files_same) says =
          let there : comes_then ≡ record { told = told.Opened id (Some (next_number mid.house)) []; host = with_entry mid.house (Change publish) } =
          ap (published mid.house site id (opened id [])) free in
          done server next answer RunsOut comes_then (told.Opened id (Some number) [])
          (ap (λ n. told.Opened id (Some n) []) number_is ∙ sym (ap (λ (o : Outcome). o.told) there)) (house ∙ sym (ap (λ (o : Outcome). o.host) there))
          (files_same ∙ same)
          (keeps_then disk server.house mid.house next.house server.journal mid.journal next.journal goes_on
          (entered_ok disk (Change publish) mid.house next.house mid.journal next.journal put_then house)) says
      tried (Err stop.Broken) never says = absurd never
      tried (Err (stop.Refused why)) (because, (house, journal, files_same)) says =
          let there : comes_then ≡ refused mid.house (reason.Change why) = ap (published mid.house site id (opened id [])) because in
          done server next answer RunsOut comes_then (told.Refused (reason.Change why))
          (sym (ap (λ (o : Outcome). o.told) there)) (house ∙ sym (ap (λ (o : Outcome). o.host) there)) (files_same ∙ same)
          (keeps_then disk server.house mid.house next.house server.journal mid.journal next.journal goes_on
          (keeps_same disk mid.house next.house mid.journal next.journal house journal)) says
      tried (Err stop.OutOfMemory) (free, (house, journal, files_same)) says =
          inr (inl (
            no_memory answer says,
            Change publish,
            runs_out free house,
            files_same ∙ same,
            keeps_then disk server.house mid.house next.house server.journal mid.journal next.journal goes_on
                (keeps_same disk mid.house next.house mid.journal next.journal house journal),
          ))
      tried (Err stop.Device) (free, house, put_in_vain, files_same) says =
          inr (inr (
            plainly reason.Device answer (λ e. cc e) says,
            Change publish,
            runs_out free house,
            files_same ∙ same,
            breaks_then disk server.house mid.house next.house server.journal mid.journal next.journal (Change publish) goes_on
                (breaks_at disk (Change publish) mid.house next.house mid.journal next.journal house put_in_vain),
          ))

      published_by : (result : Result ℕ Stop) → CommitsAt mid publish result next → Tells (told_publishing id result) answer
          → CommandDone did failures server next parts body answer opening
      published_by result (inl (broken, is_broken_told, stays)) says =
          absurd (cc (sym (puts_whole disk server.journal (Change opening ∷ []) mid.journal whole put) ∙ broken))
      published_by result (inr (still, enters)) says =
          let then_is : published_if_ready mid.house site id (opened id []) ≡ comes_then = publishing_when mid.house site id (opened id []) true now in
          comes_to [] missing (subst (IsDone server next answer RunsOut) (sym then_is ∙ sym (outcome_is [])) (tried result enters says))

    -- ---- what follows

    lists : (b : Bool) (required : List Digest) → is_broken server.journal ≡ false → auto ≡ b → AreMissing server.house.uploads files.1 required
        → PublishesBy (calls_of did failures) mid site id b required answer next → CommandDone did failures server next parts body answer opening
    lists true [] whole by_itself missing (result, commits, says) = published_by whole missing by_itself result commits says
    lists true (digest ∷ required) whole by_itself missing only =
        lacked (digest ∷ required) missing
        (unready_where auto (least_missing_of server.house.uploads files.1)
        (sym (ap is_some (slice_get-missing server.house.uploads files.1 (digest ∷ required) missing)))) only
    lists false required whole by_hand missing only = lacked required missing (ap (λ a. a && is_none (least_missing_of server.house.uploads files.1)) by_hand) (by_hand_only required only)
      where
        by_hand_only : (required : List Digest) → PublishesBy (calls_of did failures) mid site id false required answer next → OnlyTells mid (told.Opened id None required) answer next
        by_hand_only [] only = only
        by_hand_only (digest ∷ required) only = only

    follows : (required : Result (List Digest) AllocError) → is_broken server.journal ≡ false → MissesAt mid files.1 required
        → LacksBy (calls_of did failures) mid (record { site = site; files = files.1; auto = auto }) id required answer next
        → CommandDone did failures server next parts body answer opening
    follows (Ok required) whole missing is =
        lists auto required whole refl (subst (λ (u : Contents). AreMissing u files.1 required) (ap (λ (h : Host). h.uploads) made) missing) is
    follows (Err why) whole some (says, stays) =
        not_listed (subst (λ (u : Contents). IsSome (least_missing_of u files.1)) (ap (λ (h : Host). h.uploads) made) some) (no_memory answer says) stays

module _ {S D : Type 0} {disk : Ghosts D} (did : S → Call → S → Type 0) (failures : S → ℕ) (server next : Server S D disk) (parts : RequestParts) (body : List ℕ) (answer : Answer)
    (site : SiteName) (files : Listed) (auto : Bool) (lawful : IsLawful server.house) where
  opens_by : ChangesBy (calls_of did failures) server (Open site files auto) answer next
      → IsBrokenOr server next answer (CommandDone did failures server next parts body answer (Open site files auto))
  opens_by (result, mid, inl (broken, is, same), tells) =
      let only = subst (λ (r : Result ℕ Stop). FollowsBy (calls_of did failures) mid (Some (record { site = site; files = files.1; auto = auto })) r answer next) is tells in
      inl (broken, plainly reason.Broken answer (λ e. cc e) only.0, only.1 ∙ same)
  opens_by (Ok id, mid, inr (whole, (none, is, made, put, same)), (required, missing, lacks)) =
      inr (whole, follows did failures server mid next parts body answer site files auto lawful id none is made put same required whole missing lacks)
  opens_by (Err why, mid, inr (whole, enters), (says, stays)) =
      let opening = Open site files auto in
      let refusal = commit_refusal server.house opening in
      inr (
        whole,
        not_opened did failures server mid next parts body answer site files auto lawful why
            (subst (EntersAt (Change opening) refusal (refusal ≡ None) server (Err why)) (sym stays) enters) says,
      )

  pub open_by : ChangesBy (calls_of did failures) server (Open site files auto) answer next
      → AnswersAsk did failures server next parts body answer (Ok (ask.Command (Open site files auto)))
  open_by changes =
      held did failures server next parts body answer (Ok (ask.Command (Open site files auto))) (and_true (is_broken server.journal))
      (map_done did failures server next parts body answer (command_done did failures server next parts body answer (Open site files auto)) (opens_by changes))
