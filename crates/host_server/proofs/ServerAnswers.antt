-- What is answered by calls of a server is what it is said to answer.
use Rattle.std.proofs.Common.{◌≡◌, inl, inr, ℕ, List, MatchOption, Option, Some, None, Result, Ok, Err, refl, sym, ap, subst}
use Rattle.host_names.specs.declared.names.SiteName.{SiteName}
use Rattle.byte_view.specs.Contents.{AreDigested}
use Rattle.blob_store.specs.Calls.{Call}
use Rattle.site_state.specs.Files.{Paths}
use Rattle.site_state.specs.States.{draft_at, kept_at}
use Rattle.site_state.specs.declared.values.Draft.{Draft}
use Rattle.site_state.proofs.MissingLists.{missing_list}
use Rattle.site_change.specs.declared.commands.Command.TheVariants as command
use Rattle.site_change.specs.declared.refusals.ChangeRefusal.TheVariants.{NoSuchDeploy}
use Rattle.site_change.specs.declared.entries.Entry.{Entry}
use Rattle.change_undo.specs.Histories.{entry_at}
use Rattle.http_wire.specs.Requests.{RequestParts}
use Rattle.host_disk.specs.declared.disks.Disk.{Ghosts}
use Rattle.host_api.specs.declared.bodies.Ask.{Ask}
use Rattle.host_api.specs.declared.bodies.Ask.TheVariants as ask
use Rattle.host_api.specs.declared.refusals.Refusal.{Refusal}
use Rattle.host_api.specs.declared.refusals.Refusal.TheVariants as reason
use Rattle.host_api.specs.declared.texts.DeployState.TheVariants as state
use Rattle.host_api.specs.declared.texts.Told.{Told}
use Rattle.host_api.specs.declared.texts.Told.TheVariants as told
use Rattle.host_replies.specs.Replies.{Answer, Tells}
use Rattle.host_answers.specs.Answers.{AnswersBy, CarriesOut as CarriesOutBy, DoesBy, InSite, ShowsBy}
use Rattle.host_answers.specs.Asking.{asked_for}
use Rattle.host_answers.specs.ChangeLists.{shown_lines}
use Rattle.host_answers.specs.Deploys.{site_of_deploy}
use Rattle.host_server.specs.Asks.{DeployStops, IsAnswer}
use Rattle.host_server.specs.Hosts.{IsLawful, state_of}
use Rattle.host_server.specs.Journals.{is_broken}
use Rattle.host_server.specs.Outcomes.{deploy_outcome, refused}
use Rattle.host_server.specs.ServerHouses.{calls_of, failed_at, gave_at}
use Rattle.host_server.specs.ServerJournals.{GoesOn}
use Rattle.host_server.specs.Shown.{Shows, ShowsDeploy}
use Rattle.host_server.specs.declared.servers.Server.{Server}
use Rattle.host_server.proofs.EntryAnswers.{AnswersAsk, CarriesOut, and_false, carried_out, commit_told, deploy_told, free, no_memory, undo_told}
use Rattle.host_server.proofs.Journaling.{keeps_same}
use Rattle.host_server.proofs.OpenAnswers.{open_by}
use Rattle.host_server.proofs.ReadAnswers.{read_told}
use Rattle.host_server.proofs.UploadAnswers.{upload_by}

module _ {S D : Type 0} {disk : Ghosts D} (did : S → Call → S → Type 0) (failures : S → ℕ) (server next : Server S D disk) (parts : RequestParts) (body : List ℕ) (answer : Answer) where
  goes_on : next ≡ server → GoesOn server next
  goes_on same =
      keeps_same disk server.house next.house server.journal next.journal (ap (λ (s : Server S D disk). s.house) same) (ap (λ (s : Server S D disk). s.journal) same)

  same_house : next ≡ server → next.house ≡ server.house
  same_house same = ap (λ (s : Server S D disk). s.house) same

  same_files : next ≡ server → next.files ≡ server.files
  same_files same = ap (λ (s : Server S D disk). s.files) same

  -- ---- what is shown

  changes_shown : (site : SiteName) → Tells (told.Changes (shown_lines server.house.entries site)) answer → next ≡ server
      → CarriesOut did failures server next parts body answer (Ok (ask.Changes site))
  changes_shown site says same =
      inl ((record { told = told.Changes (shown_lines server.house.entries site); host = server.house }, refl, says, same_house same, same_files same), goes_on same)

  -- that is told of the deploy
  deploy_shown : (n : ℕ) (tells : Told) → ShowsDeploy server.house n tells → Tells tells answer → next ≡ server
      → CarriesOut did failures server next parts body answer (Ok (ask.Deploy n))
  deploy_shown n tells shows says same =
      inl ((record { told = tells; host = server.house }, (shows, refl), says, same_house same, same_files same), goes_on same)

  -- that is told of the deploy of a number, whose site is this, or which has none
  abbrev ShowsOn : ℕ → Told → Option SiteName → Type 0
  ShowsOn n tells site =
      MatchOption site (tells ≡ told.Refused (reason.Change NoSuchDeploy)) (λ owner.
      Shows server.house.uploads owner n (draft_at (state_of server.house) owner n) (kept_at (state_of server.house) owner n) tells)

  module _ (n : ℕ) (site : SiteName) (is : site_of_deploy (entry_at server.house.entries n) ≡ Some site) where
    shows_as : (draft : Option Draft) (tree : Option (Paths (List ℕ))) (tells : Told)
        → draft_at (state_of server.house) site n ≡ draft → kept_at (state_of server.house) site n ≡ tree → Shows server.house.uploads site n draft tree tells
        → ShowsDeploy server.house n tells
    shows_as draft tree tells drafted kept is_shown =
        let here : Shows server.house.uploads site n (draft_at (state_of server.house) site n) (kept_at (state_of server.house) site n) tells =
        subst (λ (d : Option Draft). Shows server.house.uploads site n d (kept_at (state_of server.house) site n) tells) (sym drafted)
        (subst (λ (t : Option (Paths (List ℕ))). Shows server.house.uploads site n draft t tells) (sym kept) is_shown) in
        subst (ShowsOn n tells) (sym is) here

    shows_by : (draft : Option Draft) (tree : Option (Paths (List ℕ))) → draft_at (state_of server.house) site n ≡ draft → kept_at (state_of server.house) site n ≡ tree
        → ShowsBy (calls_of did failures) server site n draft tree answer next → CarriesOut did failures server next parts body answer (Ok (ask.Deploy n))
    shows_by (Some draft) tree drafted kept (Ok required, missing, (says, same)) =
        deploy_shown n (told.Deploy n site (state.Open required)) (shows_as (Some draft) tree (told.Deploy n site (state.Open required)) drafted kept (required, missing, refl)) says same
    shows_by (Some draft) tree drafted kept (Err why, some, (says, same)) =
        let (required, missing) = missing_list server.house.uploads draft.files.1 in
        deploy_shown n (told.Deploy n site (state.Open required)) (shows_as (Some draft) tree (told.Deploy n site (state.Open required)) drafted kept (required, missing, refl))
        (inr (no_memory answer says, refl)) same
    shows_by None (Some tree) drafted kept (says, same) =
        deploy_shown n (told.Deploy n site state.Kept) (shows_as None (Some tree) (told.Deploy n site state.Kept) drafted kept refl) says same
    shows_by None None drafted kept (says, same) =
        deploy_shown n (told.Refused (reason.Change NoSuchDeploy)) (shows_as None None (told.Refused (reason.Change NoSuchDeploy)) drafted kept refl) says same

  shows : (n : ℕ) (site : Option SiteName) → site_of_deploy (entry_at server.house.entries n) ≡ site
      → InSite (calls_of did failures) server site (λ owner.
      ShowsBy (calls_of did failures) server owner n (draft_at (state_of server.house) owner n) (kept_at (state_of server.house) owner n)) answer next
      → CarriesOut did failures server next parts body answer (Ok (ask.Deploy n))
  shows n None is (says, same) =
      deploy_shown n (told.Refused (reason.Change NoSuchDeploy)) (subst (ShowsOn n (told.Refused (reason.Change NoSuchDeploy))) (sym is) refl) says same
  shows n (Some site) is by = shows_by n site is (draft_at (state_of server.house) site n) (kept_at (state_of server.house) site n) refl refl by

  -- ---- what is asked for

  does_by : (asked : Ask) → IsLawful server.house → AreDigested server.house.uploads
      → DoesBy (calls_of did failures) (gave_at did failures) (failed_at did failures) server parts body asked answer next
      → AnswersAsk did failures server next parts body answer (Ok asked)
  does_by (ask.Read site version path) lawful digested is = read_told did failures server next parts path answer body site version lawful digested is
  does_by (ask.Command (command.Open site files auto)) lawful digested is = open_by did failures server next parts body answer site files auto lawful is
  does_by (ask.Command change) lawful digested is = commit_told did failures server next parts body answer change refl is
  does_by (ask.Undo site k) lawful digested is = undo_told did failures server next parts body answer site k is
  does_by (ask.Changes site) lawful digested (says, same) =
      free did failures server next parts body answer (Ok (ask.Changes site)) (and_false (is_broken server.journal)) (changes_shown site says same)
  does_by (ask.Deploy n) lawful digested is =
      free did failures server next parts body answer (Ok (ask.Deploy n)) (and_false (is_broken server.journal))
      (shows n (site_of_deploy (entry_at server.house.entries n)) refl is)
  does_by (ask.RemoveDeploy n) lawful digested is =
      deploy_told did failures server next parts body answer n (ask.RemoveDeploy n) (λ site. command.RemoveDeploy site n) (site_of_deploy (entry_at server.house.entries n)) refl refl
      (λ owner. refl)
      (carried_out did failures server next parts body answer (Ok (ask.RemoveDeploy n)) (λ (missed : Entry). DeployStops server.house n (λ site. command.RemoveDeploy site n) missed next.house)
      (deploy_outcome server.house n (λ site. command.RemoveDeploy site n))
      (λ says house files. (deploy_outcome server.house n (λ site. command.RemoveDeploy site n), refl, says, house, files)) (λ missed left files. (left, files))) is
  does_by (ask.Cancel n) lawful digested is =
      deploy_told did failures server next parts body answer n (ask.Cancel n) (λ site. command.Cancel site n) (site_of_deploy (entry_at server.house.entries n)) refl refl
      (λ owner. refl)
      (carried_out did failures server next parts body answer (Ok (ask.Cancel n)) (λ (missed : Entry). DeployStops server.house n (λ site. command.Cancel site n) missed next.house)
      (deploy_outcome server.house n (λ site. command.Cancel site n))
      (λ says house files. (deploy_outcome server.house n (λ site. command.Cancel site n), refl, says, house, files)) (λ missed left files. (left, files))) is
  does_by (ask.Upload n path) lawful digested is =
      upload_by did failures server next parts n path body answer (site_of_deploy (entry_at server.house.entries n)) refl is

  -- ---- a request

  refused_told : (why : Refusal) → Tells (told.Refused why) answer → next ≡ server → CarriesOut did failures server next parts body answer (Err why)
  refused_told why says same = inl ((refused server.house why, refl, says, same_house same, same_files same), goes_on same)

  -- the answer to what is asked for is that to the request
  of_asked : AnswersAsk did failures server next parts body answer (asked_for parts body) → IsAnswer did failures server parts body answer next
  of_asked (inl (held, says, same)) = inl (inl (held, says, same), goes_on same)
  of_asked (inr (free, inl (reply, kept))) = inl (inr (free, reply), kept)
  of_asked (inr (free, inr (inl (says, missed, stops, kept)))) = inr (inl (says, inr (free, missed, stops), kept))
  of_asked (inr (free, inr (inr (says, missed, stops, broken)))) = inr (inr (says, missed, stops, broken))

module _ {S D : Type 0} {disk : Ghosts D} (did : S → Call → S → Type 0) (failures : S → ℕ) (old new : Server S D disk) (parts : RequestParts) (body : List ℕ) (answer : Answer) where
  carried_by : (asking : Result Ask Refusal) → CarriesOutBy (calls_of did failures) (gave_at did failures) (failed_at did failures) old parts body asking answer new
      → AnswersAsk did failures old new parts body answer asking
  carried_by (Err why) (says, same) = free did failures old new parts body answer (Err why) refl (refused_told did failures old new parts body answer why says same)
  carried_by (Ok asked) (inl (mid, (same, lawful, digested), is)) =
      subst (λ (s : Server S D disk). AnswersAsk did failures s new parts body answer (Ok asked)) same
      (does_by did failures mid new parts body answer asked (subst (λ (s : Server S D disk). IsLawful s.house) (sym same) lawful)
      (subst (λ (s : Server S D disk). AreDigested s.house.uploads) (sym same) digested) is)
  carried_by (Ok asked) (inr (why, looks, is)) = absurd looks

  pub answered_by : AnswersBy (calls_of did failures) (gave_at did failures) (failed_at did failures) old parts body answer new → IsAnswer did failures old parts body answer new
  answered_by (inl is) = of_asked did failures old new parts body answer (carried_by (asked_for parts body) is)
  answered_by (inr (takes, (says, same))) = inr (inl (no_memory answer says, inl (same, takes), goes_on did failures old new parts body answer same))
