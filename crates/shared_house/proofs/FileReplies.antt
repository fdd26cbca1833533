-- The answer to the reading of a file is over the state of the last look.
use Rattle.std.proofs.Common.{◌≡◌, ◌⊎◌, inl, inr, List, ℕ, Result, Ok, sym, subst, ◌∙◌, refl}
use Rattle.std.specs.FinMap as map
use Rattle.change_log.specs.Logs.{empty_log}
use Rattle.http_wire.specs.Requests.{RequestParts}
use Rattle.host_names.specs.declared.names.SiteName.{SiteName}
use Rattle.host_api.specs.declared.bodies.Ask.{Ask}
use Rattle.host_api.specs.declared.bodies.Ask.TheVariants.{Read}
use Rattle.host_api.specs.declared.refusals.Refusal.{Refusal}
use Rattle.host_api.specs.declared.refusals.Refusal.TheVariants.{OutOfMemory}
use Rattle.host_api.specs.declared.texts.Told.TheVariants.{Refused}
use Rattle.host_api.specs.declared.versions.Version.{Version}
use Rattle.host_replies.specs.Replies.{Answer, Tells, refused_answer}
use Rattle.host_answers.specs.Asking.{asked_for}
use Rattle.host_answers.specs.FileReplies.{IsFileReply}
use Rattle.host_answers.specs.Houses.{Calls, Seen}
use Rattle.host_answers.specs.Reads.{ReadsBy}
use Rattle.host_replies.specs.Versions.{file_of}
use Rattle.host_answers.proofs.FileReplies.{reads_of}
use Rattle.host_answers.proofs.Growing.{StaysBy}
use Rattle.host_answers.proofs.Growing as growing
use Rattle.shared_house.specs.Desks.{HouseCall}
use Rattle.shared_house.specs.Seeing.{Seeing}
use Rattle.shared_house.specs.Shared.{IsLegalRun, IsSharedAnswer, RespondsAs, fails, gives}

no_memory : (answer : Answer) → Tells (Refused OutOfMemory) answer → answer ≡ refused_answer OutOfMemory
no_memory answer (inl is) = is
no_memory answer (inr (is, takes)) = is

module _ {K : Type 0} (did : HouseCall → Type 0) (sees : Seeing K) where
  -- The answer to the reading of a file: over the state of one look, whose log begins with all that was seen. Or there is no memory.
  abbrev pub IsSharedFileReply : (old : K) → RequestParts → SiteName → Version → (path : List ℕ) → Answer → (new : K) → Type 0
  IsSharedFileReply old parts site version path answer new =
      ((seen : Seen) × sees.looks old seen.entries new × IsLegalRun seen
      × IsFileReply parts path (file_of seen.state site version path) answer)
      ⊎ ((answer ≡ refused_answer OutOfMemory) × (new ≡ old))

  -- nothing else is called for a read
  abbrev no_calls : Seen → Calls K
  no_calls seen = record {
    seen = λ k. seen;
    looks = λ old done new. ⊥;
    misses = λ k files required. ⊥;
    commits = λ old command done new. ⊥;
    undoes = λ old site change done new. ⊥;
    uploads = λ old site n path bytes done new. ⊥;
  }

  same : (seen : Seen) → StaysBy (λ (old new : K). new ≡ old) (no_calls seen) (gives did sees) (fails did sees)
  same seen = record {
    stays = λ k. refl;
    goes_on = λ first mid last one other. other ∙ one;
    gave_grows = λ old hold new is. is;
    failed_grows = λ old file first last why new is. is.1;
    commits = λ old command done new no. absurd no;
    undoes = λ old site change done new no. absurd no;
    uploads = λ old site n path bytes done new no. absurd no;
  }

  -- nothing is learnt by a read
  pub kept_by_read : (old new : K) (parts : RequestParts) (path : List ℕ) (found : Result (List ℕ) Refusal) (answer : Answer)
      → ReadsBy (gives did sees) (fails did sees) old parts path found answer new → new ≡ old
  kept_by_read old new parts path found answer is =
      let nothing = same (record { entries = empty_log; state = map.empty }) in
      growing.reads (λ (a b : K). b ≡ a) (no_calls (record { entries = empty_log; state = map.empty })) (gives did sees) (fails did sees) nothing answer old parts path found new is

  module _ (old new : K) (parts : RequestParts) (body : List ℕ) (site : SiteName) (version : Version) (path : List ℕ) (answer : Answer) where
    responds : RespondsAs did sees old parts body (Ok (Read site version path)) answer new → IsSharedFileReply old parts site version path answer new
    responds (inl (seen, mid, looks, run, is)) =
        let found = file_of seen.state site version path in
        let kept : new ≡ mid = kept_by_read mid new parts path found answer is in
        inl (seen, subst (λ (k : K). sees.looks old seen.entries k) (sym kept) looks, run, reads_of (gives did sees) (fails did sees) mid new parts path found answer is)
    responds (inr (is, kept)) = inr (is, kept)

    pub file_reply : asked_for parts body ≡ Ok (Read site version path) → IsSharedAnswer did sees old parts body answer new
        → IsSharedFileReply old parts site version path answer new
    file_reply asks (inl is) = responds (subst (λ (r : Result Ask Refusal). RespondsAs did sees old parts body r answer new) asks is)
    file_reply asks (inr (takes, only)) = inr (no_memory answer only.0, only.1)
