-- What is read of a server whose shelf has what it knows is of the file itself.
use Rattle.std.proofs.Common.{◌≡◌, ◌⊎◌, inl, inr, Bool, true, false, IsTrue, ℕ, List, Option, Result, Ok, sym, ap, subst, ◌∙◌, refl}
use Rattle.host_names.specs.Digests.{digest_of}
use Rattle.host_names.specs.declared.names.SiteName.{SiteName}
use Rattle.blob_store.specs.Calls.{Call}
use Rattle.blob_store.specs.Keeping.{AlwaysKeeps, HasFile}
use Rattle.blob_store.specs.declared.shelves.ShelfName.{ShelfName}
use Rattle.range_spec.specs.declared.selection.Choice.{Choice}
use Rattle.chunk_group.specs.Cached.{CachedShelf, HasCached}
use Rattle.host_server.proofs.StoredReads.{fault_why, sent_exact}
use Rattle.http_wire.specs.Requests.{RequestParts}
use Rattle.host_api.specs.Types.{type_of}
use Rattle.host_api.specs.declared.bodies.Ask.{Ask}
use Rattle.host_api.specs.declared.bodies.Ask.TheVariants as ask
use Rattle.host_api.specs.declared.refusals.Refusal.{Refusal}
use Rattle.host_api.specs.declared.refusals.Refusal.TheVariants as reason
use Rattle.host_api.specs.declared.versions.Version.{Version}
use Rattle.host_disk.specs.declared.disks.Disk.{Ghosts}
use Rattle.host_server.specs.Asks.{IsAnswer, IsReplyToAsk}
use Rattle.host_answers.specs.Asking.{asked_for}
use Rattle.host_server.specs.HeldUp.{holds_up}
use Rattle.host_server.specs.Journals.{is_broken}
use Rattle.host_server.proofs.EntryAnswers.{and_false}
use Rattle.host_server.proofs.KnownFiles.{known_cached}
use Rattle.host_server.specs.Files.{IsFileSent, IsFileTold, IsReadReply}
use Rattle.host_replies.specs.FileAsks.{plan_of, refusal_of_read}
use Rattle.host_server.specs.Hosts.{state_of}
use Rattle.host_server.specs.ReadBack.{HasKnown, IsReadBack, IsSentExactly}
use Rattle.host_replies.specs.Replies.{Answer, is_head, refused_answer, unread_answer}
use Rattle.host_replies.specs.Versions.{file_of}
use Rattle.host_server.specs.declared.servers.Server.{Server}

module _ {S : Type 0} (did : S → Call → S → Type 0) (failures : S → ℕ) (has : S → ShelfName → Option (List ℕ)) (keeps : AlwaysKeeps did has) where
  sent_back : (old new : CachedShelf S) (path file : List ℕ) (plan : Choice) (answer : Answer) → HasFile has old.shelf file → HasCached has old
      → IsFileSent did failures old path file plan answer new
      → (answer ≡ refused_answer reason.OutOfMemory) ⊎ (answer ≡ refused_answer reason.Device) ⊎ IsSentExactly path file plan answer
  sent_back old new path file plan answer there cached (inl (none, says, same)) = inr (inr (inl (none, says)))
  sent_back old new path file plan answer there cached (inr (inl (body, read, says))) =
      inr (inr (inr (body, sent_exact did failures has keeps file old new (type_of path) plan body there cached read, says)))
  sent_back old new path file plan answer there cached (inr (inr (why, other, failed, says))) =
      elim (fault_why did failures has keeps file old new plan why there cached failed) [
        | inl is ↦ inr (inl (says ∙ ap (λ w. refused_answer (refusal_of_read w)) is))
        | inr is ↦ inl (says ∙ ap (λ w. refused_answer (refusal_of_read w)) is)
      ]

  told_back : (head_only : Bool) (old new : CachedShelf S) (path file : List ℕ) (plan : Choice) (answer : Answer) → HasFile has old.shelf file → HasCached has old
      → IsFileTold did failures head_only old path file plan answer new
      → ((answer ≡ refused_answer reason.OutOfMemory) ⊎ (answer ≡ refused_answer reason.Device) ⊎ IsSentExactly path file plan answer)
      ⊎ (IsTrue head_only × (answer ≡ unread_answer (type_of path) file))
  told_back true old new path file plan answer there cached (inl says, same) = inr (refl, says)
  told_back true old new path file plan answer there cached (inr says, same) = inl (inl says)
  told_back false old new path file plan answer there cached sent = inl (sent_back old new path file plan answer there cached sent)

module _ {S D : Type 0} {disk : Ghosts D} (did : S → Call → S → Type 0) (failures : S → ℕ) (has : S → ShelfName → Option (List ℕ)) (keeps : AlwaysKeeps did has) where
  reply_back : (server next : Server S D disk) (parts : RequestParts) (path : List ℕ) (found : Result (List ℕ) Refusal) (file : List ℕ) (answer : Answer) → found ≡ Ok file
      → HasKnown has server → IsReadReply did failures server parts path found answer next → IsReadBack parts path file answer
  reply_back server next parts path found file answer is known reply =
      let (uploaded, range, asks, sent, same) = subst (λ (f : Result (List ℕ) Refusal). IsReadReply did failures server parts path f answer next) is reply in
      elim (told_back did failures has keeps (is_head parts) server.files next.files path file (plan_of parts range file) answer (known.on_shelf (digest_of file) file uploaded)
      (known_cached has server known) sent) [
        | inl (inl none) ↦ inl none
        | inl (inr (inl failed)) ↦ inr (inl failed)
        | inl (inr (inr exact)) ↦ inr (inr (inl (range, asks, exact)))
        | inr unread ↦ inr (inr (inr unread))
      ]

  pub answered_back : (server next : Server S D disk) (parts : RequestParts) (body : List ℕ) (answer : Answer) (site : SiteName) (version : Version) (path file : List ℕ)
      → HasKnown has server → asked_for parts body ≡ Ok (ask.Read site version path)
      → file_of (state_of server.house) site version path ≡ Ok file → IsAnswer did failures server parts body answer next → IsReadBack parts path file answer
  answered_back server next parts body answer site version path file known asks is (inl (inl (held, says, same), kept)) =
      absurd (cc (sym (and_false (is_broken server.journal)) ∙ ap (λ (a : Result Ask Refusal). holds_up server a) (sym asks) ∙ held))
  answered_back server next parts body answer site version path file known asks is (inl (inr (free, reply), kept)) =
      reply_back server next parts path (file_of (state_of server.house) site version path) file answer is known
      (subst (λ (a : Result Ask Refusal). IsReplyToAsk did failures server parts body a answer next) asks reply)
  answered_back server next parts body answer site version path file known asks is (inr (inl (says, out, kept))) = inl says
  answered_back server next parts body answer site version path file known asks is (inr (inr (says, missed, stops, broken))) = inr (inl says)
