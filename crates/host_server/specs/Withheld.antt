-- That a body is told by its length alone only to HEAD.
use Rattle.std.specs.Prelude.{◌≡◌, ℕ, List, Bool, true, false, Option, Result, Ok, Err, refl}
use Rattle.std.proofs.Common.{inl, inr, ap, sym, ◌∙◌}
use Rattle.blob_store.specs.Calls.{Call}
use Rattle.chunk_group.specs.Cached.{CachedShelf}
use Rattle.host_api.specs.declared.bodies.Ask.{Ask}
use Rattle.host_api.specs.declared.bodies.Ask.TheVariants as ask
use Rattle.host_api.specs.declared.refusals.Refusal.{Refusal}
use Rattle.host_api.specs.declared.texts.Told.{Told}
use Rattle.host_api.specs.Types.{type_of}
use Rattle.host_disk.specs.declared.disks.Disk.{Ghosts}
use Rattle.http_wire.specs.Requests.{RequestParts}
use Rattle.range_reply.specs.declared.boundaries.Boundary.{Boundary}
use Rattle.range_spec.specs.declared.selection.Choice.{Choice}
use Rattle.range_spec.specs.declared.selection.Choice.TheVariants.{Whole, One, Many, None416}
use Rattle.host_server.specs.Asks.{IsAnswer, IsReplyToAsk}
use Rattle.host_answers.specs.Asking.{asked_for}
use Rattle.host_server.specs.Files.{IsFileTold, IsReadReply}
use Rattle.host_replies.specs.SentFiles.{sent_as}
use Rattle.host_server.specs.Hosts.{state_of}
use Rattle.host_replies.specs.Replies.{Answer, Tells, is_head}
use Rattle.host_replies.specs.Versions.{file_of}
use Rattle.host_server.specs.declared.servers.Server.{Server}

-- not where it is an answer with its body
whole : (answer other : Answer) → answer ≡ other → other.withheld ≡ false → answer.withheld ≡ true → ⊥
whole answer other is not withheld = cc (sym (ap (λ (a : Answer). a.withheld) is ∙ not) ∙ withheld)

-- nor where bytes of a file are sent
sent_whole : (content_type file : List ℕ) (plan : Choice) (boundary : Option Boundary) (bytes : List ℕ) → (sent_as content_type file plan boundary bytes).withheld ≡ true → ⊥
sent_whole content_type file Whole boundary bytes withheld = cc withheld
sent_whole content_type file (One first last) boundary bytes withheld = cc withheld
sent_whole content_type file (Many intervals) boundary bytes withheld = cc withheld
sent_whole content_type file None416 boundary bytes withheld = cc withheld

module _ {S : Type 0} (did : S → Call → S → Type 0) (failures : S → ℕ) where
  file_told : (head_only : Bool) (old new : CachedShelf S) (path file : List ℕ) (plan : Choice) (answer : Answer) → IsFileTold did failures head_only old path file plan answer new
      → answer.withheld ≡ true → head_only ≡ true
  file_told true old new path file plan answer is withheld = refl
  file_told false old new path file plan answer (inl (none, says, same)) withheld = absurd (whole answer _ says refl withheld)
  file_told false old new path file plan answer (inr (inl (body, read, says))) withheld =
      absurd (sent_whole (type_of path) file body.plan body.boundary body.bytes (sym (ap (λ (a : Answer). a.withheld) says) ∙ withheld))
  file_told false old new path file plan answer (inr (inr (why, other, failed, says))) withheld = absurd (whole answer _ says refl withheld)

-- nor where something is told
told_whole : (told : Told) (answer : Answer) → Tells told answer → answer.withheld ≡ true → ⊥
told_whole told answer (inl says) withheld = whole answer _ says refl withheld
told_whole told answer (inr none) withheld = whole answer _ none.0 refl withheld

module _ {S D : Type 0} {disk : Ghosts D} (did : S → Call → S → Type 0) (failures : S → ℕ) (server next : Server S D disk) (parts : RequestParts) where
  read_told : (path : List ℕ) (found : Result (List ℕ) Refusal) (answer : Answer) → IsReadReply did failures server parts path found answer next → answer.withheld ≡ true
      → is_head parts ≡ true
  read_told path (Err why) answer (says, same) withheld = absurd (whole answer _ says refl withheld)
  read_told path (Ok file) answer (uploaded, range, asks, told, same) withheld = file_told did failures (is_head parts) server.files next.files path file _ answer told withheld

  reply_told : (body : List ℕ) (asking : Result Ask Refusal) (answer : Answer) → IsReplyToAsk did failures server parts body asking answer next → answer.withheld ≡ true
      → is_head parts ≡ true
  reply_told body (Ok (ask.Read site version path)) answer is withheld = read_told path (file_of (state_of server.house) site version path) answer is withheld
  reply_told body (Ok (ask.Upload deploy path)) answer (inl (told, done, says)) withheld = absurd (told_whole told answer says withheld)
  reply_told body (Ok (ask.Upload deploy path)) answer (inr (why, refused, says)) withheld = absurd (whole answer _ says refl withheld)
  reply_told body asking answer is withheld = absurd (told_whole is.0.told answer is.2 withheld)

  pub withheld_to_head : (body : List ℕ) (answer : Answer) → IsAnswer did failures server parts body answer next → answer.withheld ≡ true → is_head parts ≡ true
  withheld_to_head body answer (inl (inl (held, says, same), kept)) withheld = absurd (whole answer _ says refl withheld)
  withheld_to_head body answer (inl (inr (free, reply), kept)) withheld = reply_told body (asked_for parts body) answer reply withheld
  withheld_to_head body answer (inr (inl (says, out, kept))) withheld = absurd (whole answer _ says refl withheld)
  withheld_to_head body answer (inr (inr (says, missed, stops, broken))) withheld = absurd (whole answer _ says refl withheld)
