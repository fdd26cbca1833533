-- What no reading, no refused request and no upload is answered.
use Rattle.std.proofs.Common.{◌≡◌, ◌⊎◌, inl, inr, ℕ, ◌<◌, List, true, false, Option, Result, Ok, Err, length, refl, sym, ap, subst, ◌∙◌, arith}
use Rattle.byte_view.specs.Contents.{Contents}
use Rattle.host_names.specs.declared.digests.Digest.{Digest}
use Rattle.host_names.specs.declared.names.SiteName.{SiteName}
use Rattle.blob_store.specs.Calls.{Call}
use Rattle.range_spec.specs.declared.selection.Choice.{Choice}
use Rattle.range_spec.specs.declared.selection.Choice.TheVariants.{Whole, One, Many, None416}
use Rattle.range_reply.specs.declared.boundaries.Boundary.{Boundary}
use Rattle.http_wire.specs.Requests.{RequestParts}
use Rattle.host_api.specs.Types.{type_of}
use Rattle.host_api.specs.declared.bodies.Ask.{Ask}
use Rattle.host_api.specs.declared.refusals.Refusal.{Refusal}
use Rattle.host_api.specs.declared.refusals.Refusal.TheVariants as reason
use Rattle.host_api.specs.declared.texts.Told.{Told}
use Rattle.host_api.specs.declared.texts.Told.TheVariants.{Uploaded}
use Rattle.host_disk.specs.declared.disks.Disk.{Ghosts}
use Rattle.host_server.specs.Asks.{AskStops, IsAnswer, IsReplyToAsk}
use Rattle.host_replies.specs.SentFiles.{sent_as}
use Rattle.host_answers.specs.Asking.{asked_for}
use Rattle.host_server.specs.HeldUp.{holds_up}
use Rattle.host_server.specs.Hosts.{Host}
use Rattle.host_server.specs.Outcomes.{Outcome, uploaded}
use Rattle.host_server.specs.ReadBack.{IsReadBack}
use Rattle.host_replies.specs.Replies.{Answer, Tells, refused_answer}
use Rattle.host_server.specs.declared.servers.Server.{Server}
use Rattle.host_server.proofs.StoredIf.{IsStoredIf}

-- what is sent of a file has another status than 503
other_status : (content_type file : List ℕ) (plan : Choice) (boundary : Option Boundary) (bytes : List ℕ) → (sent_as content_type file plan boundary bytes).status ≡ 503 → ⊥
other_status content_type file Whole boundary bytes e = let wrong : 200 ≡ 503 = e in omega (arith, wrong)
other_status content_type file (One first last) boundary bytes e = let wrong : 206 ≡ 503 = e in omega (arith, wrong)
other_status content_type file (Many intervals) boundary bytes e = let wrong : 206 ≡ 503 = e in omega (arith, wrong)
other_status content_type file None416 boundary bytes e = let wrong : 416 ≡ 503 = e in omega (arith, wrong)

-- a reply of that status whose body has another length than those for the device and for want of memory is none to the reading of a file
not_read_back : (parts : RequestParts) (path file : List ℕ) (answer : Answer) → answer.status ≡ 503
    → (length answer.body ≡ length (refused_answer reason.OutOfMemory).body → ⊥) → (length answer.body ≡ length (refused_answer reason.Device).body → ⊥)
    → IsReadBack parts path file answer → ⊥
not_read_back parts path file answer status memory disk (inl is) = memory (ap (λ (a : Answer). length a.body) is)
not_read_back parts path file answer status memory disk (inr (inl is)) = disk (ap (λ (a : Answer). length a.body) is)
not_read_back parts path file answer status memory disk (inr (inr (inl (range, asks, inl (none, is))))) =
    let wrong : 503 ≡ 416 = sym status ∙ ap (λ (a : Answer). a.status) is in omega (arith, wrong)
not_read_back parts path file answer status memory disk (inr (inr (inl (range, asks, inr (body, exact, is))))) =
    other_status (type_of path) file body.plan body.boundary body.bytes (sym (ap (λ (a : Answer). a.status) is) ∙ status)
not_read_back parts path file answer status memory disk (inr (inr (inr (head, is)))) =
    let wrong : 503 ≡ 200 = sym status ∙ ap (λ (a : Answer). a.status) is in omega (arith, wrong)

pub not_missing : (parts : RequestParts) (path file : List ℕ) → IsReadBack parts path file (refused_answer reason.Missing) → ⊥
not_missing parts path file is = not_read_back parts path file (refused_answer reason.Missing) refl (λ e. absurd (cc e)) (λ e. absurd (cc e)) is

pub not_damaged : (parts : RequestParts) (path file : List ℕ) → IsReadBack parts path file (refused_answer reason.Damaged) → ⊥
not_damaged parts path file is = not_read_back parts path file (refused_answer reason.Damaged) refl (λ e. absurd (cc e)) (λ e. absurd (cc e)) is

-- what a request that is refused is answered, and the host it leaves
module _ {S D : Type 0} {disk : Ghosts D} (did : S → Call → S → Type 0) (failures : S → ℕ) where
  pub refusal_is : (old new : Server S D disk) (parts : RequestParts) (body : List ℕ) (answer : Answer) (why : Refusal) → asked_for parts body ≡ Err why
      → IsAnswer did failures old parts body answer new
      → (new.house ≡ old.house) × ((answer ≡ refused_answer why) ⊎ (answer ≡ refused_answer reason.OutOfMemory))
  refusal_is old new parts body answer why asks (inl (inl (held, says, same), kept)) =
      let wrong : false ≡ true = sym (ap (λ (a : Result Ask Refusal). holds_up old a) asks) ∙ held in absurd (cc wrong)
  refusal_is old new parts body answer why asks (inl (inr (free, reply), kept)) =
      let (out, is, says, house, files) = subst (λ (a : Result Ask Refusal). IsReplyToAsk did failures old parts body a answer new) asks reply in (
        house ∙ ap (λ (o : Outcome). o.host) is,
        elim (subst (λ (t : Told). Tells t answer) (ap (λ (o : Outcome). o.told) is) says) [ inl told ↦ inl told | inr none ↦ inr none.0 ],
      )
  refusal_is old new parts body answer why asks (inr (inl (says, inl (same, takes), kept))) = (ap (λ (s : Server S D disk). s.house) same, inr says)
  refusal_is old new parts body answer why asks (inr (inl (says, inr (free, missed, stops), kept))) =
      absurd ((subst (λ (a : Result Ask Refusal). AskStops did old body a missed new) asks stops).0)
  refusal_is old new parts body answer why asks (inr (inr (says, missed, stops, broken))) =
      absurd ((subst (λ (a : Result Ask Refusal). AskStops did old body a missed new) asks stops).0)

-- a file that is too large is not told as uploaded
pub not_uploaded : {S : Type 0} (did : S → Call → S → Type 0) (host : Host) (n : ℕ) (bytes : List ℕ) (judged : Result (SiteName × Digest) Refusal) (uploads : Contents) (old new : S)
    (published : Option ℕ) (digest : Digest) → 16777216 < length bytes → IsStoredIf did judged uploads old bytes new
    → Uploaded published digest ≡ (uploaded host n bytes judged).told → ⊥
not_uploaded did host n bytes (Ok at) uploads old new published digest long stored told = omega (arith, long, stored.0)
not_uploaded did host n bytes (Err why) uploads old new published digest long stored told = absurd (cc told)
