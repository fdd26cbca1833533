-- What is read of a file is answered.
use Rattle.std.proofs.Common.{◌≡◌, ◌≢◌, ◌⊎◌, inr, Bool, true, false, ℕ, List, Option, Some, None, Result, Ok, Err, length, codes, if◌then◌else◌, refl, sym, subst, ◌∙◌}
use Rattle.host_names.specs.Digests.{digest_of}
use Rattle.host_names.specs.declared.digests.Digest.{Digest}
use Rattle.chunk_reads.specs.declared.faults.ReadFault.{ReadFault}
use Rattle.range_spec.specs.declared.grammar.Asked.{Asked}
use Rattle.range_spec.specs.declared.grammar.Asked.TheVariants.{Ignore}
use Rattle.range_spec.specs.declared.selection.Choice.{Choice}
use Rattle.range_spec.specs.declared.selection.Choice.TheVariants.{Whole, One, Many, None416}
use Rattle.range_reply.specs.Bodies.{text_in}
use Rattle.range_reply.specs.Conditions.{allows_range}
use Rattle.range_reply.specs.Plans.{choice_in}
use Rattle.range_reply.specs.declared.boundaries.Boundary.{Boundary}
use Rattle.range_reply.specs.Sending.{IsNotRead, IsRead, IsSent, SentFile}
use Rattle.http_wire.specs.Fields.{values_of}
use Rattle.http_wire.specs.Requests.{RequestParts}
use Rattle.host_api.specs.Types.{type_of}
use Rattle.host_api.specs.declared.refusals.Refusal.{Refusal}
use Rattle.host_api.specs.declared.refusals.Refusal.TheVariants as reason
use Rattle.host_replies.specs.PartsTypes.{IsOfEight}
use Rattle.host_replies.specs.SentFiles.{SendsParts, sent_answer}
use Rattle.host_replies.specs.Replies.{Answer, is_head, refused_answer, unread_answer}
use Rattle.host_answers.specs.Houses.{Failed, Gave}
use Rattle.host_answers.specs.Reads.{GivesBy, ReadsBy, SendsBy}
use Rattle.host_replies.specs.FileAsks.{AsksRange, plan_of, refusal_of_read}

-- ---- several parts have a boundary

parts_of : (texts : List (List ℕ)) (digest : Digest) (plan : Choice) (boundary : Option Boundary) (sent : Choice) → IsSent texts digest plan boundary sent
    → (intervals : List (ℕ × ℕ)) → sent ≡ Many intervals → IsOfEight digest (text_in boundary) × ((found : Boundary) × (boundary ≡ Some found))
parts_of texts digest (Many asked) (Some boundary) sent is intervals several = ((is.0.0, is.0.1, is.0.2), (boundary, refl))
parts_of texts digest (Many asked) None sent is intervals several = absurd (cc (sym is.1 ∙ several))
parts_of texts digest Whole boundary sent is intervals several = absurd (cc (sym is.1 ∙ several))
parts_of texts digest (One first last) boundary sent is intervals several = absurd (cc (sym is.1 ∙ several))
parts_of texts digest None416 boundary sent is intervals several = absurd (cc (sym is.1 ∙ several))

pub sends_parts : (texts : List (List ℕ)) (digest : Digest) (plan : Choice) (body : SentFile) → IsSent texts digest plan body.boundary body.plan → SendsParts digest body
sends_parts texts digest plan body is intervals several = parts_of texts digest plan body.boundary body.plan is intervals several

-- ---- the reply

-- what a request asks for of a file
abbrev pub IsAsked : RequestParts → List ℕ → Choice → Type 0
IsAsked parts file plan = (range : Asked) × AsksRange parts range × (plan ≡ plan_of parts range file)

-- all of it, where no range is asked for
whole_of_none : (allowed : Bool) (size : ℕ) → Whole ≡ (if allowed then choice_in Ignore size else Whole)
whole_of_none true size = refl
whole_of_none false size = refl

pub whole_asked : (parts : RequestParts) (file : List ℕ) → AsksRange parts Ignore → IsAsked parts file Whole
whole_asked parts file asks =
    (Ignore, asks, whole_of_none (allows_range (digest_of file) (values_of (codes "if-range") parts.fields)) (length file))

module _ {H : Type 0} (gave : Gave H) (failed : Failed H) (house next : H) where
  -- what comes of a plan by which something is sent
  abbrev pub Sends : (path file : List ℕ) → Choice → Answer → Type 0
  Sends path file plan answer =
      ((body : SentFile) × IsRead gave house file plan (type_of path) body next × (answer ≡ sent_answer path file body))
      ⊎ ((why : ReadFault) × IsNotRead gave failed house file plan why next × (answer ≡ refused_answer (refusal_of_read why)))
      ⊎ ((answer ≡ refused_answer reason.OutOfMemory) × (next ≡ house))

  pub sends_by : (path file : List ℕ) (plan : Choice) (answer : Answer) → plan ≢ None416 → Sends path file plan answer → SendsBy gave failed house path file plan answer next
  sends_by path file Whole answer some is = is
  sends_by path file (One first last) answer some is = is
  sends_by path file (Many intervals) answer some is = is
  sends_by path file None416 answer some is = absurd (some refl)

  pub not_found : (parts : RequestParts) (path : List ℕ) (found : Result (List ℕ) Refusal) (why : Refusal) (answer : Answer) → found ≡ Err why
      → answer ≡ refused_answer why → next ≡ house → ReadsBy gave failed house parts path found answer next
  not_found parts path found why answer is told same = subst (λ (f : Result (List ℕ) Refusal). ReadsBy gave failed house parts path f answer next) (sym is) (told, same)

  gives_by : (parts : RequestParts) (path file : List ℕ) (found : Result (List ℕ) Refusal) (by_head : Bool) (answer : Answer) → found ≡ Ok file → is_head parts ≡ by_head
      → GivesBy gave failed by_head house parts path file answer next → ReadsBy gave failed house parts path found answer next
  gives_by parts path file found by_head answer is head gives =
      subst (λ (f : Result (List ℕ) Refusal). ReadsBy gave failed house parts path f answer next) (sym is)
      (subst (λ (b : Bool). GivesBy gave failed b house parts path file answer next) (sym head) gives)

  pub head_told : (parts : RequestParts) (path file : List ℕ) (found : Result (List ℕ) Refusal) (answer : Answer) → found ≡ Ok file → is_head parts ≡ true
      → (answer ≡ unread_answer (type_of path) file) ⊎ (answer ≡ refused_answer reason.OutOfMemory) → next ≡ house → ReadsBy gave failed house parts path found answer next
  head_told parts path file found answer is head told same = gives_by parts path file found true answer is head (told, same)

  pub file_sent : (parts : RequestParts) (path file : List ℕ) (found : Result (List ℕ) Refusal) (plan : Choice) (answer : Answer) → found ≡ Ok file → is_head parts ≡ false
      → IsAsked parts file plan → SendsBy gave failed house path file plan answer next → ReadsBy gave failed house parts path found answer next
  file_sent parts path file found plan answer is head (range, asks, planned) sends =
      gives_by parts path file found false answer is head
      (range, asks, subst (λ (p : Choice). SendsBy gave failed house path file p answer next) planned sends)

  pub no_memory : (parts : RequestParts) (path file : List ℕ) (found : Result (List ℕ) Refusal) (plan : Choice) (answer : Answer) → found ≡ Ok file → is_head parts ≡ false
      → IsAsked parts file plan → plan ≢ None416 → answer ≡ refused_answer reason.OutOfMemory → next ≡ house → ReadsBy gave failed house parts path found answer next
  no_memory parts path file found plan answer is head asked some told same =
      file_sent parts path file found plan answer is head asked (sends_by path file plan answer some (inr (inr (told, same))))
