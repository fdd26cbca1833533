-- What is sent of a file where a plan asks for some of its bytes.
use Rattle.std.specs.Prelude.{◌≡◌, ◌⊎◌, ℕ, nat_lt, Bool, true, false, List, [], ◌++◌, All, length, map, Option, Some, None}
use Rattle.host_names.specs.declared.digests.Digest.{Digest}
use Rattle.host_names.specs.Digests.{digest_of}
use Rattle.byte_view.specs.Cuts.{IsPure, slice}
use Rattle.byte_view.specs.Holds.{Held, IsHeld}
use Rattle.range_spec.specs.declared.selection.Choice.{Choice}
use Rattle.range_spec.specs.declared.selection.Choice.TheVariants.{Whole, One, Many, None416}
use Rattle.range_reply.specs.declared.boundaries.Boundary.{Boundary}
use Rattle.range_reply.specs.declared.file_bodies.FileForm.{FileForm}
use Rattle.range_reply.specs.declared.file_bodies.FileForm.TheVariants as form
use Rattle.range_reply.specs.declared.file_bodies.Sends.{Sends}
use Rattle.range_reply.specs.declared.file_bodies.Sends.TheVariants as sends
use Rattle.range_reply.specs.Bodies.{AreFor, HasBoundary, body_text, stretch_of, stretches, text_in, whole_of}
use Rattle.range_reply.specs.Boundaries.{HasNoBoundary, IsBoundaryFor}
use Rattle.range_reply.specs.Multipart.{text_of}
use Rattle.range_reply.specs.Slices.{shown}
use Rattle.chunk_reads.specs.declared.faults.ReadFault.{ReadFault}
use Rattle.range_reply.specs.Holding.{AreHeld, AreNotHeld}

-- what is sent where a plan asks for that: several parts have a boundary that occurs in none of these texts, and where there is none, all
-- of the file is sent
abbrev pub IsSent : List (List ℕ) → Digest → Choice → Option Boundary → Choice → Type 0
IsSent texts digest (Many intervals) (Some boundary) sent = IsBoundaryFor texts digest (text_of boundary) × (sent ≡ Many intervals)
IsSent texts digest (Many intervals) None sent = HasNoBoundary texts digest × (sent ≡ Whole)
IsSent texts digest plan boundary sent = (boundary ≡ None) × (sent ≡ plan)

-- what is sent: the plan that is carried out, what separates its parts, and the bytes of the body
pub record SentFile : Type 0 where
  pub plan : Choice
  pub boundary : Option Boundary
  pub bytes : List ℕ

-- a plan has several parts
abbrev pub HasParts : Choice → Type 0
HasParts plan = (intervals : List (ℕ × ℕ)) × (plan ≡ Many intervals)

-- what such a plan sends, with that between its parts
abbrev pub IsForm : FileForm → Choice → Option Boundary → Type 0
IsForm form.Whole plan boundary = plan ≡ Whole
IsForm (form.One first last) plan boundary = plan ≡ One first last
IsForm (form.Several between) plan boundary = HasParts plan × (boundary ≡ Some between)
IsForm form.Nothing plan boundary = plan ≡ None416

-- the body is that of the file itself
pub record IsExact (file : List ℕ) (plan : Choice) (content_type : List ℕ) (body : SentFile) : Type 0 where
  pub sent : IsSent (map (λ i. slice file i.0 i.1) (stretches (length file) plan)) (digest_of file) plan
      body.boundary body.plan
  pub bytes : body.bytes ≡ body_text (text_in body.boundary) content_type (length file) body.plan
      (map (λ i. slice file i.0 i.1) (stretches (length file) body.plan))

-- the stretches that are held after those of a plan: all of the file, where it has several parts and no boundary
abbrev pub more_of : ℕ → Choice → Option Boundary → List (ℕ × ℕ)
more_of size (Many intervals) None = whole_of size
more_of size plan boundary = []

-- the holds of what is sent: those of the plan, or the ones after them
abbrev pub sent_holds : List Held → List Held → Choice → Option Boundary → List Held
sent_holds holds more (Many intervals) None = more
sent_holds holds more plan boundary = holds

-- what a plan asks for is read of a file: its stretches were held, and all of the file after them where several parts have no boundary; the body is
-- what the chunks show, and where none of them differs from a piece of the file that has its digest, that of the file itself
pub record IsRead {H : Type 0} (gave : H → Held → H → Type 0) (old : H) (file : List ℕ) (plan : Choice) (content_type : List ℕ) (body : SentFile) (new : H) : Type 0 where
  pub holds : List Held
  pub mid : H
  pub held : AreHeld gave old file (stretches (length file) plan) holds mid
  pub sent : IsSent (map shown holds) (digest_of file) plan body.boundary body.plan
  pub more : List Held
  pub more_held : AreHeld gave mid file (more_of (length file) plan body.boundary) more new
  pub bytes : body.bytes ≡ body_text (text_in body.boundary) content_type (length file) body.plan
      (map shown (sent_holds holds more plan body.boundary))
  pub exact : All (λ h. All (IsPure file) h.chunks) (holds ++ more) → IsExact file plan content_type body

-- why it isn't read: the stretches of the plan can't be held; or each boundary occurs in one of several parts, and all of the file can't be
abbrev pub IsNotRead : {H : Type 0} → (gave : H → Held → H → Type 0) → (failed : H → List ℕ → ℕ → ℕ → ReadFault → H → Type 0) → H → List ℕ → Choice → ReadFault → H → Type 0
IsNotRead {H} gave failed old file plan why new =
    AreNotHeld gave failed old file (stretches (length file) plan) why new
    ⊎ ((intervals : List (ℕ × ℕ)) × (holds : List Held) × (mid : H) × (plan ≡ Many intervals) × AreHeld gave old file intervals holds mid
    × HasNoBoundary (map shown holds) (digest_of file) × AreNotHeld gave failed mid file (whole_of (length file)) why new)

-- whether a plan sends a byte of a file of this many bytes
abbrev pub sends_bytes : ℕ → Choice → Bool
sends_bytes size Whole = nat_lt 0 size
sends_bytes size None416 = false
sends_bytes size plan = true

-- ---- what private functions say

-- the plan of a body that keeps this of it, and these holds
abbrev pub plan_sent : Sends → List Held → Choice
plan_sent sends.Whole holds = Whole
plan_sent (sends.One first last) holds = One first last
plan_sent sends.Several holds = Many (map stretch_of holds)
plan_sent sends.Nothing holds = None416

-- a body is made of holds of some file, of this many bytes; it has as many bytes as they show
pub record IsMade (plan : Choice) (boundary : Option Boundary) (content_type : List ℕ) (holds : List Held) (size total : ℕ) : Type 0 where
  pub file : List ℕ
  pub are : AreFor holds file plan
  pub lawful : All IsHeld holds
  pub separated : HasBoundary boundary plan
  pub sized : length file ≡ size
  pub long : total ≡ length (body_text (text_in boundary) content_type size plan (map shown holds))
