-- The bodies of answers are there to be sent.
use Rattle.std.proofs.Common.{◌≡◌, ℕ, List, [], false, Option, Result, Ok, Err, refl, sym, ap, subst, ◌∙◌}
use Rattle.range_spec.specs.declared.selection.Choice.{Choice}
use Rattle.range_spec.specs.declared.selection.Choice.TheVariants.{Whole, One, Many, None416}
use Rattle.range_reply.specs.declared.boundaries.Boundary.{Boundary}
use Rattle.host_api.specs.Types.{type_of}
use Rattle.host_api.specs.declared.refusals.Refusal.{Refusal}
use Rattle.host_replies.specs.Replies.{Answer}
use Rattle.host_replies.specs.SentFiles.{sent_as}
use Rattle.world_read.specs.declared.requests.FileRequest.{FileRequest}
use Rattle.world_read.specs.Reads.{Answered, Begins, Failed, FileReading, IsStage, ReadStage, Waits}
use Rattle.world_read.specs.Stages.{IsSent, IsSentStage}

sent_there : (content_type file : List ℕ) (plan : Choice) (boundary : Option Boundary) (bytes : List ℕ) → (sent_as content_type file plan boundary bytes).withheld ≡ false
sent_there content_type file Whole boundary bytes = refl
sent_there content_type file (One first last) boundary bytes = refl
sent_there content_type file (Many intervals) boundary bytes = refl
sent_there content_type file None416 boundary bytes = refl

pub stage_sent : (request : FileRequest) (file : List ℕ) (chunks : List (List ℕ)) (stage : ReadStage) → IsStage request file chunks stage → IsSentStage stage
stage_sent request file chunks (Answered answer) (body, left, read, is) = ap (λ (a : Answer). a.withheld) is ∙ sent_there (type_of request.path) file body.plan body.boundary body.bytes
stage_sent request file chunks (Waits name) is = tt
stage_sent request file chunks Failed is = tt

pub begins_sent : (request : FileRequest) (found : Result (List ℕ) Refusal) (content : Result FileReading Answer) → Begins request found content → IsSent content
begins_sent request (Ok file) (Ok reading) (same, none, stage) = stage_sent request file [] reading.stage stage
begins_sent request (Ok file) (Err answer) begins = absurd begins
begins_sent request (Err reason) content is = subst IsSent (sym is) refl
