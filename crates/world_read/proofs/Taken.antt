-- What is held was there to be taken, so answers are right.
use Rattle.std.proofs.Common.{ℕ, List, [], ◌∷◌, All, Option, Some, None, Result, Ok, Err, sym, ◌∙◌, subst}
use Rattle.std.specs.List.{AllByRecursion, FoldsTo}
use Rattle.std.proofs.lemmas.List.Elements.{All-append, All-from_recursion, recursion_from_All}
use Rattle.byte_view.specs.Cuts.{IsPure}
use Rattle.byte_view.specs.Holds.{Held}
use Rattle.range_spec.specs.declared.selection.Choice.{Choice}
use Rattle.range_reply.specs.Sending.{IsExact, IsRead, SentFile}
use Rattle.chunk_reads.specs.Reading.{ReadsInTurn}
use Rattle.host_api.specs.Types.{type_of}
use Rattle.host_api.specs.declared.refusals.Refusal.{Refusal}
use Rattle.host_replies.specs.Replies.{Answer}
use Rattle.world_read.specs.declared.requests.FileRequest.{FileRequest}
use Rattle.world_read.specs.Requests.{plan_of}
use Rattle.world_read.specs.Taking.{Gives, Takes, Taking, taking}
use Rattle.world_read.specs.Reads.{Answered, Begins, Failed, FileReading, GoesOnWith, IsRight, IsRightStage, IsStage, ReadStage, Waits}

module _ (P : List ℕ → Type 0) where
  -- chunks that are taken were left before
  pub taken : (old new : Taking) (chunks : List (List ℕ)) → ReadsInTurn Takes old chunks new → AllByRecursion P old.left → AllByRecursion P chunks × AllByRecursion P new.left
  taken old new [] turns all = (tt, subst (λ (t : Taking). AllByRecursion P t.left) (sym turns) all)
  taken old new (chunk ∷ chunks) turns all =
      let here : AllByRecursion P (chunk ∷ turns.0.left) = subst (λ (t : Taking). AllByRecursion P t.left) turns.1 all in
      let more = taken turns.0 new chunks turns.2 here.1 in
      ((here.0, more.0), more.1)

  -- so were those of holds that are given
  pub held : (old new : Taking) (holds : List Held) → FoldsTo Gives old holds new → AllByRecursion P old.left → AllByRecursion (λ h. All P h.chunks) holds × AllByRecursion P new.left
  held old new [] given all = (tt, subst (λ (t : Taking). AllByRecursion P t.left) given all)
  held old new (hold ∷ holds) given all =
      let first = taken old given.0 hold.chunks given.1 all in
      let more = held given.0 new holds given.2 first.1 in
      ((All-from_recursion P hold.chunks first.0, more.0), more.1)

-- what is read of pure chunks is exact
exact_of : (old new : Taking) (file content_type : List ℕ) (plan : Choice) (body : SentFile) → IsRead Gives old file plan content_type body new → All (IsPure file) old.left → IsExact file plan content_type body
exact_of old new file content_type plan body read pure =
    let first = held (IsPure file) old read.mid read.holds read.held.given (recursion_from_All (IsPure file) old.left pure) in
    let then_ = held (IsPure file) read.mid new read.more read.more_held.given first.1 in
    read.exact (All-append (λ h. All (IsPure file) h.chunks) read.holds read.more
    (All-from_recursion (λ h. All (IsPure file) h.chunks) read.holds first.0) (All-from_recursion (λ h. All (IsPure file) h.chunks) read.more then_.0))

stage_right : (request : FileRequest) (file : List ℕ) (chunks : List (List ℕ)) (stage : ReadStage) → IsStage request file chunks stage → IsRightStage request file chunks stage
stage_right request file chunks (Answered answer) (body, left, read, is) =
    λ pure. (body, exact_of (taking chunks) left file (type_of request.path) (plan_of request file) body read pure, is)
stage_right request file chunks (Waits name) is = tt
stage_right request file chunks Failed is = tt

pub begins_right : (request : FileRequest) (found : Result (List ℕ) Refusal) (content : Result FileReading Answer) → Begins request found content → IsRight request found content
begins_right request (Ok file) (Ok reading) (same, none, stage) =
    (same, stage_right request file reading.chunks reading.stage (subst (λ (cs : List (List ℕ)). IsStage request file cs reading.stage) (sym none) stage))
begins_right request (Ok file) (Err answer) begins = begins
begins_right request (Err reason) content begins = begins

pub next_right : (request : FileRequest) (file : List ℕ) (old new : FileReading) (took : Option (List ℕ)) → IsRight request (Ok file) (Ok old) → GoesOnWith request old took new
    → IsRight request (Ok file) (Ok new)
next_right request file old new (Some chunk) right (same, more, stage) =
    let is = same ∙ right.0 in (
      is,
      stage_right request file new.chunks new.stage
          (subst (λ (f : List ℕ). IsStage request f new.chunks new.stage) right.0 (subst (λ (cs : List (List ℕ)). IsStage request old.file cs new.stage) (sym more) stage)),
    )
next_right request file old new None right is =
    subst (λ (r : FileReading). IsRight request (Ok file) (Ok r)) (sym is) (right.0, tt)
