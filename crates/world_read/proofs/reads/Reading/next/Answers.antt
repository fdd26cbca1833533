use Rattle.std.proofs.Common.{rules, ◌≡◌, ◌∙◌, List, ℕ, ◌∷◌, ◌++◌, [], map, option_map, Option, Some, ap, subst, sym}
use Rattle.std.proofs.lemmas.List.{map-append}
use Rattle.std.specs.declared.sync.Arc.{Arc}
use Rattle.std.proofs.Common.{Global}
use Rattle.byte_view.specs.declared.chunks.Chunk.{Chunk}
use Rattle.world_read.specs.Reads.{FileReading, GoesOnWith, IsStage}
use Rattle.world_read.specs.Stages.{stage_of}
use Rattle.world_read.proofs.reads.Reading.next.Goals as goal

pub returns : goal.returns
returns c =
    let old : FileReading = c.args.self.now in
    let chunk : List ℕ = c.in-Some.chunk.value in
    let same : c.in_ok-info.info.value ≡ old.file = c.in_ok-info.ensures ∙ ap (λ (r : FileReading). r.file) c.self.view_is in
    let were : map (λ it. it.value) c.in_ok-chunks.chunks.items ≡ old.chunks = search rules in
    let pushed : c.push.new.self.items ≡ c.in_ok-chunks.chunks.items ++ c.in-Some.chunk ∷ [] = search rules in
    let more : map (λ it. it.value) c.push.new.self.items ≡ old.chunks ++ chunk ∷ [] =
    ap (map (λ it. it.value)) pushed ∙ map-append (λ it. it.value) c.in_ok-chunks.chunks.items (c.in-Some.chunk ∷ []) ∙ ap (λ (cs : List (List ℕ)). cs ++ chunk ∷ []) were in
    let took : option_map (λ it. it.value) c.args.taken ≡ Some chunk = ap (option_map (λ it. it.value)) c.in-Some.is in
    let stage : IsStage c.args.request.now c.in_ok-info.info.value (map (λ it. it.value) c.push.new.self.items) (stage_of c.in_ok-stage.stage) =
    subst (λ (cs : List (Arc Chunk Global)). IsStage c.args.request.now c.in_ok-info.info.value (map (λ it. it.value) cs) (stage_of c.in_ok-stage.stage)) c.as_slice-2.ensures.value c.in_ok-stage.ensures in
    subst (λ (t : Option (List ℕ)). GoesOnWith c.args.request.now old t (record { file = c.in_ok-info.info.value; chunks = map (λ it. it.value) c.push.new.self.items; stage = stage_of c.in_ok-stage.stage })) (sym took) (
      same,
      more,
      subst (λ (f : List ℕ). IsStage c.args.request.now f (old.chunks ++ chunk ∷ []) (stage_of c.in_ok-stage.stage)) same
          (subst (λ (cs : List (List ℕ)). IsStage c.args.request.now c.in_ok-info.info.value cs (stage_of c.in_ok-stage.stage)) more stage),
    )
