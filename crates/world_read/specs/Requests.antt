-- What a GET of a file asks for.
use Rattle.std.specs.Prelude.{ℕ, List, Result, length, map}
use Rattle.host_names.specs.Digests.{digest_of}
use Rattle.site_state.specs.States.{State}
use Rattle.host_api.specs.declared.refusals.Refusal.{Refusal}
use Rattle.range_spec.specs.declared.selection.Choice.{Choice}
use Rattle.range_reply.specs.Conditions.{condition_of}
use Rattle.range_reply.specs.Plans.{planned}
use Rattle.host_replies.specs.Versions.{file_of}
use Rattle.world_read.specs.declared.requests.FileRequest.{FileRequest}

-- ---- the file

-- the file that is asked for
abbrev pub file_asked : State → FileRequest → Result (List ℕ) Refusal
file_asked state request = file_of state request.site request.version request.path

-- ---- what is sent of it

-- the values of the If-Range fields
abbrev pub if_range_values : FileRequest → List (List ℕ)
if_range_values request = map (λ value. value.items) request.if_range.items

-- what is to be sent of the file
abbrev pub plan_of : FileRequest → List ℕ → Choice
plan_of request file = planned request.asked (condition_of (digest_of file) (if_range_values request)) (length file)
