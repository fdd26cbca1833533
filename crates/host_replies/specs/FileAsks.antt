-- What a request for a file asks for, and why a file can't be sent.
use Rattle.std.specs.Prelude.{◌≡◌, ℕ, List, [], ◌∷◌, Bool, true, length, codes, if◌then◌else◌}
use Rattle.std.specs.Str.{bytes_eq}
use Rattle.host_names.specs.Digests.{digest_of}
use Rattle.chunk_reads.specs.declared.faults.ReadFault.{ReadFault}
use Rattle.chunk_reads.specs.declared.faults.ReadFault.TheVariants as fault
use Rattle.range_spec.specs.declared.grammar.Asked.{Asked}
use Rattle.range_spec.specs.declared.grammar.Asked.TheVariants.{Ignore}
use Rattle.range_spec.specs.declared.selection.Choice.{Choice}
use Rattle.range_spec.specs.declared.selection.Choice.TheVariants.{Whole}
use Rattle.range_spec.specs.Understood.{IsUnderstoodAs}
use Rattle.range_reply.specs.Conditions.{allows_range}
use Rattle.range_reply.specs.Plans.{choice_in}
use Rattle.http_wire.specs.Fields.{values_of}
use Rattle.http_wire.specs.Requests.{RequestParts}
use Rattle.host_api.specs.declared.refusals.Refusal.{Refusal}
use Rattle.host_api.specs.declared.refusals.Refusal.TheVariants as reason

-- what these values of Range ask for (RFC 9110, section 14.2): a lone one of a GET
abbrev pub AskedBy : Bool → List (List ℕ) → Asked → Type 0
AskedBy true (value ∷ []) range = IsUnderstoodAs value range
AskedBy is_get values range = range ≡ Ignore

-- what a request of these parts asks for by its Range
abbrev pub AsksRange : RequestParts → Asked → Type 0
AsksRange parts range = AskedBy (bytes_eq parts.method (codes "GET")) (values_of (codes "range") parts.fields) range

-- what is to be sent of a file where a request of these parts asks for that: a range is ignored where the If-Range fields don't
-- allow it (section 13.1.5); without a Range field they change nothing
abbrev pub plan_of : RequestParts → Asked → List ℕ → Choice
plan_of parts range file =
    if allows_range (digest_of file) (values_of (codes "if-range") parts.fields) then choice_in range (length file) else Whole

-- why a file can't be read, as it is told
abbrev pub refusal_of_read : ReadFault → Refusal
refusal_of_read fault.Missing = reason.Missing
refusal_of_read fault.Damaged = reason.Damaged
refusal_of_read fault.Device = reason.Device
refusal_of_read fault.OutOfMemory = reason.OutOfMemory
