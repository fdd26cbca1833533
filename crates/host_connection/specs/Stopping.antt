-- Why no request is read where a head or a body isn't.
use Rattle.std.specs.Prelude.{Bool, false}
use Rattle.http_wire.specs.declared.faults.BodyFault.{BodyFault}
use Rattle.http_wire.specs.declared.faults.BodyFault.TheVariants as body_fault
use Rattle.http_wire.specs.declared.faults.HeadFault.{HeadFault}
use Rattle.http_wire.specs.declared.faults.HeadFault.TheVariants as head_fault
use Rattle.host_api.specs.declared.refusals.HeadRefusal.TheVariants.{HeadTooLarge, BadHead}
use Rattle.host_connection.specs.declared.stops.Stop.{Stop}
use Rattle.host_connection.specs.declared.stops.Stop.TheVariants as stop

-- where no head is; the method isn't known, so the reply has its body
abbrev pub stop_of_head : HeadFault → Stop
stop_of_head head_fault.Ended = stop.Ended
stop_of_head head_fault.ReadFault = stop.ReadFault
stop_of_head head_fault.HeadTooLarge = stop.Refused HeadTooLarge false
stop_of_head head_fault.BadHead = stop.Refused BadHead false
stop_of_head head_fault.OutOfMemory = stop.OutOfMemory false

-- where the body of a head isn't
abbrev pub stop_of_body : Bool → BodyFault → Stop
stop_of_body head_only body_fault.Ended = stop.Ended
stop_of_body head_only body_fault.ReadFault = stop.ReadFault
stop_of_body head_only body_fault.OutOfMemory = stop.OutOfMemory head_only
