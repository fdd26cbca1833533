-- What a visitor has seen after a look or a telling.
use Rattle.change_log.specs.Logs.{Log}
use Rattle.world_desk.specs.declared.visitors.Sight.{Sight}
use Rattle.world_desk.specs.declared.visitors.Sight.TheVariants.{Look, Telling}
use Rattle.world_desk.specs.Visitors.{Watched, looked, taught}

-- it sees this log by a look, or as it is told
abbrev pub seen : Sight → Log → Watched → Watched
seen Look log v = looked log v
seen Telling log v = taught log v
