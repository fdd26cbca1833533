use Rattle.http_wire.proofs.Searches.{search_on, search_through}
use Rattle.http_wire.proofs.scans.Search.go_on.Goals as goal

pub returns-clause-searched : goal.returns-clause-searched
returns-clause-searched c =
    search_on c.args.bytes.now c.args.self.now.state c.scan-state.result.0 c.args.self.now.scanned c.scan-state.result.1 c.requires c.scan-state.ensures.within c.scan-state.ensures.same

pub returns-clause-through : goal.returns-clause-through
returns-clause-through c =
    search_through c.args.bytes.now c.args.self.now.state c.scan-state.result.0 c.args.self.now.scanned c.scan-state.result.1 c.requires c.scan-state.ensures.through
