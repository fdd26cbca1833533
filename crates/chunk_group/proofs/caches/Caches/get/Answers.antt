use Rattle.std.proofs.Common.{ap}
use Rattle.chunk_group.proofs.Misses.{unmoved}
use Rattle.chunk_group.proofs.caches.Caches.get.Goals as goal

pub returns-clause-miss : goal.returns-clause-miss
returns-clause-miss g c = λ missed. (c.get.ensures.miss missed, ap (λ cache. record { cache = cache; coin = c.args.self.now.coin }) (unmoved c.get.result c.args.key.now c.args.self.now.cache c.get.new.self missed (c.get.ensures.miss missed) c.get.ensures.ok))
