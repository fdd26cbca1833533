use Rattle.std.proofs.Common.{◌≡◌, drop}
use Rattle.desk_driver.specs.CheapHash.{cheap_hash}
use Rattle.desk_driver.proofs.group.rings.CheapHashRingHash.hash.Given as goal

-- the rest, from here on, gives the hash of all
abbrev pub invariant-loop-byte : goal.invariant-loop-byte
invariant-loop-byte l = cheap_hash l.hash (drop l.byte-index l.bytes) ≡ cheap_hash 0 l.bytes
