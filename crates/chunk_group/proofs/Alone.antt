-- A node that is alone asks no peer.
use Rattle.std.proofs.Common.{◌≡◌, inl, inr, ℕ, ◌<◌, List, Result, Ok, Err, sym, ap, subst, ◌∙◌, arith}
use Rattle.hex.specs.Hex.{encode_lower}
use Rattle.host_names.specs.declared.digests.Digest.{Digest}
use Rattle.chunk_reads.specs.declared.faults.ReadFault.{ReadFault}
use Rattle.peer_ring.proofs.Placed.{owner_is_peer}
use Rattle.chunk_group.specs.Fills.{IsMiss, IsPassedOn}
use Rattle.chunk_group.specs.Kept.{Drew}
use Rattle.chunk_group.specs.Loads.{Fetched, IsAsked, Loaded}
use Rattle.chunk_group.specs.Lone.{IsAnswered, IsAskedOfSource, IsLone}
use Rattle.chunk_group.specs.Owners.{IsOther, Owns}
use Rattle.chunk_group.specs.declared.caches.Caches.{Caches}
use Rattle.chunk_group.specs.declared.loads.Giver.TheVariants.{Source, Peer}
use Rattle.chunk_group.specs.declared.solo_groups.SoloGroup.{SoloGroup}

-- no other node owns a key
no_other : {H S L C : Type 0} (hashed : H → List ℕ → ℕ) (group : SoloGroup H S L C) (key : Digest) (peer : ℕ) → IsLone group
    → IsOther (Owns hashed group.place.ring key) group.place.me peer → ⊥
no_other hashed group key peer lone other =
    let ring = group.place.ring in
    let below = owner_is_peer (hashed ring.hash) ring.names (hashed ring.hash (encode_lower key.0)) peer other.0 in
    let few : peer < 1 = subst (λ n. peer < n) lone.0 below in
    let none : peer ≡ 0 = omega (arith, few) in
    other.1 (none ∙ sym lone.1)

-- what the source gave is passed on
passed : {C : Type 0} (drew : Drew C) (given answer : Result (List ℕ) ReadFault) (old new : Caches C) → IsPassedOn drew Source given old answer new
    → IsAnswered given old.cache answer new.cache
passed drew (Ok chunk) answer old new (inl (is, kept)) = inl (is, kept.0)
passed drew (Ok chunk) answer old new (inr (is, same)) = inr (is, ap (λ caches. caches.cache) same)
passed drew (Err why) answer old new on = (on.0, ap (λ caches. caches.cache) on.1)

module _ {H S L C : Type 0} (loaded : Loaded S) (fetched : Fetched L) (drew : Drew C) (hashed : H → List ℕ → ℕ) where
  pub asks_source : (old new : SoloGroup H S L C) (key : Digest) (answer : Result (List ℕ) ReadFault) → IsLone old
      → IsMiss loaded fetched drew (Owns hashed old.place.ring key) old.place.me old.node key answer new.node → IsAskedOfSource loaded old key answer new
  asks_source old new key answer lone miss =
      (elim miss.giver as (λ giver.
      IsAsked loaded fetched (Owns hashed old.place.ring key) old.place.me giver old.node.suppliers key miss.given new.node.suppliers
      → IsPassedOn drew giver miss.given old.node.caches answer new.node.caches → IsAskedOfSource loaded old key answer new) [
        | Source ↦ λ asked on. record {
          missed = miss.missed;
          given = miss.given;
          gave = asked.1;
          answered = passed drew miss.given answer old.node.caches new.node.caches on;
        }
        | Peer ↦ λ asked on. absurd (no_other hashed old key asked.0 lone asked.2)
      ]) miss.asked miss.answered
