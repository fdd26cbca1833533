-- A server that is opened has what it knows, and what is read of it over a connection is of the files themselves.
use Rattle.std.specs.Prelude.{IsTrue}
use Rattle.std.proofs.Common.{Bool, ℕ, ◌+◌, List, [], ◌∷◌, Option, sym, subst}
use Rattle.blob_store.proofs.Honest.{opened}
use Rattle.blob_store.proofs.KeptOpen.{known_there}
use Rattle.blob_store.specs.Calls.{Call}
use Rattle.blob_store.specs.Keeping.{Keeps, Where}
use Rattle.blob_store.specs.declared.shelves.ShelfName.{ShelfName}
use Rattle.chunk_lru.specs.Caches.{Cache}
use Rattle.chunk_group.specs.Cached.{AllCached}
use Rattle.host_disk.specs.declared.disks.Disk.{Ghosts}
use Rattle.host_server.specs.Asks.{IsAnswer}
use Rattle.host_server.specs.Openings.{IsOpened}
use Rattle.host_server.specs.ReadBack.{Agreeing, HasKnown, IsKnownPiece, ReadsBack}
use Rattle.host_connection.specs.Serving.{AreServed, Stream}
use Rattle.host_server.specs.declared.servers.Server.{Server}
use Rattle.host_server.proofs.ExactReads.{answered_back}
use Rattle.host_server.proofs.Honest.{answered}
use Rattle.host_server.proofs.KnownFiles.{answered_known}

module _ {S D : Type 0} {disk : Ghosts D} (did : S → Call → S → Type 0) (failures : S → ℕ) (honest : S → Bool) (has : S → ShelfName → Option (List ℕ))
    (keeps : Keeps did honest has) where
  pub opened_known : (first second : D) (shelf : S) (limit : ℕ) (server : Server S D disk) → IsTrue (honest server.files.shelf) → IsOpened did first second shelf limit server → HasKnown has server
  opened_known first second shelf limit server so is =
      let files = is.has_files in
      let known = server.house.uploads in
      let now = server.files.shelf in
      record {
        on_shelf = known_there (Where honest did) has keeps.kept shelf now files.wanted known (opened did honest has keeps shelf now files.wanted known so files.opened);
        cached = subst (λ (c : Cache). AllCached (IsKnownPiece known) c) (sym is.cache) (tt, tt);
      }

  -- a shelf that is honest after a connection was before
  pub was_honest : (n : ℕ) (old : Server S D disk) (stream : Stream) (replies : List (List ℕ)) (new : Server S D disk) (left : Stream) → IsTrue (honest new.files.shelf)
      → AreServed (IsAnswer did failures) n old stream replies new left → IsTrue (honest old.files.shelf)
  was_honest n old stream [] new left so is = subst (λ (s : Server S D disk). IsTrue (honest s.files.shelf)) is.0 so
  was_honest n old stream (sent ∷ more) new left so (mid, rest, exchange, later) =
      let after = was_honest (n + 1) mid rest more new left so later in
      (answered did failures honest has keeps old mid after exchange.parts exchange.body exchange.answer exchange.is_answer).0

  -- what is read back over a connection that comes from a server which has what it knows
  abbrev IsGood : (n : ℕ) (old : Server S D disk) → Stream → List (List ℕ) → (new : Server S D disk) → Stream → Type 0
  IsGood n old stream replies new left = AreServed ReadsBack n old stream replies new left × HasKnown has new

  pub served_back : (n : ℕ) (old : Server S D disk) (stream : Stream) (replies : List (List ℕ)) (new : Server S D disk) (left : Stream) → IsTrue (honest new.files.shelf)
      → AreServed (Agreeing (IsAnswer did failures)) n old stream replies new left
      → IsTrue (honest old.files.shelf) × (HasKnown has old → IsGood n old stream replies new left)
  served_back n old stream [] new left so is = (
    subst (λ (s : Server S D disk). IsTrue (honest s.files.shelf)) is.0 so,
    λ known. (is, subst (λ (s : Server S D disk). HasKnown has s) (sym is.0) known),
  )
  served_back n old stream (sent ∷ more) new left so (mid, rest, exchange, later) =
      let parts = exchange.parts in
      let body = exchange.body in
      let answer = exchange.answer in
      let after = served_back (n + 1) mid rest more new left so later in
      let one = answered did failures honest has keeps old mid after.0 parts body answer exchange.is_answer.1 in (
        one.0,
        λ known.
            let next = answered_known (Where honest did) failures has keeps.kept old mid parts body answer exchange.is_answer.0 known one.1 in
            let good = after.1 next in (
              (
                mid,
                rest,
                record {
                  parts = parts;
                  body = body;
                  request = exchange.request;
                  interim = exchange.interim;
                  is_interim = exchange.is_interim;
                  closing = exchange.closing;
                  answer = answer;
                  is_answer = λ site version path file asks there.
                      answered_back (Where honest did) failures has keeps.kept old mid parts body answer site version path file known asks there one.1;
                  sent_is = exchange.sent_is;
                },
                good.0,
              ),
              good.1,
            ),
      )
