-- What a server knows is on its shelf, and stays there; what is in its cache is of that.
use Rattle.std.proofs.Common.{◌≡◌, ◌⊎◌, inl, inr, ℕ, true, false, cond, List, [], ◌∷◌, Option, Some, None, is_some, Result, Ok, Err, refl, sym, ap, subst, ◌∙◌, Bool}
use Rattle.std.specs.FinMap as map
use Rattle.std.specs.List.{AllByRecursion, Contains}
use Rattle.std.specs.Ordering.{eq_by_cmp}
use Rattle.std.proofs.lemmas.List.Elements.{All-contains, All-from_recursion}
use Rattle.host_names.specs.Digests.{digest_of, digest_cmp, digest_cmp_total}
use Rattle.byte_view.specs.Contents.{Contents, with_file}
use Rattle.host_names.specs.declared.digests.Digest.{Digest}
use Rattle.host_names.specs.declared.names.SiteName.{SiteName}
use Rattle.blob_store.specs.Calls.{Call, things_of}
use Rattle.blob_store.specs.Keeping.{AlwaysKeeps, HasFile, Thing}
use Rattle.blob_store.specs.declared.blobs.UploadFault.{UploadFault}
use Rattle.blob_store.specs.declared.shelves.ShelfName.{ShelfName}
use Rattle.blob_store.specs.declared.shelves.ShelfName.TheVariants.{Part}
use Rattle.blob_store.proofs.Kept.{file_put, moved, still_there_after, there_after_fault}
use Rattle.chunk_lru.specs.Caches.{Cache}
use Rattle.chunk_group.specs.Cached.{AllCached, CachedShelf, HasCached}
use Rattle.host_server.proofs.StoredIf.{IsStoredIf}
use Rattle.host_server.proofs.StoredReads.{fault_cached, fault_stays, read_cached, read_stays}
use Rattle.range_spec.specs.declared.selection.Choice.{Choice}
use Rattle.site_change.specs.declared.entries.Entry.{Entry}
use Rattle.http_wire.specs.Requests.{RequestParts}
use Rattle.site_change.proofs.MoreUploads.{kept-with_file}
use Rattle.host_api.specs.Types.{type_of}
use Rattle.host_api.specs.declared.bodies.Ask.{Ask}
use Rattle.host_api.specs.declared.bodies.Ask.TheVariants as ask
use Rattle.host_api.specs.declared.refusals.Refusal.{Refusal}
use Rattle.host_api.specs.declared.texts.Told.TheVariants.{Uploaded}
use Rattle.host_disk.specs.declared.disks.Disk.{Ghosts}
use Rattle.host_server.specs.Asks.{AskStops, IsAnswer, IsReplyToAsk}
use Rattle.host_answers.specs.Asking.{asked_for}
use Rattle.host_server.specs.Files.{IsFileSent, IsFileTold, IsReadReply}
use Rattle.host_replies.specs.FileAsks.{plan_of}
use Rattle.host_server.specs.Hosts.{Host, state_of, with_upload}
use Rattle.host_server.specs.Outcomes.{judge_upload, uploaded}
use Rattle.host_server.specs.ReadBack.{AgreesWith, HasKnown, IsKnownPiece, UploadAgrees}
use Rattle.host_replies.specs.Replies.{Answer, is_head}
use Rattle.host_server.specs.Storing.{IsRefusedByStore, IsStored, IsUploadReply}
use Rattle.host_replies.specs.Versions.{file_of}
use Rattle.host_server.specs.declared.servers.Server.{Server}
use Rattle.host_server.proofs.SameUploads.{host_same, published_same, stops_same, uploads_of}

-- ---- what is known once there is one file more

-- a file that is known then was known, or is that one
known_or_added : (uploads : Contents) (bytes : List ℕ) (digest : Digest) (file : List ℕ) → map.get uploads (digest_of bytes) ≡ None
    → map.get (with_file uploads bytes) digest ≡ Some file → (map.get uploads digest ≡ Some file) ⊎ (file ≡ bytes)
known_or_added uploads bytes digest file none at =
    let is : with_file uploads bytes ≡ map.insert uploads (digest_of bytes) bytes =
    ap (λ (o : Option (List ℕ)). cond (is_some o) uploads (map.insert uploads (digest_of bytes) bytes)) none in
    let found : cond (eq_by_cmp digest_cmp digest (digest_of bytes)) (Some bytes) (map.get uploads digest) ≡ Some file =
    sym (map.get-insert digest_cmp_total uploads (digest_of bytes) bytes digest) ∙ ap (λ (u : Contents). map.get u digest) (sym is) ∙ at in
    elim (eq_by_cmp digest_cmp digest (digest_of bytes)) as (λ t. cond t (Some bytes) (map.get uploads digest) ≡ Some file → (map.get uploads digest ≡ Some file) ⊎ (file ≡ bytes)) [
      | true ↦ λ e. let same : file ≡ bytes = cc e in inr same
      | false ↦ λ e. inl e
    ] found

-- ---- what is in the cache

all_weaker : (P Q : List ℕ → Type 0) → ((chunk : List ℕ) → P chunk → Q chunk) → (chunks : List (List ℕ)) → AllByRecursion P chunks → AllByRecursion Q chunks
all_weaker P Q weaker [] all = tt
all_weaker P Q weaker (chunk ∷ chunks) all = (weaker chunk all.0, all_weaker P Q weaker chunks all.1)

cached_weaker : (P Q : List ℕ → Type 0) → ((chunk : List ℕ) → P chunk → Q chunk) → (cache : Cache) → AllCached P cache → AllCached Q cache
cached_weaker P Q weaker cache all = (all_weaker P Q weaker cache.main all.0, all_weaker P Q weaker cache.hot all.1)

-- a piece of a known file is one with one file more
still_piece : (uploads : Contents) (bytes chunk : List ℕ) → IsKnownPiece uploads chunk → IsKnownPiece (with_file uploads bytes) chunk
still_piece uploads bytes chunk (digest, file, at, among) = (digest, file, kept-with_file uploads bytes digest file at, among)

-- a shelf that has a file has each of its pieces
piece_there : {S : Type 0} (has : S → ShelfName → Option (List ℕ)) (shelf : S) (file chunk : List ℕ) → HasFile has shelf file
    → Contains (things_of file) (Part (digest_of chunk), chunk) → has shelf (Part (digest_of chunk)) ≡ Some chunk
piece_there has shelf file chunk there among =
    let P : Thing → Type 0 = λ t. has shelf t.0 ≡ Some t.1 in
    All-contains P (things_of file) (Part (digest_of chunk), chunk) (All-from_recursion P (things_of file) there) among

-- so it has what is in the cache of what is known
pub known_cached : {S D : Type 0} {disk : Ghosts D} (has : S → ShelfName → Option (List ℕ)) (server : Server S D disk) → HasKnown has server → HasCached has server.files
known_cached has server known =
    cached_weaker (IsKnownPiece server.house.uploads) (λ chunk. has server.files.shelf (Part (digest_of chunk)) ≡ Some chunk)
    (λ chunk piece. let (digest, file, at, among) = piece in piece_there has server.files.shelf file chunk (known.on_shelf digest file at) among)
    server.files.cache known.cached

module _ {S : Type 0} (did : S → Call → S → Type 0) (failures : S → ℕ) (has : S → ShelfName → Option (List ℕ)) (keeps : AlwaysKeeps did has) where
  stored_known : (uploads : Contents) (old new : S) (bytes : List ℕ) → AgreesWith uploads bytes
      → ((digest : Digest) (file : List ℕ) → map.get uploads digest ≡ Some file → HasFile has old file) → IsStored did uploads old bytes new
      → (digest : Digest) (file : List ℕ) → map.get (with_file uploads bytes) digest ≡ Some file → HasFile has new file
  stored_known uploads old new bytes agrees known (small, inl (there, same)) digest file at =
      let is : with_file uploads bytes ≡ uploads = ap (λ t. cond t uploads (map.insert uploads (digest_of bytes) bytes)) there in
      subst (λ (s : S). HasFile has s file) (sym same) (known digest file (ap (λ (u : Contents). map.get u digest) (sym is) ∙ at))
  stored_known uploads old new bytes agrees known (small, inr (none, puts)) digest file at = elim (known_or_added uploads bytes digest file none at) [
    | inl had ↦ still_there_after did has keeps uploads old new (things_of file) bytes None (agrees.known digest file had) puts (known digest file had)
    | inr is ↦ subst (HasFile has new) (sym is) (file_put did has keeps uploads old new bytes agrees.itself agrees.known known puts)
  ]

  -- a reading of a known file changes nothing on the shelf, and the cache has pieces of known files then
  module _ (old new : CachedShelf S) (path file : List ℕ) (plan : Choice) where
    sent_stays : (answer : Answer) → IsFileSent did failures old path file plan answer new → (name : ShelfName) → has new.shelf name ≡ has old.shelf name
    sent_stays answer (inl (none, says, same)) name = ap (λ (n : CachedShelf S). has n.shelf name) same
    sent_stays answer (inr (inl (body, read, says))) name = read_stays did failures has keeps old new file (type_of path) plan body read name
    sent_stays answer (inr (inr (why, other, failed, says))) name = fault_stays did failures has keeps old new file plan why failed name

    sent_cached : (P : List ℕ → Type 0) → ((chunk : List ℕ) → Contains (things_of file) (Part (digest_of chunk), chunk) → P chunk) → (answer : Answer)
        → HasFile has old.shelf file → HasCached has old → AllCached P old.cache → IsFileSent did failures old path file plan answer new → AllCached P new.cache
    sent_cached P pieces answer there cached all (inl (none, says, same)) = subst (λ (n : CachedShelf S). AllCached P n.cache) (sym same) all
    sent_cached P pieces answer there cached all (inr (inl (body, read, says))) =
        read_cached did failures has keeps file P pieces old new (type_of path) plan body there cached all read
    sent_cached P pieces answer there cached all (inr (inr (why, other, failed, says))) =
        fault_cached did failures has keeps file P pieces old new plan why there cached all failed

    told_stays : (head_only : Bool) (answer : Answer) → IsFileTold did failures head_only old path file plan answer new
        → (name : ShelfName) → has new.shelf name ≡ has old.shelf name
    told_stays true answer (says, same) name = ap (λ (n : CachedShelf S). has n.shelf name) same
    told_stays false answer sent name = sent_stays answer sent name

    told_cached : (P : List ℕ → Type 0) → ((chunk : List ℕ) → Contains (things_of file) (Part (digest_of chunk), chunk) → P chunk) → (head_only : Bool) (answer : Answer)
        → HasFile has old.shelf file → HasCached has old → AllCached P old.cache → IsFileTold did failures head_only old path file plan answer new → AllCached P new.cache
    told_cached P pieces true answer there cached all (says, same) = subst (λ (n : CachedShelf S). AllCached P n.cache) (sym same) all
    told_cached P pieces false answer there cached all sent = sent_cached P pieces answer there cached all sent

module _ {S D : Type 0} {disk : Ghosts D} (did : S → Call → S → Type 0) (failures : S → ℕ) (has : S → ShelfName → Option (List ℕ)) (keeps : AlwaysKeeps did has) where
  -- ---- where no more is known

  -- what is known stays on the shelf
  shelf_over : (old new : Server S D disk) → new.house.uploads ≡ old.house.uploads → ((name : ShelfName) → has new.files.shelf name ≡ has old.files.shelf name)
      → HasKnown has old
      → (digest : Digest) (file : List ℕ) → map.get new.house.uploads digest ≡ Some file → HasFile has new.files.shelf file
  shelf_over old new uploads same known digest file at =
      moved has old.files.shelf new.files.shelf (things_of file) same (known.on_shelf digest file (ap (λ (u : Contents). map.get u digest) (sym uploads) ∙ at))

  -- what is in a cache that stays is of what is known
  cache_over : (old new : Server S D disk) → new.house.uploads ≡ old.house.uploads → new.files.cache ≡ old.files.cache → HasKnown has old
      → AllCached (IsKnownPiece new.house.uploads) new.files.cache
  cache_over old new uploads cache known =
      subst (λ (u : Contents). AllCached (IsKnownPiece u) new.files.cache) (sym uploads) (subst (λ (c : Cache). AllCached (IsKnownPiece old.house.uploads) c) (sym cache) known.cached)

  goes_over : (old new : Server S D disk) → new.house.uploads ≡ old.house.uploads → ((name : ShelfName) → has new.files.shelf name ≡ has old.files.shelf name)
      → new.files.cache ≡ old.files.cache → HasKnown has old → HasKnown has new
  goes_over old new uploads same cache known = record { on_shelf = shelf_over old new uploads same known; cached = cache_over old new uploads cache known }

  unmoved : (old new : Server S D disk) → new.house.uploads ≡ old.house.uploads → new.files ≡ old.files → HasKnown has old → HasKnown has new
  unmoved old new uploads files =
      goes_over old new uploads (λ name. ap (λ (f : CachedShelf S). has f.shelf name) files) (ap (λ (f : CachedShelf S). f.cache) files)

  as_it_was : (old new : Server S D disk) → new ≡ old → HasKnown has old → HasKnown has new
  as_it_was old new is known = subst (λ (s : Server S D disk). HasKnown has s) (sym is) known

  -- ---- an upload

  -- the bytes are stored, and known from then on
  stored_over : (server next : Server S D disk) (bytes : List ℕ) → AgreesWith server.house.uploads bytes → HasKnown has server
      → IsStored did server.house.uploads server.files.shelf bytes next.files.shelf → next.files.cache ≡ server.files.cache
      → next.house.uploads ≡ with_file server.house.uploads bytes → HasKnown has next
  stored_over server next bytes agrees known stored cache same =
      let Old = IsKnownPiece server.house.uploads in
      let More = IsKnownPiece (with_file server.house.uploads bytes) in
      let more = cached_weaker Old More (still_piece server.house.uploads bytes) server.files.cache known.cached in
      record {
        on_shelf = λ digest file found.
            stored_known did failures has keeps server.house.uploads server.files.shelf next.files.shelf bytes agrees known.on_shelf stored digest file
            (ap (λ (u : Contents). map.get u digest) (sym same) ∙ found);
        cached = subst (λ (u : Contents). AllCached (IsKnownPiece u) next.files.cache) (sym same)
            (subst (λ (c : Cache). AllCached More c) (sym cache) more);
      }

  uploaded_known : (server next : Server S D disk) (n : ℕ) (bytes : List ℕ) (judged : Result (SiteName × Digest) Refusal) → AgreesWith server.house.uploads bytes → HasKnown has server
      → IsStoredIf did judged server.house.uploads server.files.shelf bytes next.files.shelf → next.files.cache ≡ server.files.cache
      → next.house ≡ (uploaded server.house n bytes judged).host → HasKnown has next
  uploaded_known server next n bytes (Ok at) agrees known stored cache is =
      stored_over server next bytes agrees known stored cache (uploads_of next.house _ is ∙ published_same (with_upload server.house bytes) at.0 n (λ published. Uploaded published at.1))
  uploaded_known server next n bytes (Err why) agrees known stored cache is =
      goes_over server next (uploads_of next.house server.house is) (λ name. ap (λ (s : S). has s name) stored) cache known

  refused_known : (server next : Server S D disk) (judged : Result (SiteName × Digest) Refusal) (bytes : List ℕ) (why : UploadFault) → AgreesWith server.house.uploads bytes → HasKnown has server
      → IsRefusedByStore did failures server judged bytes why next → HasKnown has next
  refused_known server next judged bytes why agrees known refused = record {
    on_shelf = λ digest file found.
        let had = ap (λ (h : Host). map.get h.uploads digest) (sym refused.same) ∙ found in
        there_after_fault did has keeps server.house.uploads server.files.shelf next.files.shelf (things_of file) bytes why (agrees.known digest file had) refused.not_stored.put
        (known.on_shelf digest file had);
    cached = cache_over server next (uploads_of next.house server.house refused.same) refused.cache known;
  }

  upload_known : (server next : Server S D disk) (n : ℕ) (path bytes : List ℕ) (answer : Answer) → AgreesWith server.house.uploads bytes → HasKnown has server
      → IsUploadReply did failures server n path bytes answer next → HasKnown has next
  upload_known server next n path bytes answer agrees known (inl (told, done, says)) =
      uploaded_known server next n bytes (judge_upload server.house n path bytes) agrees known done.stored done.cache done.host_is
  upload_known server next n path bytes answer agrees known (inr (why, refused, says)) = refused_known server next (judge_upload server.house n path bytes) bytes why agrees known refused

  -- ---- a read

  -- a reading of a known file was made of these files
  module _ (server next : Server S D disk) (file : List ℕ) (known : HasKnown has server) (uploaded : map.get server.house.uploads (digest_of file) ≡ Some file) (same : next.house ≡ server.house) where
    there : HasFile has server.files.shelf file
    there = known.on_shelf (digest_of file) file uploaded

    -- each of its pieces is one of a known file
    its_piece : (chunk : List ℕ) → Contains (things_of file) (Part (digest_of chunk), chunk) → IsKnownPiece server.house.uploads chunk
    its_piece chunk among = (digest_of file, file, uploaded, among)

    after_read : ((name : ShelfName) → has next.files.shelf name ≡ has server.files.shelf name) → AllCached (IsKnownPiece server.house.uploads) next.files.cache
        → HasKnown has next
    after_read stays cached = record {
      on_shelf = shelf_over server next (uploads_of next.house server.house same) stays known;
      cached = subst (λ (u : Contents). AllCached (IsKnownPiece u) next.files.cache) (sym (uploads_of next.house server.house same)) cached;
    }

  read_known : (server next : Server S D disk) (parts : RequestParts) (path : List ℕ) (file : Result (List ℕ) Refusal) (answer : Answer) → HasKnown has server
      → IsReadReply did failures server parts path file answer next → HasKnown has next
  read_known server next parts path (Err why) answer known is = as_it_was server next is.1 known
  read_known server next parts path (Ok file) answer known (uploaded, range, asks, sent, same) =
      let plan = plan_of parts range file in
      after_read server next file known uploaded same (told_stays did failures has keeps server.files next.files path file plan (is_head parts) answer sent)
      (told_cached did failures has keeps server.files next.files path file plan (IsKnownPiece server.house.uploads) (its_piece server next file known uploaded same) (is_head parts) answer
      (there server next file known uploaded same) (known_cached has server known) known.cached sent)

  -- ---- any request

  reply_known : (server next : Server S D disk) (parts : RequestParts) (body : List ℕ) (asking : Result Ask Refusal) (answer : Answer)
      → ((n : ℕ) (path : List ℕ) → asking ≡ Ok (ask.Upload n path) → AgreesWith server.house.uploads body) → HasKnown has server
      → IsReplyToAsk did failures server parts body asking answer next → HasKnown has next
  reply_known server next parts body (Ok (ask.Read site version path)) answer agrees known is =
      read_known server next parts path (file_of (state_of server.house) site version path) answer known is
  reply_known server next parts body (Ok (ask.Upload n path)) answer agrees known is = upload_known server next n path body answer (agrees n path refl) known is
  reply_known server next parts body asking answer agrees known is =
      unmoved server next (uploads_of next.house is.0.host is.3 ∙ host_same server.house asking is.0 is.1) is.4 known

  stops_known : (server next : Server S D disk) (body : List ℕ) (asking : Result Ask Refusal) (missed : Entry)
      → ((n : ℕ) (path : List ℕ) → asking ≡ Ok (ask.Upload n path) → AgreesWith server.house.uploads body) → HasKnown has server
      → AskStops did server body asking missed next → HasKnown has next
  stops_known server next body (Ok (ask.Upload n path)) missed agrees known left =
      stored_over server next body (agrees n path refl) known left.stored left.cache (uploads_of next.house _ left.known)
  stops_known server next body asking missed agrees known is = unmoved server next (stops_same server.house next.house asking missed is.0) is.1 known

  pub answered_known : (server next : Server S D disk) (parts : RequestParts) (body : List ℕ) (answer : Answer) → UploadAgrees server.house.uploads parts body → HasKnown has server
      → IsAnswer did failures server parts body answer next → HasKnown has next
  answered_known server next parts body answer agrees known (inl (inl (held, says, same), kept)) = as_it_was server next same known
  answered_known server next parts body answer agrees known (inl (inr (free, reply), kept)) = reply_known server next parts body (asked_for parts body) answer agrees known reply
  answered_known server next parts body answer agrees known (inr (inl (says, inl (same, takes), kept))) = as_it_was server next same known
  answered_known server next parts body answer agrees known (inr (inl (says, inr (free, missed, stops), kept))) = stops_known server next body (asked_for parts body) missed agrees known stops
  answered_known server next parts body answer agrees known (inr (inr (says, missed, stops, broken))) = stops_known server next body (asked_for parts body) missed agrees known stops
