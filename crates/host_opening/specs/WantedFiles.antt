-- Which files a store has to be opened with, by the entries of a history.
use Rattle.std.specs.Prelude.{◌≡◌, ◌⊎◌, ◌↔◌, ℕ, Bool, IsTrue, List, Some, Contains, map}
use Rattle.std.specs.List.Sorted.{IsStrictlySortedBy}
use Rattle.host_names.specs.Digests.{digest_cmp}
use Rattle.host_names.specs.declared.digests.Digest.{Digest}
use Rattle.host_names.specs.declared.names.SiteName.{SiteName}
use Rattle.blob_store.specs.declared.openings.Wanted.{Wanted}
use Rattle.site_state.specs.Listings.{Listed}
use Rattle.site_state.specs.Missing.{digests_of}
use Rattle.site_change.specs.declared.commands.Command.TheVariants.{Open, Publish, Restore}
use Rattle.site_change.specs.declared.entries.Entry.TheVariants.{Change}
use Rattle.change_log.specs.Logs.{Log, entry_at}

-- the entry of this number opens a deploy of the site, and lists the digest
abbrev pub Lists : Log → SiteName → ℕ → Digest → Type 0
Lists log site n digest =
    (files : Listed) × (auto : Bool) × (entry_at log n ≡ Some (Change (Open site files auto))) × Contains (digests_of files.1) digest

-- some entry publishes or restores the deploy of this site and number; it may come before or after any other, and it may be undone
abbrev pub IsPublished : Log → SiteName → ℕ → Type 0
IsPublished log site n =
    (k : ℕ) × ((entry_at log k ≡ Some (Change (Publish site n))) ⊎ (entry_at log k ≡ Some (Change (Restore site n))))

-- the digests, in the order in which they are wanted
abbrev pub wanted_digests : List Wanted → List Digest
wanted_digests wanted = map (λ one. one.digest) wanted

-- Each digest that a deploy lists is wanted, no other, and each once, in their order. Its file must be there exactly where a deploy that
-- lists it is published or restored.
pub record AreWanted (log : Log) (wanted : List Wanted) : Type 0 where
  pub rising : IsStrictlySortedBy digest_cmp (wanted_digests wanted)
  pub listed : (digest : Digest) → Contains (wanted_digests wanted) digest ↔ ((site : SiteName) × (n : ℕ) × Lists log site n digest)
  pub must : (one : Wanted) → Contains wanted one
      → IsTrue one.must ↔ ((site : SiteName) × (n : ℕ) × Lists log site n one.digest × IsPublished log site n)
