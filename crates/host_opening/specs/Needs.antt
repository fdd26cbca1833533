-- Which files are needed, step by step.
use Rattle.std.specs.Prelude.{◌≡◌, ◌||◌, ℕ, zero, suc, ◌+◌, Bool, true, false, List, Option, Some, None, if◌then◌else◌}
use Rattle.std.specs.BTreeMap.{BTreeMap, get, is_at}
use Rattle.std.specs.BTreeSet.{BTreeSet, contains}
use Rattle.std.specs.List.{list_any}
use Rattle.std.specs.Option.{option_map_or}
use Rattle.host_names.specs.Cells.{cell_cmp}
use Rattle.host_names.specs.Digests.{digest_cmp}
use Rattle.host_names.specs.declared.cells.Cell.{Cell}
use Rattle.host_names.specs.declared.cells.Cell.TheVariants as cell
use Rattle.host_names.specs.declared.digests.Digest.{Digest}
use Rattle.blob_store.specs.declared.openings.Wanted.{Wanted}
use Rattle.site_state.specs.Files.{Paths}
use Rattle.site_change.specs.declared.commands.Command.TheVariants.{Open, Publish, Restore}
use Rattle.site_change.specs.declared.entries.Entry.{Entry}
use Rattle.site_change.specs.declared.entries.Entry.TheVariants.{Change}
use Rattle.change_log.specs.Logs.{Log, entry_at}

-- ---- which deploys are published

-- the cell of the deploy that the entry publishes or restores
abbrev pub published_by : Entry → Option Cell
published_by (Change (Publish site n)) = Some (cell.Kept site n)
published_by (Change (Restore site n)) = Some (cell.Kept site n)
published_by _ = None

-- whether the entry publishes or restores the deploy of this cell
abbrev pub publishes : Cell → Entry → Bool
publishes c entry = option_map_or (λ p. is_at (cell_cmp p) c) (published_by entry) false

-- the set has the cells of the deploys that these entries publish
abbrev pub HasPublished : Log → BTreeSet Cell → Type 0
HasPublished log published = (c : Cell) → contains cell_cmp published c ≡ list_any (publishes c) log.entries

-- ---- which digests are needed

-- what two need together
abbrev pub more : Option Bool → Option Bool → Option Bool
more None y = y
more (Some a) None = Some a
more (Some a) (Some b) = Some (a || b)

-- whether a digest is the listed one
abbrev pub is_listed : Digest → Option Digest → Bool
is_listed q listed = option_map_or (λ digest. is_at (digest_cmp digest) q) listed false

-- what is needed of a digest, where it is needed at all
abbrev pub need_if : Bool → Bool → Option Bool
need_if is_needed must = if is_needed then Some must else None

-- what these files need of a digest
abbrev pub need_in : Bool → Paths (Option Digest) → Digest → Option Bool
need_in must files q = need_if (list_any (λ f. is_listed q f.1) files) must

-- what the entry of a number needs of a digest, where this is the log
abbrev pub need_at : Log → ℕ → Option Entry → Digest → Option Bool
need_at log n (Some (Change (Open site files auto))) q = need_in (list_any (publishes (cell.Kept site n)) log.entries) files.1 q
need_at log n _ q = None

-- what the entries up to the number k need of a digest
abbrev pub need_up_to : Log → ℕ → Digest → Option Bool
need_up_to log zero q = None
need_up_to log (suc k) q = more (need_at log (k + 1) (entry_at log (k + 1)) q) (need_up_to log k q)

-- the map tells of each digest what is needed of it
abbrev pub HasNeeds : (Digest → Option Bool) → BTreeMap Digest Bool → Type 0
HasNeeds need needs = (q : Digest) → get digest_cmp needs q ≡ need q

-- one that is wanted, by its digest and whether its file must be there
abbrev pub one_wanted : Digest × Bool → Wanted
one_wanted e = record { digest = e.0; must = e.1 }
