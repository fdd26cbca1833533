-- How the entries of each site are found: each entry leads to the one before it of the same site, and a site to its last one.
use Rattle.std.specs.Prelude.{◌≡◌, ℕ, zero, suc, ◌+◌, ◌-◌, ◌<◌, ◌≤◌, nat_le, List, [], ◌∷◌, length, reverse, slice_get, unwrap_or, if◌then◌else◌}
use Rattle.std.specs.FinMap.{find}
use Rattle.std.specs.Cmp.Lexicographic.{slice_cmp}
use Rattle.std.specs.List.Sorted.{IsStrictlySortedBy}
use Rattle.std.specs.Map.{keys_of}
use Rattle.std.specs.declared.cmp.Ordering.{Ordering}
use Rattle.std.specs.Ordering.{nat_cmp, on}
use Rattle.host_names.specs.declared.names.SiteName.{SiteName}
use Rattle.change_log.specs.Logs.{Log}
use Rattle.change_undo.specs.SiteEntries.{numbers_of}

-- the order of sites
abbrev pub site_cmp : SiteName → SiteName → Ordering
site_cmp = on (λ site. site.0) (slice_cmp nat_cmp)

-- the number of the last entry of a site, of which there are pairs with their sites; 0 if the site has no entry
abbrev pub last_of : List (SiteName × ℕ) → SiteName → ℕ
last_of last site = unwrap_or (find site_cmp site last) 0

-- the number to which the entry of this number, above the base, leads; none above the base if it leads to none
abbrev pub before : (base : ℕ) → List ℕ → ℕ → ℕ
before base earlier n = unwrap_or (slice_get earlier (n - base - 1)) 0

-- the numbers to which this one leads, itself first, as long as they are above the base, and at most so many
abbrev pub trail : (base : ℕ) → List ℕ → (most : ℕ) → ℕ → List ℕ
trail base earlier zero n = []
trail base earlier (suc most) n = if nat_le n base then [] else n ∷ trail base earlier most (before base earlier n)

-- this number leads to these, itself first, each of which is lower than the one before it, and the last one to none above the base
abbrev pub Leads : (base : ℕ) → List ℕ → ℕ → List ℕ → Type 0
Leads base earlier n [] = n ≤ base
Leads base earlier n (k ∷ ks) =
    (n ≡ k) × (base < k) × (k ≤ base + length earlier) × (before base earlier k < k) × Leads base earlier (before base earlier k) ks

-- the number leads to some numbers
pub record LeadsOn (base : ℕ) (earlier : List ℕ) (n : ℕ) : Type 0 where
  pub numbers : List ℕ
  pub leads : Leads base earlier n numbers

-- There is a number for each entry, the sites are in their order, and the last entry of each site leads to all of that site, the newest first.
pub record AreChained (log : Log) (earlier : List ℕ) (last : List (SiteName × ℕ)) : Type 0 where
  pub lengths : length earlier ≡ length log.entries
  pub rises : IsStrictlySortedBy site_cmp (keys_of last)
  pub leads : (site : SiteName) → Leads log.base earlier (last_of last site) (reverse (numbers_of log site))
