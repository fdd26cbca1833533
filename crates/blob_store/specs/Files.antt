-- The files that a store knows.
use Rattle.std.specs.Prelude.{ℕ, List, map, refl}
use Rattle.std.specs.Coded.{Coded, code_by, coded×, coded_list, coded_ℕ}
use Rattle.std.specs.FinMap.{from_entries}
use Rattle.std.specs.FinMap as finite
use Rattle.host_names.specs.declared.digests.Digest.{Digest}
use Rattle.host_names.specs.Digests.{coded_digest}
use Rattle.byte_view.specs.Contents.{Contents}

-- the bytes of files that are kept in a list
abbrev pub stored : {File : Type 0} → (File → List ℕ) → List (Digest × File) → Contents
stored bytes files = from_entries (map (λ e. (e.0, bytes e.1)) files)

-- a store: what it knows of its files, and the shelf that they are on
pub record Store (S : Type 0) : Type 0 where
  pub known : Contents
  pub shelf : S

abbrev pub coded_store : {S : Type 0} → Coded S → Coded (Store S)
coded_store {S} shelf =
    code_by (Contents × S) (coded× (finite.code coded_digest (coded_list coded_ℕ)) shelf) (λ s. (s.known, s.shelf)) (λ t. record { known = t.0; shelf = t.1 }) (λ _. refl)
