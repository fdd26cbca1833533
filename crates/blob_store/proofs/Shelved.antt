-- What a shelf in memory has after something was put there.
use Rattle.std.proofs.Common.{inl, ◌≡◌, ◌≢◌, true, false, Some, option_map, refl, sym, ap}
use Rattle.std.specs.BTreeMap.{UpdatesBy, get, is_at}
use Rattle.std.specs.Ordering.{is_eq}
use Rattle.std.specs.declared.cmp.Ordering.{Ordering}
use Rattle.std.specs.declared.cmp.Ordering.TheVariants.{Less, Equal, Greater}
use Rattle.host_names.specs.declared.digests.Digest.{Digest}
use Rattle.host_names.specs.Digests.{digest_cmp, digest_cmp-IsAntisymmetric}
use Rattle.blob_store.specs.declared.shelves.ShelfName.{ShelfName}
use Rattle.blob_store.specs.declared.shelves.ShelfName.TheVariants.{Part, Table}
use Rattle.blob_store.specs.declared.mem_shelf.MemShelf.{MemShelf}
use Rattle.blob_store.specs.Keeping.{AlwaysKeeps, Keeps}
use Rattle.blob_store.specs.Shelves.{Does, IsPutAt, found_in}

is_eq-true : (o : Ordering) → is_eq o ≡ true → o ≡ Equal
is_eq-true Less e = cc e
is_eq-true Equal e = refl
is_eq-true Greater e = cc e

-- another digest isn't at this one
elsewhere : (digest other : Digest) → (other ≢ digest) → is_at (digest_cmp digest) other ≡ false
elsewhere digest other differ =
    elim (is_at (digest_cmp digest) other) as (λ b. is_at (digest_cmp digest) other ≡ b → b ≡ false) [
      | true ↦ λ e. absurd (differ (sym (digest_cmp-IsAntisymmetric digest other (is_eq-true _ e))))
      | false ↦ λ e. refl
    ] refl

other_than_part : (old new : MemShelf) (digest : Digest) (bytes : _) → new.tables ≡ old.tables
    → UpdatesBy digest_cmp (digest_cmp digest) old.parts new.parts (Some bytes)
    → (other : ShelfName) → other ≢ Part digest → found_in new other ≡ found_in old other
other_than_part old new digest bytes same put (Part name) differ =
    ap (option_map (λ b. b.items)) (put.2 name (elsewhere digest name (λ e. differ (ap Part e))))
other_than_part old new digest bytes same put (Table name) differ = ap (λ tables. option_map (λ b. b.items) (get digest_cmp tables name)) same

other_than_table : (old new : MemShelf) (digest : Digest) (bytes : _) → new.parts ≡ old.parts
    → UpdatesBy digest_cmp (digest_cmp digest) old.tables new.tables (Some bytes)
    → (other : ShelfName) → other ≢ Table digest → found_in new other ≡ found_in old other
other_than_table old new digest bytes same put (Table name) differ =
    ap (option_map (λ b. b.items)) (put.2 name (elsewhere digest name (λ e. differ (ap Table e))))
other_than_table old new digest bytes same put (Part name) differ = ap (λ parts. option_map (λ b. b.items) (get digest_cmp parts name)) same

pub part_put : (old new : MemShelf) (digest : Digest) (bytes : _) → new.tables ≡ old.tables
    → UpdatesBy digest_cmp (digest_cmp digest) old.parts new.parts (Some bytes) → IsPutAt old new (Part digest) bytes.items
part_put old new digest bytes same put = record {
  here = ap (option_map (λ b. b.items)) put.1;
  others = other_than_part old new digest bytes same put;
}

pub table_put : (old new : MemShelf) (digest : Digest) (bytes : _) → new.parts ≡ old.parts
    → UpdatesBy digest_cmp (digest_cmp digest) old.tables new.tables (Some bytes) → IsPutAt old new (Table digest) bytes.items
table_put old new digest bytes same put = record {
  here = ap (option_map (λ b. b.items)) put.1;
  others = other_than_table old new digest bytes same put;
}

pub mem_shelf_always_keeps : AlwaysKeeps Does found_in
mem_shelf_always_keeps = record {
  put = λ old new name bytes does. does.here;
  others = λ old new name other bytes does differ. does.others other differ;
  got = λ old new name answer does. does.0;
  stays = λ old new name other answer does. does.1 other;
  put_fails = λ old new name bytes fault does. inl (does.1 name);
  put_fails_others = λ old new name other bytes fault does differ. does.1 other;
  get_fails = λ old new name other fault does. does.1 other;
}

-- so it does as long as nothing is asked of it
pub mem_shelf_keeps : Keeps Does (λ shelf. true) found_in
mem_shelf_keeps =
    let always = mem_shelf_always_keeps in
    record {
      before = λ old new call did so. refl;
      kept = record {
        put = λ old new name bytes did. always.put old new name bytes did.0;
        others = λ old new name other bytes did. always.others old new name other bytes did.0;
        got = λ old new name answer did. always.got old new name answer did.0;
        stays = λ old new name other answer did. always.stays old new name other answer did.0;
        put_fails = λ old new name bytes fault did. always.put_fails old new name bytes fault did.0;
        put_fails_others = λ old new name other bytes fault did. always.put_fails_others old new name other bytes fault did.0;
        get_fails = λ old new name other fault did. always.get_fails old new name other fault did.0;
      };
    }
