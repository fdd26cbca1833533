-- Things that are put one after another: what is left of them.
use Rattle.std.specs.Prelude.{MatchResult}
use Rattle.std.proofs.Common.{Result, Ok, Err, ◌≡◌, ◌⊎◌, inl, inr, ℕ, ◌+◌, ◌<◌, true, false, cond, List, [], ◌∷◌, ◌++◌, Contains, Option, Some, None, zero, suc, length, get_or, take, drop, min, map, refl, sym, ap, subst, ◌∙◌, arith}
use Rattle.std.proofs.lemmas.List.{append_assoc, drop_more, take_min, drop_min, take_more}
use Rattle.std.proofs.lemmas.List.Elements.{All-contains_itself, Contains-append_cases, Contains-append_left, Contains-append_right, recursion_from_All}
use Rattle.host_names.specs.declared.digests.Digest.{Digest}
use Rattle.host_names.specs.Digests.{digest_of}
use Rattle.byte_view.specs.Cuts.{cut, cut_into}
use Rattle.blob_store.specs.declared.shelves.ShelfName.{ShelfName}
use Rattle.blob_store.specs.declared.shelves.ShelfName.TheVariants.{Part}
use Rattle.blob_store.specs.declared.shelves.ShelfFault.{ShelfFault}
use Rattle.blob_store.specs.Calls.{Call, Put, PutFails, PutsInTurn, PutsNew, PutsOthers, part_of, table_of}
use Rattle.blob_store.proofs.Once.{among_of, among_true, is_among, new_piece, once, once_each}

abbrev pub Things : Type 0
Things = List (ShelfName × List ℕ)

-- whoever puts what is left from here on has put all of it from the start on
abbrev pub Left : {S : Type 0} → (did : S → Call → S → Type 0) → S → Things → S → Things → Type 0
Left {S} did first all now rest = (fault : Option ShelfFault) (new : S) → PutsInTurn did now rest fault new → PutsInTurn did first all fault new

-- what is put of so many pieces at the front of some bytes, where these names were seen
abbrev pub parts_of : List Digest → ℕ → List ℕ → Things
parts_of seen n bytes = map part_of (once seen (cut_into n bytes))

-- so many pieces are left, then the rest, and the names are theirs
pub record PiecesLeft {S : Type 0} (did : S → Call → S → Type 0) (first : S) (all : Things) (now : S) (last : Things) (seen names : List Digest) (bytes : List ℕ) : Type 0 where
  pub count : ℕ
  pub named : names ≡ map digest_of (cut_into count bytes)
  pub left : Left did first all now (parts_of seen count bytes ++ last)

-- what is put of one piece more
one_more : (seen : List Digest) (piece : List ℕ) (pieces : List (List ℕ)) (last : Things) (is : List (List ℕ)) → new_piece seen piece ≡ is
    → map part_of (is ++ once (seen ++ digest_of piece ∷ []) pieces) ++ last ≡ map part_of (once seen (piece ∷ pieces)) ++ last
one_more seen piece pieces last is same = ap (λ l. map part_of (l ++ once (seen ++ digest_of piece ∷ []) pieces) ++ last) (sym same)

was_seen : (seen : List Digest) (piece : List ℕ) → Contains seen (digest_of piece) → new_piece seen piece ≡ []
was_seen seen piece there = ap (λ b. cond b [] (piece ∷ [])) (among_of seen (digest_of piece) there)

not_seen : (seen : List Digest) (piece : List ℕ) → ¬ (Contains seen (digest_of piece)) → new_piece seen piece ≡ piece ∷ []
not_seen seen piece none = elim (is_among seen (digest_of piece)) as (λ b. is_among seen (digest_of piece) ≡ b → cond b [] (piece ∷ []) ≡ piece ∷ []) [
  | true ↦ λ e. absurd (none (among_true seen (digest_of piece) e))
  | false ↦ λ e. refl
] refl

-- a name is stored or was put before, or it is neither
seen_of : (stored before : List Digest) (name : Digest) → Contains stored name ⊎ Contains before name → Contains (stored ++ before) name
seen_of stored before name (inl is) = Contains-append_left stored before name is
seen_of stored before name (inr is) = Contains-append_right stored before name is

unseen : (stored before : List Digest) (name : Digest) → ¬ (Contains stored name) → ¬ (Contains before name) → ¬ (Contains (stored ++ before) name)
unseen stored before name other another is = elim (Contains-append_cases stored before name is) [
  | inl was ↦ other was
  | inr was ↦ another was
]

module _ {S : Type 0} (did : S → Call → S → Type 0) (first : S) (all : Things) (stored : List Digest) where
  module _ (now mid : S) (last : Things) (before : List Digest) (piece : List ℕ) (pieces : List (List ℕ))
      (left : Left did first all now (map part_of (once (stored ++ before) (piece ∷ pieces)) ++ last)) where
    abbrev seen : List Digest
    seen = stored ++ before

    abbrev then_last : Things
    then_last = map part_of (once (seen ++ digest_of piece ∷ []) pieces) ++ last

    stops : (why : ShelfFault) → PutsNew did now stored before (part_of piece) (digest_of piece) (Some why) mid → PutsInTurn did first all (Some why) mid
    stops why (inl was) = absurd (cc was.1)
    stops why (inr (other, another, inl failed)) =
        let none = unseen stored before (digest_of piece) other another in
        let same : why ≡ failed.0 = cc failed.1 in
        let puts : PutsInTurn did now (part_of piece ∷ then_last) (Some why) mid = inl (failed.0, failed.1, failed.2) in
        left (Some why) mid (subst (λ l. PutsInTurn did now l (Some why) mid) (one_more seen piece pieces last (piece ∷ []) (not_seen seen piece none)) puts)
    stops why (inr (other, another, inr put)) = absurd (cc put.2.0)

    goes : PutsNew did now stored before (part_of piece) (digest_of piece) None mid → Left did first all mid then_last
    goes (inl was) fault new rest =
        let puts : PutsInTurn did now then_last fault new = subst (λ s. PutsInTurn did s then_last fault new) was.2 rest in
        left fault new (subst (λ l. PutsInTurn did now l fault new) (one_more seen piece pieces last [] (was_seen seen piece (seen_of stored before (digest_of piece) was.0))) puts)
    goes (inr (other, another, inl failed)) fault new rest = absurd (cc failed.1)
    goes (inr (other, another, inr put)) fault new rest =
        let none = unseen stored before (digest_of piece) other another in
        let puts : PutsInTurn did now (part_of piece ∷ then_last) fault new = inr (put.0, put.1, subst (λ s. PutsInTurn did s then_last fault new) put.2.1 rest) in
        left fault new (subst (λ l. PutsInTurn did now l fault new) (one_more seen piece pieces last (piece ∷ []) (not_seen seen piece none)) puts)

  -- a piece can't be put
  stops_at : (n : ℕ) (now new : S) (last : Things) (before : List Digest) (name : Digest) (names : List Digest) (bytes : List ℕ) (why : ShelfFault)
      → name ∷ names ≡ map digest_of (cut_into n bytes) → Left did first all now (parts_of (stored ++ before) n bytes ++ last)
      → PutsNew did now stored before (Part name, take 65536 bytes) name (Some why) new → PutsInTurn did first all (Some why) new
  stops_at zero now new last before name names bytes why named left put = absurd (cc named)
  stops_at (suc n) now new last before name names bytes why named left put =
      let same : name ≡ digest_of (take 65536 bytes) = cc named in
      stops now new last before (take 65536 bytes) (cut_into n (drop 65536 bytes)) left why
      (subst (λ d. PutsNew did now stored before (Part d, take 65536 bytes) d (Some why) new) same put)

  goes_at : (n : ℕ) (now mid : S) (last : Things) (before : List Digest) (name : Digest) (names : List Digest) (bytes : List ℕ)
      → name ∷ names ≡ map digest_of (cut_into n bytes) → Left did first all now (parts_of (stored ++ before) n bytes ++ last)
      → PutsNew did now stored before (Part name, take 65536 bytes) name None mid → PiecesLeft did first all mid last (stored ++ before ++ name ∷ []) names (drop 65536 bytes)
  goes_at zero now mid last before name names bytes named left put = absurd (cc named)
  goes_at (suc n) now mid last before name names bytes named left put =
      let same : name ≡ digest_of (take 65536 bytes) = cc named in
      let others : names ≡ map digest_of (cut_into n (drop 65536 bytes)) = cc named in
      let on = goes now mid last before (take 65536 bytes) (cut_into n (drop 65536 bytes)) left
      (subst (λ d. PutsNew did now stored before (Part d, take 65536 bytes) d None mid) same put) in
      record {
        count = n;
        named = others;
        left = subst (λ d. Left did first all mid (parts_of (stored ++ before ++ d ∷ []) n (drop 65536 bytes) ++ last)) (sym same) on;
      }

  pub piece_fails : (now new : S) (last : Things) (names : List Digest) (k : ℕ) (d : Digest) (bytes piece : List ℕ) (why : ShelfFault)
      → PiecesLeft did first all now last (stored ++ take k names) (drop k names) bytes → k < length names
      → piece ≡ take 65536 bytes → PutsNew did now stored (take k names) (Part (get_or names k d), piece) (get_or names k d) (Some why) new → PutsInTurn did first all (Some why) new
  piece_fails now new last names k d bytes piece why p within is failed =
      let e : get_or names k d ∷ drop (k + 1) names ≡ map digest_of (cut_into p.count bytes) = sym (drop_more names k d within) ∙ p.named in
      stops_at p.count now new last (take k names) (get_or names k d) (drop (k + 1) names) bytes why e p.left
      (subst (λ b. PutsNew did now stored (take k names) (Part (get_or names k d), b) (get_or names k d) (Some why) new) is failed)

  -- a piece is put, or was
  pub piece_put : (now mid : S) (last : Things) (names : List Digest) (k : ℕ) (d : Digest) (bytes piece after : List ℕ)
      → PiecesLeft did first all now last (stored ++ take k names) (drop k names) bytes → k < length names
      → piece ≡ take 65536 bytes → after ≡ drop 65536 bytes
      → PutsNew did now stored (take k names) (Part (get_or names k d), piece) (get_or names k d) None mid
      → PiecesLeft did first all mid last (stored ++ take (k + 1) names) (drop (k + 1) names) after
  piece_put now mid last names k d bytes piece after p within is rest put =
      let e : get_or names k d ∷ drop (k + 1) names ≡ map digest_of (cut_into p.count bytes) = sym (drop_more names k d within) ∙ p.named in
      let on = goes_at p.count now mid last (take k names) (get_or names k d) (drop (k + 1) names) bytes e p.left
      (subst (λ b. PutsNew did now stored (take k names) (Part (get_or names k d), b) (get_or names k d) None mid) is put) in
      let more : stored ++ take k names ++ get_or names k d ∷ [] ≡ stored ++ take (k + 1) names =
      append_assoc stored (take k names) (get_or names k d ∷ []) ∙ ap (λ l. stored ++ l) (sym (take_more names k d within)) in
      subst (λ seen. PiecesLeft did first all mid last seen (drop (k + 1) names) after) more
      (subst (λ b. PiecesLeft did first all mid last (stored ++ take k names ++ get_or names k d ∷ []) (drop (k + 1) names) b) (sym rest) on)

  none_left : (n : ℕ) (now : S) (last : Things) (seen : List Digest) (bytes : List ℕ) → [] ≡ map digest_of (cut_into n bytes) → Left did first all now (parts_of seen n bytes ++ last)
      → Left did first all now last
  none_left zero now last seen bytes none left = left
  none_left (suc n) now last seen bytes none left = absurd (cc none)

  -- no piece is left
  pub last_left : (now : S) (last : Things) (seen names : List Digest) (bytes : List ℕ) → PiecesLeft did first all now last seen names bytes → names ≡ [] → Left did first all now last
  last_left now last seen names bytes p none = none_left p.count now last seen bytes (sym none ∙ p.named) p.left

-- what is put of a file
abbrev pub puts_of : List Digest → List ℕ → Things
puts_of stored file = map part_of (once stored (cut file)) ++ table_of file ∷ []

pub is_put : {S : Type 0} (did : S → Call → S → Type 0) (stored : List Digest) (old new : S) (file : List ℕ) (fault : Option ShelfFault)
    → PutsInTurn did old (puts_of stored file) fault new → PutsOthers did stored old file fault new
is_put did stored old new file fault puts =
    (once stored (cut file), once_each stored (cut file) (recursion_from_All (Contains (cut file)) (cut file) (All-contains_itself (cut file))), puts)

-- it is put but for its table
module _ {S : Type 0} (did : S → Call → S → Type 0) (stored : List Digest) (first now new : S) (file : List ℕ) (seen names : List Digest) (bytes : List ℕ)
    (p : PiecesLeft did first (puts_of stored file) now (table_of file ∷ []) seen names bytes) (none : names ≡ []) where
  pub table_put : did now (Put (table_of file).0 (table_of file).1) new → PutsOthers did stored first file None new
  table_put put = is_put did stored first new file None (last_left did first (puts_of stored file) stored now (table_of file ∷ []) seen names bytes p none None new (inr (new, put, (refl, refl))))

  pub table_fails : (why : ShelfFault) → did now (PutFails (table_of file).0 (table_of file).1 why) new → PutsOthers did stored first file (Some why) new
  table_fails why failed = is_put did stored first new file (Some why) (last_left did first (puts_of stored file) stored now (table_of file ∷ []) seen names bytes p none (Some why) new (inl (why, refl, failed)))

  -- the call by which its table is put, and its outcome
  pub last_put : (thing : ShelfName × List ℕ) (result : Result (Unit {0}) ShelfFault) → thing ≡ table_of file
      → MatchResult result (λ done. did now (Put thing.0 thing.1) new) (λ why. did now (PutFails thing.0 thing.1 why) new)
      → MatchResult result (λ done. PutsOthers did stored first file None new) (λ why. PutsOthers did stored first file (Some why) new)
  last_put thing (Ok done) is put = table_put (subst (λ (t : ShelfName × List ℕ). did now (Put t.0 t.1) new) is put)
  last_put thing (Err why) is failed = table_fails why (subst (λ (t : ShelfName × List ℕ). did now (PutFails t.0 t.1 why) new) is failed)

-- the front of some bytes, and what is after it
pub front_of : (bytes piece : List ℕ) (n : ℕ) → piece ≡ take n bytes → n ≡ min (length bytes) 65536 → piece ≡ take 65536 bytes
front_of bytes piece n is least = is ∙ ap (λ k. take k bytes) (omega (arith, least)) ∙ take_min 65536 bytes

pub rest_of : (bytes after : List ℕ) (n : ℕ) → after ≡ drop n bytes → n ≡ min (length bytes) 65536 → after ≡ drop 65536 bytes
rest_of bytes after n is least = is ∙ ap (λ k. drop k bytes) (omega (arith, least)) ∙ drop_min 65536 bytes
