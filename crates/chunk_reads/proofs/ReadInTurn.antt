-- Chunks that are read one after another.
use Rattle.std.proofs.Common.{◌≡◌, ◌≢◌, inl, inr, List, [], ◌∷◌, ◌++◌, ℕ, Ok, map, length, refl, sym, ap, subst, ◌∙◌, arith}
use Rattle.std.proofs.lemmas.List.{append-nil, append_assoc, length-append, map-append}
use Rattle.host_names.specs.declared.digests.Digest.{Digest}
use Rattle.host_names.specs.Digests.{digest_of}
use Rattle.chunk_reads.specs.declared.faults.ReadFault.{ReadFault}
use Rattle.chunk_reads.specs.Reading.{AreNotRead, IsNextChunk, IsNoNextChunk, Reads, ReadsInTurn}

pub record ReadSoFar {N : Type 0} (reads : Reads N) (old now : N) (chunks : List (List ℕ)) (left names : List Digest) : Type 0 where
  pub read : ReadsInTurn reads old chunks now
  pub named : map digest_of chunks ++ left ≡ names

module _ {N : Type 0} (reads : Reads N) where
  -- one is read after others
  reads_then : (old mid new : N) (chunks : List (List ℕ)) (chunk : List ℕ) → ReadsInTurn reads old chunks mid → reads mid (digest_of chunk) (Ok chunk) new
      → ReadsInTurn reads old (chunks ++ chunk ∷ []) new
  reads_then old mid new [] chunk turns one = (new, subst (λ n. reads n (digest_of chunk) (Ok chunk) new) turns one, refl)
  reads_then old mid new (c ∷ chunks) chunk turns one = (turns.0, turns.1, reads_then turns.0 mid new chunks chunk turns.2 one)

-- after one name fewer are left
fewer : (before : List Digest) (name : Digest) (rest names : List Digest) → before ++ name ∷ rest ≡ names → rest ≢ names
fewer before name rest names is same = absurd (omega (arith, length-append before (name ∷ rest), ap length is, ap length same))

module _ {N : Type 0} (reads : Reads N) (old now new : N) (chunks : List (List ℕ)) (left rest names : List Digest) (name : Digest) where
  -- a chunk more is read
  longer : (chunk : List ℕ) → name ≡ digest_of chunk → left ≡ name ∷ rest → ReadSoFar reads old now chunks left names → reads now name (Ok chunk) new
      → ReadSoFar reads old new (chunks ++ chunk ∷ []) rest names
  longer chunk named more so one = record {
    read = reads_then reads old now new chunks chunk so.read (subst (λ d. reads now d (Ok chunk) new) named one);
    named = ap (λ l. l ++ rest) (map-append digest_of chunks (chunk ∷ [])) ∙ append_assoc (map digest_of chunks) (digest_of chunk ∷ []) rest
        ∙ ap (λ d. map digest_of chunks ++ d ∷ rest) (sym named) ∙ ap (λ l. map digest_of chunks ++ l) (sym more) ∙ so.named;
  }

  pub one_more : (after : List (List ℕ)) → left ≡ name ∷ rest → ReadSoFar reads old now chunks left names → IsNextChunk reads now name chunks after new
      → ReadSoFar reads old new after rest names
  one_more after more so next = subst (λ cs. ReadSoFar reads old new cs rest names) (sym next.2) (longer next.0 next.1 more so next.3)

  pub no_more : (why : ReadFault) → left ≡ name ∷ rest → ReadSoFar reads old now chunks left names → IsNoNextChunk reads now name why new
      → AreNotRead reads old names why new
  no_more why more so (inl fault) = inl (now, name, rest, (chunks, ap (λ l. map digest_of chunks ++ l) (sym more) ∙ so.named, so.read), fault)
  no_more why more so (inr fault) =
      let after = longer fault.1.0 fault.1.1 more so fault.1.2 in
      let others = fewer (map digest_of chunks) name rest names (ap (λ l. map digest_of chunks ++ l) (sym more) ∙ so.named) in
      inr (fault.0, (rest, others, (chunks ++ fault.1.0 ∷ [], after.named, after.read)))

pub all_read : {N : Type 0} (reads : Reads N) (old now : N) (chunks : List (List ℕ)) (left names : List Digest) → ReadSoFar reads old now chunks left names
    → left ≡ [] → map digest_of chunks ≡ names
all_read reads old now chunks left names so none =
    sym (append-nil (map digest_of chunks)) ∙ ap (λ l. map digest_of chunks ++ l) (sym none) ∙ so.named
