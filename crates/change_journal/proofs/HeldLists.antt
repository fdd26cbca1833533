-- Which entries a file holds, by the gate of the last record.
use Rattle.std.proofs.Common.{◌≡◌, ◌≢◌, ◌⊎◌, ℕ, ◌+◌, ◌<◌, ◌≤◌, slice_index, zero, suc, List, [], ◌∷◌, ◌++◌, length, drop, inl, inr, sym, ◌∙◌, ap, subst, refl, arith, append_assoc, length-append, All}
use Rattle.std.proofs.lemmas.List.{drop_at, get_or_append_left}
use Rattle.host_disk.specs.Crashes.{Torn}
use Rattle.site_change.specs.declared.entries.Entry.{Entry}
use Rattle.record_file.specs.Frames.{Holds, MayHold, framed, half_open, shut, before, between, after}
use Rattle.record_file.specs.Pairs.{AreForeign, FoundBoth, HoldBoth, MayFollow, MayLead, Reads, ReadsBad, ReadsOld, ReadsRecord, ReadsShut, first, second, read, none}
use Rattle.record_file.specs.Slots.{HasFront, IsBelow, IsHeader, IsInUse, version_1, version_2}
use Rattle.entry_texts.specs.Spells.{IsWritable, entry_text}
use Rattle.change_journal.specs.Texts.{HoldsEntries, IsText, texts}
use Rattle.change_journal.specs.Files.{header, opened}
use Rattle.change_journal.proofs.Entrywise.{found_same, left_entries, texts-push}
use Rattle.record_file.proofs.LookSteps.{front_short, front_used, opened_front, shown_used}
use Rattle.record_file.proofs.OneRead.{led_turned, old_led}
use Rattle.record_file.proofs.OneWalk.{same_head}
use Rattle.record_file.proofs.PairSteps.{below_none, lead_front, lead_is, turned_reads}
use Rattle.record_file.proofs.PutSteps.{opened-push, opens}
use Rattle.record_file.specs.declared.headers.Version.TheVariants.{Current}

-- bodies in the first slot are read beside one that isn't
in_first : (bodies : List (List ℕ)) (file beside : List ℕ) → IsBelow 1 beside → Holds header bodies file → HoldBoth bodies file beside
in_first bodies file beside below holds = read (first 1 header (version_2 refl refl) holds below)

-- a file of version 2 beside one that isn't read
old_beside : (bodies : List (List ℕ)) (gate : ℕ) (rest file beside : List ℕ) → file ≡ opened bodies ++ gate ∷ rest → IsBelow 1 beside → ReadsOld file beside → ⊥
old_beside bodies gate rest file beside is below reads =
    omega (arith, old_led 1 file beside (record { header = header; is_header = version_2 refl refl; front = opened_front header bodies gate rest file is }) below reads)

pub gate_open : (entries : List Entry) (entry : Entry) (rest beside : List ℕ) → All IsWritable (entries ++ entry ∷ []) → IsBelow 1 beside → HoldsEntries (entries ++ entry ∷ []) (opened (texts entries) ++ 1 ∷ (framed (entry_text entry) ++ 0 ∷ rest)) beside
gate_open entries entry rest beside writable below =
    let file : List ℕ = opened (texts entries) ++ 1 ∷ (framed (entry_text entry) ++ 0 ∷ rest) in
    record {
      writable = writable;
      old = λ reads. absurd (old_beside (texts entries) 1 (framed (entry_text entry) ++ 0 ∷ rest) file beside refl below reads);
      holds = subst (λ (l : List (List ℕ)). HoldBoth l file beside) (sym (texts-push entries entry)) (in_first (texts entries ++ entry_text entry ∷ []) file beside below (shut (opens header (texts entries) (entry_text entry) file (record { rest = rest; is = refl }))));
    }

pub gate_not_open : (entries : List Entry) (entry : Entry) (gate : ℕ) (rest beside : List ℕ) → All IsWritable entries → gate ≢ 1 → IsBelow 1 beside → HoldsEntries entries (opened (texts entries) ++ gate ∷ (framed (entry_text entry) ++ 0 ∷ rest)) beside
gate_not_open entries entry zero rest beside writable other below = record {
  writable = writable;
  old = λ reads. absurd (old_beside (texts entries) 0 _ _ beside refl below reads);
  holds = in_first (texts entries) _ beside below (shut (record { rest = framed (entry_text entry) ++ 0 ∷ rest; is = refl }));
}
gate_not_open entries entry (suc zero) rest beside writable other below = absurd (other refl)
gate_not_open entries entry (suc (suc gate)) rest beside writable other below = record {
  writable = writable;
  old = λ reads. absurd (old_beside (texts entries) (suc (suc gate)) _ _ beside refl below reads);
  holds = in_first (texts entries) _ beside below (half_open (entry_text entry) (record { gate = suc (suc gate); rest = rest; neither = omega arith; is = refl }));
}

-- the order of the slots doesn't matter
pub turned_entries : (entries : List Entry) (a b : List ℕ) → HoldsEntries entries a b → HoldsEntries entries b a
turned_entries entries a b held = record { writable = held.writable; old = λ reads. held.old (turned_reads _ b a reads); holds = turned held.holds }
  where
    turned : HoldBoth (texts entries) a b → HoldBoth (texts entries) b a
    turned (read reads) = read (turned_reads _ a b reads)
    turned (none empty one other) = none empty other one

-- what is found stands before the first gate that isn't open
pub finds_before : (found entries : List Entry) (gate : ℕ) (rest beside : List ℕ) → All IsWritable found → All IsWritable entries → gate ≢ 1 → IsBelow 1 beside → FoundBoth (texts found) (opened (texts entries) ++ gate ∷ rest) beside → found ≡ entries
finds_before found entries gate rest beside writable lawful closed below is =
    found_same found entries (opened (texts entries) ++ gate ∷ rest) beside writable lawful is (read (first 1 header (version_2 refl refl) (gate, record { rest = rest; closed = closed; is = refl }) below))

-- what follows the same front is the same
same_behind : (front xs ys : List ℕ) → front ++ xs ≡ front ++ ys → xs ≡ ys
same_behind front xs ys same = sym (drop_at front xs (length front) refl) ∙ ap (drop (length front)) same ∙ drop_at front ys (length front) refl

-- an open gate has its record
whole_behind : (bodies : List (List ℕ)) (body rest : List ℕ) → MayHold header bodies body (opened bodies ++ 1 ∷ rest) → (behind : List ℕ) × (rest ≡ framed body ++ 0 ∷ behind)
whole_behind bodies body rest (before s) = let e = same_head 1 0 rest s.rest (same_behind (opened bodies) _ _ s.is) in absurd (omega (arith, e))
whole_behind bodies body rest (between half) = let e = same_head 1 half.gate rest (framed body ++ 0 ∷ half.rest) (same_behind (opened bodies) _ _ half.is) in absurd (omega (arith, e, half.neither))
whole_behind bodies body rest (after s) =
    let regrouped : opened (bodies ++ body ∷ []) ++ 0 ∷ s.rest ≡ opened bodies ++ 1 ∷ (framed body ++ 0 ∷ s.rest) = ap (λ (l : List ℕ). l ++ 0 ∷ s.rest) (opened-push header bodies body) ∙ append_assoc (opened bodies) (1 ∷ framed body) (0 ∷ s.rest) in
    (s.rest, ap (drop 1) (same_behind (opened bodies) (1 ∷ rest) _ (s.is ∙ regrouped)))

pub open_has_record : (entries : List Entry) (entry : Entry) (rest : List ℕ) → MayLead 1 (texts entries) (entry_text entry) (opened (texts entries) ++ 1 ∷ rest) → (behind : List ℕ) × (rest ≡ framed (entry_text entry) ++ 0 ∷ behind)
open_has_record entries entry rest leads =
    let file = opened (texts entries) ++ 1 ∷ rest in
    whole_behind (texts entries) (entry_text entry) rest (lead_is Current 1 (texts entries) (entry_text entry) file (opened_front header (texts entries) 1 rest file refl) leads).1

-- a gate that is written before its record is synced
module _ (front : List ℕ) where
  not_written : (n : ℕ) → Torn (length front + 1) n (front ++ 0 ∷ []) (front ++ 0 ∷ [])
  not_written n = record { no_shorter = omega arith; no_longer = grind arith; before = λ i low less. refl; after = λ i low more. refl }

  gate_written : Torn (length front) 1 (front ++ 0 ∷ []) (front ++ 1 ∷ [])
  gate_written = record {
    no_shorter = omega (arith, length-append front (0 ∷ []), length-append front (1 ∷ []));
    no_longer = grind (arith, length-append front (0 ∷ []), length-append front (1 ∷ []));
    before = λ i low less. get_or_append_left front (1 ∷ []) 0 i less ∙ sym (get_or_append_left front (0 ∷ []) 0 i less);
    after = λ i low more. absurd (omega (arith, low, more, length-append front (0 ∷ [])));
  }

pub gate_first : (entries : List Entry) (entry : Entry) (n : ℕ) → (d : List ℕ) × (c : List ℕ) × Torn (length (opened (texts entries)) + 1) n (opened (texts entries) ++ 0 ∷ []) d × Torn (length (opened (texts entries))) 1 d c × (MayLead 1 (texts entries) (entry_text entry) c → ⊥)
gate_first entries entry n =
    let front = opened (texts entries) in (
      front ++ 0 ∷ [],
      front ++ 1 ∷ [],
      not_written front n,
      gate_written front,
      λ left.
          let found = open_has_record entries entry [] left in
          omega (arith, ap length found.1, length-append (framed (entry_text entry)) (0 ∷ found.0)),
    )

-- a slot beside an older one is in use only with all of its file
pub shown_has_file : (entries : List Entry) (entry : Entry) (file beside : List ℕ) → All IsWritable (entries ++ entry ∷ []) → MayFollow 0 (texts entries) (entry_text entry) file → IsInUse file → IsBelow 1 beside → HoldsEntries entries beside file ⊎ HoldsEntries (entries ++ entry ∷ []) beside file
shown_has_file entries entry file beside writable (inl below) used under = absurd (below_none file below used)
shown_has_file entries entry file beside writable (inr next) used under = left_entries entries entry beside file writable (λ reads. absurd (next_new reads)) (led_turned (texts entries) (entry_text entry) 1 beside file next under)
  where
    next_new : ReadsOld beside file → ⊥
    next_new reads =
        omega (arith, old_led 1 file beside (record { header = next.header; is_header = next.is_header; front = lead_front 1 (texts entries) (entry_text entry) file next }) under (turned_reads _ beside file reads))

-- what a crash may leave of a slot that is shown before its file is synced
no_file : (bodies : List (List ℕ)) (body : List ℕ) → MayFollow 0 bodies body (1 ∷ (0 ∷ [])) → ⊥
no_file bodies body (inl below) = below_none (1 ∷ (0 ∷ [])) below (record { second = 0; rest = []; is = refl })
no_file bodies body (inr next) = short_front next.header next.is_header (lead_front 1 bodies body (1 ∷ (0 ∷ [])) next)
  where
    short_front : (h : List ℕ) → IsHeader h 1 → HasFront h (1 ∷ (0 ∷ [])) → ⊥
    short_front h (version_1 is zero_is) front = omega (arith, zero_is)
    short_front h (version_2 is one) front = front_short h (1 ∷ (0 ∷ [])) (omega (arith, ap length is)) front

pub shown_first : (entries : List Entry) (entry : Entry) (n : ℕ) → (d : List ℕ) × (c : List ℕ) × Torn 1 (n + 1) (0 ∷ []) d × Torn 0 1 d c × (MayFollow 0 (texts entries) (entry_text entry) c → ⊥)
shown_first entries entry n = (
  0 ∷ (0 ∷ []),
  1 ∷ (0 ∷ []),
  record { no_shorter = omega arith; no_longer = grind arith; before = first_same; after = λ i low more. absurd (omega (arith, low, more)) },
  record { no_shorter = omega arith; no_longer = grind arith; before = λ i low less. absurd (omega (arith, less)); after = second_same },
  no_file (texts entries) (entry_text entry),
)
  where
    first_same : (i : ℕ) → i < 1 → i < 1 → slice_index (0 ∷ (0 ∷ [])) i ≡ slice_index (0 ∷ []) i
    first_same zero low less = refl
    first_same (suc i) low less = absurd (omega (arith, low))

    second_same : (i : ℕ) → i < 2 → 1 ≤ i → slice_index (1 ∷ (0 ∷ [])) i ≡ slice_index (0 ∷ (0 ∷ [])) i
    second_same zero low more = absurd (omega (arith, more))
    second_same (suc zero) low more = refl
    second_same (suc (suc i)) low more = absurd (omega (arith, low))

-- ---- slots with which nothing is so

not_used : IsInUse [] → ⊥
not_used used = absurd (cc used.is)

pub empty_foreign : AreForeign [] [] → ⊥
empty_foreign (inl foreign) = not_used foreign.used
empty_foreign (inr (inl foreign)) = not_used foreign.used
empty_foreign (inr (inr both)) = not_used (shown_used both.0 [] both.1)

pub empty_stored : ReadsShut [] [] [] → ⊥
empty_stored (first g h is s below) = not_used (front_used h [] (opened_front h [] 0 s.rest [] s.is))
empty_stored (second g h is s below) = not_used (front_used h [] (opened_front h [] 0 s.rest [] s.is))

pub empty_record : ReadsRecord [] [] → ⊥
empty_record (first g h is has below) = not_used (front_used h [] (opened_front h [] 1 has.rest [] has.is))
empty_record (second g h is has below) = not_used (front_used h [] (opened_front h [] 1 has.rest [] has.is))

-- records are counted from 1 on
pub number_none : (one other : List ℕ) → ReadsBad (λ header before. IsText header) 0 one other → ⊥
number_none one other (first g h is bad below) = omega (arith, bad.number_is)
number_none one other (second g h is bad below) = omega (arith, bad.number_is)

-- a file that is in use without a header
pub foreign_short : AreForeign (1 ∷ (5 ∷ [])) (1 ∷ (5 ∷ []))
foreign_short = inl (record {
  used = record { second = 5; rest = []; is = refl };
  none = λ g shown. by_header g shown.header shown.is_header shown.front;
})
  where
    by_header : (g : ℕ) (h : List ℕ) → IsHeader h g → HasFront h (1 ∷ (5 ∷ [])) → ⊥
    by_header g h (version_1 is _) front = front_short h (1 ∷ (5 ∷ [])) (omega (arith, ap length is)) front
    by_header g h (version_2 is _) front = front_short h (1 ∷ (5 ∷ [])) (omega (arith, ap length is)) front
