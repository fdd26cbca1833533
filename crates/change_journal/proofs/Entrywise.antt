-- Entries and their texts.
use Rattle.std.proofs.Common.{◌≡◌, ◌⊎◌, ℕ, ◌≤◌, suc, List, [], ◌∷◌, ◌++◌, length, get_or, drop, inl, inr, refl, sym, ◌∙◌, ap, subst, arith, All}
use Rattle.std.proofs.lemmas.List.{map-append, length-map}
use Rattle.std.proofs.lemmas.List.Elements.{All-cons, All-map}
use Rattle.site_change.specs.declared.entries.Entry.{Entry}
use Rattle.record_file.specs.Openings.{MayBePut}
use Rattle.record_file.specs.Slots.{old_header}
use Rattle.entry_texts.specs.Versions.{IsOfVersion}
use Rattle.entry_texts.specs.declared.versions.Version.TheVariants.{First}
use Rattle.record_file.specs.Pairs.{AreForeign, FoundBoth, HoldBoth, IsOldOrder, LeftOfFirst, LeftOfSecond, Order, ReadsOld}
use Rattle.entry_texts.specs.Spells.{IsWritable, entry_text}
use Rattle.change_journal.specs.Texts.{AreOld, HoldsEntries, IsText, LeavesNext, MayHoldNext, texts}
use Rattle.record_file.specs.Walks.{AreLawful, IsShort}
use Rattle.entry_texts.proofs.Entries.{entry_length, one_entry}
use Rattle.record_file.proofs.OneRead.{found_not_foreign, found_one, held_found, held_one, left_both, old_left}

pub texts-push : (entries : List Entry) (entry : Entry) → texts (entries ++ entry ∷ []) ≡ texts entries ++ entry_text entry ∷ []
texts-push entries entry = map-append entry_text entries (entry ∷ [])

pub length-texts : (entries : List Entry) → length (texts entries) ≡ length entries
length-texts entries = length-map entries entry_text

-- the texts of entries are bodies that a file with this header may have
pub texts_lawful : (header : List ℕ) (entries : List Entry) → All IsWritable entries → (header ≡ old_header → AreOld entries) → AreLawful (λ before. IsText header) (texts entries)
texts_lawful header entries writable old =
    All-map (λ (body : List ℕ). IsShort body × IsText header body) entry_text entries (λ k entry low. let lawful = writable k entry low in (entry_length _ lawful, (_, (lawful, ((λ is. old is k entry low), refl)))))

-- entries with the same texts are the same
pub same_entries : (xs es : List Entry) → All IsWritable xs → All IsWritable es → texts xs ≡ texts es → xs ≡ es
same_entries [] [] few less same = refl
same_entries [] (e ∷ es) few less same = absurd (omega (arith, ap length same))
same_entries (x ∷ xs) [] few less same = absurd (omega (arith, ap length same))
same_entries (x ∷ xs) (e ∷ es) few less same =
    let here : entry_text x ≡ entry_text e = ap (λ (l : List (List ℕ)). get_or l 0 []) same in
    let first : x ≡ e = one_entry (entry_text x) x e (few 0 x (omega arith), refl) (less 0 e (omega arith), here) in
    let others : xs ≡ es = same_entries xs es (λ k d low. few (suc k) d (omega (arith, low))) (λ k d low. less (suc k) d (omega (arith, low))) (ap (drop 1) same) in
    ap (λ (l : List Entry). x ∷ l) others ∙ ap (λ (y : Entry). y ∷ es) first

short_texts : (entries : List Entry) → All IsWritable entries → All IsShort (texts entries)
short_texts entries writable = All-map IsShort entry_text entries (λ k entry low. entry_length _ (writable k entry low))

-- two slots hold one list of entries
pub holds_one_list : (first second : List ℕ) (a b : List Entry) → HoldsEntries a first second → HoldsEntries b first second → a ≡ b
holds_one_list first second a b one other =
    same_entries a b one.writable other.writable (held_one (texts a) (texts b) first second (short_texts a one.writable) (short_texts b other.writable) one.holds other.holds)

-- two lists that were found are one
pub found_same : (found had : List Entry) (first second : List ℕ) → All IsWritable found → All IsWritable had → FoundBoth (texts found) first second → FoundBoth (texts had) first second → found ≡ had
found_same found had first second writable lawful is is_too =
    same_entries found had writable lawful (found_one (texts found) (texts had) first second (short_texts found writable) (short_texts had lawful) is is_too)

-- what was found is what the slots hold
pub found_entries : (found had : List Entry) (first second : List ℕ) → All IsWritable found → FoundBoth (texts found) first second → HoldsEntries had first second → found ≡ had
found_entries found had first second writable is held = found_same found had first second writable held.writable is (held_found (texts had) first second held.holds)

-- slots that hold few enough entries are a journal's, and each of the records is one
pub held_no_other : (had : List Entry) (first second : List ℕ) → HoldsEntries had first second → AreForeign first second → ⊥
held_no_other had first second held none = found_not_foreign (texts had) first second (held_found (texts had) first second held.holds) none

-- the last of some entries, and those before it
pub last_writable : (entries : List Entry) (entry : Entry) → All IsWritable (entries ++ entry ∷ []) → IsWritable entry
last_writable [] entry all = all 0 entry (omega arith)
last_writable (e ∷ entries) entry all = last_writable entries entry (λ k d low. all (suc k) d (omega (arith, low)))

pub front_all : (P : Entry → Type 0) (entries : List Entry) (entry : Entry) → All P (entries ++ entry ∷ []) → All P entries
front_all P [] entry all = λ k d low. absurd (omega (arith, low))
front_all P (e ∷ entries) entry all = All-cons P e entries (all 0 e (omega arith)) (front_all P entries entry (λ k d low. all (suc k) d (omega (arith, low))))

-- an entry that may be put after others
pub may_be_put : (entries : List Entry) (entry : Entry) → All IsWritable (entries ++ entry ∷ []) → MayBePut (texts entries) (entry_text entry)
may_be_put entries entry all = record {
  all = short_texts entries (front_all IsWritable entries entry all);
  short = entry_length entry (last_writable entries entry all);
}

-- what a put leaves holds the entries, or those with the new one
pub left_entries : (entries : List Entry) (entry : Entry) (first second : List ℕ) → All IsWritable (entries ++ entry ∷ []) → (ReadsOld first second → AreOld (entries ++ entry ∷ [])) → HoldBoth (texts entries) first second ⊎ HoldBoth (texts entries ++ entry_text entry ∷ []) first second → HoldsEntries entries first second ⊎ HoldsEntries (entries ++ entry ∷ []) first second
left_entries entries entry first second writable old (inl holds) = inl (record { writable = front_all IsWritable entries entry writable; old = λ reads. front_all (IsOfVersion First) entries entry (old reads); holds = holds })
left_entries entries entry first second writable old (inr holds) = inr (record {
  writable = writable;
  old = old;
  holds = subst (λ (l : List (List ℕ)). HoldBoth l first second) (sym (texts-push entries entry)) holds;
})

pub next_holds : (order : Order) (entries : List Entry) (entry : Entry) (first second : List ℕ) → All IsWritable (entries ++ entry ∷ []) → (IsOldOrder order → AreOld (entries ++ entry ∷ [])) → LeftOfFirst order (texts entries) (entry_text entry) first → LeftOfSecond order (texts entries) (entry_text entry) second
    → HoldsEntries entries first second ⊎ HoldsEntries (entries ++ entry ∷ []) first second
next_holds order entries entry first second writable old one other = left_entries entries entry first second writable (λ reads. old (old_left (texts entries) (entry_text entry) order first second one other reads)) (left_both (texts entries) (entry_text entry) order first second one other)

-- one image of each slot, of those that a stop may leave
pub one_each : (order : Order) (entries : List Entry) (entry : Entry) (first second : List ℕ → Type 0) (a b : List ℕ) → MayHoldNext order entries entry first second → first a → second b → MayHoldNext order entries entry (λ c. c ≡ a) (λ c. c ≡ b)
one_each order entries entry first second a b left here there = record {
  writable = left.writable;
  old = left.old;
  one = λ c is. subst (LeftOfFirst order (texts entries) (entry_text entry)) (sym is) (left.one a here);
  other = λ c is. subst (LeftOfSecond order (texts entries) (entry_text entry)) (sym is) (left.other b there);
}

-- what a crash may have left since, at any moment of a run of calls
pub left_since_both : {D : Type 0} (moment : D → ℕ) (left_since : D → ℕ → List ℕ → Type 0) (order : Order) (entries : List Entry) (entry : Entry) (first second new_first new_second : D) → LeavesNext moment left_since order entries entry first second new_first new_second
    → MayHoldNext order entries entry (left_since new_first (moment first)) (left_since new_second (moment second))
left_since_both moment left_since order entries entry first second new_first new_second next = record { writable = next.writable; old = next.old; one = next.leaves.one.each; other = next.leaves.other.each }
