-- The search for the end of a head in bytes that come in pieces.
use Rattle.std.proofs.Common.{◌≡◌, ◌≢◌, ℕ, ◌+◌, ◌<◌, ◌≤◌, ◌⊎◌, inl, inr, true, false, List, [], ◌∷◌, ◌++◌, length, length-append, length-drop, take, drop, slice_range, Option, Some, None, IfSome, refl, sym, ap, ◌∙◌, subst, append_assoc, append-nil, arith}
use Rattle.std.specs.Io.KnownBytes.{Keeps, IsAtEnd, prepend_known}
use Rattle.std.proofs.lemmas.Bool.{both_ways, cases_lt}
use Rattle.std.proofs.lemmas.List.{take-append-drop, drop-append-le, drop_all, drop-drop, append_cancel_right, take_at, take-append-le}
use Rattle.std.proofs.lemmas.Slice.{between_to_end}
use Rattle.http_wire.specs.declared.scans.State.{State}
use Rattle.http_wire.specs.declared.scans.State.TheVariants.{Before}
use Rattle.http_wire.specs.HeadText.{IsHeadText, HasHead, CutShort, Overlong, head_limit}
use Rattle.http_wire.specs.Scanning.{HasSearched, is_done, rest_from}
use Rattle.http_wire.proofs.HeadEnds.{head_runs, head_found}

-- the search of the bytes is in that state after so many of them, and behind the others only if it found the end
pub record HasScanned (bytes : List ℕ) (state : State) (scanned : ℕ) : Type 0 where
  pub searched : HasSearched bytes state scanned
  pub through : (is_done state ≡ true) ⊎ (scanned ≡ length bytes)

-- a scan that is not done has seen all bytes
pub all_seen : (bytes : List ℕ) (state : State) (scanned : ℕ) → HasScanned bytes state scanned → is_done state ≡ false → scanned ≡ length bytes
all_seen bytes state scanned h nd = elim h.through [ inl d ↦ absurd (both_ways (is_done state) nd d) | inr e ↦ e ]

rest_from-none : (state : State) → is_done state ≡ false → rest_from state [] ≡ None
rest_from-none state nd = rw nd refl

rest_from-some : (state : State) (bytes : List ℕ) → is_done state ≡ true → rest_from state bytes ≡ Some bytes
rest_from-some state [] d = rw d refl
rest_from-some state (b ∷ bytes) d = rw d refl

-- such a scan found no end
pub none_found : (bytes : List ℕ) (state : State) (scanned : ℕ) → HasScanned bytes state scanned → is_done state ≡ false → rest_from Before bytes ≡ None
none_found bytes state scanned h nd =
    ap (rest_from Before) (sym (append-nil bytes)) ∙ h.searched.same []
    ∙ ap (rest_from state) (append-nil (drop scanned bytes) ∙ drop_all scanned bytes (let e = all_seen bytes state scanned h nd in omega arith))
    ∙ rest_from-none state nd

-- a scan that is done stands behind a head
pub head_before : (bytes : List ℕ) (state : State) (scanned : ℕ) → HasScanned bytes state scanned → is_done state ≡ true → IsHeadText (take scanned bytes)
head_before bytes state scanned h d =
    let rest = drop scanned bytes in
    let found : rest_from Before bytes ≡ Some rest =
    ap (rest_from Before) (sym (append-nil bytes)) ∙ h.searched.same [] ∙ rest_from-some state (rest ++ []) d ∙ ap Some (append-nil rest) in
    let head = head_found bytes rest found in
    subst IsHeadText (append_cancel_right head.0 (take scanned bytes) rest (sym head.1.stream_is ∙ sym (take-append-drop scanned bytes))) head.1.head

-- a search that has seen nothing
pub none_searched : (bytes : List ℕ) → HasSearched bytes Before 0
none_searched bytes = record { within = omega arith; same = λ more. refl }

-- the search goes on through the rest of the bytes
pub search_on : (bytes : List ℕ) (state after : State) (scanned count : ℕ) → HasSearched bytes state scanned
    → count ≤ length (slice_range bytes scanned (length bytes))
    → ((more : List ℕ) → rest_from state (slice_range bytes scanned (length bytes) ++ more) ≡ rest_from after (drop count (slice_range bytes scanned (length bytes)) ++ more))
    → HasSearched bytes after (scanned + count)
search_on bytes state after scanned count h within same =
    let rest : slice_range bytes scanned (length bytes) ≡ drop scanned bytes = between_to_end bytes scanned (length bytes) (omega arith) in
    record {
      within = omega (arith, ap length rest, length-drop scanned bytes, h.within, within);
      same = λ more. h.same more
          ∙ subst (λ u. rest_from state (u ++ more) ≡ rest_from after (drop count u ++ more)) rest (same more)
          ∙ ap (λ u. rest_from after (u ++ more)) (drop-drop count scanned bytes);
    }

-- where it went through the rest, it went through the bytes
pub search_through : (bytes : List ℕ) (state after : State) (scanned count : ℕ) → HasSearched bytes state scanned
    → (is_done after ≡ true) ⊎ (count ≡ length (slice_range bytes scanned (length bytes)))
    → (is_done after ≡ true) ⊎ (scanned + count ≡ length bytes)
search_through bytes state after scanned count h (inl done) = inl done
search_through bytes state after scanned count h (inr all) =
    let rest : slice_range bytes scanned (length bytes) ≡ drop scanned bytes = between_to_end bytes scanned (length bytes) (omega arith) in
    inr (omega (arith, ap length rest, length-drop scanned bytes, h.within, all))

-- it is a search of longer bytes too, as they are shown
pub searched_more : (bytes piece whole shown : List ℕ) (state : State) (scanned : ℕ) → whole ≡ bytes ++ piece → shown ≡ whole
    → HasSearched bytes state scanned → HasSearched shown state scanned
searched_more bytes piece whole shown state scanned longer is h =
    subst (λ u. HasSearched u state scanned) (sym (is ∙ longer)) (record {
      within = omega (arith, length-append bytes piece, h.within);
      same = λ more. ap (rest_from Before) (append_assoc bytes piece more)
          ∙ h.same (piece ++ more)
          ∙ ap (rest_from state) (sym (append_assoc (drop scanned bytes) piece more) ∙ ap (λ u. u ++ more) (sym (drop-append-le scanned bytes piece h.within)));
    })

-- the search of the bytes that are shown is one of those that they are
pub scanned_shown : (shown bytes : List ℕ) (state : State) (scanned : ℕ) → shown ≡ bytes → HasSearched shown state scanned
    → (is_done state ≡ true) ⊎ (scanned ≡ length shown) → HasScanned bytes state scanned
scanned_shown shown bytes state scanned is searched through =
    subst (λ u. HasScanned u state scanned) is (record { searched = searched; through = through })

-- a head at the front of a longer stream that lies in the bytes is a head of the bytes
head_within : (bytes more text rest : List ℕ) → HasHead (bytes ++ more) text rest → length text ≤ length bytes → rest_from Before bytes ≢ None
head_within bytes more text rest h fits none =
    let text_is : text ≡ take (length text) bytes =
    sym (take_at text rest (length text) refl) ∙ ap (take (length text)) (sym h.stream_is) ∙ take-append-le (length text) bytes more fits in
    let whole : bytes ≡ text ++ drop (length text) bytes =
    sym (take-append-drop (length text) bytes) ∙ ap (λ u. u ++ drop (length text) bytes) (sym text_is) in
    let found : rest_from Before bytes ≡ Some (drop (length text) bytes) =
    head_runs bytes text (drop (length text) bytes) record { head = h.head; stream_is = whole } in
    cc

-- where the whole room has no end of a head, the head is too long
pub overlong_from : (old known : Option (List ℕ)) (bytes : List ℕ) → Keeps old (prepend_known bytes known)
    → length bytes ≡ head_limit → rest_from Before bytes ≡ None → IfSome old Overlong
overlong_from None known bytes kept full none = tt
overlong_from (Some stream) None bytes kept full none = absurd kept
overlong_from (Some stream) (Some more) bytes kept full none = record {
  long = omega (arith, ap length kept, length-append bytes more);
  beyond = λ text rest h. elim (cases_lt head_limit (length text)) [
    | inl lt ↦ lt
    | inr le ↦ absurd (head_within bytes more text rest (subst (λ s. HasHead s text rest) (sym kept) h) (omega arith) none)
  ];
}

-- where all that came has no end of a head, the stream is cut short
pub cut_short_from : (old known : Option (List ℕ)) (bytes : List ℕ) → Keeps old (prepend_known bytes known)
    → IsAtEnd known → length bytes < head_limit → rest_from Before bytes ≡ None → IfSome old CutShort
cut_short_from None known bytes kept end short none = tt
cut_short_from (Some stream) None bytes kept end short none = absurd kept
cut_short_from (Some stream) (Some more) bytes kept end short none =
    let all : stream ≡ bytes = sym kept ∙ ap (λ u. bytes ++ u) end ∙ append-nil bytes in
    record {
      short = rw all short;
      no_head = λ text rest h. (let found : rest_from Before bytes ≡ Some rest = head_runs bytes text rest (subst (λ s. HasHead s text rest) all h) in absurd (cc));
    }
