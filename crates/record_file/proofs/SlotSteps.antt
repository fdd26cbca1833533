-- What the writing of a slot leaves of it.
use Rattle.std.proofs.Common.{◌≡◌, ◌⊎◌, ℕ, ◌<◌, zero, suc, List, [], ◌∷◌, ◌++◌, length, get_or, drop, inl, inr, ⊎_elim, refl, sym, ◌∙◌, ap, subst, arith, Result, Ok, Err, OnOk}
use Rattle.std.proofs.lemmas.List.{append-nil, drop_all}
use Rattle.host_disk.specs.Crashes.{Cut, IsWritten, Only, Torn}
use Rattle.record_file.specs.Frames.{MayLeave}
use Rattle.record_file.specs.Slots.{AllClosed, HasGate, IsBelow, IsClosed, IsInUse, IsReplacing, IsShown, IsStale, IsWriting, short, older, still, closed, whole}
use Rattle.record_file.proofs.AroundGates.{torn_at, torn_behind, written_at, written_behind, cut_behind}
use Rattle.record_file.proofs.LookSteps.{not_in_use}
use Rattle.record_file.proofs.OneWalk.{same_head}

-- a fact of an Ok gives another
pub on_ok : {T E : Type 0} (result : Result T E) (P Q : Type 0) → (P → Q) → OnOk result P → OnOk result Q
on_ok (Ok x) P Q from p = from p
on_ok (Err x) P Q from p = tt

-- a fact that holds at an error too
pub always_ok : {T E : Type 0} (result : Result T E) (P : Type 0) → P → OnOk result P
always_ok (Ok x) P p = p
always_ok (Err x) P p = tt

-- ---- closing

pub zero_first : (old new : List ℕ) → IsWritten old 0 (0 ∷ []) new → new ≡ 0 ∷ drop 1 old
zero_first old new written = written.is

pub stale_torn : (generation : ℕ) (d c : List ℕ) → IsStale generation d → Torn 0 1 d c → IsStale generation c
stale_torn generation d c (short small) torn = short (omega (arith, small, torn.no_longer))
stale_torn generation d c (older gate less behind low shown is) torn = older (get_or c 0 0) less behind low shown (torn_at [] gate behind d is c torn)

pub closing : (generation : ℕ) (images : List ℕ → Type 0) → ((c : List ℕ) → images c → IsStale generation c) → (c : List ℕ) → MayLeave (Torn 0 1) images c → IsStale generation c ⊎ IsClosed c
closing generation images stale c left = ⊎_elim (λ now. inl (stale c now)) (λ from. inl (stale_torn generation from.0 c (stale from.0 from.1) from.2)) left

pub closed_cut : (rest d c : List ℕ) → d ≡ 0 ∷ rest → Cut 1 d c → IsClosed c
closed_cut rest d c is cut = record { rest = drop 1 c; is = cut_behind [] 0 rest d is c cut }

-- ---- filling

pub filling : (n : ℕ) (images : List ℕ → Type 0) → AllClosed images → (c : List ℕ) → MayLeave (Torn 1 n) images c → IsClosed c
filling n images all c left = ⊎_elim (all c) (λ from. let was = all from.0 from.1 in record { rest = drop 1 c; is = torn_behind [] 0 was.rest from.0 was.is n c from.2 }) left

pub filled : (file new bytes : List ℕ) → file ≡ 0 ∷ [] → IsWritten file 1 bytes new → new ≡ 0 ∷ bytes
filled file new bytes is written =
    written_behind [] 0 [] file is bytes new written
    ∙ ap (λ (l : List ℕ). 0 ∷ (bytes ++ l)) (drop_all (length bytes) [] (omega arith))
    ∙ ap (λ (l : List ℕ). 0 ∷ l) (append-nil bytes)

-- ---- showing

pub showing : (behind : List ℕ) (images : List ℕ → Type 0) → Only (0 ∷ behind) images → (c : List ℕ) → MayLeave (Torn 0 1) images c → HasGate behind c
showing behind images only c left =
    ⊎_elim (λ now. record { gate = 0; is = only c now }) (λ from. record { gate = get_or c 0 0; is = torn_at [] 0 behind from.0 (only from.0 from.1) c from.2 }) left

pub shown : (behind file new : List ℕ) → file ≡ 0 ∷ behind → IsWritten file 0 (1 ∷ []) new → new ≡ 1 ∷ behind
shown behind file new is written = written_at [] 0 behind file is 1 new written

-- ---- all of it

pub from_closing : (generation : ℕ) (behind c : List ℕ) → IsStale generation c ⊎ IsClosed c → IsWriting generation behind c
from_closing generation behind c left = ⊎_elim (λ stale. still stale) (λ shut. closed shut) left

-- ---- clearing, and writing a file

-- a cut to one byte brings no file into use
pub unused_cut : (file c : List ℕ) → 1 < length file → (IsInUse file → ⊥) → Cut 1 file c → IsInUse c → ⊥
unused_cut [] c long unused cut used = omega (arith, long)
unused_cut (x ∷ []) c long unused cut used = omega (arith, long)
unused_cut (x ∷ (y ∷ rest)) c long unused cut used =
    let kept : c ≡ x ∷ drop 1 c = cut_behind [] x (y ∷ rest) (x ∷ (y ∷ rest)) refl c cut in
    unused (record { second = y; rest = rest; is = ap (λ (n : ℕ). n ∷ (y ∷ rest)) (same_head x 1 (drop 1 c) (used.second ∷ used.rest) (sym kept ∙ used.is)) })

by_gate : (generation gate less : ℕ) (behind file : List ℕ) → less < generation → IsShown less (1 ∷ behind) → file ≡ gate ∷ behind → IsBelow generation file
by_gate generation zero less behind file low shown is = inl (not_in_use 0 behind file (λ e. omega (arith, e)) is)
by_gate generation (suc zero) less behind file low shown is = inr (less, low, subst (IsShown less) (sym is) shown)
by_gate generation (suc (suc gate)) less behind file low shown is = inl (not_in_use (suc (suc gate)) behind file (λ e. omega (arith, e)) is)

-- a slot that isn't read whatever its first byte becomes isn't read
pub stale_below : (generation : ℕ) (file : List ℕ) → IsStale generation file → IsBelow generation file
stale_below generation file (short small) = inl (λ used. omega (arith, small, ap length used.is))
stale_below generation file (older gate less behind low shown is) = by_gate generation gate less behind file low shown is

-- and of generation 0 it isn't in use
pub stale_unused : (file : List ℕ) → IsStale 0 file → IsInUse file → ⊥
stale_unused file (short small) used = omega (arith, small, ap length used.is)
stale_unused file (older gate less behind low shown is) used = omega (arith, low)

pub stale_more : (generation : ℕ) (file : List ℕ) → IsStale 0 file → IsStale generation file
stale_more generation file (short small) = short small
stale_more generation file (older gate less behind low shown is) = absurd (omega (arith, low))

by_own_gate : (behind file : List ℕ) (gate : ℕ) → file ≡ gate ∷ behind → IsReplacing (1 ∷ behind) file
by_own_gate behind file zero is = inl (not_in_use 0 behind file (λ e. omega (arith, e)) is)
by_own_gate behind file (suc zero) is = inr is
by_own_gate behind file (suc (suc gate)) is = inl (not_in_use (suc (suc gate)) behind file (λ e. omega (arith, e)) is)

-- while a file is written into a cleared slot, it isn't in use until it has the whole file
pub writing_replaces : (behind file : List ℕ) → IsWriting 0 behind file → IsReplacing (1 ∷ behind) file
writing_replaces behind file (still stale) = inl (stale_unused file stale)
writing_replaces behind file (closed shut) = inl (not_in_use 0 shut.rest file (λ e. omega (arith, e)) shut.is)
writing_replaces behind file (whole there) = by_own_gate behind file there.gate there.is
