-- A book stands as its turns leave it.
use Rattle.std.proofs.Common.{◌≡◌, ◌⊎◌, ◌≤◌, ℕ, nat_le, Bool, true, false, IsTrue, List, [], ◌∷◌, ◌++◌, Option, Some, None, Result, Ok, Err, refl, sym, ap, subst, ◌∙◌, inl, inr, ⊎_elim}
use Rattle.std.specs.Option.{is_none}
use Rattle.std.proofs.lemmas.Bool.{false≢true}
use Rattle.std.proofs.lemmas.List.{append-nil, append_assoc}
use Rattle.byte_view.specs.Contents.{Contents}
use Rattle.host_disk.specs.declared.disks.Disk.{Ghosts}
use Rattle.host_names.specs.declared.names.SiteName.{SiteName}
use Rattle.site_state.specs.States.{State}
use Rattle.site_change.specs.declared.commands.Command.{Command}
use Rattle.site_change.specs.Changes.{IsWithin, refusal}
use Rattle.site_change.specs.declared.refusals.ChangeRefusal.{ChangeRefusal}
use Rattle.site_change.specs.declared.refusals.ChangeRefusal.TheVariants.{HistoryFull}
use Rattle.site_change.specs.declared.entries.Entry.{Entry}
use Rattle.site_change.specs.declared.entries.Entry.TheVariants.{Change, Undo}
use Rattle.change_undo.specs.Histories.{IsLegal, change_refusal, is_allowed, is_accepted_in, run}
use Rattle.change_log.specs.Logs.{Log, last_number, next_number, with_entries, with_entry, with_only}
use Rattle.change_undo.proofs.Runs.{guard, history-grows, legal-entry, within_limit}
use Rattle.record_file.proofs.OneRead.{shut_held}
use Rattle.record_file.specs.Pairs.{Order}
use Rattle.change_journal.proofs.Entrywise.{left_since_both, one_each}
use Rattle.change_journal.specs.Texts.{AllStored, HoldsEntries, LeavesNext, MayHoldNext, texts}
use Rattle.site_desk.specs.Books.{Kept, commit_refusal, state_of, undo_refusal, with_known}
use Rattle.site_desk.specs.declared.errors.DeskError.{DeskError}
use Rattle.site_desk.specs.declared.errors.DeskError.TheVariants.{Broken, Refused, NoReceipt, OutOfMemory, Device}
use Rattle.shared_desk.specs.Turns.{IsTurn}
use Rattle.shared_desk.specs.Stops.{AreTurns, HasAtMostOneMore, IsTurnOf, Stands, Turn, acknowledged, answered}

-- how what stops leave is split
abbrev pub Splits : Type 0
Splits = (order : Order) (had : List Entry) (entry : Entry) (a b : List ℕ) → MayHoldNext order had entry (λ c. c ≡ a) (λ c. c ≡ b)
    → HoldsEntries had a b ⊎ HoldsEntries (had ++ entry ∷ []) a b

module _ {D : Type 0} (disk : Ghosts D) (counts_now : (d : D) (t : ℕ) (c : List ℕ) → IsTrue disk.is_modelled → t ≤ disk.moment d → disk.may_leave d c → disk.left_since d t c) where
  -- a log without more entries is the log
  as_it_is : (log : Log) (new : Kept D) → Stands disk log new → Stands disk (with_entries log []) new
  as_it_is log new stands = subst (λ (es : List Entry). Stands disk (with_only log es) new) (sym (append-nil log.entries)) stands

  -- it may learn of more files
  learns : (log : Log) (book : Kept D) (more : Contents) → IsWithin book.known more → Stands disk log book → Stands disk log (with_known book more)
  learns log book more within stands = record {
    entries = stands.entries;
    legal = (history-grows book.known more log within stands.legal).0;
    whole = stands.whole;
    torn = λ broken. let was = stands.torn broken in (was.0, (history-grows book.known more (with_entry log was.0) within was.1).0, was.2);
  }

  -- after a turn whose entry may follow, if there was no reason against it
  module _ (floor : ℕ) (entry : Entry) (why : Option ChangeRefusal) (M : Type 0) (log : Log) (old new : Kept D) (stands : Stands disk log old)
      (allowed : why ≡ None → IsTrue (is_allowed old.known log entry)) where
    pushed : why ≡ None → IsLegal old.known (with_entry log entry)
    pushed none = legal-entry old.known log entry stands.legal (allowed none)

    pub after_turn : (answer : Result Log (DeskError Log)) → IsTurn disk floor entry why M old answer new → Stands disk (with_entries log (answered answer entry)) new
    after_turn (Ok receipt) turn =
        let put = turn.entered.0 in
        let is = put.entries ∙ ap (λ (l : Log). with_entry l entry) stands.entries in
        record {
          entries = is;
          legal = subst (λ (k : Contents). IsLegal k (with_entry log entry)) (sym turn.entered.1) (pushed turn.answer.1);
          whole = λ modelled broken. subst (λ (l : Log). AllStored (disk.may_leave new.journal.first) (disk.may_leave new.journal.second) l.entries) is (put.stored modelled);
          torn = λ broken. absurd (false≢true (sym put.whole ∙ broken));
        }
    after_turn (Err Device) turn =
        let put = turn.entered.0 in
        let known = λ (l : Log) (legal : IsLegal old.known l). subst (λ (k : Contents). IsLegal k l) (sym turn.entered.1) legal in
        as_it_is log new (record {
          entries = put.entries ∙ stands.entries;
          legal = known log stands.legal;
          whole = λ modelled whole. absurd (false≢true (sym whole ∙ put.broken));
          torn = λ broken. (
            entry,
            known (with_entry log entry) (pushed turn.answer.1),
            λ modelled.
                let next = put.moments modelled in
                let leaves = next.1.leaves in (
                  next.0,
                  subst (λ (l : Log). MayHoldNext next.0 l.entries entry (disk.may_leave new.journal.first) (disk.may_leave new.journal.second)) stands.entries (record {
                    writable = next.1.writable;
                    old = next.1.old;
                    one = λ c left. leaves.one.each c (counts_now new.journal.first (disk.moment old.journal.first) c modelled leaves.one.later left);
                    other = λ c left. leaves.other.each c (counts_now new.journal.second (disk.moment old.journal.second) c modelled leaves.other.later left);
                  }),
                ),
          );
        })
    after_turn (Err Broken) turn = as_it_is log new (subst (Stands disk log) (sym turn.entered) stands)
    after_turn (Err (Refused reason seen)) turn = as_it_is log new (subst (Stands disk log) (sym turn.entered) stands)
    after_turn (Err (NoReceipt reason)) turn = as_it_is log new (subst (Stands disk log) (sym turn.entered) stands)
    after_turn (Err OutOfMemory) turn = as_it_is log new (subst (Stands disk log) (sym turn.entered) stands)

    -- at any moment of it
    module _ (only_now : (d : D) (c : List ℕ) → IsTrue disk.is_modelled → disk.left_since d (disk.moment d) c → disk.may_leave d c)
        (split : Splits) (whole : old.journal.broken ≡ false) where
      abbrev pub Held : List ℕ → List ℕ → Type 0
      Held a b = (held : Log) × HoldsEntries held.entries a b × ((held ≡ log) ⊎ (held ≡ with_entry log entry)) × IsLegal old.known held

      abbrev pub Since : List ℕ → List ℕ → Type 0
      Since a b = disk.left_since new.journal.first (disk.moment old.journal.first) a × disk.left_since new.journal.second (disk.moment old.journal.second) b

      either : why ≡ None → (order : Order) → LeavesNext disk.moment disk.left_since order old.journal.entries.entries entry old.journal.first old.journal.second new.journal.first new.journal.second → (a b : List ℕ) → Since a b → Held a b
      either none order next a b left =
          let since = left_since_both disk.moment disk.left_since order old.journal.entries.entries entry old.journal.first old.journal.second new.journal.first new.journal.second next in
          let at = subst (λ (l : Log). MayHoldNext order l.entries entry (λ c. c ≡ a) (λ c. c ≡ b)) stands.entries (one_each order old.journal.entries.entries entry _ _ a b since left.0 left.1) in
          ⊎_elim (λ holds. (log, holds, inl refl, stands.legal)) (λ holds. (with_entry log entry, holds, inr refl, pushed none)) (split order log.entries entry a b at)

      unchanged : new ≡ old → IsTrue disk.is_modelled → (a b : List ℕ) → Since a b → Held a b
      unchanged same modelled a b left =
          let here = only_now old.journal.first a modelled (subst (λ (k : Kept D). disk.left_since k.journal.first (disk.moment old.journal.first) a) same left.0) in
          let there = only_now old.journal.second b modelled (subst (λ (k : Kept D). disk.left_since k.journal.second (disk.moment old.journal.second) b) same left.1) in
          let stored = stands.whole modelled whole a b here there in
          (log, record { writable = stored.writable; old = stored.old; holds = shut_held (texts log.entries) a b stored.shut }, inl refl, stands.legal)

      pub in_turn : (answer : Result Log (DeskError Log)) → IsTurn disk floor entry why M old answer new → IsTrue disk.is_modelled → (a b : List ℕ) → Since a b → Held a b
      in_turn (Ok receipt) turn modelled a b left = let next = turn.entered.0.moments modelled in either turn.answer.1 next.0 next.1 a b left
      in_turn (Err Device) turn modelled a b left = let next = turn.entered.0.moments modelled in either turn.answer.1 next.0 next.1 a b left
      in_turn (Err Broken) turn modelled a b left = unchanged turn.entered modelled a b left
      in_turn (Err (Refused reason seen)) turn modelled a b left = unchanged turn.entered modelled a b left
      in_turn (Err (NoReceipt reason)) turn modelled a b left = unchanged turn.entered modelled a b left
      in_turn (Err OutOfMemory) turn modelled a b left = unchanged turn.entered modelled a b left

  -- an entry against which there is no reason may follow
  change_allowed : (log : Log) (old : Kept D) (command : Command) → Stands disk log old → run old.known old.journal.entries ≡ Some (state_of old) → commit_refusal old command ≡ None
      → IsTrue (is_allowed old.known log (Change command))
  change_allowed log old command stands ran none =
      let free = (guard (nat_le 1000000 (last_number old.journal.entries)) HistoryFull (refusal command (next_number old.journal.entries) (state_of old) old.known) none).1 in
      let free_log : refusal command (next_number log) (state_of old) old.known ≡ None = subst (λ (l : Log). refusal command (next_number l) (state_of old) old.known ≡ None) stands.entries free in
      let ran_log : run old.known log ≡ Some (state_of old) = subst (λ (l : Log). run old.known l ≡ Some (state_of old)) stands.entries ran in
      ap (λ (s : Option State). is_accepted_in old.known s (next_number log) command) ran_log ∙ ap is_none free_log

  undo_allowed : (log : Log) (old : Kept D) (site : SiteName) (change : ℕ) → Stands disk log old → undo_refusal old site change ≡ None → IsTrue (is_allowed old.known log (Undo site change))
  undo_allowed log old site change stands none =
      let free : change_refusal old.known log site change ≡ None = subst (λ (l : Log). change_refusal old.known l site change ≡ None) stands.entries (within_limit old.known 1000000 old.journal.entries site change none) in
      ap is_none free

  after_one : (entry : Entry) (log : Log) (old new : Kept D) (answer : Result Log (DeskError Log)) → Stands disk log old → IsTurnOf disk entry old answer new
      → Stands disk (with_entries log (answered answer entry)) new
  after_one (Change command) log old new answer stands turn =
      after_turn turn.0 (Change command) (commit_refusal old command) _ log old new stands (change_allowed log old command stands turn.1.met.ran) answer turn.1
  after_one (Undo site change) log old new answer stands turn =
      after_turn turn.0 (Undo site change) (undo_refusal old site change) _ log old new stands (undo_allowed log old site change stands) answer turn.1

  pub in_one : (only_now : (d : D) (c : List ℕ) → IsTrue disk.is_modelled → disk.left_since d (disk.moment d) c → disk.may_leave d c)
      → Splits → (entry : Entry) (log : Log) (old new : Kept D) (answer : Result Log (DeskError Log)) → Stands disk log old → old.journal.broken ≡ false → IsTurnOf disk entry old answer new
      → IsTrue disk.is_modelled → (a b : List ℕ) → disk.left_since new.journal.first (disk.moment old.journal.first) a → disk.left_since new.journal.second (disk.moment old.journal.second) b
      → (held : Log) × HoldsEntries held.entries a b × ((held ≡ log) ⊎ (held ≡ with_entry log entry)) × IsLegal old.known held
  in_one only_now split (Change command) log old new answer stands whole turn modelled a b here there =
      in_turn turn.0 (Change command) (commit_refusal old command) _ log old new stands (change_allowed log old command stands turn.1.met.ran) only_now split whole answer turn.1 modelled a b (here, there)
  in_one only_now split (Undo site change) log old new answer stands whole turn modelled a b here there =
      in_turn turn.0 (Undo site change) (undo_refusal old site change) _ log old new stands (undo_allowed log old site change stands) only_now split whole answer turn.1 modelled a b (here, there)

  pub after_turns : (turns : List Turn) (log : Log) (old new : Kept D) → Stands disk log old → AreTurns disk old turns new → Stands disk (with_entries log (acknowledged turns)) new
  after_turns [] log old new stands is = as_it_is log new (subst (Stands disk log) (sym is) stands)
  after_turns (turn ∷ turns) log old new stands is =
      let one = after_one turn.entry log (with_known old is.0) is.1 turn.answer (learns log old is.0 is.2 stands) is.3 in
      subst (λ (es : List Entry). Stands disk (with_only log es) new) (append_assoc log.entries (answered turn.answer turn.entry) (acknowledged turns))
      (after_turns turns (with_entries log (answered turn.answer turn.entry)) is.1 new one is.4)

  pub what_is_held : (log : Log) (book : Kept D) → Stands disk log book → IsTrue disk.is_modelled → (a b : List ℕ) → disk.may_leave book.journal.first a → disk.may_leave book.journal.second b → Splits
      → (held : Log) × HoldsEntries held.entries a b × HasAtMostOneMore log held × ((uploads : Contents) → IsWithin book.known uploads → IsLegal uploads held)
  what_is_held log book stands modelled a b here there split = by book.journal.broken refl
    where
      grown : (held : Log) → IsLegal book.known held → (uploads : Contents) → IsWithin book.known uploads → IsLegal uploads held
      grown held legal uploads within = (history-grows book.known uploads held within legal).0

      by : (broken : Bool) → book.journal.broken ≡ broken → (held : Log) × HoldsEntries held.entries a b × HasAtMostOneMore log held × ((uploads : Contents) → IsWithin book.known uploads → IsLegal uploads held)
      by false is = let stored = stands.whole modelled is a b here there in (log, record { writable = stored.writable; old = stored.old; holds = shut_held (texts log.entries) a b stored.shut }, inl refl, grown log stands.legal)
      by true is =
          let was = stands.torn is in
          let next = was.2 modelled in
          ⊎_elim (λ holds. (log, holds, inl refl, grown log stands.legal)) (λ holds. (with_entry log was.0, holds, inr (was.0, refl), grown (with_entry log was.0) was.1))
          (split next.0 log.entries was.0 a b (one_each next.0 log.entries was.0 (disk.may_leave book.journal.first) (disk.may_leave book.journal.second) a b next.1 here there))
