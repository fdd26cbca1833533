use Rattle.std.proofs.Common.{ℕ, ◌≡◌, inl, inr, List, [], ◌∷◌, ◌++◌, true, false, Result, Ok, Err, if◌then◌else◌, is_ok, refl, sym, ◌∙◌}
use Rattle.std.specs.List.{flat_map}
use Rattle.http_wire.specs.Replies.{ended_line, head_lines}
use Rattle.host_api.specs.declared.refusals.HeadRefusal.TheVariants.{BadHead, HeadTooLarge}
use Rattle.host_api.specs.declared.refusals.Refusal.TheVariants.{Head}
use Rattle.host_replies.specs.Replies.{Answer, fields_for, refused_answer, sent_text}
use Rattle.host_server.specs.OpeningLines.{shown_of}
use Rattle.host_connection.specs.declared.connections.ConnectionFault.{ConnectionFault}
use Rattle.found_host.specs.declared.faults.OpenFault.{OpenFault}
use Rattle.found_host.specs.declared.faults.OpenFault.TheVariants as fault
use Rattle.host_connection.proofs.NoHead.{not_caught_up}
use Rattle.host_server.proofs.laws.refuted.wrong_runs_are_refused.Goals as goal

pub returns-clause-input : goal.returns-clause-input
returns-clause-input g c host next stream held new_held is = is.ends.0

pub returns-clause-output : goal.returns-clause-output
returns-clause-output g c host next stream held new_held is = is.ends.0

pub returns-clause-idle : goal.returns-clause-idle
returns-clause-idle g c host next is = absurd (cc (is.idle refl))

pub returns-clause-caught_up : goal.returns-clause-caught_up
returns-clause-caught_up g c host is = not_caught_up _ host is

pub returns-clause-interim : goal.returns-clause-interim
returns-clause-interim g c parts (inl (expects, is)) = absurd (cc is)
returns-clause-interim g c parts (inr (expects, is)) = absurd (cc is)

-- a text with a line's end in it is not empty
none_ended : (before behind : List ℕ) (x y : ℕ) → [] ≡ (before ++ x ∷ y ∷ []) ++ behind → ⊥
none_ended [] behind x y none = absurd (cc none)
none_ended (b ∷ before) behind x y none = absurd (cc none)

-- so no reply is sent without a byte
none_sent : (answer : Answer) → [] ≡ sent_text true false answer → ⊥
none_sent answer none = none_ended (flat_map ended_line (head_lines (fields_for true answer))) answer.body 13 10 none

pub returns-clause-head : goal.returns-clause-head
returns-clause-head g c stream (inl (new, large, sent)) = none_sent (refused_answer (Head HeadTooLarge)) sent
returns-clause-head g c stream (inr (new, text, takes, bad, sent)) = none_sent (refused_answer (Head BadHead)) sent

pub returns-clause-opened : goal.returns-clause-opened
returns-clause-opened g c first second shelf limit server none is = absurd (cc (sym none ∙ is.is))

pub returns-clause-open_fault : goal.returns-clause-open_fault
returns-clause-open_fault g c first second new_first new_second shelf new_shelf limit (inl ((inl told, spared), same)) = inl (told.0, told.1.0 refl)
returns-clause-open_fault g c first second new_first new_second shelf new_shelf limit (inl ((inr told, spared), same)) = inr (told.0, told.1.0 refl)
returns-clause-open_fault g c first second new_first new_second shelf new_shelf limit (inr (journal, has, first_is, second_is, is)) = absurd is

ended_so : (ended : Result (Unit {0}) ConnectionFault) → (◌≡◌ {A = ℕ} 1 (if is_ok ended then 0 else 2) → ⊥) × (◌≡◌ {A = ℕ} 5 (if is_ok ended then 0 else 2) → ⊥)
ended_so (Ok done) = ((λ e. absurd (cc e)), (λ e. absurd (cc e)))
ended_so (Err why) = ((λ e. absurd (cc e)), (λ e. absurd (cc e)))

not_opened_so : (why : OpenFault) → (1 ≡ (shown_of why).1 → ⊥) × (5 ≡ (shown_of why).1 → ⊥)
not_opened_so fault.BadHeader = ((λ e. absurd (cc e)), (λ e. absurd (cc e)))
not_opened_so (fault.BadRecord n) = ((λ e. absurd (cc e)), (λ e. absurd (cc e)))
not_opened_so (fault.NotLegal n) = ((λ e. absurd (cc e)), (λ e. absurd (cc e)))
not_opened_so fault.JournalDevice = ((λ e. absurd (cc e)), (λ e. absurd (cc e)))
not_opened_so (fault.MissingBlob digest) = ((λ e. absurd (cc e)), (λ e. absurd (cc e)))
not_opened_so (fault.DamagedBlob digest) = ((λ e. absurd (cc e)), (λ e. absurd (cc e)))
not_opened_so fault.BlobsDevice = ((λ e. absurd (cc e)), (λ e. absurd (cc e)))
not_opened_so fault.OutOfMemory = ((λ e. absurd (cc e)), (λ e. absurd (cc e)))

pub returns-clause-store : goal.returns-clause-store
returns-clause-store g c first second shelf old new said new_said (inl (start, opened, served)) = (ended_so served.ended).0 served.says
returns-clause-store g c first second shelf old new said new_said (inr (why, last_first, last_second, last_shelf, is, says, same)) = (not_opened_so why).0 says.0

pub returns-clause-run : goal.returns-clause-run
returns-clause-run g c words old new said new_said (inl (inl (none, status, text), same)) = absurd (cc status)
returns-clause-run g c words old new said new_said (inl (inr (status, text), same)) = absurd (cc status)
returns-clause-run g c words old new said new_said (inr (inl (asks, inl (start, empty, served)))) = (ended_so served.ended).1 served.says
returns-clause-run g c words old new said new_said (inr (inl (asks, inr ((status, text), same)))) = absurd (cc status)
returns-clause-run g c words old new said new_said (inr (inr (folder, asks, inl (name, (first, second, there, inl (start, opened, served)))))) = (ended_so served.ended).1 served.says
returns-clause-run g c words old new said new_said (inr (inr (folder, asks, inl (name, (first, second, there, inr (why, last_first, last_second, last_shelf, is, says, same)))))) = (not_opened_so why).1 says.0
returns-clause-run g c words old new said new_said (inr (inr (folder, asks, inr (why, is, says, same)))) = (not_opened_so why).1 says.0

pub returns-clause-held_back : goal.returns-clause-held_back
returns-clause-held_back g c host old new said new_said served = (served.timely.events, served.timely.steps, served.timely.timely)
