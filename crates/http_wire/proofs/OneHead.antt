-- A stream, a text and fields each say one thing at most.
use Rattle.std.proofs.Common.{◌≡◌, ℕ, List, [], ◌∷◌, ◌++◌, Result, Ok, Err, refl, sym, ap, ◌∙◌, append-nil, arith}
use Rattle.std.specs.Prelude.{codes}
use Rattle.std.proofs.lemmas.List.{append_cancel_right}
use Rattle.httparse.specs.Grammar.{ReadsRequest, print_request}
use Rattle.httparse.proofs.GrammarLemmas.{request_unique}
use Rattle.http_wire.specs.declared.faults.LengthFault.{LengthFault}
use Rattle.http_wire.specs.declared.faults.LengthFault.TheVariants.{CodingRefused, LengthBad, BodyTooLarge}
use Rattle.http_wire.specs.Fields.{values_of, SayLength, IsBodyLength}
use Rattle.http_wire.specs.HeadText.{HasHead}
use Rattle.http_wire.specs.Requests.{RequestParts, parts_of, Says, IsBadHead}
use Rattle.http_wire.proofs.HeadEnds.{head_runs}

pub begins_with_one : (stream text rest other others : List ℕ) → HasHead stream text rest → HasHead stream other others → (text ≡ other) × (rest ≡ others)
begins_with_one stream text rest other others one another =
    let found = head_runs stream text rest one in
    let found_too = head_runs stream other others another in
    let same : rest ≡ others = cc in
    let joined : text ++ rest ≡ other ++ rest = sym one.stream_is ∙ another.stream_is ∙ ap (λ u. other ++ u) (sym same) in
    (append_cancel_right text other rest joined, same)

-- a head that is served, as a buffer that it fills
reads : (text : List ℕ) (parts : RequestParts) (says : Says text parts) → ReadsRequest text says.head []
reads text parts says = (says.served.lawful, says.text_is ∙ sym (append-nil (print_request says.head)))

pub says_one : (text : List ℕ) (parts others : RequestParts) → Says text parts → Says text others → parts ≡ others
says_one text parts others one another =
    let same = request_unique text one.head another.head [] [] (reads text parts one) (reads text others another) in
    one.parts_are ∙ ap parts_of same.0 ∙ sym another.parts_are

pub is_not_bad : (text : List ℕ) (parts : RequestParts) → Says text parts → ¬ (IsBadHead text)
is_not_bad text parts says bad = (bad says.head says.served.lawful says.text_is).1 says.served.path

-- ---- lengths

one_length : (values : List (List ℕ)) (n m : ℕ) → SayLength values n → SayLength values m → n ≡ m
one_length [] n m one another = one ∙ sym another
one_length (value ∷ []) n m one another = one.value ∙ sym another.value
one_length (value ∷ other ∷ values) n m one another = absurd one

pub announces_one : (fields : List (List ℕ × List ℕ)) (limit : ℕ) (one another : Result ℕ LengthFault) → IsBodyLength one fields limit → IsBodyLength another fields limit
    → one ≡ another
announces_one fields limit (Ok n) (Ok m) h k = ap Ok (one_length (values_of (codes "content-length") fields) n m h.says k.says)
announces_one fields limit (Ok n) (Err CodingRefused) h k = absurd (k h.uncoded)
announces_one fields limit (Ok n) (Err LengthBad) h k = absurd (k.1 n h.says)
announces_one fields limit (Ok n) (Err BodyTooLarge) h k =
    let same = one_length (values_of (codes "content-length") fields) n k.1.0 h.says k.1.1 in
    let within = h.within in
    let over = k.1.2 in
    absurd (omega arith)
announces_one fields limit (Err CodingRefused) (Ok m) h k = absurd (h k.uncoded)
announces_one fields limit (Err CodingRefused) (Err CodingRefused) h k = refl
announces_one fields limit (Err CodingRefused) (Err LengthBad) h k = absurd (h k.0)
announces_one fields limit (Err CodingRefused) (Err BodyTooLarge) h k = absurd (h k.0)
announces_one fields limit (Err LengthBad) (Ok m) h k = absurd (h.1 m k.says)
announces_one fields limit (Err LengthBad) (Err CodingRefused) h k = absurd (k h.0)
announces_one fields limit (Err LengthBad) (Err LengthBad) h k = refl
announces_one fields limit (Err LengthBad) (Err BodyTooLarge) h k = absurd (h.1 k.1.0 k.1.1)
announces_one fields limit (Err BodyTooLarge) (Ok m) h k =
    let same = one_length (values_of (codes "content-length") fields) h.1.0 m h.1.1 k.says in
    let within = k.within in
    let over = h.1.2 in
    absurd (omega arith)
announces_one fields limit (Err BodyTooLarge) (Err CodingRefused) h k = absurd (k h.0)
announces_one fields limit (Err BodyTooLarge) (Err LengthBad) h k = absurd (k.1 h.1.0 h.1.1)
announces_one fields limit (Err BodyTooLarge) (Err BodyTooLarge) h k = refl
