-- What the parser of `httparse` says of a head that is served, and the other way round.
use Rattle.std.proofs.Common.{◌≡◌, ◌≢◌, ℕ, ◌≤◌, List, [], ◌++◌, length, drop, Some, Result, Ok, Err, OnErr, refl, sym, ap, subst, ◌∙◌, append-nil, arith, take}
use Rattle.std.specs.Prelude.{slice_get, IsTrue}
use Rattle.std.proofs.lemmas.List.{length-take, length-map}
use Rattle.std.proofs.lemmas.List.Elements.{All-weaker}
use Rattle.httparse.specs.declared.Status.TheVariants.{Complete}
use Rattle.httparse.specs.declared.spans.HeaderSpan.{HeaderSpan}
use Rattle.httparse.specs.declared.spans.RequestSpans.{RequestSpans}
use Rattle.httparse.specs.Grammar as grammar
use Rattle.httparse.specs.Grammar.{RequestHead, print_request, HasNoRequest, NeverHasRequest}
use Rattle.httparse.specs.Spans.{IsRequestAt, FindsRequest, span_bytes, header_bytes, name_and_value}
use Rattle.httparse.proofs.GrammarLemmas.{request_unique}
use Rattle.http_header.specs.Token as token
use Rattle.http_wire.specs.HeadText.{IsHeadText}
use Rattle.http_wire.specs.Requests.{IsServed, IsBadHead, SaysSomething, parts_of}
use Rattle.http_wire.specs.Scanning.{rest_from}
use Rattle.http_wire.specs.declared.scans.State.TheVariants.{Before}
use Rattle.http_wire.proofs.HeadEnds.{head_runs}
use Rattle.http_wire.proofs.RequestLines.{request_is_head}

-- a head that is served is the one that the parser answered
pub served_at : (text : List ℕ) (headers : List HeaderSpan) (spans : RequestSpans) (head : RequestHead)
    → FindsRequest text 64 headers (Ok (Complete spans)) → IsServed head → text ≡ print_request head
    → IsRequestAt text headers spans head
served_at text headers spans head finds served e =
    finds head [] (served.lawful, e ∙ sym (append-nil (print_request head))) served.room

same : (b : ℕ) → IsTrue (grammar.is_token_byte b) → IsTrue (token.is_token_byte b)
unfolding grammar.is_token_byte token.is_token_byte
same b h = h

-- the parser and `http` have the same tokens
pub same_tokens : (bytes : List ℕ) → grammar.IsToken bytes → token.IsToken bytes
same_tokens bytes (some, pass) =
    (some, All-weaker (λ b. IsTrue (grammar.is_token_byte b)) (λ b. IsTrue (token.is_token_byte b)) same bytes pass)

-- what the parser answered is the whole text, which is one head by lines
pub text_is_head : (text : List ℕ) (headers : List HeaderSpan) (spans : RequestSpans) (head : RequestHead)
    → IsHeadText text → IsRequestAt text headers spans head → text ≡ print_request head
text_is_head text headers spans head whole found =
    let rest = drop spans.len text in
    let one : rest_from Before text ≡ Some [] = head_runs text text [] record { head = whole; stream_is = sym (append-nil text) } in
    let other : rest_from Before text ≡ Some rest =
    head_runs text (print_request head) rest record { head = request_is_head head found.reads.0; stream_is = found.reads.1 } in
    let none : rest ≡ [] = cc in
    found.reads.1 ∙ ap (λ u. print_request head ++ u) none ∙ append-nil (print_request head)

-- the fields of an answer fit
fields_fit : (text : List ℕ) (headers : List HeaderSpan) (spans : RequestSpans) (head : RequestHead) → IsRequestAt text headers spans head → length headers ≡ 64
    → length head.fields ≤ 64
fields_fit text headers spans head found room =
    omega (
      arith,
      room,
      length-take spans.headers headers,
      sym (length-map (take spans.headers headers) (header_bytes text)) ∙ ap length found.fields ∙ length-map head.fields name_and_value,
    )

-- such an answer is a head that is served, where it has a path
pub served_from : (text : List ℕ) (headers : List HeaderSpan) (spans : RequestSpans) (head : RequestHead)
    → IsHeadText text → IsRequestAt text headers spans head
    → slice_get (span_bytes text spans.path) 0 ≡ Some 47 → length headers ≡ 64
    → (x : RequestHead) × IsServed x × (text ≡ print_request x) × IsRequestAt text headers spans x
served_from text headers spans head whole found path room =
    let served : IsServed head = record {
      lawful = found.reads.0;
      path = ap (λ t. slice_get t 0) (sym found.path) ∙ path;
      room = fields_fit text headers spans head found room;
    } in
    (head, served, text_is_head text headers spans head whole found, found)

-- where it has no path, the text is a bad head
pub bad_from : (text : List ℕ) (headers : List HeaderSpan) (spans : RequestSpans) (found : RequestHead)
    → IsRequestAt text headers spans found → slice_get (span_bytes text spans.path) 0 ≢ Some 47 → length headers ≡ 64 → IsBadHead text
bad_from text headers spans found at no_path room head lawful e =
    let same = request_unique text found head (drop spans.len text) [] at.reads (lawful, e ∙ sym (append-nil (print_request head))) in (
      subst (λ h. length h.fields ≤ 64) same.0 (fields_fit text headers spans found at room),
      λ path. no_path (ap (λ t. slice_get t 0) (at.path ∙ ap (λ (h : RequestHead). h.target) same.0) ∙ path),
    )

-- so is a text that no head of the grammar begins
pub bad_without : (text : List ℕ) → HasNoRequest text → IsBadHead text
bad_without text none head lawful e = absurd (none head [] (lawful, e ∙ sym (append-nil (print_request head))))

pub bad_for_ever : (text : List ℕ) → NeverHasRequest text → IsBadHead text
bad_for_ever text never = bad_without text (subst HasNoRequest (append-nil text) (never []))

-- a text that such a head prints says something
pub something_said : (text : List ℕ) (head : RequestHead) → IsServed head → text ≡ print_request head → SaysSomething text
something_said text head served e = (parts_of head, record { head = head; served = served; text_is = e; parts_are = refl })

-- what holds in any case holds at `Err`
pub on_err : {A E : Type 0} {P : Type 0} (r : Result A E) → P → OnErr r P
on_err (Ok x) p = tt
on_err (Err e) p = p
