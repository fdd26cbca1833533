-- A text that is a head with few fields begins with no head that has many.
use Rattle.std.proofs.Common.{◌≡◌, ℕ, ◌≤◌, List, [], ◌∷◌, ◌++◌, length, length-append, refl, sym, ap, ◌∙◌, append_assoc, append-nil, arith}
use Rattle.std.specs.List.{flat_map}
use Rattle.std.proofs.lemmas.List.{append_cancel_right}
use Rattle.httparse.specs.Grammar.{LineEnd, crlf, lf, print_end, print_blank, print_version, print_field, print_section, RequestHead, print_request, IsRequestHead, ReadsRequest}
use Rattle.httparse.specs.Pieces.{RequestStart}
use Rattle.httparse.specs.Spans.{RequestExceeds}
use Rattle.httparse.proofs.GrammarLemmas.{print_request-append}
use Rattle.httparse.proofs.PieceLemmas.{RequestStart_deterministic, Section_skip, Stops_token}
use Rattle.http_wire.specs.Requests.{RequestParts, Says, field_limit}

-- the first line of a head and the empty lines before it, and then these bytes
abbrev after_start : RequestHead → List ℕ → List ℕ
after_start h rest = print_blank h.blank ++ (h.method ++ 32 ∷ (h.target ++ 32 ∷ (print_version h.minor ++ (print_end h.line_end ++ rest))))

after_start-append : (h : RequestHead) (xs ys : List ℕ) → after_start h xs ++ ys ≡ after_start h (xs ++ ys)
after_start-append h xs ys = regroup (print_blank h.blank) h.method h.target (print_version h.minor) (print_end h.line_end)
  where
    regroup : (a b c d e : List ℕ) → (a ++ (b ++ 32 ∷ (c ++ 32 ∷ (d ++ (e ++ xs))))) ++ ys ≡ a ++ (b ++ 32 ∷ (c ++ 32 ∷ (d ++ (e ++ (xs ++ ys)))))
    regroup a b c d e = simp append_assoc

starts : (h : RequestHead) (text rest : List ℕ) → IsRequestHead h → text ≡ after_start h rest
    → RequestStart (h.blank, (h.method, (h.target, (h.minor, h.line_end)))) text rest
starts h text rest l is = (
  _,
  (is, Stops_token h.method _ l.method.0 l.method.1),
  (_, (l.method.0, l.method.1, refl), (_, ((l.target.0, l.target.1, refl), l.target_text), (_, (l.minor, refl), refl))),
)

-- what stands before the LF of a line's end
abbrev before_feed : LineEnd → List ℕ
before_feed crlf = 13 ∷ []
before_feed lf = []

end_is : (e : LineEnd) → print_end e ≡ before_feed e ++ 10 ∷ []
end_is crlf = refl
end_is lf = refl

-- what comes before the last LF of a head
front_is : (h : RequestHead) (front : List ℕ) → front ++ 10 ∷ [] ≡ print_request h ++ [] → front ≡ after_start h (flat_map print_field h.fields ++ before_feed h.last)
front_is h front is =
    let lines = flat_map print_field h.fields in
    let section : print_section h.fields h.last ++ [] ≡ (lines ++ before_feed h.last) ++ 10 ∷ [] =
    append-nil (print_section h.fields h.last) ∙ ap (λ u. lines ++ u) (end_is h.last) ∙ sym (append_assoc lines (before_feed h.last) (10 ∷ [])) in
    append_cancel_right front (after_start h (lines ++ before_feed h.last)) (10 ∷ [])
    (is ∙ print_request-append h [] ∙ ap (after_start h) section ∙ sym (after_start-append h (lines ++ before_feed h.last) (10 ∷ [])))

-- a head whose front another head is without its last LF has the other's fields first
has_fields : (h k : RequestHead) (front rest : List ℕ) → IsRequestHead k → print_request k ≡ front ++ rest → ReadsRequest (front ++ 10 ∷ []) h []
    → length h.fields ≤ length k.fields
has_fields h k front rest lawful text_is reads =
    let lines = flat_map print_field h.fields in
    let tail = before_feed h.last ++ rest in
    let text = print_request k in
    let regroup : after_start h (lines ++ before_feed h.last) ++ rest ≡ after_start h (lines ++ tail) =
    after_start-append h (lines ++ before_feed h.last) rest ∙ ap (after_start h) (append_assoc lines (before_feed h.last) rest) in
    let by_h = starts h text (lines ++ tail) reads.0 (text_is ∙ ap (λ u. u ++ rest) (front_is h front reads.1) ∙ regroup) in
    let by_k = starts k text (print_section k.fields k.last ++ []) lawful (sym (append-nil text) ∙ print_request-append k []) in
    let same = RequestStart_deterministic.unique _ _ text _ _ by_h by_k in
    let skipped = Section_skip h.fields k.fields k.last (lines ++ tail) tail [] (reads.0.fields, refl) (lawful.fields, same.1) in
    omega (arith, ap length skipped.1, length-append h.fields skipped.0)

pub has_few_fields : (text : List ℕ) (parts : RequestParts) → Says text parts → ¬ (RequestExceeds field_limit text)
has_few_fields text parts says many =
    let fewer = has_fields many.3 says.head many.0 many.1 says.served.lawful (sym says.text_is ∙ many.2) many.4 in
    let room = says.served.room in
    let over = many.5 in
    absurd (omega arith)
