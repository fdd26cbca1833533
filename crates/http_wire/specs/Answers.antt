-- Answers to a GET: which streams begin with one, and which body it brings (RFC 9112, sections 2.1, 4 and 6).
use Rattle.std.specs.Prelude.{◌≡◌, ◌≢◌, ℕ, ◌<◌, ◌≤◌, ◌⊎◌, List, [], ◌∷◌, ◌++◌, Result, Ok, Err, length, map, codes, ⊤, vec_len}
use Rattle.std.specs.declared.vec.Vec.{Vec}
use Rattle.httparse.specs.Grammar.{ResponseHead, IsResponseHead, print_response, status_code}
use Rattle.httparse.specs.Spans.{name_and_value}
use Rattle.http_wire.specs.declared.answers.AnswerFault.{AnswerFault}
use Rattle.http_wire.specs.declared.answers.AnswerFault.TheVariants.{NotOk, ReadFault, BadHead, TooLong, OutOfMemory}
use Rattle.http_wire.specs.Fields.{WritesLength, values_of}
use Rattle.http_wire.specs.HeadText.{HasHead, CutShort, Overlong, head_limit}
use Rattle.http_wire.specs.Requests.{field_limit}

-- the request for a path, all of it
abbrev pub get_text : List ℕ → List ℕ
get_text path = codes "GET " ++ (path ++ codes " HTTP/1.1\r\nHost: peer\r\n\r\n")

-- what the head of an answer says: a field is a name and a value without the white space around it
pub record AnswerParts : Type 0 where
  pub status : ℕ
  pub fields : List (List ℕ × List ℕ)

abbrev pub answer_parts : ResponseHead → AnswerParts
answer_parts h = record { status = status_code h; fields = map name_and_value h.fields }

-- the text is a head of the grammar, with fields that fit, and these are its parts
pub record Tells (text : List ℕ) (parts : AnswerParts) : Type 0 where
  pub head : ResponseHead
  pub lawful : IsResponseHead head
  pub room : length head.fields ≤ field_limit
  pub text_is : text ≡ print_response head
  pub parts_are : parts ≡ answer_parts head

-- these values of Content-Length are one, which writes n
abbrev pub IsOneLength : List (List ℕ) → ℕ → Type 0
IsOneLength [] n = ⊥
IsOneLength (value ∷ []) n = WritesLength value n
IsOneLength (value ∷ other ∷ values) n = ⊥

-- the fields have exactly one valid length, n: next to a transfer coding none is valid (RFC 9112, section 6.2)
pub record HasOneLength (fields : List (List ℕ × List ℕ)) (n : ℕ) : Type 0 where
  pub uncoded : values_of (codes "transfer-encoding") fields ≡ []
  pub one : IsOneLength (values_of (codes "content-length") fields) n

-- the text is the head of an answer of status 200, whose body has n bytes
pub record Brings (text : List ℕ) (n : ℕ) : Type 0 where
  pub parts : AnswerParts
  pub tells : Tells text parts
  pub ok : parts.status ≡ 200
  pub size : HasOneLength parts.fields n

-- how long the body is that is read after such a head, or the first reason why none is: another status, no head or not
-- exactly one valid length, a length over the limit
abbrev pub HeadAnswers : Result ℕ AnswerFault → (limit : ℕ) → (text : List ℕ) → Type 0
HeadAnswers (Ok n) limit text = Brings text n × (n ≤ limit)
HeadAnswers (Err NotOk) limit text = (parts : AnswerParts) × Tells text parts × (parts.status ≢ 200)
HeadAnswers (Err BadHead) limit text =
    ((parts : AnswerParts) → Tells text parts → parts.status ≡ 200) × ((n : ℕ) → ¬ (Brings text n))
HeadAnswers (Err TooLong) limit text = (n : ℕ) × Brings text n × (limit < n)
HeadAnswers (Err ReadFault) limit text = ⊥
HeadAnswers (Err OutOfMemory) limit text = ⊥

-- the stream begins with a head of at most `head_limit` bytes which answers so, and rest comes after it
pub record Begins (answer : Result ℕ AnswerFault) (limit : ℕ) (stream rest : List ℕ) : Type 0 where
  pub text : List ℕ
  pub head : HasHead stream text rest
  pub short : length text ≤ head_limit
  pub answers : HeadAnswers answer limit text

-- more has to come: no head is whole, or a head whose body is read, and that is not whole
abbrev pub IsCut : (limit : ℕ) → (stream : List ℕ) → Type 0
IsCut limit stream = CutShort stream ⊎ ((n : ℕ) × (rest : List ℕ) × Begins (Ok n) limit stream rest × (length rest < n))

-- what the answer at the front of a stream gives: its body, or the first reason why not; where a read failed nothing is known
abbrev pub IsAnswer : {A : Type 0} → (fails : Type 0) → Result (Vec ℕ A) AnswerFault → (limit : ℕ) → (stream : List ℕ) → Type 0
IsAnswer fails (Ok body) limit stream = (rest : List ℕ) × Begins (Ok (vec_len body)) limit stream (body.items ++ rest)
IsAnswer fails (Err NotOk) limit stream = (rest : List ℕ) × Begins (Err NotOk) limit stream rest
IsAnswer fails (Err BadHead) limit stream = Overlong stream ⊎ ((rest : List ℕ) × Begins (Err BadHead) limit stream rest)
IsAnswer fails (Err TooLong) limit stream = (rest : List ℕ) × Begins (Err TooLong) limit stream rest
IsAnswer fails (Err ReadFault) limit stream = fails ⊎ IsCut limit stream
IsAnswer fails (Err OutOfMemory) limit stream = ⊤
