-- The texts of the parts of which a body is made.
use Rattle.std.specs.Prelude.{◌≡◌, ℕ, Bool, List, [], ◌∷◌, ◌++◌, All, Option, Some, None, codes, if◌then◌else◌, length, option_map}
use Rattle.std.specs.List.{concat, flat_map}
use Rattle.byte_view.specs.Holds.{Held, lent}
use Rattle.http_wire.specs.Replies.{range_text}
use Rattle.http_wire.specs.declared.replies.ContentRange.TheVariants.{Of}
use Rattle.range_reply.specs.Bodies.{text_in}
use Rattle.range_reply.specs.Multipart.{last_line}
use Rattle.range_reply.specs.declared.opened.Heading.{Heading}
use Rattle.range_reply.specs.declared.opened.Heading.TheVariants.{Whole, FromType, FromRange, Done}
use Rattle.range_reply.specs.declared.opened.Heads.{Heads}
use Rattle.range_reply.specs.declared.opened.Opened.{Opened}
use Rattle.range_reply.specs.declared.parts.Queue.{Queue}

-- what comes before the type in the head of a part, and what comes behind it
abbrev pub boundary_line : List ℕ → List ℕ
boundary_line boundary = codes "--" ++ (boundary ++ codes "\r\nContent-Type: ")

abbrev pub range_line : ℕ × ℕ → ℕ → List ℕ
range_line interval size = codes "\r\nContent-Range: " ++ (range_text (Of interval.0 interval.1 size) ++ codes "\r\n\r\n")

-- the part for the stretch of a hold: its head, what its chunks have of it, and the end of a line
abbrev pub hold_texts : List ℕ → List ℕ → Held → List (List ℕ)
hold_texts boundary content_type h =
    boundary_line boundary ∷ content_type ∷ range_line (h.first, h.last) (length h.file) ∷ (lent h h.first h.last ++ codes "\r\n" ∷ [])

-- those of a stretch alone, if there is one, and those of several, with the last boundary's line behind them
abbrev pub stretch_texts : Option Held → List (List ℕ)
stretch_texts None = []
stretch_texts (Some h) = lent h h.first h.last

abbrev pub several_texts : List ℕ → List ℕ → List Held → List (List ℕ)
several_texts boundary content_type holds = flat_map (hold_texts boundary content_type) holds ++ last_line boundary ∷ []

-- how many bytes texts have
abbrev pub length_of : List (List ℕ) → ℕ
length_of texts = length (concat texts)

-- ---- what private functions say

-- the text that may be there, and pieces, if they are there
abbrev pub text_at : Option (List ℕ) → List (List ℕ)
text_at None = []
text_at (Some text) = text ∷ []

abbrev pub pieces_in : Option (List (List ℕ)) → List (List ℕ)
pieces_in None = []
pieces_in (Some pieces) = pieces

-- what is left of the head of a part, with this line of its range
abbrev pub heading_texts : Heads → List ℕ → Heading → List (List ℕ)
heading_texts h range Whole = boundary_line (text_in h.boundary) ∷ h.content_type.now ∷ range ∷ []
heading_texts h range FromType = h.content_type.now ∷ range ∷ []
heading_texts h range FromRange = range ∷ []
heading_texts h range Done = []

abbrev pub range_of : Opened → List ℕ
range_of o = range_line (o.first, o.last) o.size

abbrev pub heading_of : Heads → Opened → List (List ℕ)
heading_of h o = heading_texts h (range_of o) o.heading

-- what is left behind the head of one part, of the part, and of a body
abbrev pub rest_texts : Opened → List (List ℕ)
rest_texts o = pieces_in o.pieces ++ text_at (option_map (λ end. end.now) o.end)

abbrev pub opened_texts : Heads → Opened → List (List ℕ)
opened_texts h o = heading_of h o ++ rest_texts o

abbrev pub last_texts : Bool → List ℕ → List (List ℕ)
last_texts ends boundary = if ends then last_line boundary ∷ [] else []

abbrev pub queue_texts : Queue → List (List ℕ)
queue_texts q =
    opened_texts q.heads q.opened
    ++ (flat_map (hold_texts (text_in q.heads.boundary) q.heads.content_type.now) q.holds.now ++ last_texts q.ends (text_in q.heads.boundary))

-- the file of the holds has so many bytes
abbrev pub IsOfSize : Queue → Type 0
IsOfSize q = All (λ (h : Held). length h.file ≡ q.size) q.holds.now
