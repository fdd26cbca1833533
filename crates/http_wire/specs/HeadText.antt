-- The head of a request as a stretch of the stream (RFC 9112, sections 2.1 and 2.2), before any grammar: it ends
-- with the first empty line after a line that is not empty.
use Rattle.std.specs.Prelude.{◌≡◌, ◌≢◌, ℕ, ◌<◌, ◌≤◌, ◌⊎◌, List, [], ◌∷◌, ◌++◌, length, All}
use Rattle.std.specs.List.{flat_map}
use Rattle.httparse.specs.Ascii.{line_feed, carriage_return}

-- how many bytes a head has at most, the empty lines before it included
abbrev pub head_limit : ℕ
head_limit = 16384

-- a line as it is in the stream: a CR before the LF belongs to its end
abbrev pub ended : List ℕ → List ℕ
ended line = line ++ line_feed ∷ []

-- nothing is before the line's end
abbrev pub IsEmptyLine : List ℕ → Type 0
IsEmptyLine line = (line ≡ []) ⊎ (line ≡ carriage_return ∷ [])

-- any other line
pub record IsTextLine (line : List ℕ) : Type 0 where
  pub one_line : All (λ b. b ≢ line_feed) line
  pub text : ¬ (IsEmptyLine line)

-- empty lines, at least one line of text, and the empty line that ends the head
pub record IsHeadText (text : List ℕ) : Type 0 where
  pub before : List (List ℕ)
  pub lines : List (List ℕ)
  pub last : List ℕ
  pub before_empty : All IsEmptyLine before
  pub some : 0 < length lines
  pub lines_text : All IsTextLine lines
  pub last_empty : IsEmptyLine last
  pub text_is : text ≡ flat_map ended before ++ (flat_map ended lines ++ ended last)

-- the stream begins with that head
pub record HasHead (stream text rest : List ℕ) : Type 0 where
  pub head : IsHeadText text
  pub stream_is : stream ≡ text ++ rest

-- the stream ends before its head is whole, and before the head is too long
pub record CutShort (stream : List ℕ) : Type 0 where
  pub short : length stream < head_limit
  pub no_head : (text rest : List ℕ) → ¬ (HasHead stream text rest)

-- the head does not end where it has to
pub record Overlong (stream : List ℕ) : Type 0 where
  pub long : head_limit ≤ length stream
  pub beyond : (text rest : List ℕ) → HasHead stream text rest → head_limit < length text
