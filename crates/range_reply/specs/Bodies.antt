-- The body that sends stretches of a file, and the holds of them.
use Rattle.std.specs.Prelude.{◌≡◌, ℕ, zero, suc, List, [], ◌∷◌, ◌++◌, All, length, map, Option, Some, None, IsSome}
use Rattle.std.specs.List.{concat, flat_map, zip}
use Rattle.byte_view.specs.Holds.{Held}
use Rattle.range_spec.specs.declared.selection.Choice.{Choice}
use Rattle.range_spec.specs.declared.selection.Choice.TheVariants.{Whole, One, Many, None416}
use Rattle.range_reply.specs.Multipart.{last_line, part_text, text_of}
use Rattle.range_reply.specs.declared.boundaries.Boundary.{Boundary}

-- the text of a boundary, if there is one
abbrev pub text_in : Option Boundary → List ℕ
text_in None = []
text_in (Some boundary) = text_of boundary

-- A body sends these texts of a file of this many bytes, one for each stretch of the plan. Several intervals are parts, neither sorted nor
-- joined, and the last boundary's line follows (RFC 9110, section 15.3.7.2). Any other plan sends its text as it is: the file (15.3.1), one
-- interval (15.3.7.1), or nothing (15.5.17).
abbrev pub body_text : List ℕ → List ℕ → ℕ → Choice → List (List ℕ) → List ℕ
body_text boundary content_type size (Many intervals) texts =
    flat_map (part_text boundary content_type size) (zip intervals texts) ++ last_line boundary
body_text boundary content_type size plan texts = concat texts

-- all of a file of this many bytes, where it has one
abbrev pub whole_of : ℕ → List (ℕ × ℕ)
whole_of zero = []
whole_of (suc last) = (0, last) ∷ []

-- the stretches that a plan sends of a file of this many bytes, each from its first to its last byte
abbrev pub stretches : ℕ → Choice → List (ℕ × ℕ)
stretches size Whole = whole_of size
stretches size (One first last) = (first, last) ∷ []
stretches size (Many intervals) = intervals
stretches size None416 = []

-- the stretch of a hold
abbrev pub stretch_of : Held → ℕ × ℕ
stretch_of h = (h.first, h.last)

-- the holds are of this file, one for each stretch that the plan sends of it, in their order
pub record AreFor (holds : List Held) (file : List ℕ) (plan : Choice) : Type 0 where
  pub same_file : All (λ h. h.file ≡ file) holds
  pub in_order : map stretch_of holds ≡ stretches (length file) plan

-- there is a boundary where the plan has several parts
abbrev pub HasBoundary : Option Boundary → Choice → Type 0
HasBoundary boundary plan = (intervals : List (ℕ × ℕ)) → plan ≡ Many intervals → IsSome boundary
