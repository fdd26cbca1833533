-- The bytes of the parts of a body.
use Rattle.std.specs.Prelude.{ℕ, List, [], Option, Some, None}
use Rattle.byte_view.specs.declared.body_parts.Part.{Part}
use Rattle.byte_view.specs.declared.body_parts.Part.TheVariants.{Text, Lent}

-- the bytes of a part
abbrev pub text_of : Part → List ℕ
text_of (Text text) = text.bytes
text_of (Lent bytes) = bytes.now

-- the bytes of a part, if there is one
abbrev pub text_if : {A : Type 0} → (text : A → List ℕ) → Option A → List ℕ
text_if text None = []
text_if text (Some part) = text part
