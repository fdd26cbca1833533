-- The text of a notice, which has at most 320 bytes.
use Rattle.std.specs.Prelude.{ℕ, List, [], ◌∷◌, ◌+◌, ◌++◌, length, codes, nat_le, if◌then◌else◌}

-- the text with a part after it; with two dots in place of a part that has no room, as long as they have some
abbrev pub appended : (text part : List ℕ) → List ℕ
appended text part =
    if nat_le (length text + length part) 320 then text ++ part
    else if nat_le (length text + 2) 320 then text ++ codes ".."
    else text

-- what happened; and then why, unless nothing is known of that
abbrev pub notice_text : (what why : List ℕ) → List ℕ
notice_text what [] = appended [] what
notice_text what (first ∷ rest) = appended (appended (appended [] what) (codes ": ")) (first ∷ rest)
