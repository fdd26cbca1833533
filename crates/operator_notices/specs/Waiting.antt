-- The notice of a kind that waits.
use Rattle.std.specs.Prelude.{◌≡◌, ℕ, ◌+◌, ◌-◌, ◌^◌, List, Option, Some, None, min}
use Rattle.operator_notices.specs.Texts.{notice_text}
use Rattle.operator_notices.specs.declared.slots.Notice.{Notice}

-- The next one was noted. If none waited, it waits now; else the one that waited does, and counts one more, up to the greatest `u64`.
abbrev pub IsNoted : (what why : List ℕ) → (old : Option Notice) → Notice → Type 0
IsNoted what why None notice = (notice.text.bytes ≡ notice_text what why) × (notice.more ≡ 0)
IsNoted what why (Some old) notice = (notice.text ≡ old.text) × (notice.more ≡ min (old.more + 1) (2 ^ 64 - 1))
