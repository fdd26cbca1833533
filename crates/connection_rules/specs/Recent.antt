-- How much moved of late: in the span of time that goes on, and in the one before. Spans are numbered.
use Rattle.std.specs.Prelude.{◌+◌, ◌==◌, ℕ, if◌then◌else◌}
use Rattle.connection_rules.specs.Paces.{up_to_most}
use Rattle.connection_rules.specs.declared.recent.Recent.{Recent}

-- nothing moved yet
abbrev pub unmoved : ℕ → Recent
unmoved span = record { span = span; before = 0; moved = 0 }

-- the same in another span: what moved in the one just before is kept, and all else is forgotten
abbrev pub in_span : ℕ → Recent → Recent
in_span span old =
    if span == old.span then old
    else if span == old.span + 1 then record { span = span; before = old.moved; moved = 0 }
    else unmoved span

-- so many bytes more
abbrev pub moved_more : ℕ → Recent → Recent
moved_more bytes old = record { span = old.span; before = old.before; moved = up_to_most (old.moved + bytes) }

-- how many bytes moved in both spans
abbrev pub of_late : Recent → ℕ
of_late recent = up_to_most (recent.before + recent.moved)
