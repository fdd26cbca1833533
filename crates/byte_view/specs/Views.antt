-- What a view shows.
use Rattle.std.specs.Prelude.{ℕ, List}
use Rattle.byte_view.specs.declared.views.View.{View}

-- its bytes
abbrev pub bytes_of : View → List ℕ
bytes_of view = view.bytes.now
