-- Which entries a file may have, by its version.
use Rattle.std.specs.Prelude.{ℕ, List}
use Rattle.entry_texts.specs.declared.versions.Version.{Version}
use Rattle.entry_texts.specs.declared.versions.Version.TheVariants.{First, Later}
use Rattle.entry_texts.specs.Spells.{Spells}
use Rattle.site_change.specs.declared.commands.Command.TheVariants.{RenameFolder}
use Rattle.site_change.specs.declared.entries.Entry.{Entry}
use Rattle.site_change.specs.declared.entries.Entry.TheVariants.{Change}

-- in the first version no folder is renamed
abbrev pub IsOfVersion : Version → Entry → Type 0
IsOfVersion First (Change (RenameFolder site source target)) = ⊥
IsOfVersion First entry = Unit {0}
IsOfVersion Later entry = Unit {0}

-- the bytes are the text of the entry, which a file of the version may have
abbrev pub SpellsIn : Version → List ℕ → Entry → Type 0
SpellsIn version bytes entry = Spells bytes entry × IsOfVersion version entry
