-- Groups over a shelf.
use Rattle.chunk_group.specs.declared.solo_groups.SoloGroup.{SoloGroup}
use Rattle.chunk_group.specs.declared.file_sources.FileSource.{FileSource}
use Rattle.chunk_group.specs.Cached.{CachedShelf}

-- the shelf of a group's source, and its cache
abbrev pub shelf_of : {H S L C : Type 0} → SoloGroup H (FileSource S) L C → CachedShelf S
shelf_of group = record { shelf = group.node.suppliers.source.files.shelf; cache = group.node.caches.cache }
