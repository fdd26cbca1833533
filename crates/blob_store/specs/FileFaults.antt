-- What a file of a shelf in a folder fails for.
use Rattle.std.specs.Prelude.{◌≡◌, ◌⊎◌, Some, pos}
use Rattle.std.specs.IoError.{raw_os_error}
use Rattle.std.specs.declared.io.Error.{Error}
use Rattle.blob_store.specs.declared.folder_files.FileFault.{FileFault}
use Rattle.blob_store.specs.declared.folder_files.FileFault.TheVariants as file_fault

-- no descriptor is left in the whole system (ENFILE), or for this process (EMFILE)
abbrev pub HasNoDescriptor : Error → Type 0
HasNoDescriptor error = (raw_os_error error ≡ Some (pos 23)) ⊎ (raw_os_error error ≡ Some (pos 24))

-- so a file of the shelf couldn't be opened
abbrev pub LacksDescriptor : FileFault → Type 0
LacksDescriptor (file_fault.Failed path error) = HasNoDescriptor error
LacksDescriptor file_fault.OutOfMemory = ⊥
