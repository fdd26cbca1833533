-- What a host is at one moment.
use Rattle.byte_view.specs.Contents.{AreDigested, Contents}
use Rattle.change_undo.specs.Histories.{Past}
use Rattle.change_undo.specs.Plans.{IsHistoryOver}

-- over some uploads, each of which is under its digest, a history is what its entries give
abbrev pub IsFromUploads : Past → Type 0
IsFromUploads past = (uploads : Contents) × AreDigested uploads × IsHistoryOver uploads past
