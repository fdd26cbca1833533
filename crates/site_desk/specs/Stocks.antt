-- Files that become known, one after another.
use Rattle.byte_view.specs.Contents.{Contents}
use Rattle.site_change.specs.Changes.{IsWithin}

pub itself : (files : Contents) → IsWithin files files
itself files digest bytes has = has

pub goes_on : (first mid last : Contents) → IsWithin first mid → IsWithin mid last → IsWithin first last
goes_on first mid last a b digest bytes has = b digest bytes (a digest bytes has)
