-- What a reply holds of a file until it is sent.
use Rattle.std.specs.Prelude.{ℕ, Option, Some, None, length}
use Rattle.host_names.specs.declared.digests.Digest.{Digest}
use Rattle.http_wire.specs.declared.replies.ContentRange.{ContentRange}
use Rattle.http_wire.specs.declared.replies.ContentRange.TheVariants.{Of}
use Rattle.host_replies.specs.Bodies.{bytes_of}
use Rattle.host_replies.specs.declared.bodies.Body.{Body}
use Rattle.host_replies.specs.declared.bodies.Body.TheVariants as body
use Rattle.host_replies.specs.declared.media_types.MediaType.{MediaType}
use Rattle.host_replies.specs.declared.media_types.MediaType.TheVariants as media
use Rattle.host_replies.specs.declared.replies.Reply.{Reply}
use Rattle.host_replies.specs.declared.replies.held_files.HeldFile.{HeldFile}

-- how many bytes the file has: one range tells it, the whole is as long, and several parts don't tell it
abbrev pub told_size : MediaType → Option ContentRange → (sent : ℕ) → Option ℕ
told_size (media.Parts parts) range sent = None
told_size (media.Fixed fixed) (Some (Of first last size)) sent = Some size
told_size (media.Fixed fixed) range sent = Some sent

-- what a body holds of the file with this digest and size; a text holds nothing, and neither does a file of which nothing is read
abbrev pub held_in : Body → Option Digest → Option ℕ → Option HeldFile
held_in (body.File sent) (Some digest) size = Some (record { digest = digest; length = length sent.bytes; size = size })
held_in body etag size = None

abbrev pub held_file : Reply → Option HeldFile
held_file r = held_in r.body r.etag (told_size r.content_type r.content_range (length (bytes_of r.body)))
