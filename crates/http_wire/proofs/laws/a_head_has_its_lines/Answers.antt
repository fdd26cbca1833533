use Rattle.std.proofs.Common.{Option, Some, None, refl}
use Rattle.std.specs.Option.{option_map}
use Rattle.http_wire.specs.Replies.{fields_of}
use Rattle.http_wire.specs.declared.entity_tags.EntityTag.{EntityTag}
use Rattle.http_wire.specs.declared.field_texts.FieldText.{FieldText}
use Rattle.http_wire.proofs.HeadLines.{WithinIf, tag_within, text_within, lines_are_lines}
use Rattle.http_wire.proofs.laws.a_head_has_its_lines.Goals as goal

text_is_within : (value : Option FieldText) → WithinIf (option_map (λ (t : FieldText). t.text.now) value)
text_is_within None = tt
text_is_within (Some value) = text_within value.text.now value.valid

tag_is_within : (value : Option EntityTag) → WithinIf (option_map (λ (t : EntityTag). t.text.now) value)
tag_is_within None = tt
tag_is_within (Some value) = tag_within value.text.now value.valid

pub returns : goal.returns
returns c =
    let head = c.args.head.now in
    record { text_is = refl; each = lines_are_lines (fields_of head c.args.size) (text_is_within head.content_type) (tag_is_within head.etag) (text_is_within head.allow) }
