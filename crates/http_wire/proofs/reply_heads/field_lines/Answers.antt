use Rattle.std.proofs.Common.{◌≡◌, ◌++◌, ◌∙◌, List, ℕ, Bor, Some, rules, sym, ap}
use Rattle.std.specs.Prelude.{codes, decimal}
use Rattle.std.specs.Option.{option_map}
use Rattle.std.specs.Bool.{then_some}
use Rattle.httparse.specs.Ascii.{crlf_bytes}
use Rattle.http_wire.specs.Replies.{fields_of, line_of, range_text, text_of_line}
use Rattle.http_wire.proofs.ReplyPieces.{shown_where, lines_joined, head_is}
use Rattle.http_wire.proofs.reply_heads.field_lines.Goals as goal

pub returns : goal.returns
returns c size digits =
    let now : Bor (List ℕ) → List ℕ = λ p. p.now in
    let head = c.args.head.now in
    let fields = fields_of head size in
    let content_type : option_map now c.map-content_type.result ≡ fields.content_type = search rules in
    let etag : option_map now c.map-etag.result ≡ fields.etag = search rules in
    let allow : option_map now c.map-allow.result ≡ fields.allow = search rules in
    let ranges : option_map now c.then_some-ranges.result ≡ then_some head.accept_ranges (codes "bytes") =
    ap (option_map now) c.then_some-ranges.ensures ∙ shown_where head.accept_ranges _ in
    let connection : option_map now c.then_some-connection.result ≡ then_some head.close (codes "close") =
    ap (option_map now) c.then_some-connection.ensures ∙ shown_where head.close _ in
    let l1 : text_of_line c.new.result ≡ line_of (codes "Content-Type: ") fields.content_type crlf_bytes =
    c.new.ensures ∙ ap (λ v. line_of (codes "Content-Type: ") v crlf_bytes) content_type in
    let l2 : text_of_line c.new-2.result ≡ line_of (codes "Content-Length: ") (Some (decimal size)) crlf_bytes =
    c.new-2.ensures ∙ ap (λ v. line_of (codes "Content-Length: ") (Some v) crlf_bytes) digits in
    let l3 : text_of_line c.new-3.result ≡ line_of (codes "ETag: \"") fields.etag (codes "\"" ++ crlf_bytes) =
    c.new-3.ensures ∙ ap (λ v. line_of (codes "ETag: \"") v (codes "\"" ++ crlf_bytes)) etag in
    let l4 : text_of_line c.new-4.result ≡ line_of (codes "Accept-Ranges: ") (then_some head.accept_ranges (codes "bytes")) crlf_bytes =
    c.new-4.ensures ∙ ap (λ v. line_of (codes "Accept-Ranges: ") v crlf_bytes) ranges in
    let l5 : text_of_line c.new-5.result ≡ line_of (codes "Content-Range: ") (option_map range_text head.content_range) crlf_bytes =
    c.new-5.ensures ∙ ap (λ v. line_of (codes "Content-Range: ") v crlf_bytes) c.requires in
    let l6 : text_of_line c.new-6.result ≡ line_of (codes "Allow: ") fields.allow crlf_bytes =
    c.new-6.ensures ∙ ap (λ v. line_of (codes "Allow: ") v crlf_bytes) allow in
    let l7 : text_of_line c.new-7.result ≡ line_of (codes "Connection: ") (then_some head.close (codes "close")) crlf_bytes =
    c.new-7.ensures ∙ ap (λ v. line_of (codes "Connection: ") v crlf_bytes) connection in
    lines_joined _ _ _ _ _ _ _ _ _ _ _ _ _ _ _ _ l1 l2 l3 l4 l5 l6 l7 ∙ sym (head_is fields)
