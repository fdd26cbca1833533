use Rattle.std.proofs.Common.{◌==◌, ◌&&◌, Bool, List, Option, cond, is_some, ap, sym, subst, ◌∙◌}
use Rattle.std.specs.List.Sorted.{IsStrictlySortedBy}
use Rattle.std.specs.Map.{keys_of}
use Rattle.persistent_maps.specs.Edits.{edited_by}
use Rattle.touch_index.specs.declared.postings.Posting.{Posting}
use Rattle.touch_index.specs.Keys.{touched_keys}
use Rattle.touch_index.specs.Postings.{Postings, posting_cmp, edits, is_among, is_posted}
use Rattle.touch_index.proofs.Posted.{edits-rise, is_posted-edited_by}
use Rattle.touch_index.proofs.index.Index.written.Goals as goal

pub write_all-requires-clause-rising : goal.write_all-requires-clause-rising
write_all-requires-clause-rising c =
    let n = c.args.number in
    let posted = c.args.posted in
    let P : List (Posting × Option (Unit {0})) → Type 0 = λ es. IsStrictlySortedBy posting_cmp (keys_of es) in
    subst P (sym (c.in_ok-edits.ensures ∙ ap (λ keys. edits keys n posted) c.as_slice.ensures.value)) (edits-rise c.in_ok-keys.keys.items n posted c.in_ok-keys.ensures.rising)

pub returns : goal.returns
returns c = λ key i.
    let n = c.args.number in
    let posted = c.args.posted in
    let old = c.self.inside.postings in
    let keys = c.in_ok-keys.keys.items in
    let edited = c.in_ok-edits.ensures ∙ ap (λ keys. edits keys n posted) c.as_slice.ensures.value in
    ap (λ (es : Postings). is_posted es key i) (c.in_ok-write_all.ensures.ok ∙ (λ j. edited_by posting_cmp (c.in_ok-postings.ensures j) (edited j)))
    ∙ is_posted-edited_by posted old n keys key i c.self.invariant
    ∙ ap (λ (b : Bool). cond ((i == n) && b) (is_some posted) (is_posted old key i)) (c.in_ok-keys.ensures.same key)
    ∙ ap (λ (es : Postings). cond ((i == n) && is_among key (touched_keys c.args.touched.now)) (is_some posted) (is_posted es key i)) c.self.view_is
