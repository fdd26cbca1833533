-- What the files of the replies are after one more or one less.
use Rattle.std.proofs.Common.{◌≡◌, Bool, true, false, cond, ℕ, List, Option, None, Some, arith, refl, sym, ap, subst, unwrap_or, ◌∙◌}
use Rattle.std.proofs.lemmas.Bool.Decides.{nat_tests}
use Rattle.std.specs.BTreeMap.{BTreeMap, Updates, WritesThrough, get, is_at}
use Rattle.std.specs.Map.{KeepsOthers}
use Rattle.std.specs.Option.{IsSome}
use Rattle.std.specs.declared.cmp.Ordering.{Ordering}
use Rattle.connection_rules.specs.Holding.{IsAdded, IsRemoved, file_cmp, held_of, no_file, recounted, unless_unsent, with_reply, without_reply}
use Rattle.connection_rules.specs.declared.replies.HeldFile.{HeldFile}
use Rattle.connection_rules.specs.declared.replies.HeldReply.{HeldReply}
use Rattle.connection_rules.specs.declared.replies.Replies.{Replies}

-- ---- two changes of a map

cond_twice : {X : Type 0} (b : Bool) (v w x : X) → cond b w (cond b v x) ≡ cond b w x
cond_twice true v w x = refl
cond_twice false v w x = refl

module _ {K X : Type 0} (cmp : K → K → Ordering) (m n o : BTreeMap K X) (k : K) (v w : Option X) where
  -- the later of two changes at a key counts
  Updates-twice : Updates cmp m n k v → Updates cmp n o k w → Updates cmp m o k w
  unfolding KeepsOthers
  Updates-twice first second = (
    (λ q. rw (second.0 q, first.0 q) (cond_twice (is_at (cmp k) q) v w (get cmp m q))),
    second.1,
    (λ q apart. second.2 q apart ∙ first.2 q apart),
    (λ other is apart. second.3 other is apart ∙ first.3 other is apart),
  )

-- ---- the file of a reply, and what all hold

-- the key has `kept` now, and all hold what is recounted
abbrev Counts : List ℕ → Replies → Replies → (before after : HeldFile) → Option HeldFile → Type 0
Counts key old new before after kept = Updates file_cmp old.files new.files key kept × (new.held ≡ recounted (held_of before) (held_of after) old.held)

counts : (key : List ℕ) (old new : Replies) (files : BTreeMap (List ℕ) HeldFile) (before after : HeldFile) (kept : Option HeldFile)
    → new ≡ record { files = files; held = recounted (held_of before) (held_of after) old.held } → Updates file_cmp old.files files key kept
    → Counts key old new before after kept
counts key old new files before after kept is updates =
    (subst (λ (all : Replies). Updates file_cmp old.files all.files key kept) (sym is) updates, ap (λ (all : Replies). all.held) is)

module _ (reply : HeldReply) (old new : Replies) (files : BTreeMap (List ℕ) HeldFile) (before after : HeldFile)
    (is : new ≡ record { files = files; held = recounted (held_of before) (held_of after) old.held }) where
  pub added : before ≡ unwrap_or (get file_cmp old.files reply.file) no_file → after ≡ with_reply reply before
      → Updates file_cmp old.files files reply.file (Some after) → IsAdded reply old new
  added before_is after_is updates =
      subst (λ (file : HeldFile). Counts reply.file old new file (with_reply reply file) (Some (with_reply reply file))) before_is
      (subst (λ (file : HeldFile). Counts reply.file old new before file (Some file)) after_is
      (counts reply.file old new files before after (Some after) is updates))

  pub removed : Some before ≡ get file_cmp old.files reply.file → after ≡ without_reply reply before
      → Updates file_cmp old.files files reply.file (unless_unsent after) → IsRemoved reply old new
  removed before_is after_is updates =
      rw (← before_is) (subst (λ (file : HeldFile). Counts reply.file old new before file (unless_unsent file)) after_is
      (counts reply.file old new files before after (unless_unsent after) is updates))

-- ---- a file that is written, and then forgotten if nothing of it is sent

is_some : {X : Type 0} (x : X) (found : Option X) → Some x ≡ found → IsSome found
is_some x found is = rw (← is) refl

unsent : (file : HeldFile) → file.sent ≡ 0 → unless_unsent file ≡ None
unsent file none = grind (arith, nat_tests)

sent : (file : HeldFile) → (file.sent ≡ 0 → ⊥) → unless_unsent file ≡ Some file
sent file some = grind (arith, nat_tests)

module _ (m n : BTreeMap (List ℕ) HeldFile) (key : List ℕ) (before after : HeldFile) (is : Some before ≡ get file_cmp m key)
    (writes : WritesThrough file_cmp (file_cmp key) m after n) where
  written : Updates file_cmp m n key (Some after)
  written = writes.3 (is_some before (get file_cmp m key) is)

  pub kept : (after.sent ≡ 0 → ⊥) → Updates file_cmp m n key (unless_unsent after)
  kept some = subst (Updates file_cmp m n key) (sym (sent after some)) written

  pub forgotten : (o : BTreeMap (List ℕ) HeldFile) → after.sent ≡ 0
      → Updates file_cmp n o key None → Updates file_cmp m o key (unless_unsent after)
  forgotten o none removes = subst (Updates file_cmp m o key) (sym (unsent after none))
      (Updates-twice file_cmp m n o key (Some after) None written removes)
