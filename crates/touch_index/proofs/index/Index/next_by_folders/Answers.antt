use Rattle.std.proofs.Common.{◌≡◌, ℕ, suc, ◌+◌, ◌-◌, ◌≤◌, ◌&&◌, Bool, List, [], ◌∷◌, ◌++◌, length, take, drop, slice_range, append_assoc, arith, refl, sym, ap, subst, ◌∙◌}
use Rattle.std.specs.Int.{from_be_bytes, w64}
use Rattle.std.proofs.lemmas.List.{append-nil}
use Rattle.std.proofs.Math.Seq.{take-add}
use Rattle.sha1.specs.Sha1.{Holds, sha1}
use Rattle.touch_index.specs.Keys.{all_folders, folder_key, has_folder_from}
use Rattle.touch_index.specs.Next.{IsNext}
use Rattle.touch_index.specs.Postings.{is_posted}
use Rattle.touch_index.proofs.Folders.{none-yet, so_far, with-slash}
use Rattle.touch_index.proofs.index.Index.next_by_folders.Goals as goal

-- the front of a path up to one place, and what is from there to another place
joined : (path : List ℕ) (at end : ℕ) → at ≤ end → take at path ++ slice_range path at end ≡ take end path
joined path at end before =
    let same : at + (end - at) ≡ end = omega (arith, before) in
    sym (take-add at (end - at) path) ∙ ap (λ n. take n path) same

pub loop-end-init : goal.loop-end-init
loop-end-init c =
    let front = c.args.site.now.0 ++ 6 ∷ [] in
    record {
      from = omega arith;
      hashed = omega arith;
      hash = subst (Holds c.folder_hasher-hasher.result) (sym (append-nil front)) c.folder_hasher-hasher.ensures;
      least = none-yet (is_posted c.args.self.now) c.args.site.now c.args.path.now c.all_folders-mark.result c.args.first c.args.number;
    }

pub loop-end-preserved : goal.loop-end-preserved
loop-end-preserved c =
    let posted = is_posted c.args.self.now in
    let site = c.args.site.now in
    let path = c.args.path.now in
    let mark = c.all_folders-mark.result in
    let first = c.args.first in
    let n = c.args.number in
    let end = c.loop-end.end in
    let key = c.hashed_on-key.result in
    let front = site.0 ++ 6 ∷ [] in
    let before = take c.loop-end.hashed path in
    let part = slice_range path c.loop-end.hashed end in
    let whole : (front ++ before) ++ part ≡ front ++ take end path =
    append_assoc front before part ∙ ap (λ (t : List ℕ). front ++ t) (joined path c.loop-end.hashed end c.loop-end.invariant.hashed) in
    let at : key ≡ folder_key site (take end path) =
    c.hashed_on-key.ensures.key (front ++ before) c.loop-end.invariant.hash ∙ ap (λ (t : List ℕ). from_be_bytes w64 (take 8 (sha1 t))) whole in
    let P : ℕ → Type 0 = λ k. IsNext (so_far posted site path mark first k) n c.lesser-least.result in
    let next : suc end ≡ end + 1 = omega arith in
    record {
      from = omega (arith, c.loop-end.invariant.from);
      hashed = omega arith;
      hash = subst (Holds c.hashed_on-key.new.hasher) whole (c.hashed_on-key.ensures.hash (front ++ before) c.loop-end.invariant.hash);
      least = subst P next (with-slash posted site path mark first end n key c.lesser-least.result c.loop-end.invariant.from c.if-path-end-ne47.false at
          (c.lesser-least.ensures (so_far posted site path mark first end) (λ i. posted mark i && posted key i) n c.loop-end.invariant.least c.next_under_both.ensures));
    }

pub returns : goal.returns
returns c =
    let posted = is_posted c.args.self.now in
    let site = c.args.site.now in
    let path = c.args.path.now in
    let P : ℕ → Type 0 = λ k. IsNext (so_far posted site path c.all_folders-mark.result c.args.first k) c.args.number c.loop-end.least in
    let Q : ℕ → Type 0 = λ mark. IsNext (λ i. posted mark i && has_folder_from (λ key. posted key i) site path c.args.first) c.args.number c.loop-end.least in
    let end : c.loop-end.end ≡ length path = omega (arith, c.loop-end-test.false, c.loop-end.auto.end-end) in
    subst Q c.all_folders-mark.ensures (subst P end c.loop-end.invariant.least)
