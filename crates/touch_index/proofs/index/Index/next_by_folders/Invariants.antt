use Rattle.std.proofs.Common.{ℕ, ◌≤◌, List, [], ◌∷◌, ◌++◌, take}
use Rattle.sha1.specs.Sha1.{Holds}
use Rattle.touch_index.specs.Next.{IsNext}
use Rattle.touch_index.specs.Postings.{is_posted}
use Rattle.touch_index.proofs.Folders.{so_far}
use Rattle.touch_index.proofs.index.Index.next_by_folders.Given as goal

-- the hash has the path up to the last slash, and the folders before this place were looked up
abbrev pub invariant-loop-end : goal.invariant-loop-end
invariant-loop-end l = record {
  from : l.first ≤ l.end;
  hashed : l.hashed ≤ l.end;
  hash : Holds l.hasher ((l.site.0 ++ 6 ∷ []) ++ take l.hashed l.path);
  least : IsNext (so_far (is_posted l.self) l.site l.path l.mark l.first l.end) l.number l.least;
}
