-- Logs that begin with others, and looks that only grow.
use Rattle.std.proofs.Common.{◌≡◌, ℕ, ◌≤◌, List, [], ◌∷◌, ◌++◌, length, drop, refl, sym, ap, ◌∙◌, arith, subst}
use Rattle.std.proofs.lemmas.List.{drop-append-le, drop_all, length_push}
use Rattle.std.specs.List.{AllByRecursion}
use Rattle.change_log.proofs.Longer.{with_both, with_none}
use Rattle.change_log.specs.Logs.{BeginsWith, Log, with_entries}
use Rattle.world_desk.specs.Visitors.{IsKeptTo, OnlyGrow, SeesInOrder, Watched, looked, taught}
use Rattle.world_desk.proofs.Changing.{all_push, all_weaker}

pub begins_itself : (log : Log) → BeginsWith log log
begins_itself log = ([], sym (with_none log))

pub begins_further : (long mid short : Log) → BeginsWith long mid → BeginsWith mid short → BeginsWith long short
begins_further long mid short more first = (first.0 ++ more.0, more.1 ∙ ap (λ (l : Log). with_entries l more.0) first.1 ∙ with_both short first.0 more.0)

grow_push : (looks : List Log) (log : Log) → AllByRecursion (BeginsWith log) looks → OnlyGrow looks → OnlyGrow (looks ++ log ∷ [])
grow_push [] log all grow = (tt, tt)
grow_push (look ∷ looks) log all grow = (all_push (λ later. BeginsWith later look) looks log grow.0 all.0, grow_push looks log all.1 grow.1)

kept_push : (shown : Log) (looks : List Log) (told : ℕ × Log) → IsKeptTo shown looks told → IsKeptTo shown (looks ++ shown ∷ []) told
kept_push shown looks told kept = record {
  was_shown = kept.was_shown;
  before = let more = length_push looks shown in let was = kept.before in omega arith;
  since = subst (AllByRecursion (λ look. BeginsWith look told.1)) (sym (drop-append-le told.0 looks (shown ∷ []) kept.before))
      (all_push (λ look. BeginsWith look told.1) (drop told.0 looks) shown kept.since kept.was_shown);
}

-- a look at what is shown
pub sees_look : (shown : Log) (v : Watched) → SeesInOrder shown v → SeesInOrder shown (looked shown v)
sees_look shown v sees = record {
  were_shown = all_push (BeginsWith shown) v.looks shown sees.were_shown (begins_itself shown);
  grow = grow_push v.looks shown sees.were_shown sees.grow;
  kept = all_weaker (IsKeptTo shown v.looks) (IsKeptTo shown (v.looks ++ shown ∷ [])) (λ told. kept_push shown v.looks told) v.told sees.kept;
}

kept_now : (shown : Log) (looks : List Log) → IsKeptTo shown looks (length looks, shown)
kept_now shown looks = record {
  was_shown = begins_itself shown;
  before = omega arith;
  since = let none : drop (length looks) looks ≡ [] = drop_all (length looks) looks (omega arith) in subst (AllByRecursion (λ look. BeginsWith look shown)) (sym none) tt;
}

-- a telling of what is shown
pub sees_taught : (shown : Log) (v : Watched) → SeesInOrder shown v → SeesInOrder shown (taught shown v)
sees_taught shown v sees = record {
  were_shown = sees.were_shown;
  grow = sees.grow;
  kept = all_push (IsKeptTo shown v.looks) v.told (length v.looks, shown) sees.kept (kept_now shown v.looks);
}

kept_later : (shown log : Log) (looks : List Log) → BeginsWith log shown → (told : ℕ × Log) → IsKeptTo shown looks told → IsKeptTo log looks told
kept_later shown log looks more told kept = record {
  was_shown = begins_further log shown told.1 more kept.was_shown;
  before = kept.before;
  since = kept.since;
}

-- more is shown
pub sees_later : (shown log : Log) → BeginsWith log shown → (v : Watched) → SeesInOrder shown v → SeesInOrder log v
sees_later shown log more v sees = record {
  were_shown = all_weaker (BeginsWith shown) (BeginsWith log) (λ look was. begins_further log shown look more was) v.looks sees.were_shown;
  grow = sees.grow;
  kept = all_weaker (IsKeptTo shown v.looks) (IsKeptTo log v.looks) (kept_later shown log v.looks more) v.told sees.kept;
}
