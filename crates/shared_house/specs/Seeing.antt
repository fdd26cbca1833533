-- What is seen of a log that others grow, and of files that become more.
use Rattle.std.specs.Prelude.{◌≡◌, List, [], ◌∷◌, ◌++◌, All, refl}
use Rattle.std.specs.Coded.{Coded, code_by, coded×}
use Rattle.byte_view.specs.Contents.{Contents}
use Rattle.site_change.specs.Changes.{IsWithin}
use Rattle.change_log.specs.Logs.{BeginsWith, Log}

-- Whether a log begins with all that was seen, and whether files have all files that were seen; what a look does, and what it does to learn of a log or of files:
-- each of these leads from what was seen, by a log or by files, to what is seen then.
pub record Seeing (K : Type 0) : Type 1 where
  pub is_later : K → Log → Type 0
  pub are_all : K → Contents → Type 0
  pub looks : (old : K) → Log → (new : K) → Type 0
  pub learns : (old : K) → Log → (new : K) → Type 0
  pub finds : (old : K) → Contents → (new : K) → Type 0

-- ---- by the most that was seen

-- the longest log, and files that have all that were seen
pub record Known : Type 0 where
  pub log : Log
  pub files : Contents

-- they are stored as their parts in a row
abbrev pub coded_known : Coded Log → Coded Contents → Coded Known
coded_known log files = code_by (Log × Contents) (coded× log files) (λ k. (k.log, k.files)) (λ t. record { log = t.0; files = t.1 }) (λ _. refl)

-- what is known then has all that was known before
pub record HasAll (old new : Known) : Type 0 where
  pub log : BeginsWith new.log old.log
  pub files : IsWithin old.files new.files

-- A look shows a log that begins with the longest. Once a log is learnt, the longest begins with that, too; and so for files.
abbrev pub by_front : Seeing Known
by_front = record {
  is_later = λ seen log. BeginsWith log seen.log;
  are_all = λ seen files. IsWithin seen.files files;
  looks = λ old log new. BeginsWith log old.log × (new ≡ record { log = log; files = old.files });
  learns = λ old log new. HasAll old new × BeginsWith new.log log;
  finds = λ old files new. HasAll old new × IsWithin files new.files;
}

-- ---- by all that was seen

-- the logs of all looks, those that were learnt of what a desk answered, and the files by which it did, each in order
pub record Visit : Type 0 where
  pub looks : List Log
  pub learnt : List Log
  pub files : List Contents

-- nothing was seen
abbrev pub nothing_seen : Visit
nothing_seen = record { looks = []; learnt = []; files = [] }

-- a log begins with each that was seen or learnt
pub record IsLater (visit : Visit) (log : Log) : Type 0 where
  pub looks : All (λ early. BeginsWith log early) visit.looks
  pub learnt : All (λ early. BeginsWith log early) visit.learnt

-- files have all that were seen
abbrev pub AreAll : Visit → Contents → Type 0
AreAll visit files = All (λ early. IsWithin early files) visit.files

-- the visit after one more look, after one more log that is learnt, and after files by which the desk answered
abbrev pub looked : Visit → Log → Visit
looked visit log = record { looks = visit.looks ++ log ∷ []; learnt = visit.learnt; files = visit.files }

abbrev pub learns : Visit → Log → Visit
learns visit log = record { looks = visit.looks; learnt = visit.learnt ++ log ∷ []; files = visit.files }

abbrev pub finds : Visit → Contents → Visit
finds visit files = record { looks = visit.looks; learnt = visit.learnt; files = visit.files ++ files ∷ [] }

-- a look shows a log that begins with each that was seen or learnt
abbrev pub by_visit : Seeing Visit
by_visit = record {
  is_later = IsLater;
  are_all = AreAll;
  looks = λ old log new. IsLater old log × (new ≡ looked old log);
  learns = λ old log new. new ≡ learns old log;
  finds = λ old files new. new ≡ finds old files;
}

-- what is known has all that was seen
pub record HasSeen (visit : Visit) (known : Known) : Type 0 where
  pub log : IsLater visit known.log
  pub files : AreAll visit known.files
