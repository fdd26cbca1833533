-- Logs that begin with others.
use Rattle.std.proofs.Common.{◌≡◌, ◌∙◌, inl, inr, List, [], ◌∷◌, ◌++◌, ap, subst}
use Rattle.std.specs.Prelude.{All}
use Rattle.std.specs.List.{AllByRecursion}
use Rattle.std.proofs.lemmas.List.Elements.{recursion_from_All, All-from_recursion, All-append}
use Rattle.growing.specs.Orders.{IsLaterOf}
use Rattle.change_log.specs.Logs.{BeginsWith, Log}
use Rattle.byte_view.specs.Contents.{Contents}
use Rattle.site_change.specs.Changes.{IsWithin}
use Rattle.growing.specs.Logs.{goes_on}
use Rattle.shared_house.specs.Seeing.{AreAll, HasAll, IsLater, Known, Visit}

-- who learns a log that begins with all that was known knows just that
pub learnt_whole : (known log new : Log) → BeginsWith log known → IsLaterOf (λ (a b : Log). BeginsWith b a) known log new → new ≡ log
learnt_whole known log new begins (inl (later, is)) = is
learnt_whole known log new begins (inr (newer, is)) = absurd (newer.1 begins)

weaker : {X : Type 0} (P Q : X → Type 0) (xs : List X) → ((x : X) → P x → Q x) → AllByRecursion P xs → AllByRecursion Q xs
weaker P Q [] each all = tt
weaker P Q (x ∷ xs) each all = (each x all.0, weaker P Q xs each all.1)

all_weaker : {X : Type 0} (P Q : X → Type 0) (xs : List X) → ((x : X) → P x → Q x) → All P xs → All Q xs
all_weaker P Q xs each all = All-from_recursion Q xs (weaker P Q xs each (recursion_from_All P xs all))

-- what begins with a later log is later
pub later_still : (visit : Visit) (log longer : Log) → IsLater visit log → BeginsWith longer log → IsLater visit longer
later_still visit log longer later more = record {
  looks = all_weaker (λ early. BeginsWith log early) (λ early. BeginsWith longer early) visit.looks (λ early is. goes_on early log longer is more) later.looks;
  learnt = all_weaker (λ early. BeginsWith log early) (λ early. BeginsWith longer early) visit.learnt (λ early is. goes_on early log longer is more) later.learnt;
}

-- what is known is its log and its files
of_both : Log → Contents → Known
of_both log files = record { log = log; files = files }

pub known_is : (files : Contents) (new : Known) (log : Log) → new.log ≡ log → new.files ≡ files → new ≡ record { log = log; files = files }
unfolding of_both
known_is files new log is same = ap (λ (l : Log). of_both l new.files) is ∙ ap (λ (f : Contents). of_both log f) same

-- what is known is made of these, and nothing of it is lost
pub has_parts : (old new : Known) (log : Log) (files : Contents) → record { log = log; files = files } ≡ old → BeginsWith new.log log → IsWithin files new.files → HasAll old new
has_parts old new log files is begins within = record {
  log = subst (λ (l : Log). BeginsWith new.log l) (ap (λ (k : Known). k.log) is) begins;
  files = subst (λ (f : Contents). IsWithin f new.files) (ap (λ (k : Known). k.files) is) within;
}

-- files that have those have all
pub all_still : (visit : Visit) (files more : Contents) → AreAll visit files → IsWithin files more → AreAll visit more
all_still visit files more all within =
    all_weaker (λ early. IsWithin early files) (λ early. IsWithin early more) visit.files (λ early is digest bytes has. within digest bytes (is digest bytes has)) all

-- all of some, and one more
pub and_one : {X : Type 0} (P : X → Type 0) (xs : List X) (x : X) → All P xs → P x → All P (xs ++ x ∷ [])
and_one P xs x all one = All-append P xs (x ∷ []) all (All-from_recursion P (x ∷ []) (one, tt))
