-- What came of the wanted files so far.
use Rattle.std.proofs.Common.{◌≡◌, ℕ, List, [], ◌∷◌, ◌++◌, Option, Some, None, map, refl, sym, ap, subst, ◌∙◌}
use Rattle.std.proofs.lemmas.List.{append-nil, append_assoc, map-append}
use Rattle.std.proofs.lemmas.List.Sums.{fold-append}
use Rattle.std.specs.FinMap as fin
use Rattle.std.specs.List.{cons_option, filter_map, fold}
use Rattle.byte_view.specs.Contents.{Contents, with_file}
use Rattle.blob_store.specs.declared.openings.OpenFault.{OpenFault}
use Rattle.blob_store.specs.declared.openings.Wanted.{Wanted}
use Rattle.blob_store.specs.Calls.{Call}
use Rattle.blob_store.specs.Openings.{AreTaken, IsOpened, IsOpenFault, IsTaken, IsTakeFault, Taken, known_with}

-- what is known, and then the files that are there, one after another
abbrev pub with_taken : Contents → List Taken → Contents
with_taken known taken = fold (λ k one. known_with k one.file) known taken

pub with_taken-files : (known : Contents) (taken : List Taken) → fold with_file known (filter_map (λ one. one.file) taken) ≡ with_taken known taken
with_taken-files known [] = refl
with_taken-files known (t ∷ taken) =
    elim t.file as (λ o. fold with_file known (cons_option o (filter_map (λ one. one.file) taken)) ≡ with_taken (known_with known o) taken) [
      | None ↦ with_taken-files known taken
      | Some file ↦ with_taken-files (with_file known file) taken
    ]

pub record TakenSoFar {S : Type 0} (did : S → Call → S → Type 0) (first now : S) (wanted left : List Wanted) (known : Contents) : Type 0 where
  pub taken : List Taken
  pub asked : map (λ one. one.wanted) taken ++ left ≡ wanted
  pub calls : AreTaken did first taken now
  pub kept : known ≡ with_taken fin.empty taken

module _ {S : Type 0} (did : S → Call → S → Type 0) where
  taken_then : (old mid new : S) (taken : List Taken) (one : Taken) → AreTaken did old taken mid → IsTaken did mid one.wanted one.file new → AreTaken did old (taken ++ one ∷ []) new
  taken_then old mid new [] one are is = (new, subst (λ s. IsTaken did s one.wanted one.file new) are is, refl)
  taken_then old mid new (t ∷ taken) one are is = (are.0, are.1, taken_then are.0 mid new taken one are.2 is)

  pub none_taken : (first : S) (wanted left : List Wanted) (known : Contents) → left ≡ wanted → known ≡ fin.empty → TakenSoFar did first first wanted left known
  none_taken first wanted left known all none = record { taken = []; asked = all; calls = refl; kept = none }

  pub taken_more : (first now new : S) (wanted left rest : List Wanted) (next : Wanted) (known after : Contents) (file : Option (List ℕ)) → left ≡ next ∷ rest
      → TakenSoFar did first now wanted left known → IsTaken did now next file new → after ≡ known_with known file → TakenSoFar did first new wanted rest after
  taken_more first now new wanted left rest next known after file more so is with =
      let one : Taken = record { wanted = next; file = file } in
      record {
        taken = so.taken ++ one ∷ [];
        asked = ap (λ l. l ++ rest) (map-append (λ t. t.wanted) so.taken (one ∷ [])) ∙ append_assoc (map (λ t. t.wanted) so.taken) (next ∷ []) rest
            ∙ ap (λ l. map (λ t. t.wanted) so.taken ++ l) (sym more) ∙ so.asked;
        calls = taken_then first now new so.taken one so.calls is;
        kept = with ∙ ap (λ k. known_with k file) so.kept ∙ sym (fold-append (λ k t. known_with k t.file) fin.empty so.taken (one ∷ []));
      }

  pub stops_among : (first now new : S) (wanted left rest : List Wanted) (next : Wanted) (known : Contents) (fault : OpenFault) → left ≡ next ∷ rest
      → TakenSoFar did first now wanted left known → IsTakeFault did now next fault new → IsOpenFault did first wanted fault new
  stops_among first now new wanted left rest next known fault more so is =
      (so.taken, next, rest, now, ap (λ l. map (λ t. t.wanted) so.taken ++ l) (sym more) ∙ so.asked, so.calls, is)

  pub all_taken : (first now : S) (wanted left : List Wanted) (known : Contents) → left ≡ [] → TakenSoFar did first now wanted left known → IsOpened did first wanted known now
  all_taken first now wanted left known none so = (
    so.taken,
    sym (append-nil (map (λ t. t.wanted) so.taken)) ∙ ap (λ l. map (λ t. t.wanted) so.taken ++ l) (sym none) ∙ so.asked,
    so.calls,
    so.kept ∙ sym (with_taken-files fin.empty so.taken),
  )
