-- Only an answer with a file, or with a part of one, has an entity tag.
use Rattle.std.proofs.Common.{◌≡◌, inl, inr, ℕ, List, [], ◌∷◌, Bool, true, false, Option, Some, None, Result, Ok, Err, refl, ap, subst, ◌∙◌}
use Rattle.std.proofs.lemmas.Bool.{false≢true}
use Rattle.std.specs.Prelude.{IsSome}
use Rattle.std.specs.declared.alloc.AllocError.{AllocError}
use Rattle.host_names.specs.declared.digests.Digest.{Digest}
use Rattle.host_names.specs.declared.names.SiteName.{SiteName}
use Rattle.site_state.specs.Files.{Paths}
use Rattle.site_state.specs.States.{draft_at, kept_at}
use Rattle.site_state.specs.declared.values.Draft.{Draft}
use Rattle.site_change.specs.declared.commands.Command.{Command}
use Rattle.site_change.specs.declared.refusals.ChangeRefusal.TheVariants.{NoSuchDeploy}
use Rattle.change_log.specs.Logs.{entry_at}
use Rattle.host_api.specs.declared.refusals.Refusal.TheVariants as reason
use Rattle.host_api.specs.declared.texts.DeployState.TheVariants as state
use Rattle.host_api.specs.declared.texts.Told.{Told}
use Rattle.host_api.specs.declared.texts.Told.TheVariants as told
use Rattle.host_replies.specs.Replies.{Answer, Tells}
use Rattle.host_answers.specs.Answers.{ChangesBy, FollowsBy, InSite, LacksBy, OfDeploy, PublishesBy, ShowsBy, told_entry, told_open, told_publishing}
use Rattle.host_answers.specs.Deploys.{Opening, opened_by, site_of_deploy}
use Rattle.host_answers.specs.Houses.{Calls}
use Rattle.host_answers.specs.declared.stops.Stop.{Stop}

module _ (answer : Answer) (tag : IsSome answer.etag) where
  -- not where it is an answer without one
  pub bare : (other : Answer) → answer ≡ other → other.etag ≡ None → ⊥
  bare other is not = false≢true (subst (λ (e : Option (List ℕ)). IsSome e) (ap (λ (a : Answer). a.etag) is ∙ not) tag)

  pub tells : (told : Told) → Tells told answer → ⊥
  tells told (inl is) = bare _ is refl
  tells told (inr (is, takes)) = bare _ is refl

  module _ {H : Type 0} (calls : Calls H) (next : H) where
    publishes : (house : H) (site : SiteName) (id : ℕ) (auto : Bool) (required : List Digest) → PublishesBy calls house site id auto required answer next → ⊥
    publishes house site id true [] (done, commits, is) = tells (told_publishing id done) is
    publishes house site id true (digest ∷ required) (is, same) = tells (told.Opened id None (digest ∷ required)) is
    publishes house site id false [] (is, same) = tells (told.Opened id None []) is
    publishes house site id false (digest ∷ required) (is, same) = tells (told.Opened id None (digest ∷ required)) is

    lacks : (house : H) (opening : Opening) (id : ℕ) (required : Result (List Digest) AllocError) → LacksBy calls house opening id required answer next → ⊥
    lacks house opening id (Err why) (is, same) = tells (told.Refused reason.OutOfMemory) is
    lacks house opening id (Ok required) is = publishes house opening.site id opening.auto required is

    follows : (house : H) (opening : Option Opening) (done : Result ℕ Stop) → FollowsBy calls house opening done answer next → ⊥
    follows house (Some opening) (Ok id) (required, misses, is) = lacks house opening id required is
    follows house (Some opening) (Err why) (is, same) = tells (told_entry (Err why)) is
    follows house None (Ok id) (is, same) = tells (told_entry (Ok id)) is
    follows house None (Err why) (is, same) = tells (told_entry (Err why)) is

    pub changes : (house : H) (command : Command) → ChangesBy calls house command answer next → ⊥
    changes house command (done, mid, commits, is) = follows mid (opened_by command) done is

    shows : (house : H) (site : SiteName) (n : ℕ) (draft : Option Draft) (tree : Option (Paths (List ℕ))) → ShowsBy calls house site n draft tree answer next → ⊥
    shows house site n (Some draft) tree (required, misses, only) = tells (told_open n site required) only.0
    shows house site n None (Some tree) (is, same) = tells (told.Deploy n site state.Kept) is
    shows house site n None None (is, same) = tells (told.Refused (reason.Change NoSuchDeploy)) is

    pub in_site : (house : H) (site : Option SiteName) (does : SiteName → Answer → H → Type 0) → ((owner : SiteName) → does owner answer next → ⊥)
        → InSite calls house site does answer next → ⊥
    in_site house None does not (is, same) = tells (told.Refused (reason.Change NoSuchDeploy)) is
    in_site house (Some site) does not is = not site is

    pub shown : (house : H) (n : ℕ)
        → OfDeploy calls house n (λ site. ShowsBy calls house site n (draft_at (calls.seen house).state site n) (kept_at (calls.seen house).state site n)) answer next → ⊥
    shown house n is =
        in_site house (site_of_deploy (entry_at (calls.seen house).entries n)) _
        (λ site. shows house site n (draft_at (calls.seen house).state site n) (kept_at (calls.seen house).state site n)) is
