-- What is proved of each command: all of it in one place.
use Rattle.std.proofs.Common.{◌≡◌, inl, inr, ℕ, length, true, false, Some, None, option_map, refl, ap, ◌∙◌, ◌||◌, sym, cond}
use Rattle.std.specs.FinMap as map
use Rattle.std.specs.List.{find}
use Rattle.std.specs.Option.{option_and_then}
use Rattle.std.specs.Str.{bytes_eq}
use Rattle.byte_view.specs.Contents.{Contents, AreDigested}
use Rattle.host_names.specs.Cells.{site_of}
use Rattle.host_names.specs.declared.cells.Cell.{Cell}
use Rattle.host_names.specs.declared.cells.Cell.TheVariants as cell
use Rattle.site_state.specs.Aliases.{alias_for, name_in, stands_for}
use Rattle.site_state.specs.Named.{AliasesNamed}
use Rattle.site_state.specs.States.{State, with_cell, as_file, as_tree, as_number, as_draft, live_at, kept_at, draft_at, is_alias_of, is_live_below, entries_below}
use Rattle.site_state.specs.declared.values.Value.TheVariants as value
use Rattle.site_state.proofs.Named.{named_live, named_draft, named_without_alias, named_with_alias, named_without_kept}
use Rattle.site_change.specs.declared.commands.Command.{Command}
use Rattle.site_change.specs.declared.commands.Command.TheVariants.{Open, Publish, Cancel, Remove, Rename, RenameFolder, MoveAlias, RemoveAlias, Restore, RemoveDeploy}
use Rattle.site_change.specs.declared.refusals.ChangeRefusal.TheVariants.{NoSuchDraft, NoSuchDeploy, NoSuchFile, NoSuchAlias}
use Rattle.site_change.specs.Changes.{IsCommandInRange, same_cell, needed, rename_refusal, folder_refusal, folder_renamed, publish_refusal, restore_refusal, removal_refusal, published, restored, refusal, applied, site_of_command, publish_touches, restore_touches, touches, IsWithin}
use Rattle.site_change.specs.Laws.{AgreeOn, SameEffect}
use Rattle.site_change.specs.Uploaded.{AreUploaded}
use Rattle.site_change.proofs.Deploys.{DeploysFrom, without_new, none_by_removal, none_by_live, none_by_alias, none_by_publishing, none_by_restoring, from_opening}
use Rattle.site_change.proofs.Drafts.{DraftsFrom, stay_all, stay_then, stay_by_write, stay_by_removal, stay_by_live, stay_by_publishing, stay_by_restoring, from_opening as from_draft}
use Rattle.site_change.proofs.SitesTouched.{either, at_cell, at_alias, at_publish, at_restore}
use Rattle.site_change.proofs.Effects.{same_cell-itself, get-with_two}
use Rattle.site_change.proofs.Fitting.{IsLeftOrFits, live_fits, write_fits, both_fit, publish_fits, restore_fits}
use Rattle.site_change.proofs.FolderMoves.{all_below, at_below, same_files, renamed_reads, renamed_leaves, renamed_fits, named_renamed, renamed_uploaded, none_by_renaming, stay_by_renaming}
use Rattle.site_change.proofs.NamedAliases.{named_publish, named_restore, is_there, no_alias}
use Rattle.site_change.proofs.Ranges.{AreNumbered, few_listed, is_kept, is_known, is_open}
use Rattle.site_change.proofs.ReadsAndWrites.{or_false, publish_reads, publish_writes, restore_reads, restore_writes, same_draft, write_reads, write_leaves, or_front, or_here, or_there, or_after, same_alias_entries, or_second}
use Rattle.site_change.proofs.SameFiles.{publish_grows, restore_grows}
use Rattle.site_change.proofs.Uploading.{served_uploaded, kept_uploaded, write_uploaded, publish_uploaded, restore_uploaded}

-- What is proved of a command under the number n, to a state, with these uploads.
pub record KeepsLaws (command : Command) (n : ℕ) (state : State) (uploads : Contents) : Type 0 where
  -- what it reads it touches
  pub reads : (other : State) → AgreeOn (touches command n state) state other → SameEffect command n state other uploads
  -- what it writes it touches
  pub writes : (c : Cell) → touches command n state c ≡ false → map.get (applied command n state uploads) c ≡ map.get state c
  -- what it writes is of its cell's kind
  pub fits : (c : Cell) → IsLeftOrFits state (applied command n state uploads) c
  -- once it is accepted, each alias names a kept deploy
  pub named : AliasesNamed state → refusal command n state uploads ≡ None → AliasesNamed (applied command n state uploads)
  -- once it is accepted, it stays so as more is uploaded, and does the same
  pub grows : (more : Contents) → IsWithin uploads more → refusal command n state uploads ≡ None
      → (refusal command n state more ≡ None) × (applied command n state more ≡ applied command n state uploads)
  -- once it is accepted, it leaves only files that were uploaded, where there are no others before
  pub uploaded : AreDigested uploads → AreUploaded uploads state → refusal command n state uploads ≡ None → AreUploaded uploads (applied command n state uploads)
  -- the deploys after it were there before, or it opens them
  pub deploys : DeploysFrom command n state (applied command n state uploads)
  -- so were the drafts, with what they list
  pub drafts : DraftsFrom command n state (applied command n state uploads)
  -- what it touches is of its site
  pub of_site : (c : Cell) → touches command n state c ≡ true → site_of c ≡ site_of_command command
  -- once it is accepted, the number that it names is in the range, where that of each deploy is, and it doesn't list too much
  pub in_range : AreNumbered state → refusal command n state uploads ≡ None → IsCommandInRange command

pub command_laws : (command : Command) (n : ℕ) (state : State) (uploads : Contents) → KeepsLaws command n state uploads
command_laws (Open site files auto) n state uploads =
    let at = cell.Draft site n in
    let draft = value.Draft (record { auto = auto; files = files }) in record {
      reads = λ other agree. record {
        answer = refl;
        touched = λ c. refl;
        values = write_reads at (Some draft) (touches (Open site files auto) n state) state other agree;
      };
      writes = write_leaves at (Some draft) state;
      fits = write_fits state at (Some draft) refl;
      named = λ named accepted. named_draft state named site n (Some draft);
      grows = λ more within accepted. (accepted, refl);
      uploaded = λ digested all accepted. write_uploaded uploads state at (Some draft) tt all;
      deploys = from_opening state site n files auto draft;
      drafts = from_draft state site n files auto;
      of_site = λ c. at_cell c at;
      in_range = λ numbered accepted. few_listed (length files.1) accepted;
    }
command_laws (Publish site m) n state uploads =
    let draft = draft_at state site m in record {
      reads = λ other agree. let same = same_draft site m state other agree in record {
        answer = ap (publish_refusal uploads) same;
        touched = λ c. ap (λ d. same_cell c (cell.Draft site m) || publish_touches site m d c) same;
        values = λ c h. ap (λ d. map.get (published site m uploads other d) c) same ∙ publish_reads site m uploads state other draft c (agree c h);
      };
      writes = λ c h.
          let parts = or_false (same_cell c (cell.Draft site m)) (publish_touches site m draft c) h in
          publish_writes site m uploads state draft c parts.0 parts.1;
      fits = publish_fits site m uploads state draft;
      named = λ named accepted. named_publish site m uploads state draft named;
      grows = λ more. publish_grows site m uploads more state draft;
      uploaded = λ digested all accepted. publish_uploaded uploads digested site m state draft accepted all;
      deploys = without_new (Publish site m) n state _ (none_by_publishing site m uploads state);
      drafts = stay_all (Publish site m) n state _ (stay_by_publishing site m uploads state draft);
      of_site = λ c. either (site_of c ≡ site) (same_cell c (cell.Draft site m)) (publish_touches site m draft c) (at_cell c (cell.Draft site m)) (at_publish site m draft c);
      in_range = λ numbered accepted. numbered site m (inl (is_open uploads draft accepted));
    }
command_laws (Cancel site m) n state uploads =
    let at = cell.Draft site m in record {
      reads = λ other agree. record {
        answer = ap (λ v. needed NoSuchDraft (as_draft v)) (agree at (same_cell-itself at));
        touched = λ c. refl;
        values = write_reads at None (touches (Cancel site m) n state) state other agree;
      };
      writes = write_leaves at None state;
      fits = write_fits state at None refl;
      named = λ named accepted. named_draft state named site m None;
      grows = λ more within accepted. (accepted, refl);
      uploaded = λ digested all accepted. write_uploaded uploads state at None tt all;
      deploys = without_new (Cancel site m) n state _ (none_by_removal state at);
      drafts = stay_all (Cancel site m) n state _ (stay_by_removal state at);
      of_site = λ c. at_cell c at;
      in_range = λ numbered accepted. numbered site m (inl (is_there NoSuchDraft (draft_at state site m) accepted));
    }
command_laws (Remove site path) n state uploads =
    let at = cell.Live site path in record {
      reads = λ other agree. record {
        answer = ap (λ v. needed NoSuchFile (as_file v)) (agree at (same_cell-itself at));
        touched = λ c. refl;
        values = write_reads at None (touches (Remove site path) n state) state other agree;
      };
      writes = write_leaves at None state;
      fits = write_fits state at None refl;
      named = λ named accepted. named_live state named site path None;
      grows = λ more within accepted. (accepted, refl);
      uploaded = λ digested all accepted. write_uploaded uploads state at None tt all;
      deploys = without_new (Remove site path) n state _ (none_by_removal state at);
      drafts = stay_all (Remove site path) n state _ (stay_by_removal state at);
      of_site = λ c. at_cell c at;
      in_range = λ numbered accepted. tt;
    }
command_laws (Rename site source target) n state uploads =
    let a = cell.Live site source in
    let b = cell.Live site target in
    let file = option_map value.Live (live_at state site source) in
    let gone = with_cell state a None in record {
      reads = λ other agree.
          let from_a : map.get other a ≡ map.get state a = agree a (or_here a (same_cell a b)) in
          let from_b : map.get other b ≡ map.get state b = agree b (or_there (same_cell b a) b) in record {
            answer = λ i. rename_refusal (bytes_eq source target) (as_file (from_a i)) (as_file (from_b i));
            touched = λ c. refl;
            values = λ c h.
                get-with_two other a b None (option_map value.Live (live_at other site source)) c
                ∙ (λ i. cond (same_cell c b) (option_map value.Live (as_file (from_a i))) (cond (same_cell c a) None (agree c h i)))
                ∙ sym (get-with_two state a b None file c);
          };
      writes = λ c h. let parts = or_false (same_cell c a) (same_cell c b) h in get-with_two state a b None file c ∙ rw (parts.1, parts.0) refl;
      fits = λ c. both_fit state gone (with_cell gone b file) c (write_fits state a None refl c) (write_fits gone b file (live_fits site target (live_at state site source)) c);
      named = λ named accepted. named_live gone (named_live state named site source None) site target file;
      grows = λ more within accepted. (accepted, refl);
      uploaded = λ digested all accepted. write_uploaded uploads gone b file (served_uploaded uploads (map.get state a) (all a)) (write_uploaded uploads state a None tt all);
      deploys = without_new (Rename site source target) n state _ (λ own m there. none_by_removal state a own m (none_by_live gone site target file own m there));
      drafts = stay_all (Rename site source target) n state _ (stay_then state gone _ (stay_by_removal state a) (stay_by_live gone site target file));
      of_site = λ c. either (site_of c ≡ site) (same_cell c a) (same_cell c b) (at_cell c a) (at_cell c b);
      in_range = λ numbered accepted. tt;
    }
command_laws (RenameFolder site source target) n state uploads =
    let files = entries_below state site source in record {
      reads = λ other agree.
          let old : entries_below other site source ≡ files = same_files site source state other (λ c h. agree c (or_front _ _ h)) in
          let new : entries_below other site target ≡ entries_below state site target = same_files site target state other (λ c h. agree c (or_after _ _ h)) in record {
            answer = λ i. folder_refusal source target (old i) (new i);
            touched = λ c. refl;
            values = λ c h. (λ i. map.get (folder_renamed site source target other (old i)) c) ∙ renamed_reads site source target files state other c (agree c h);
          };
      writes = λ c h.
          let parts = or_false (is_live_below site source c) (is_live_below site target c) h in
          renamed_leaves site source target files (all_below state site source) state c parts.0 parts.1;
      fits = renamed_fits site source target files state;
      named = λ named accepted. named_renamed site source target files state named;
      grows = λ more within accepted. (accepted, refl);
      uploaded = λ digested all accepted. renamed_uploaded uploads site source target state all;
      deploys = without_new (RenameFolder site source target) n state _ (none_by_renaming site source target files state);
      drafts = stay_all (RenameFolder site source target) n state _ (stay_by_renaming site source target files state);
      of_site = λ c. either (site_of c ≡ site) (is_live_below site source c) (is_live_below site target c) (at_below site source c) (at_below site target c);
      in_range = λ numbered accepted. tt;
    }
command_laws (MoveAlias site name m) n state uploads =
    let k = cell.Kept site m in
    let at = cell.Alias site name in record {
      reads = λ other agree. record {
        answer = ap (λ v. needed NoSuchDeploy (as_tree v)) (agree k (or_here k (same_cell k at)));
        touched = λ c. refl;
        values = write_reads at (Some (value.Alias m)) (touches (MoveAlias site name m) n state) state other agree;
      };
      writes = λ c h. write_leaves at (Some (value.Alias m)) state c (or_false (same_cell c k) (same_cell c at) h).1;
      fits = write_fits state at (Some (value.Alias m)) refl;
      named = λ named accepted. named_with_alias state named site name m (is_there NoSuchDeploy (kept_at state site m) accepted);
      grows = λ more within accepted. (accepted, refl);
      uploaded = λ digested all accepted. write_uploaded uploads state at (Some (value.Alias m)) tt all;
      deploys = without_new (MoveAlias site name m) n state _ (none_by_alias state site name (Some (value.Alias m)));
      drafts = stay_all (MoveAlias site name m) n state _ (stay_by_write state at (Some (value.Alias m)) (λ other j is. cc is));
      of_site = λ c. either (site_of c ≡ site) (same_cell c k) (same_cell c at) (at_cell c k) (at_cell c at);
      in_range = λ numbered accepted. numbered site m (inr (is_there NoSuchDeploy (kept_at state site m) accepted));
    }
command_laws (RemoveAlias site name) n state uploads =
    let at = cell.Alias site name in record {
      reads = λ other agree. record {
        answer = ap (λ v. needed NoSuchAlias (as_number v)) (agree at (same_cell-itself at));
        touched = λ c. refl;
        values = write_reads at None (touches (RemoveAlias site name) n state) state other agree;
      };
      writes = write_leaves at None state;
      fits = write_fits state at None refl;
      named = λ named accepted. named_without_alias state named site name;
      grows = λ more within accepted. (accepted, refl);
      uploaded = λ digested all accepted. write_uploaded uploads state at None tt all;
      deploys = without_new (RemoveAlias site name) n state _ (none_by_removal state at);
      drafts = stay_all (RemoveAlias site name) n state _ (stay_by_removal state at);
      of_site = λ c. at_cell c at;
      in_range = λ numbered accepted. tt;
    }
command_laws (Restore site m) n state uploads =
    let k = cell.Kept site m in
    let d = cell.Draft site m in
    let kept = kept_at state site m in
    let draft = draft_at state site m in
    let others = restore_touches site m kept draft in record {
      reads = λ other agree.
          let from_draft : draft_at other site m ≡ draft = ap as_draft (agree d (or_here d (same_cell d k || others d))) in
          let from_kept : kept_at other site m ≡ kept = ap as_tree (agree k (or_second (same_cell k d) k (others k))) in record {
            answer = λ i. restore_refusal uploads (from_kept i) (from_draft i);
            touched = λ c i. same_cell c d || (same_cell c k || restore_touches site m (from_kept i) (from_draft i) c);
            values = λ c h. (λ i. map.get (restored site m uploads other (from_kept i) (from_draft i)) c)
                ∙ restore_reads site m uploads state other kept draft c (agree c h);
          };
      writes = λ c h.
          let parts = or_false (same_cell c d) (same_cell c k || others c) h in
          restore_writes site m uploads state kept draft c parts.0 (or_false (same_cell c k) (others c) parts.1).1;
      fits = restore_fits site m uploads state kept draft;
      named = λ named accepted. named_restore site m uploads state kept draft named;
      grows = λ more. restore_grows site m uploads more state kept draft;
      uploaded = λ digested all accepted. restore_uploaded uploads digested site m state kept draft (kept_uploaded uploads (map.get state k) (all k)) accepted all;
      deploys = without_new (Restore site m) n state _ (none_by_restoring site m uploads state kept);
      drafts = stay_all (Restore site m) n state _ (stay_by_restoring site m uploads state kept draft);
      of_site = λ c. either (site_of c ≡ site) (same_cell c d) (same_cell c k || others c) (at_cell c d)
          (either (site_of c ≡ site) (same_cell c k) (others c) (at_cell c k) (at_restore site m kept draft c));
      in_range = λ numbered accepted. numbered site m (is_known uploads kept draft accepted);
    }
command_laws (RemoveDeploy site m) n state uploads =
    let k = cell.Kept site m in record {
      reads = λ other agree.
          let from_kept : kept_at other site m ≡ kept_at state site m = ap as_tree (agree k (or_here k (is_alias_of site k))) in
          let aliases = same_alias_entries site state other (λ c h. agree c (or_after (same_cell c k) (is_alias_of site c) h)) in record {
            answer = λ i. removal_refusal (from_kept i) (option_and_then (λ e. name_in e.0) (find (λ e. stands_for m e.1) (aliases i)));
            touched = λ c. refl;
            values = write_reads k None (touches (RemoveDeploy site m) n state) state other agree;
          };
      writes = λ c h. write_leaves k None state c (or_false (same_cell c k) (is_alias_of site c) h).0;
      fits = write_fits state k None refl;
      named = λ named accepted. named_without_kept state named site m (no_alias (kept_at state site m) (alias_for state site m) accepted);
      grows = λ more within accepted. (accepted, refl);
      uploaded = λ digested all accepted. write_uploaded uploads state k None tt all;
      deploys = without_new (RemoveDeploy site m) n state _ (none_by_removal state k);
      drafts = stay_all (RemoveDeploy site m) n state _ (stay_by_removal state k);
      of_site = λ c. either (site_of c ≡ site) (same_cell c k) (is_alias_of site c) (at_cell c k) (at_alias site c);
      in_range = λ numbered accepted. numbered site m (inr (is_kept (kept_at state site m) (alias_for state site m) accepted));
    }
