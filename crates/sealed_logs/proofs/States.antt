-- What accepted changes leave may be a base, said of states.
use Rattle.std.proofs.Common.{◌≡◌, ◌⊎◌, inl, inr, ℕ, ◌+◌, ◌<◌, ◌≤◌, true, false, List, [], ◌∷◌, Option, Some, None, is_some, refl, sym, ap, subst, ◌∙◌, arith, IsTrue}
use Rattle.std.specs.FinMap as map
use Rattle.byte_view.specs.Contents.{Contents, AreDigested}
use Rattle.host_names.specs.Cells.{cell_cmp}
use Rattle.host_names.specs.declared.cells.Cell.{Cell}
use Rattle.host_names.specs.declared.cells.Cell.TheVariants as cell
use Rattle.host_names.specs.declared.names.SiteName.{SiteName}
use Rattle.site_state.specs.Named.{AliasesNamed}
use Rattle.site_state.specs.States.{AreOfKind, State, may_stand}
use Rattle.site_change.specs.declared.commands.Command.{Command}
use Rattle.site_change.specs.declared.commands.Command.TheVariants.{Open}
use Rattle.site_change.specs.Changes.{refusal, applied, run_from}
use Rattle.site_change.specs.Uploaded.{AreUploaded}
use Rattle.site_change.proofs.CommandLaws.{command_laws}
use Rattle.site_change.proofs.Deploys.{IsDeploy, IsOpening, IsThere}
use Rattle.site_change.proofs.Fitting.{IsLeftOrFits}
use Rattle.site_change.proofs.LeftOut.{accepted}
use Rattle.change_undo.proofs.Live.{IsRising}
use Rattle.change_log.specs.Bases.{deploy_of}
use Rattle.sealed_logs.proofs.Exclusive.{NeverBoth, never_both}

-- What the changes up to an entry may have left, said of the state.
pub record IsBaseState (uploads : Contents) (base : ℕ) (cells : State) : Type 0 where
  pub of_kind : AreOfKind cells
  pub named : AliasesNamed cells
  pub within : (c : Cell) (n : ℕ) → deploy_of c ≡ Some n → IsThere cells c → (1 ≤ n) × (n ≤ base)
  pub once : (c d : Cell) (n : ℕ) → deploy_of c ≡ Some n → deploy_of d ≡ Some n → IsThere cells c → IsThere cells d → c ≡ d
  pub uploaded : AreUploaded uploads cells

-- ---- deploys by their numbers

-- a deploy's cell, by its site and number
site_at : (c : Cell) (k : ℕ) → deploy_of c ≡ Some k → (site : SiteName) × ((c ≡ cell.Draft site k) ⊎ (c ≡ cell.Kept site k))
site_at (cell.Draft site m) k e = let same : m ≡ k = cc e in (site, inl (ap (cell.Draft site) same))
site_at (cell.Kept site m) k e = let same : m ≡ k = cc e in (site, inr (ap (cell.Kept site) same))
site_at (cell.Live site p) k e = cc e
site_at (cell.Alias site p) k e = cc e

deploy_at : (state : State) (site : SiteName) (k : ℕ) (c : Cell) → ((c ≡ cell.Draft site k) ⊎ (c ≡ cell.Kept site k)) → IsThere state c → IsDeploy state site k
deploy_at state site k c (inl is) there = inl (sym (ap (λ (d : Cell). is_some (map.get state d)) is) ∙ there)
deploy_at state site k c (inr is) there = inr (sym (ap (λ (d : Cell). is_some (map.get state d)) is) ∙ there)

deploy_within : (uploads : Contents) (n : ℕ) (state : State) → IsBaseState uploads n state → (site : SiteName) (k : ℕ) → IsDeploy state site k → (1 ≤ k) × (k ≤ n)
deploy_within uploads n state base site k (inl there) = base.within (cell.Draft site k) k refl there
deploy_within uploads n state base site k (inr there) = base.within (cell.Kept site k) k refl there

-- two deploys of one number are of one site
one_site : (uploads : Contents) (n : ℕ) (state : State) → IsBaseState uploads n state → (a b : SiteName) (k : ℕ) → IsDeploy state a k → IsDeploy state b k → a ≡ b
one_site uploads n state base a b k (inl x) (inl y) = cc (base.once (cell.Draft a k) (cell.Draft b k) k refl refl x y)
one_site uploads n state base a b k (inl x) (inr y) = cc (base.once (cell.Draft a k) (cell.Kept b k) k refl refl x y)
one_site uploads n state base a b k (inr x) (inl y) = cc (base.once (cell.Kept a k) (cell.Draft b k) k refl refl x y)
one_site uploads n state base a b k (inr x) (inr y) = cc (base.once (cell.Kept a k) (cell.Kept b k) k refl refl x y)

pub base_never : (uploads : Contents) (n : ℕ) (state : State) → IsBaseState uploads n state → NeverBoth state
base_never uploads n state base site k draft kept = cc (base.once (cell.Draft site k) (cell.Kept site k) k refl refl draft kept)

-- it is so where deploys of one number are of one site, and none is open and kept
once_from : (state : State) → NeverBoth state → ((a b : SiteName) (k : ℕ) → IsDeploy state a k → IsDeploy state b k → a ≡ b)
    → (c d : Cell) (k : ℕ) → deploy_of c ≡ Some k → deploy_of d ≡ Some k → IsThere state c → IsThere state d → c ≡ d
once_from state never one c d k at_c at_d there_c there_d =
    let x = site_at c k at_c in
    let y = site_at d k at_d in
    let same : x.0 ≡ y.0 = one x.0 y.0 k (deploy_at state x.0 k c x.1 there_c) (deploy_at state y.0 k d y.1 there_d) in
    both x.0 y.0 same x.1 y.1
  where
    both : (a b : SiteName) → a ≡ b → (c ≡ cell.Draft a k) ⊎ (c ≡ cell.Kept a k) → (d ≡ cell.Draft b k) ⊎ (d ≡ cell.Kept b k) → c ≡ d
    both a b same (inl p) (inl q) = p ∙ ap (λ (s : SiteName). cell.Draft s k) same ∙ sym q
    both a b same (inr p) (inr q) = p ∙ ap (λ (s : SiteName). cell.Kept s k) same ∙ sym q
    both a b same (inl p) (inr q) =
        absurd (never b k (sym (ap (λ (x : Cell). is_some (map.get state x)) (p ∙ ap (λ (s : SiteName). cell.Draft s k) same)) ∙ there_c)
        (sym (ap (λ (x : Cell). is_some (map.get state x)) q) ∙ there_d))
    both a b same (inr p) (inl q) =
        absurd (never b k (sym (ap (λ (x : Cell). is_some (map.get state x)) q) ∙ there_d)
        (sym (ap (λ (x : Cell). is_some (map.get state x)) (p ∙ ap (λ (s : SiteName). cell.Kept s k) same)) ∙ there_c))

-- each of these changes has a number below this one
abbrev pub AllBelow : ℕ → List (ℕ × Command) → Type 0
AllBelow k [] = Unit {0}
AllBelow k (c ∷ changes) = (c.0 < k) × AllBelow k changes

-- ---- one command

module _ (uploads : Contents) (digested : AreDigested uploads) where
  fits_kind : (state after : State) (c : Cell) → IsTrue (may_stand c (map.get state c)) → IsLeftOrFits state after c → IsTrue (may_stand c (map.get after c))
  fits_kind state after c was (inl same) = ap (may_stand c) same ∙ was
  fits_kind state after c was (inr fits) = fits

  pub state-step : (n m : ℕ) (command : Command) (state : State) → IsBaseState uploads n state → n < m → refusal command m state uploads ≡ None
      → IsBaseState uploads m (applied command m state uploads)
  state-step n m command state base less ok =
      let laws = command_laws command m state uploads in
      let after = applied command m state uploads in
      let old : (site : SiteName) (k : ℕ) → IsDeploy state site k → k < m = λ site k there. omega (arith, less, (deploy_within uploads n state base site k there).1) in
      let one : (a b : SiteName) (k : ℕ) → IsDeploy after a k → IsDeploy after b k → a ≡ b = λ a b k x y.
      elim (laws.deploys a k x) [
        | inl was_a ↦ elim (laws.deploys b k y) [
          | inl was_b ↦ one_site uploads n state base a b k was_a was_b
          | inr new_b ↦ absurd (omega (arith, old a k was_a, new_b.0))
        ]
        | inr new_a ↦ elim (laws.deploys b k y) [
          | inl was_b ↦ absurd (omega (arith, old b k was_b, new_a.0))
          | inr new_b ↦ cc (sym new_a.1.2 ∙ new_b.1.2)
        ]
      ] in
      let fresh : (site : SiteName) → IsThere state (cell.Kept site m) → ⊥ = λ site there. omega (arith, old site m (inr there)) in
      record {
        of_kind = λ c. fits_kind state after c (base.of_kind c) (laws.fits c);
        named = laws.named base.named ok;
        within = λ c k at there.
            let s = site_at c k at in
            elim (laws.deploys s.0 k (deploy_at after s.0 k c s.1 there)) [
              | inl was ↦ ((deploy_within uploads n state base s.0 k was).0, omega (arith, old s.0 k was))
              | inr new ↦ (omega (arith, new.0, less), omega (arith, new.0))
            ];
        once = once_from after (never_both command m state uploads (base_never uploads n state base) fresh) one;
        uploaded = laws.uploaded digested base.uploaded ok;
      }

  pub state-higher : (n m : ℕ) (state : State) → IsBaseState uploads n state → n ≤ m → IsBaseState uploads m state
  state-higher n m state base le = record {
    of_kind = base.of_kind;
    named = base.named;
    within = λ c k at there. ((base.within c k at there).0, omega (arith, (base.within c k at there).1, le));
    once = base.once;
    uploaded = base.uploaded;
  }

  -- changes in a row, each under its number, all of them above the base and none above m
  pub state-run : (n m : ℕ) (state after : State) (changes : List (ℕ × Command)) → IsBaseState uploads n state → n ≤ m → IsRising (n + 1) changes → AllBelow (m + 1) changes
      → run_from uploads state changes ≡ Some after → IsBaseState uploads m after
  state-run n m state after [] base le rising below ran =
      let same : state ≡ after = cc ran in
      subst (IsBaseState uploads m) same (state-higher n m state base le)
  state-run n m state after (c ∷ changes) base le rising below ran =
      let parts = accepted (refusal c.1 c.0 state uploads) _ after ran in
      state-run c.0 m (applied c.1 c.0 state uploads) after changes (state-step n c.0 c.1 state base (omega (arith, rising.0)) parts.0) (omega (arith, below.0)) rising.1 below.1 parts.1
