use Rattle.std.proofs.Common.{◌≡◌, rules, Some, refl}
use Rattle.site_state.specs.declared.values.Value.TheVariants as value
use Rattle.site_state.proofs.Named.{named_live, named_draft, named_without_alias, named_with_alias, named_with_kept, named_without_kept, alias_to_kept, no_alias_for, named_as_told, told_as_named}
use Rattle.site_state.proofs.states.State.may_write.Goals as goal

pub returns-in-Live-Some-Live-clause-named : goal.returns-in-Live-Some-Live-clause-named
returns-in-Live-Some-Live-clause-named c = λ _. named_as_told _ _ _ _ _ c.in-Live-Some-Live.is-0 refl (named_live _ c.aliases_are_named.ensures _ _ _)

pub returns-in-Live-None-clause-named : goal.returns-in-Live-None-clause-named
returns-in-Live-None-clause-named c = λ _. named_as_told _ _ _ _ _ c.in-Live-None.is-0 refl (named_live _ c.aliases_are_named.ensures _ _ _)

pub returns-in-Draft-Some-Draft-clause-named : goal.returns-in-Draft-Some-Draft-clause-named
returns-in-Draft-Some-Draft-clause-named c = λ _. named_as_told _ _ _ _ _ c.in-Draft-Some-Draft.is-0 refl (named_draft _ c.aliases_are_named.ensures _ _ _)

pub returns-in-Draft-None-clause-named : goal.returns-in-Draft-None-clause-named
returns-in-Draft-None-clause-named c = λ _. named_as_told _ _ _ _ _ c.in-Draft-None.is-0 refl (named_draft _ c.aliases_are_named.ensures _ _ _)

pub returns-in-Alias-Some-Alias-clause-named : goal.returns-in-Alias-Some-Alias-clause-named
returns-in-Alias-Some-Alias-clause-named c = λ is.
    let told : c.args.value.now ≡ Some (value.Alias c.in-Alias-Some-Alias.number) = search rules in
    named_as_told _ _ _ _ _ c.in-Alias-Some-Alias.is-0 told (named_with_alias _ c.aliases_are_named.ensures _ _ _ (search rules))

pub returns-in-Alias-Some-Alias-clause-all : goal.returns-in-Alias-Some-Alias-clause-all
returns-in-Alias-Some-Alias-clause-all c = λ _ named.
    let told : c.args.value.now ≡ Some (value.Alias c.in-Alias-Some-Alias.number) = search rules in
    let kept = alias_to_kept _ _ _ _ (told_as_named _ _ _ _ _ c.in-Alias-Some-Alias.is-0 told named) in
    search rules

pub returns-in-Alias-None-clause-named : goal.returns-in-Alias-None-clause-named
returns-in-Alias-None-clause-named c = λ _. named_as_told _ _ _ _ _ c.in-Alias-None.is-0 c.in-Alias-None.is-1 (named_without_alias _ c.aliases_are_named.ensures _ _)

pub returns-in-Kept-Some-Kept-clause-named : goal.returns-in-Kept-Some-Kept-clause-named
returns-in-Kept-Some-Kept-clause-named c = λ _.
    named_as_told _ _ _ _ _ c.in-Kept-Some-Kept.is-0 refl (named_with_kept _ c.aliases_are_named.ensures _ _ _ (search rules))

pub returns-in-Kept-None-clause-named : goal.returns-in-Kept-None-clause-named
returns-in-Kept-None-clause-named c = λ is.
    named_as_told _ _ _ _ _ c.in-Kept-None.is-0 c.in-Kept-None.is-1 (named_without_kept _ c.aliases_are_named.ensures _ _ (search rules))

pub returns-in-Kept-None-clause-all : goal.returns-in-Kept-None-clause-all
returns-in-Kept-None-clause-all c = λ _ named.
    let none = no_alias_for _ _ _ (told_as_named _ _ _ _ _ c.in-Kept-None.is-0 c.in-Kept-None.is-1 named) in
    search rules
