-- What holds of a house and a configuration that can begin.
use Rattle.std.proofs.Common.{◌≡◌, true, List, [], ◌∷◌, refl}
use Rattle.std.specs.List.{list_all}
use Rattle.std.proofs.lemmas.Bool.{and_from, and_parts}
use Rattle.verb_core.specs.declared.conf.Alias.{Alias}
use Rattle.verb_core.specs.declared.conf.Conf.{Conf}
use Rattle.verb_core.specs.declared.conf.House.{House}
use Rattle.verb_core.specs.Names.{is_empty}
use Rattle.verb_core.specs.Store.{is_known}
use Rattle.house_text.specs.Beginning.{can_alias, can_begin}

aliases_known : (house : House) (aliases : List Alias) → list_all (can_alias house) aliases ≡ true → list_all (λ (a : Alias). list_all (is_known house) a.users) aliases ≡ true
aliases_known house [] can = refl
aliases_known house (a ∷ aliases) can =
    let parts = and_parts (can_alias house a) (list_all (can_alias house) aliases) can in
    and_from (list_all (is_known house) a.users) (list_all (λ (b : Alias). list_all (is_known house) b.users) aliases)
    (and_parts _ _ (and_parts _ _ (and_parts _ _ parts.0).1).0).1 (aliases_known house aliases parts.1)

pub begins_known : (house : House) (conf : Conf) → can_begin house conf ≡ true → list_all (λ (a : Alias). list_all (is_known house) a.users) conf.aliases ≡ true
begins_known house conf can = aliases_known house conf.aliases (and_parts _ _ (and_parts _ _ (and_parts _ _ can).0).0).1

none_there : {A : Type 0} (xs : List A) → is_empty xs ≡ true → xs ≡ []
none_there [] e = refl
none_there (x ∷ xs) e = cc

pub begins_unfiltered : (house : House) (conf : Conf) → can_begin house conf ≡ true → conf.filters ≡ []
begins_unfiltered house conf can = none_there conf.filters (and_parts _ _ can).1
