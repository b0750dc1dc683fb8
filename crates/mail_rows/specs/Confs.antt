-- The places of aliases and filters, and what an act changes.
use Rattle.std.specs.Prelude.{◌≡◌, ℕ, ◌-◌, ◌<◌, ◌≤◌, ◌⊎◌, Bool, false, not, if◌then◌else◌, nat_lt, List, [], ◌∷◌, bytes_eq, filter, length, slice_get, Option, Some}
use Rattle.std.specs.declared.cmp.Ordering.TheVariants.{Less}
use Rattle.std.specs.Ordering.{nat_cmp, is_gt, is_eq}
use Rattle.std.specs.List.{AllByRecursion}
use Rattle.std.specs.Option.{option_map_or}
use Rattle.std.specs.Cmp.Lexicographic.{slice_cmp}
use Rattle.verb_core.specs.declared.conf.Alias.{Alias}
use Rattle.verb_core.specs.declared.conf.Conf.{Conf}
use Rattle.verb_core.specs.declared.conf.Filter.{Filter}
use Rattle.verb_core.specs.Step.{with_alias, with_filter}
use Rattle.mail_rows.specs.declared.conf_change.ConfChange.{ConfChange}
use Rattle.mail_rows.specs.declared.conf_change.ConfChange.TheVariants.{SetAlias, DropAlias, SetFilter, DropFilter, Nothing}

-- whether the alias stands before the one of a local part
abbrev pub stands_before : List ℕ → Alias → Bool
stands_before local a = is_gt (slice_cmp nat_cmp local a.local)

-- whether the alias at a place is that of a local part
abbrev pub stands_here : List ℕ → ℕ → List Alias → Bool
stands_here local place all = option_map_or (λ (a : Alias). is_eq (slice_cmp nat_cmp local a.local)) (slice_get all place) false

-- the names of these strictly rise
abbrev pub RiseBy : {X : Type 0} → (X → List ℕ) → List X → Type 0
RiseBy name [] = Unit {0}
RiseBy name (x ∷ more) = AllByRecursion (λ y. slice_cmp nat_cmp (name x) (name y) ≡ Less) more × RiseBy name more

-- the local parts strictly rise
abbrev pub Rises : List Alias → Type 0
Rises = RiseBy (λ (a : Alias). a.local)

-- whether the filter has another name
abbrev pub has_other_id : List ℕ → Filter → Bool
has_other_id id f = not (bytes_eq id f.id)

-- ---- filters by rising name

-- the name of the filter at a place
abbrev pub id_at : List Filter → ℕ → List ℕ
id_at filters place = option_map_or (λ (f : Filter). f.id) (slice_get filters place) []

-- whether a name comes behind that of the filter at a place
abbrev pub comes_behind : List ℕ → List Filter → ℕ → Bool
comes_behind id filters place = is_gt (slice_cmp nat_cmp id (id_at filters place))

-- whether the place of that rank has the filter of a name
abbrev pub is_ranked : List ℕ → List Filter → List ℕ → ℕ → Bool
is_ranked id filters order rank = option_map_or (λ (place : ℕ). bytes_eq id (id_at filters place)) (slice_get order rank) false

-- the place is among these
abbrev pub HasPlace : ℕ → List ℕ → Type 0
HasPlace place [] = ⊥
HasPlace place (p ∷ more) = (p ≡ place) ⊎ HasPlace place more

-- the places of the first filters, by rising name
pub record IsOrder (order : List ℕ) (filters : List Filter) : Type 0 where
  pub rise : RiseBy (id_at filters) order
  pub within : AllByRecursion (λ (place : ℕ). place < length order) order
  pub whole : (place : ℕ) → place < length order → HasPlace place order
  pub first : length order ≤ length filters

-- a place after another is gone
abbrev pub lowered : ℕ → ℕ → ℕ
lowered gone place = if nat_lt gone place then place - 1 else place

-- ---- changes

-- the configuration after a change
abbrev pub changed : ConfChange → Conf → Conf
changed (SetAlias a) conf = record conf { aliases = with_alias a conf.aliases }
changed (DropAlias local) conf = record conf { aliases = filter (λ a. not (bytes_eq local a.local)) conf.aliases }
changed (SetFilter f) conf = record conf { filters = with_filter f conf.filters }
changed (DropFilter id) conf = record conf { filters = filter (has_other_id id) conf.filters }
changed Nothing conf = conf

-- the configuration in force, and the one after the change that is ready
pub record Held : Type 0 where
  pub conf : Conf
  pub ready : Option Conf

-- lists of so much room have room for what the change makes of the configuration
abbrev pub IsRoomy : Option ConfChange → Conf → ℕ → ℕ → Type 0
IsRoomy (Some (SetAlias a)) conf aliases filters = length conf.aliases < aliases
IsRoomy (Some (SetFilter f)) conf aliases filters = length conf.filters < filters
IsRoomy _ conf aliases filters = Unit {0}
