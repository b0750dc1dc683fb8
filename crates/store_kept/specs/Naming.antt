-- The bodies that a base names, each with its text once that has come.
use Rattle.std.specs.Prelude.{◌≡◌, ℕ, ◌<◌, ◌≤◌, Bool, List, length, get_or, set, filter_map, is_some, Option, Some, None, option_map, if◌then◌else◌}
use Rattle.std.specs.FinMap.Entries as rows
use Rattle.std.specs.List.{insert, list_all}
use Rattle.verb_core.specs.declared.mailbox.Body.{Body}
use Rattle.store_kept.specs.Kept.{BaseTexts, body_cmp}

-- bodies by origin and rev, each with its text once that has come
abbrev pub NamedTexts : Type 0
NamedTexts = List (Body × Option (List ℕ))

-- whether the bodies strictly rise
abbrev pub are_rising : NamedTexts → Bool
are_rising named = rows.is_sorted body_cmp named

-- whether a body is named
abbrev pub is_named : NamedTexts → Body → Bool
is_named named body = is_some (rows.find body_cmp body named)

-- with a row in its place
abbrev pub with_row : Body → Option (List ℕ) → NamedTexts → NamedTexts
with_row body text named = rows.put body_cmp body text named

-- with one body more named, unless it is
abbrev pub naming : Body → NamedTexts → NamedTexts
naming body named = if is_named named body then named else with_row body None named

-- the texts that have come
abbrev pub texts_come : NamedTexts → BaseTexts
texts_come named = filter_map (λ (r : Body × Option (List ℕ)). option_map (λ (text : List ℕ). (r.0, text)) r.1) named

-- whether all have come
abbrev pub all_come : NamedTexts → Bool
all_come named = list_all (λ (r : Body × Option (List ℕ)). is_some r.1) named

-- ---- places of rows

-- the row of a body stands at a place
pub record IsRowOf (body : Body) (named : NamedTexts) (place : ℕ) : Type 0 where
  pub within : place < length named
  pub body_is : (d : Body × Option (List ℕ)) → (get_or named place d).0 ≡ body
  pub found : (d : Body × Option (List ℕ)) → rows.find body_cmp body named ≡ Some (get_or named place d).1
  pub put : (text : Option (List ℕ)) → set named place (body, text) ≡ with_row body text named

-- none does, and at the place it would come in
pub record ComesIn (body : Body) (named : NamedTexts) (place : ℕ) : Type 0 where
  pub within : place ≤ length named
  pub none : rows.find body_cmp body named ≡ None
  pub there : (text : Option (List ℕ)) → insert named place (body, text) ≡ with_row body text named
