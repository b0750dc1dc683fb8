-- Which filter decides where a delivery's message goes.
--
-- A filter's needle keeps its case in every scope; of a header field only the name ignores it. What is looked at is the field's
-- value with its folds, so a needle over a fold is not found. A sender is the reverse path as it is kept, and an empty one has no
-- needle in it. A recipient is a local part as the delivery names it, also one that means nobody by now.
use Rattle.std.specs.Prelude.{ℕ, Bool, true, false, ◌&&◌, ◌||◌, List, [], ◌∷◌, find, Option, nat_eq}
use Rattle.std.specs.List.{list_any, list_all, starts_with}
use Rattle.header_fields.specs.Fields.{fields_of}
use Rattle.header_fields.specs.Values.{is_named, value_of}
use Rattle.verb_core.specs.declared.conf.Conf.{Conf}
use Rattle.verb_core.specs.declared.conf.Filter.{Filter}
use Rattle.verb_core.specs.declared.conf.Scope.{Scope}
use Rattle.verb_core.specs.declared.conf.Scope.TheVariants.{Body, Field, Sender, Recipient}
use Rattle.verb_core.specs.Names.{is_empty}

-- whether the scope is the whole text
abbrev pub is_of_body : Scope → Bool
is_of_body Body = true
is_of_body (Field name) = false
is_of_body Sender = false
is_of_body Recipient = false

-- whether each filter looks at the whole text
abbrev pub are_of_body : List Filter → Bool
are_of_body filters = list_all (λ (f : Filter). is_of_body f.scope) filters

-- whether the needle occurs in the bytes
abbrev pub occurs : List ℕ → List ℕ → Bool
occurs needle [] = is_empty needle
occurs needle (b ∷ bs) = starts_with nat_eq (b ∷ bs) needle || occurs needle bs

-- Whether the needle occurs in what the scope looks at: the stored text, the value of a field of that name (which ignores case),
-- the reverse path, or a local part.
abbrev pub occurs_within : Scope → List ℕ → List ℕ → List (List ℕ) → List ℕ → Bool
occurs_within Body needle from to text = occurs needle text
occurs_within (Field name) needle from to text = list_any (λ field. is_named name field && occurs needle (value_of field)) (fields_of text)
occurs_within Sender needle from to text = occurs needle from
occurs_within Recipient needle from to text = list_any (occurs needle) to

-- whether a filter's needle occurs in what its scope looks at of a message
abbrev pub is_met : List ℕ → List (List ℕ) → List ℕ → Filter → Bool
is_met from to text f = occurs_within f.scope f.needle from to text

-- the first filter that is met decides
abbrev pub deciding : Conf → List ℕ → List (List ℕ) → List ℕ → Option Filter
deciding conf from to text = find (is_met from to text) conf.filters
