-- A morning that was planned, its levels and its text, so that a wrong table or a wrong level does not check.
use Rattle.std.proofs.Common.{◌≡◌, refl, ℕ, true, false, List}
use Rattle.std.specs.Prelude.{[], ◌∷◌, codes}
use Rattle.std.specs.Fmt.{digits}
use Rattle.undo_base.specs.declared.keys.User.{User}
use Rattle.undo_base.specs.declared.keys.Key.{Key}
use Rattle.verb_core.specs.Names.{inbox}
use Rattle.touch_rules.specs.declared.touched.Touch.{Touch}
use Rattle.touch_rules.specs.declared.touched.Touch.TheVariants.{Keys, Tail, Whole, Names, Every}
use Rattle.replay_plan.specs.Placing.{levels_by_item, levels_of}
use Rattle.replay_plan.specs.Lines.{text_of_levels}

abbrev ann : User
ann = record { 0 = 0 }

abbrev bob : User
bob = record { 0 = 1 }

abbrev work : List ℕ
work = codes "Work"

-- the keys of the message that item 3 brought
abbrev first : List Key
first = record { item = 3; index = 0 } ∷ []

-- Mail for ann (3), an APPEND to Work (4), a SELECT of INBOX (5), and a FETCH of its first message (6). Mail for ann (7), a COPY
-- of the first message to Work (8), a STORE on it (9) and a LIST (10).
abbrev morning : List (List Touch)
morning =
    (Tail ann inbox 3 ∷ [])
    ∷ (Tail ann work 4 ∷ [])
    ∷ (Whole ann inbox false ∷ [])
    ∷ (Keys ann inbox first false ∷ [])
    ∷ (Tail ann inbox 7 ∷ [])
    ∷ (Keys ann inbox first false ∷ Tail ann work 8 ∷ [])
    ∷ (Keys ann inbox first true ∷ [])
    ∷ (Names ann false ∷ [])
    ∷ []

pub levels_of_the_morning : levels_by_item morning ≡ 1 ∷ 1 ∷ 2 ∷ 2 ∷ 3 ∷ 2 ∷ 4 ∷ 1 ∷ []
levels_of_the_morning = refl

-- items 7 and 9 commute and are not independent: they have two levels
pub planned : levels_of morning ≡ (0 ∷ 1 ∷ 7 ∷ []) ∷ (2 ∷ 3 ∷ 5 ∷ []) ∷ (4 ∷ []) ∷ (6 ∷ []) ∷ []
planned = refl

pub told : text_of_levels (levels_of morning) (3 ∷ 4 ∷ 5 ∷ 6 ∷ 7 ∷ 8 ∷ 9 ∷ 10 ∷ []) ≡ codes "level 1: 3 4 10\nlevel 2: 5 6 8\nlevel 3: 7\nlevel 4: 9\n"
unfolding digits
told = refl

-- A FETCH of ann's first message (4), a RENAME of hers (5), the same FETCH (6), a LIST of bob (7), a LIST of ann (8) and a RENAME
-- of hers (9). A RENAME parts the levels of its user, and of no other.
abbrev renamed_twice : List (List Touch)
renamed_twice =
    (Keys ann inbox first false ∷ [])
    ∷ (Every ann ∷ [])
    ∷ (Keys ann inbox first false ∷ [])
    ∷ (Names bob false ∷ [])
    ∷ (Names ann false ∷ [])
    ∷ (Every ann ∷ [])
    ∷ []

pub levels_round_renames : levels_by_item renamed_twice ≡ 1 ∷ 2 ∷ 3 ∷ 1 ∷ 3 ∷ 4 ∷ []
levels_round_renames = refl
