-- What is kept of the earlier items in their stead: for each part of each place, and of each user, the last level.
use Rattle.std.specs.Prelude.{◌≡◌, ◌≤◌, ◌<◌, ℕ, max, nat_lt, Bool, true, false, not, ◌&&◌, ◌||◌, ◌==◌, if◌then◌else◌, List, [], ◌∷◌, map, Option, None, option_map, unwrap_or}
use Rattle.std.specs.List.{list_any}
use Rattle.std.specs.Map.{lookup}
use Rattle.undo_base.specs.declared.keys.User.{User}
use Rattle.undo_base.specs.declared.keys.Key.{Key}
use Rattle.verb_core.specs.Boxes.{same_user}
use Rattle.touch_rules.specs.declared.touched.Touch.{Touch}
use Rattle.touch_rules.specs.declared.touched.Touch.TheVariants.{Keys, Tail, Whole as WholeBox, Names, Every}
use Rattle.touch_rules.specs.Commuting.{user_of, mailbox_of, same_mailbox, does_write}
use Rattle.replay_plan.specs.Placing.{Placed, highest}
use Rattle.replay_plan.specs.declared.slots.Part.{Part}
use Rattle.replay_plan.specs.declared.slots.Part.TheVariants.{Anywhere, Everywhere, Anything, Whole, Tails, TailOf, KeysOf, At, Level}
use Rattle.replay_plan.specs.declared.slots.Slot.{Slot}
use Rattle.replay_plan.specs.declared.slots.Sides.{Sides}

-- a part of a place, and whether only those that write it count
pub record Spot : Type 0 where
  pub user : User
  pub mailbox : Option (List ℕ)
  pub written : Bool
  pub part : Part

-- the spot of a slot, of all or of those that write
abbrev pub spot_of : Slot → Bool → Spot
spot_of s written = record { user = record { 0 = s.user }; mailbox = option_map (λ name. name.0.now) s.mailbox; written = written; part = s.part }

-- whether it is a part of all places of a user
abbrev pub is_users : Part → Bool
is_users Anywhere = true
is_users Everywhere = true
is_users _ = false

abbrev pub mailbox_at : Touch → Part → Option (List ℕ)
mailbox_at touch part = if is_users part then None else mailbox_of touch

-- a spot at the place of a touch, or at its user
abbrev pub spot_on : Touch → Bool → Part → Spot
spot_on touch written part = record { user = user_of touch; mailbox = mailbox_at touch part; written = written; part = part }

abbrev pub same_part : Part → Part → Bool
same_part Anywhere Anywhere = true
same_part Everywhere Everywhere = true
same_part Anything Anything = true
same_part Whole Whole = true
same_part Tails Tails = true
same_part (TailOf a) (TailOf b) = a == b
same_part (KeysOf a) (KeysOf b) = a == b
same_part (At a i) (At b j) = (a == b) && (i == j)
same_part (Level a) (Level b) = a == b
same_part _ _ = false

abbrev pub same_way : Bool → Bool → Bool
same_way true b = b
same_way false b = not b

abbrev pub same_spot : Spot → Spot → Bool
same_spot a b = same_user a.user b.user && (same_mailbox a.mailbox b.mailbox && (same_way a.written b.written && same_part a.part b.part))

-- whether a slot is a spot's
abbrev pub is_of : Spot → Slot → Bool
is_of spot s = same_spot spot (spot_of s spot.written)

abbrev pub side : Bool → Sides → ℕ
side true s = s.of_writers
side false s = s.of_all

-- the level at a spot
abbrev pub level_at : List (Slot × Sides) → Spot → ℕ
level_at levels spot = unwrap_or (option_map (side spot.written) (lookup (is_of spot) levels)) 0

-- ---- what a touch marks, and what it asks for

abbrev pub key_parts : List Key → List Part
key_parts [] = []
key_parts (key ∷ keys) = KeysOf key.item ∷ At key.item key.index ∷ key_parts keys

-- the parts of its place, and of its user, that a touch is of
abbrev pub parts_of : Touch → List Part
parts_of (Keys u mailbox keys writes) = Anywhere ∷ Anything ∷ key_parts keys
parts_of (Tail u mailbox number) = Anywhere ∷ Anything ∷ Tails ∷ TailOf number ∷ []
parts_of (WholeBox u mailbox writes) = Anywhere ∷ Anything ∷ Whole ∷ []
parts_of (Names u writes) = Anywhere ∷ Anything ∷ Whole ∷ []
parts_of (Every u) = Anywhere ∷ Everywhere ∷ []

abbrev pub key_asked : List Key → List Part
key_asked [] = []
key_asked (key ∷ keys) = TailOf key.item ∷ At key.item key.index ∷ key_asked keys

-- the parts of its place that a later touch must come behind: a touch of one of them speaks of the same messages
abbrev pub own_asked : Touch → List Part
own_asked (Keys u mailbox keys writes) = Whole ∷ key_asked keys
own_asked (Tail u mailbox number) = Whole ∷ Tails ∷ KeysOf number ∷ []
own_asked (WholeBox u mailbox writes) = Anything ∷ []
own_asked (Names u writes) = Anything ∷ []
own_asked (Every u) = []

-- the part of its user that it must come behind: what is of all of the user comes behind anything, and anything behind that
abbrev pub users_asked : Touch → Part
users_asked (Keys u mailbox keys writes) = Everywhere
users_asked (Tail u mailbox number) = Everywhere
users_asked (WholeBox u mailbox writes) = Everywhere
users_asked (Names u writes) = Everywhere
users_asked (Every u) = Anywhere

abbrev pub asked_by : Touch → List Part
asked_by touch = users_asked touch ∷ own_asked touch

-- whether a touch of these parts is at a spot
abbrev pub is_at : List Part → Touch → Spot → Bool
is_at parts touch spot = (not spot.written || does_write touch) && list_any (λ part. same_spot spot (spot_on touch spot.written part)) parts

-- the spot at which a touch looks: where it reads, those that write count
abbrev pub asked_on : Touch → Part → Spot
asked_on touch part = spot_on touch (not (does_write touch)) part

-- the last level of items that have touched a spot
abbrev pub last_at : List Placed → Spot → ℕ
last_at [] spot = 0
last_at (e ∷ earlier) spot = max (if list_any (λ a. is_at (parts_of a) a spot) e.0 then e.1 else 0) (last_at earlier spot)

-- whether an item that has the level of a spot has touched its place; what is of all of a user counts as at the user's names
abbrev pub taken_at : List Placed → Spot → Bool
taken_at earlier spot = list_any (λ e. list_any (λ a. is_at (Level e.1 ∷ []) a spot) e.0) earlier

-- ---- what two tables know of the earlier items

abbrev pub TellsLevels : List Placed → List (Slot × Sides) → Type 0
TellsLevels earlier last = (spot : Spot) → level_at last spot ≡ last_at earlier spot

abbrev pub Knows : List Placed → List (Slot × Sides) → Type 0
Knows earlier next = (spot : Spot) → nat_lt 0 (level_at next spot) ≡ taken_at earlier spot

-- a spot at another level
abbrev pub at_level : Spot → ℕ → Spot
at_level spot level = record spot { part = Level level }

-- a level that is taken leads to a higher one, past levels that are taken; none is past the end
abbrev pub Leads : ℕ → List (Slot × Sides) → Type 0
Leads end next = (spot : Spot) (level : ℕ) → 1 ≤ level_at next (at_level spot level)
    → (level < level_at next (at_level spot level)) × (level_at next (at_level spot level) ≤ end)
    × ((between : ℕ) → level ≤ between → between < level_at next (at_level spot level) → 1 ≤ level_at next (at_level spot between))

-- the same levels are taken
abbrev pub SameTaken : List (Slot × Sides) → List (Slot × Sides) → Type 0
SameTaken old new = (spot : Spot) → nat_lt 0 (level_at new spot) ≡ nat_lt 0 (level_at old spot)

-- the last level behind which an item must come
abbrev pub bound : List (Slot × Sides) → List Touch → ℕ
bound last touches = highest (map (λ b. highest (map (λ part. level_at last (asked_on b part)) (asked_by b))) touches)

-- whether a level is taken for an item
abbrev pub is_avoided : List (Slot × Sides) → List Touch → ℕ → Bool
is_avoided next touches level = list_any (λ b. nat_lt 0 (level_at next (asked_on b (Level level)))) touches

-- the first level from one on that is not taken at a spot
pub record IsNextFree (end : ℕ) (next : List (Slot × Sides)) (spot : Spot) (level found : ℕ) : Type 0 where
  pub from : level ≤ found
  pub within : found ≤ max level end
  pub free : nat_lt 0 (level_at next (at_level spot found)) ≡ false
  pub first : (lower : ℕ) → level ≤ lower → lower < found → nat_lt 0 (level_at next (at_level spot lower)) ≡ true

-- a level from one on, past levels that are taken for an item; it is the same level only where that one is not taken
pub record IsPast (end : ℕ) (next : List (Slot × Sides)) (touches : List Touch) (level found : ℕ) : Type 0 where
  pub from : level ≤ found
  pub within : found ≤ max level end
  pub passed : (lower : ℕ) → level ≤ lower → lower < found → is_avoided next touches lower ≡ true
  pub same : found ≡ level → is_avoided next touches level ≡ false

-- the first level from one on that is not taken for an item
pub record IsUntaken (next : List (Slot × Sides)) (touches : List Touch) (level found : ℕ) : Type 0 where
  pub from : level ≤ found
  pub free : is_avoided next touches found ≡ false
  pub first : (lower : ℕ) → level ≤ lower → lower < found → is_avoided next touches lower ≡ true
