-- A worked example: a delivery went, by a cycle that was a mistake, and comes back.
use Rattle.std.proofs.Common.{◌≡◌, ℕ, false, true, List, [], ◌∷◌, drop, length, None, Some, codes, refl}
use Rattle.undo_base.specs.declared.keys.Key.{Key}
use Rattle.undo_base.specs.declared.keys.User.{User}
use Rattle.verb_core.specs.declared.item.Deed.{Deed}
use Rattle.verb_core.specs.declared.item.Deed.TheVariants.{Deliver, Fetch, Copy, Select, Create, Notice}
use Rattle.verb_core.specs.declared.item.Item.{Item}
use Rattle.verb_core.specs.declared.item.Shown.{Shown}
use Rattle.verb_core.specs.declared.item.Shown.TheVariants.{Nothing, Seen, Count, Copied}
use Rattle.withdraw.specs.declared.undone.UndoneBehind.{UndoneBehind}
use Rattle.withdraw.specs.Unediting.{unedited, unedited_behind, whole_of}

abbrev ann : User
ann = record { 0 = 0 }

abbrev key : Key
key = record { item = 4; index = 0 }

abbrev own : ℕ → Deed → Shown → Item
own number deed shown = record { number = number; at = 0; by = Some ann; rev = 0; deed = deed; shown = shown }

abbrev other : ℕ → Deed → Item
other number deed = record { number = number; at = 0; by = None; rev = 0; deed = deed; shown = Nothing }

abbrev fetch : Deed
fetch = Fetch (codes "INBOX") (key ∷ []) true true

abbrev copy : Deed
copy = Copy (codes "INBOX") (key ∷ []) (codes "Keep")

abbrev front : List Item
front = own 2 (Create (codes "Keep")) Nothing ∷ own 3 (Select (codes "INBOX")) (Count (Some 0)) ∷ []

abbrev bad : Item
bad = other 4 (Deliver [] (codes "ann" ∷ []) (codes "text"))

abbrev notice : Item
notice = other 8 (Notice ann (codes "notice"))

-- after the cycle 7, which took the delivery 4 out behind the point 3: what was fetched and copied is gone, and a notice says so
abbrev present : List Item
present = own 2 (Create (codes "Keep")) Nothing ∷ own 3 (Select (codes "INBOX")) (Count (Some 0)) ∷ own 5 fetch (Seen []) ∷ own 6 copy (Copied [] false) ∷ notice ∷ []

abbrev last : UndoneBehind
last = record {
  cycle = 7;
  point = 3;
  later = bad ∷ own 5 fetch (Seen (record { key = key; rev = 0 } ∷ [])) ∷ own 6 copy (Copied (key ∷ []) false) ∷ [];
  position = 2;
  placed = 4;
}

-- the delivery is back, the others show what they show at present, and the notice stays
abbrev expected : List Item
expected = own 2 (Create (codes "Keep")) Nothing ∷ own 3 (Select (codes "INBOX")) (Count (Some 0)) ∷ bad ∷ own 5 fetch (Seen []) ∷ own 6 copy (Copied [] false) ∷ notice ∷ []

it_comes_back : unedited_behind present last ≡ expected
it_comes_back = refl

as_a_whole : unedited present (whole_of present last) ≡ expected
as_a_whole = refl

four_are_later : length (drop 2 (unedited_behind present last)) ≡ 4
four_are_later = refl
