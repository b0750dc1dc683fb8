-- What other users do.
use Rattle.std.specs.Prelude.{◌≡◌, ◌⊎◌, ◌<◌, Bool, true, false, filter, List, [], ◌∷◌}
use Rattle.undo_base.specs.declared.limits.TheConstants.{END_OF_NUMBERS}
use Rattle.undo_base.specs.declared.keys.User.{User}
use Rattle.verb_core.specs.declared.conf.House.{House}
use Rattle.verb_core.specs.declared.item.Aim.{Aim}
use Rattle.verb_core.specs.declared.item.Deed.{Deed}
use Rattle.verb_core.specs.declared.item.Act.TheVariants.{Give, Remove}
use Rattle.verb_core.specs.declared.item.Deed.TheVariants.{Act as Acts, Deliver}
use Rattle.verb_core.specs.declared.item.Item.{Item}
use Rattle.verb_core.specs.declared.mailbox.BoxId.{BoxId}
use Rattle.verb_core.specs.Aims.{sought_by}
use Rattle.verb_core.specs.Boxes.{same_user}
use Rattle.verb_core.specs.Items.{IsWellFormed, actor, is_own}
use Rattle.verb_core.specs.Store.{MailStore}
use Rattle.verb_core.specs.Touched.{touches_box}
use Rattle.store_kept.specs.Kept.{Kept, performed, store_of}

-- an item touches none of a user's mailboxes: another user's own, a delivery to others, an act on others
abbrev pub Spares : User → MailStore → Item → Type 0
Spares u s i = (id : BoxId) → same_user u id.user ≡ true → touches_box (sought_by s i) i id ≡ false

-- an item can be performed: it is well-formed, and has the next number
pub record CanFollow (house : House) (kept : Kept) (i : Item) : Type 0 where
  pub formed : IsWellFormed house i
  pub number : i.number ≡ kept.next
  pub left : kept.next < END_OF_NUMBERS

-- the user's own item, the same in both
abbrev pub IsOwnItem : User → Item → Item → Type 0
IsOwnItem u i j = (i ≡ j) × (is_own i.deed ≡ true) × (actor i.by i.deed ≡ u)

-- others bring mail or take some away: a mail came by SMTP, or the operator gave one or removed a message
abbrev pub is_mail : Deed → Bool
is_mail (Deliver from to text) = true
is_mail (Acts (Give user mailbox text)) = true
is_mail (Acts (Remove user mailbox key)) = true
is_mail _ = false

-- to which of a user's mailboxes an item brings mail
abbrev pub aims_of : User → Kept → Item → List Aim
aims_of u kept i = filter (λ (a : Aim). same_user u a.user) (sought_by (store_of kept) i).aims

-- The same mail in both, which comes to the same of the user's mailboxes: so aliases and filters mean the same for the user. Or it is a message that the
-- operator removes in both.
abbrev pub IsSameMail : User → Kept → Kept → Item → Item → Type 0
IsSameMail u k l i j = (i ≡ j) × (is_mail i.deed ≡ true) × (aims_of u k i ≡ aims_of u l i)

-- Two runs of items are alike for a user. Each item of the user's own stands in both, and so does each mail that comes to the user or that the operator
-- removes there. Beside each item that touches none of the user's mailboxes stands another such.
abbrev pub AreAlike : House → User → Kept → Kept → List Item → List Item → Type 0
AreAlike house u k l [] [] = Unit {0}
AreAlike house u k l [] (j ∷ js) = ⊥
AreAlike house u k l (i ∷ is) [] = ⊥
AreAlike house u k l (i ∷ is) (j ∷ js) =
    CanFollow house k i × CanFollow house l j × (IsOwnItem u i j ⊎ IsSameMail u k l i j ⊎ (Spares u (store_of k) i × Spares u (store_of l) j)) × AreAlike house u (performed k i) (performed l j) is js

-- items are performed, one after the other
abbrev pub all_performed : Kept → List Item → Kept
all_performed kept [] = kept
all_performed kept (i ∷ is) = all_performed (performed kept i) is
