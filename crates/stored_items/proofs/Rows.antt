-- Worked examples: what is kept of items, and what performing them looks at.
use Rattle.std.specs.Prelude.{◌≡◌, ℕ, Bool, true, false, List, [], ◌∷◌, codes, Some, None}
use Rattle.std.proofs.Common.{refl}
use Rattle.undo_base.specs.declared.keys.User.{User}
use Rattle.verb_core.specs.declared.item.Act.TheVariants.{Give}
use Rattle.verb_core.specs.declared.item.Deed.{Deed}
use Rattle.verb_core.specs.declared.item.Deed.TheVariants.{Deliver, Append, List as Names, Act as Acts, Notice}
use Rattle.verb_core.specs.declared.item.Item.{Item}
use Rattle.verb_core.specs.declared.item.Shown.TheVariants.{Nothing}
use Rattle.verb_core.specs.Items.{text_in}
use Rattle.verb_core.specs.Mailboxes.{no_flags}
use Rattle.stored_items.specs.Stored.{needs_text, stored, stored_deed, whole}

abbrev ann : User
ann = record { 0 = 0 }

abbrev mail : List ℕ → Deed
mail text = Deliver (codes "a@b.c") (codes "ann" ∷ []) text

abbrev the : Deed → Item
the deed = record { number = 5; at = 7; by = None; rev = 3; deed = deed; shown = Nothing }

-- a delivery, an APPEND and a gift are kept without their texts, and a notice with it
delivery : stored (the (mail (codes "hello"))) ≡ the (mail [])
delivery = refl

append : stored_deed (Append (codes "INBOX") no_flags 9 (codes "hello")) ≡ Append (codes "INBOX") no_flags 9 []
append = refl

gift : stored_deed (Acts (Give ann (codes "INBOX") (codes "hello"))) ≡ Acts (Give ann (codes "INBOX") [])
gift = refl

notice : stored_deed (Notice ann (codes "hello")) ≡ Notice ann (codes "hello")
notice = refl

-- with the text that was read it is the item that was stored
again : whole (stored (the (mail (codes "hello")))) (codes "hello") ≡ the (mail (codes "hello"))
again = refl

-- what brings no text is given none
nothing : whole (the (Names (codes "*"))) (codes "hello") ≡ the (Names (codes "*"))
nothing = refl

-- filters look at a delivery's text, and nothing looks at an APPEND's
filters : needs_text (mail []) ≡ true
filters = refl

no_filters : needs_text (Append (codes "INBOX") no_flags 9 (codes "hello")) ≡ false
no_filters = refl
