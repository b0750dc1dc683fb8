-- What a replay reads: the text of each delivery. No other deed looks at a text.
use Rattle.std.specs.Prelude.{◌≡◌, ℕ, true, if◌then◌else◌, List, Result, Ok, Err}
use Rattle.std.specs.List.{AllByRecursion}
use Rattle.verb_core.specs.declared.bodies.BodiesFault.{BodiesFault}
use Rattle.verb_core.specs.declared.bodies.BodiesFault.TheVariants.{Failed, NoMemory}
use Rattle.verb_core.specs.declared.item.Item.{Item}
use Rattle.verb_core.specs.declared.mailbox.Body.{Body}
use Rattle.verb_core.specs.Items.{text_in}
use Rattle.verb_core.specs.Texts.{BodiesTold, Rose}
use Rattle.stored_items.specs.Stored.{needs_text, whole}

-- the body that names an item's text
abbrev pub body_of : Item → Body
body_of i = record { origin = i.number; rev = i.rev }

-- an item with the text that was read, where performing it looks at one
abbrev pub heard_as : Item → List ℕ → Item
heard_as i text = if needs_text i.deed then whole i text else i

-- where performing an item looks at its text, the text is held
abbrev pub HoldsOf : BodiesTold → Item → Type 0
HoldsOf told i = needs_text i.deed ≡ true → told.holds (body_of i) ≡ true

-- where performing an item looks at its text, the one that was stored is the item's
abbrev pub StoresOf : BodiesTold → Item → Type 0
StoresOf told i = needs_text i.deed ≡ true → told.texts (body_of i) ≡ text_in i.deed

-- where performing an item looks at its text, the text is held, and where what is read is what was stored, that is the item's
abbrev pub TellsOf : BodiesTold → Item → Type 0
TellsOf told i = needs_text i.deed ≡ true → (told.holds (body_of i) ≡ true) × (told.honest → told.texts (body_of i) ≡ text_in i.deed)

-- the same of each of these items
abbrev pub TellsAll : BodiesTold → List Item → Type 0
TellsAll told items = AllByRecursion (TellsOf told) items

-- how often a read failed: the count rose where one failed, and is as it was otherwise
abbrev pub CountsTextReads : {X : Type 0} → BodiesTold → BodiesTold → Result X BodiesFault → Type 0
CountsTextReads old new (Ok x) = new.faults ≡ old.faults
CountsTextReads old new (Err Failed) = Rose old.faults new.faults
CountsTextReads old new (Err NoMemory) = new.faults ≡ old.faults
