-- Acts that can be done in every house.
use Rattle.std.specs.Prelude.{◌≡◌, true, IsTrue}
use Rattle.std.specs.List.{list_all}
use Rattle.verb_core.specs.declared.conf.House.{House}
use Rattle.verb_core.specs.declared.item.Act.{Act}
use Rattle.verb_core.specs.declared.item.Deed.TheVariants.{Act as Acts}
use Rattle.verb_core.specs.Items.{users_in}
use Rattle.verb_core.specs.Store.{is_house, is_known}

-- it names no user but such as each house has
abbrev pub NamesTheFirst : Act → Type 0
NamesTheFirst act = (house : House) → is_house house ≡ true → IsTrue (list_all (is_known house) (users_in (Acts act)))
