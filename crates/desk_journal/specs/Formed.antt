-- Whether a record has a spelling, and an item the form of one that can be recorded.
use Rattle.std.specs.Prelude.{ℕ, Bool, true, false, not, ◌&&◌, length, nat_le, is_some}
use Rattle.std.specs.List.{list_all, cons_option}
use Rattle.verb_core.specs.declared.conf.House.{House}
use Rattle.verb_core.specs.declared.item.Item.{Item}
use Rattle.verb_core.specs.Items.{is_own, users_in, keys_in, has_form}
use Rattle.verb_core.specs.Store.{is_known}
use Rattle.verb_bytes.specs.declared.journal.JournalRecord.{JournalRecord}
use Rattle.verb_bytes.specs.Fields.{are_in_range}
use Rattle.verb_bytes.specs.Spelling.{record_fields}

-- whether a record has a spelling
abbrev pub is_spelled : JournalRecord → Bool
is_spelled what = are_in_range (record_fields what)

-- whether two answers are the same
abbrev pub agree : Bool → Bool → Bool
agree true b = b
agree false b = not b

-- Whether an item is such as can be recorded. Somebody acts exactly where the deed is a user's own, its users are known, its keys
-- are few, and what was shown has the form of the deed.
abbrev pub is_formed : House → Item → Bool
is_formed house i =
    agree (is_some i.by) (is_own i.deed) && list_all (is_known house) (cons_option i.by (users_in i.deed))
    && nat_le (length (keys_in i.deed)) 65536 && has_form i.deed i.shown
