-- When an answer that was shown no longer holds: a table over what was shown and what would be shown now.
use Rattle.std.specs.Prelude.{ℕ, Bool, true, false, not, ◌&&◌, ◌==◌, nat_lt, if◌then◌else◌, List, Option, Some, None, bytes_eq}
use Rattle.std.specs.List.{list_all, list_any}
use Rattle.undo_base.specs.declared.keys.Key.{Key}
use Rattle.verb_core.specs.declared.item.Item.{Item}
use Rattle.verb_core.specs.declared.item.Deed.{Deed}
use Rattle.verb_core.specs.declared.item.Deed.TheVariants.{Fetch}
use Rattle.verb_core.specs.declared.item.Sight.{Sight}
use Rattle.verb_core.specs.declared.item.Shown.{Shown}
use Rattle.verb_core.specs.declared.item.Shown.TheVariants as shows
use Rattle.verb_core.specs.declared.item.Way.{Way}
use Rattle.verb_core.specs.declared.item.Way.TheVariants.{Plain, NoSource, Merged}
use Rattle.verb_core.specs.Mailboxes.{same_key}
use Rattle.paradox.specs.declared.words.Reason.{Reason}
use Rattle.paradox.specs.declared.words.Reason.TheVariants.{Missing, Changed, NoName, Fewer, Redirected, Left, Renamed, Moved}

-- whether each of the first list is in the second
abbrev pub all_among : {A : Type 0} → (A → A → Bool) → List A → List A → Bool
all_among same some others = list_all (λ x. list_any (same x) others) some

-- the same message, whatever its text
abbrev pub same_message : Sight → Sight → Bool
same_message a b = same_key a.key b.key

-- the same message with the same text
abbrev pub same_sight : Sight → Sight → Bool
same_sight a b = same_key a.key b.key && a.rev == b.rev

-- whether a count was shown, and there is none or a lower one now
abbrev pub is_fewer : Option ℕ → Option ℕ → Bool
is_fewer None now = false
is_fewer (Some shown) None = true
is_fewer (Some shown) (Some now) = nat_lt now shown

-- whether a RENAME was not done now as it was shown, nor plainly
abbrev pub is_renamed_amiss : Way → Way → Bool
is_renamed_amiss shown Plain = false
is_renamed_amiss Plain NoSource = true
is_renamed_amiss NoSource NoSource = false
is_renamed_amiss Merged NoSource = true
is_renamed_amiss Plain Merged = true
is_renamed_amiss NoSource Merged = true
is_renamed_amiss Merged Merged = false

-- the reason, where there is cause for it
abbrev pub given : Bool → Reason → Option Reason
given cause reason = if cause then Some reason else None

-- the messages that a FETCH showed are there, and where it looked at sizes or texts they have the same texts
abbrev pub seen_amiss : Bool → List Sight → List Sight → Option Reason
seen_amiss looks shown now =
    if all_among same_message shown now then given (looks && not (all_among same_sight shown now)) Changed
    else Some Missing

-- the messages that a COPY copied are there, and it went to its target now, or did not when it was shown
abbrev pub copied_amiss : List Key → Bool → List Key → Bool → Option Reason
copied_amiss shown was now is =
    if all_among same_key shown now then given (is && not was) Redirected
    else Some Missing

-- The table. More mail, more names and other flags are no break.
abbrev pub amiss : Bool → Shown → Shown → Option Reason
amiss looks (shows.Seen shown) (shows.Seen now) = seen_amiss looks shown now
amiss looks (shows.Names shown) (shows.Names now) = given (not (all_among bytes_eq shown now)) NoName
amiss looks (shows.Count shown) (shows.Count now) = given (is_fewer shown now) Fewer
amiss looks (shows.Done shown) (shows.Done now) = given (not (all_among same_key shown now)) Missing
amiss looks (shows.Copied shown was) (shows.Copied now is) = copied_amiss shown was now is
amiss looks (shows.Put was) (shows.Put is) = given (is && not was) Redirected
amiss looks (shows.Left shown) (shows.Left now) = given (not (all_among same_key now shown)) Left
amiss looks (shows.Way shown) (shows.Way now) = given (is_renamed_amiss shown now) Renamed
amiss looks (shows.Moved shown) (shows.Moved now) = given (not (all_among same_key now shown)) Moved
amiss looks shown now = None

-- whether a FETCH showed sizes or texts
abbrev pub looks_at_texts : Deed → Bool
looks_at_texts (Fetch mailbox keys sets_seen shows_body) = shows_body
looks_at_texts deed = false

-- why what an item's user was shown no longer holds, where the same item would show this now
abbrev pub broken : Item → Shown → Option Reason
broken i now = amiss (looks_at_texts i.deed) i.shown now
