-- What is counted of a desk, and what is listed of its timeline.
use Rattle.std.specs.Prelude.{ℕ, List, [], map, length, sum_by, count_by, min, ◌^◌, ◌-◌, take, drop}
use Rattle.verb_core.specs.declared.item.Item.{Item}
use Rattle.verb_core.specs.declared.mailbox.BoxId.{BoxId}
use Rattle.verb_core.specs.declared.mailbox.Mailbox.{Mailbox}
use Rattle.verb_core.specs.Deeds.{is_notice, with_text}
use Rattle.store_kept.specs.Kept.{Kept, store_of}
use Rattle.mail_desk.specs.declared.counts.Counts.{Counts}

-- ---- counts

-- the most that 64 bits hold
abbrev pub most : ℕ
most = 2 ^ 64 - 1

-- the most that 32 bits hold
abbrev pub most_cycles : ℕ
most_cycles = 2 ^ 32 - 1

-- how many entries the mailboxes have
abbrev pub messages_in : List (BoxId × Mailbox) → ℕ
messages_in boxes = sum_by (λ (r : BoxId × Mailbox). length r.1.entries) boxes

-- the counts; more cycles than 32 bits hold, or messages than 64 bits hold, are told as the most that these hold
abbrev pub counts_of : Kept → Counts
counts_of kept = record {
  cycles = min (length kept.reports) most_cycles;
  items = length kept.timeline;
  messages = min (messages_in (store_of kept).boxes) most;
  next = kept.next;
  notices = count_by (λ (i : Item). is_notice i.deed) kept.timeline;
  users = length kept.house.accounts;
}

-- ---- the timeline

-- an item without its text
abbrev pub bare_item : Item → Item
bare_item i = record i { deed = with_text [] i.deed }

-- at most a thousand items from a place on
abbrev pub page : List Item → ℕ → List Item
page timeline from = take 1000 (drop from timeline)

-- the same, without their texts
abbrev pub listed : List Item → ℕ → List Item
listed timeline from = map bare_item (page timeline from)
