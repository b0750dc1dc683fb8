-- What is read where items are performed again: a snapshot, where one is marked from which to begin, and the texts of deliveries that the
-- request does not bring. Of no other item is a text read.
use Rattle.std.proofs.Common.{◌≡◌, ◌⊎◌, ℕ, zero, suc, ◌<◌, ◌==◌, ◌||◌, ◌&&◌, not, bytes_eq, Bool, true, false, List, [], ◌∷◌, length, take, refl, sym, subst, ◌∙◌, arith}
use Rattle.std.specs.List.{list_any}
use Rattle.std.specs.Prelude.{unwrap_or}
use Rattle.std.specs.Option.{option_map_or}
use Rattle.undo_outside.specs.Disk.{DiskTold, IsHonest}
use Rattle.verb_core.specs.declared.item.Item.{Item}
use Rattle.verb_core.specs.declared.mailbox.Body.{Body}
use Rattle.verb_core.specs.Items.{text_in}
use Rattle.verb_core.specs.Texts.{BodiesTold}
use Rattle.verb_bytes.specs.declared.journal.CycleAsk.{CycleAsk}
use Rattle.withdraw.specs.declared.undone.UndoneBehind.{UndoneBehind}
use Rattle.stored_items.specs.Stored.{needs_text}
use Rattle.store_kept.specs.Kept.{Kept, not_behind, undone_of}
use Rattle.repair_desk.specs.Repairs.{position}
use Rattle.cycle_rules.specs.Cycles.{repair_of}
use Rattle.cycle_rules.specs.Repairing.{Repair}
use Rattle.cycle_rules.specs.Withdrawals.{unedit_of}
use Rattle.mail_desk.specs.Timeline.{body_of, item_of}
use Rattle.desk_journal.specs.declared.read_texts.Reading.{Reading}
use Rattle.desk_journal.specs.Going.{leads_on, leads_to_itself}
use Rattle.desk_journal.specs.Telling.{HoldsHeld, LeadsOn, asked_of, is_told, text_told}
use Rattle.time_desk.specs.Unfiltered.{are_unfiltered}
use Rattle.time_desk.specs.declared.deliveries.Deliveries.{Deliveries}
use Rattle.time_desk.specs.declared.deliveries.DueDeliveries.{DueDeliveries}

-- whether performing one of these items looks at its text: a delivery's filters do
abbrev pub some_deliver : List Item → Bool
some_deliver items = list_any (λ (i : Item). needs_text i.deed) items

-- whether a request that brings texts as the cycle c brings that of an item
abbrev pub is_brought : ℕ → List (ℕ × List ℕ) → Item → Bool
is_brought c brought i = option_map_or (λ (text : List ℕ). bytes_eq text (unwrap_or (text_in i.deed) [])) (asked_of c brought (body_of i)) false

-- whether the text of an item is to be read: performing it looks at that, and the request does not bring it
abbrev pub is_stored : ℕ → List (ℕ × List ℕ) → Item → Bool
is_stored c brought i = needs_text i.deed && not (is_brought c brought i)

-- whether that of one of these items is
abbrev pub some_stored : ℕ → List (ℕ × List ℕ) → List Item → Bool
some_stored c brought items = list_any (is_stored c brought) items

-- whether a body is that of the text of a delivery among items
abbrev pub is_delivered : List Item → Body → Bool
is_delivered items body = option_map_or (λ (i : Item). needs_text i.deed && i.rev == body.rev) (item_of items body.origin) false

-- whether there is any
abbrev pub some_of : {X : Type 0} → List X → Bool
some_of [] = false
some_of (x ∷ xs) = true

-- whether a snapshot is marked at or before a place
abbrev pub some_marked : Kept → ℕ → Bool
some_marked kept place = some_of (not_behind place kept.marks.places)

-- whether something is to be read for a plan of the items behind a place
abbrev pub reads_behind : Kept → ℕ → Bool
reads_behind kept place = some_marked kept place || some_deliver kept.timeline

-- the same of the items later than a point: nothing, where the timeline does not have it
abbrev pub plan_reads : Kept → ℕ → Bool
plan_reads kept point = option_map_or (reads_behind kept) (position kept.timeline point) false

-- whether something is to be read for a repair that brings texts: a snapshot at or before its place, or the text of one of its items
abbrev pub repair_reads : Kept → List (ℕ × List ℕ) → Repair → Bool
repair_reads kept brought repair = some_marked kept repair.place || some_stored kept.next brought repair.items

-- for a cycle: nothing, where the timeline does not have its point
abbrev pub cycle_reads : Kept → ℕ → CycleAsk → Bool
cycle_reads kept at ask = option_map_or (λ (place : ℕ). repair_reads kept ask.replaces (repair_of kept at ask place)) (position kept.timeline ask.point) false

-- for a withdrawal, which brings none: nothing, where its cycle is not the last of all
abbrev pub withdrawal_reads : Kept → ℕ → Bool
withdrawal_reads kept of = option_map_or (λ (last : UndoneBehind). repair_reads kept [] (unedit_of kept last)) (undone_of kept of) false

-- for the store that the items through a place led to: where nothing is marked, no text unless a filter may look at one
abbrev pub store_reads : Kept → ℕ → Bool
store_reads kept place = some_marked kept place || (not (are_unfiltered kept.base (take place kept.timeline)) && some_deliver (take place kept.timeline))

-- Whether the store that a cut at a place begins with rests on what the disk holds. The one at hand, behind the last item, does by how it
-- was made, and another where something is to be read for it.
abbrev pub rests_on_disk : Kept → ℕ → Bool
rests_on_disk kept place = place == length kept.timeline || store_reads kept place

-- for a cut at a point: nothing at the last item, whose store is at hand
abbrev pub cut_reads : Kept → ℕ → Bool
cut_reads kept point = option_map_or (λ (place : ℕ). not (place == length kept.timeline) && store_reads kept place) (position kept.timeline point) false

-- the texts are told as they were stored, or none is to be read
abbrev pub ToldOr : Type 0 → Bool → Type 0
ToldOr told some = told ⊎ (some ≡ false)

-- ---- the deliveries among items, as they are read

module _ {D : Type 0} (told : D → DiskTold) where
  -- What they tell of themselves: they hold no other body, and what is read is what was stored where the disk holds the texts, or where
  -- there is none to be read.
  abbrev pub delivered_told : Reading D → List Item → BodiesTold
  delivered_told r items = record {
    holds = λ body. is_told r.desk.now r.past.now.end r.cycle r.replaces.now body && is_delivered items body;
    texts = text_told r.desk.now r.cycle r.replaces.now;
    honest = ToldOr (HoldsHeld (told r.past.now.disk) r.desk.now) (some_stored r.cycle r.replaces.now items);
    faults = r.failed;
  }

  -- the disk was read, and all else is the same; a read fails only where a text is to be read
  pub record DeliversOn (old new : Reading D) (items items' : List Item) : Type 0 where
    pub reading : LeadsOn told old new
    pub same : items' ≡ items
    pub due : old.failed ≡ 0 → 0 < new.failed → some_stored old.cycle old.replaces.now items ≡ true

  delivers_to_itself : ((disk : D) → (told disk).honest → IsHonest (told disk)) → (r : Reading D) (items : List Item) → DeliversOn r r items items
  delivers_to_itself truth r items = record { reading = leads_to_itself told truth r; same = refl; due = λ none some. absurd (omega (arith, none, some)) }

  delivers_on : (old mid new : Reading D) (items items' items'' : List Item) → DeliversOn old mid items items' → DeliversOn mid new items' items'' → DeliversOn old new items items''
  delivers_on old mid new items items' items'' first second = record {
    reading = leads_on told old mid new first.reading second.reading;
    same = second.same ∙ first.same;
    due = λ none some. between mid.failed refl none some;
  }
    where
      at_first : some_stored mid.cycle mid.replaces.now items' ≡ true → some_stored old.cycle old.replaces.now items ≡ true
      at_first some =
          subst (λ (t : List Item). some_stored old.cycle old.replaces.now t ≡ true) first.same
          (subst (λ (brought : List (ℕ × List ℕ)). some_stored old.cycle brought items' ≡ true) first.reading.replaces
          (subst (λ (c : ℕ). some_stored c mid.replaces.now items' ≡ true) first.reading.cycle some))

      between : (n : ℕ) → mid.failed ≡ n → old.failed ≡ 0 → 0 < new.failed → some_stored old.cycle old.replaces.now items ≡ true
      between zero is none some = at_first (second.due is some)
      between (suc n) is none some = first.due none (omega (arith, is))

  -- of items that are given
  abbrev pub deliveries_told : Deliveries D → BodiesTold
  deliveries_told d = delivered_told d.reading d.items.now

  abbrev pub DeliveriesOn : Deliveries D → Deliveries D → Type 0
  DeliveriesOn old new = DeliversOn old.reading new.reading old.items.now new.items.now

  pub deliveries_to_itself : ((disk : D) → (told disk).honest → IsHonest (told disk)) → (d : Deliveries D) → DeliveriesOn d d
  deliveries_to_itself truth d = delivers_to_itself truth d.reading d.items.now

  pub deliveries_on : (old mid new : Deliveries D) → DeliveriesOn old mid → DeliveriesOn mid new → DeliveriesOn old new
  deliveries_on old mid new first second = delivers_on old.reading mid.reading new.reading old.items.now mid.items.now new.items.now first second

  -- of those of a repair
  abbrev pub due_told : DueDeliveries D → BodiesTold
  due_told d = delivered_told d.reading d.due.now.repair.items

  abbrev pub DueDeliveriesOn : DueDeliveries D → DueDeliveries D → Type 0
  DueDeliveriesOn old new = DeliversOn old.reading new.reading old.due.now.repair.items new.due.now.repair.items

  pub due_to_itself : ((disk : D) → (told disk).honest → IsHonest (told disk)) → (d : DueDeliveries D) → DueDeliveriesOn d d
  due_to_itself truth d = delivers_to_itself truth d.reading d.due.now.repair.items

  pub due_on : (old mid new : DueDeliveries D) → DueDeliveriesOn old mid → DueDeliveriesOn mid new → DueDeliveriesOn old new
  due_on old mid new first second =
      delivers_on old.reading mid.reading new.reading old.due.now.repair.items mid.due.now.repair.items new.due.now.repair.items first second
