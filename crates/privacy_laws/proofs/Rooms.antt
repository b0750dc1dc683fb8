-- Stores with the same mailboxes have room for the same mails.
use Rattle.std.proofs.Common.{◌≡◌, ℕ, ◌+◌, List, [], ◌∷◌, Option, None, Some, Result, ap, sym, ◌∙◌}
use Rattle.verb_core.specs.declared.ask.Refused.{Refused}
use Rattle.verb_core.specs.declared.item.Item.{Item}
use Rattle.verb_core.specs.Live.{asked_item, is_uid_wide, or_item}
use Rattle.verb_core.specs.Step.{step}
use Rattle.store_kept.specs.Kept.{Kept, store_of}
use Rattle.mail_desk.specs.Desk.{submitted_as}
use Rattle.privacy_laws.specs.Senders.{Mail, all_taken, delivery_of, is_full, taken}
use Rattle.privacy_laws.proofs.Mails.{item_of, live_is, refused_as}

module _ (k l : Kept) (same : store_of k ≡ store_of l) (next : k.next ≡ l.next) where
  full_same : (m : Mail) → is_full k m ≡ is_full l m
  full_same m = λ j. is_uid_wide (same j) None (delivery_of m) (asked_item (same j) (next j) m.at None (delivery_of m))

  store_as : (m : Mail) (o : Option Refused) → store_of (submitted_as k (or_item o (item_of k.next m))).kept ≡ store_of (submitted_as l (or_item o (item_of l.next m))).kept
  store_as m None = λ j. (step (same j) (item_of (next j) m)).0
  store_as m (Some why) = same

  next_as : (m : Mail) (o : Option Refused) → (submitted_as k (or_item o (item_of k.next m))).kept.next ≡ (submitted_as l (or_item o (item_of l.next m))).kept.next
  next_as m None = ap (λ (n : ℕ). n + 1) next
  next_as m (Some why) = next

  refusal_same : (m : Mail) → refused_as (is_full k m) k.next ≡ refused_as (is_full l m) l.next
  refusal_same m = λ j. refused_as (full_same m j) (next j)

  store_taken : (m : Mail) → store_of (taken k m) ≡ store_of (taken l m)
  store_taken m =
      ap (λ (r : Result Item Refused). store_of (submitted_as k r).kept) (live_is (store_of k) k.next m k.deep) ∙ store_as m (refused_as (is_full k m) k.next)
      ∙ ap (λ (o : Option Refused). store_of (submitted_as l (or_item o (item_of l.next m))).kept) (refusal_same m)
      ∙ sym (ap (λ (r : Result Item Refused). store_of (submitted_as l r).kept) (live_is (store_of l) l.next m l.deep))

  next_taken : (m : Mail) → (taken k m).next ≡ (taken l m).next
  next_taken m =
      ap (λ (r : Result Item Refused). (submitted_as k r).kept.next) (live_is (store_of k) k.next m k.deep) ∙ next_as m (refused_as (is_full k m) k.next)
      ∙ ap (λ (o : Option Refused). (submitted_as l (or_item o (item_of l.next m))).kept.next) (refusal_same m)
      ∙ sym (ap (λ (r : Result Item Refused). (submitted_as l r).kept.next) (live_is (store_of l) l.next m l.deep))

-- whatever mails come
pub room_same : (before : List Mail) (m : Mail) (k l : Kept) → store_of k ≡ store_of l → k.next ≡ l.next → is_full (all_taken k before) m ≡ is_full (all_taken l before) m
room_same [] m k l same next = full_same k l same next m
room_same (b ∷ bs) m k l same next = room_same bs m (taken k b) (taken l b) (store_taken k l same next b) (next_taken k l same next b)
