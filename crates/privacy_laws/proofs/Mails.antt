-- A mail that comes to two stores that agree for SMTP clients.
use Rattle.std.proofs.Common.{◌≡◌, ℕ, ◌+◌, ◌<◌, ◌==◌, Bool, true, false, ◌&&◌, not, filter, map, List, [], ◌∷◌, length, nat_lt, ltb-true, Option, None, Some, Result, Ok, Err, refl, ap, sym, subst, ◌∙◌, arith}
use Rattle.undo_base.specs.declared.keys.User.{User}
use Rattle.verb_core.specs.declared.ask.Refused.{Refused}
use Rattle.verb_core.specs.declared.ask.Refused.TheVariants.{BoxesFull, UidWide, Numbers}
use Rattle.verb_core.specs.declared.conf.Conf.{Conf}
use Rattle.verb_core.specs.declared.conf.House.{House}
use Rattle.verb_core.specs.declared.item.Aim.{Aim}
use Rattle.verb_core.specs.declared.item.Deed.TheVariants as deed
use Rattle.verb_core.specs.declared.item.Item.{Item}
use Rattle.verb_core.specs.declared.item.Shown.TheVariants.{Nothing}
use Rattle.verb_core.specs.declared.mailbox.BoxId.{BoxId}
use Rattle.verb_core.specs.declared.mailbox.Entry.{Entry}
use Rattle.verb_core.specs.declared.mailbox.Mailbox.{Mailbox}
use Rattle.verb_core.specs.Aims.{box_aimed, sought_by}
use Rattle.verb_core.specs.Boxes.{change_row, names_of}
use Rattle.verb_core.specs.Live.{asked_item, asker, first_of, if_so, is_uid_wide, live, or_item, overfills}
use Rattle.verb_core.specs.Mailboxes.{put_all}
use Rattle.verb_core.specs.Names.{is_empty}
use Rattle.verb_core.specs.Recipients.{resolved}
use Rattle.verb_core.specs.Step.{Boxes, new_mail, put_at, step}
use Rattle.verb_core.specs.Store.{MailStore}
use Rattle.verb_core.proofs.LiveLaws.{names_of-change_row}
use Rattle.verb_core.proofs.Moves.{has_row-put_at}
use Rattle.store_kept.specs.Kept.{Kept, performed, store_of}
use Rattle.mail_desk.specs.Desk.{submitted_as}
use Rattle.mail_loop.specs.Afterwards.{gone_between}
use Rattle.mail_loop.specs.Asked.{Asked, does, fails, runs_out_of_memory, unsealed_as, unwritten}
use Rattle.mail_loop.proofs.Taken.{none_gone_of}
use Rattle.privacy_laws.specs.Senders.{AgreeForMail, Mail, delivery_of, is_full, taken}

-- ---- a delivery makes no mailbox

names_of-put_at : (u : User) (mail : ℕ → List Entry) (aims : List Aim) (rs : Boxes) → names_of u (put_at mail aims rs) ≡ names_of u rs
names_of-put_at u mail [] rs = refl
names_of-put_at u mail (a ∷ aims) rs = names_of-put_at u mail aims (change_row (box_aimed a) (put_all (mail a.index)) rs) ∙ names_of-change_row u (box_aimed a) (put_all (mail a.index)) rs

not_below : (m n : ℕ) → m ≡ n → nat_lt n m ≡ false
not_below m n is = elim (nat_lt n m) as (λ b. nat_lt n m ≡ b → b ≡ false) [
  | true ↦ λ e. let lt : n < m = ltb-true n m e in absurd (omega arith)
  | false ↦ λ e. refl
] refl

-- the item of a mail
abbrev pub item_of : ℕ → Mail → Item
item_of number m = record { number = number; at = m.at; by = None; rev = 0; deed = deed.Deliver m.from m.to m.text; shown = Nothing }

-- why a mail is refused
abbrev pub refused_as : Bool → ℕ → Option Refused
refused_as full number = first_of (if_so full UidWide ∷ if_so (number == 4194304) (Numbers number) ∷ [])

module _ (s : MailStore) (number : ℕ) (m : Mail) where
  abbrev asked : Item
  asked = asked_item s number m.at None (delivery_of m)

  none_overfilled : overfills s None asked ≡ false
  none_overfilled =
      ap (λ b. b && nat_lt 1000 (length (names_of (asker None) (step s asked).0.boxes)))
      (not_below (length (names_of (asker None) (step s asked).0.boxes)) (length (names_of (asker None) s.boxes))
      (ap length (names_of-put_at (asker None) (λ index. new_mail (asker None) asked s.boxes index (deed.Deliver m.from m.to m.text)) (sought_by s asked).aims s.boxes)))

  pub live_is : (deep : Bool) → live s number m.at None (delivery_of m) deep ≡ or_item (refused_as (is_uid_wide s None (delivery_of m) asked) number) (item_of number m)
  live_is deep =
      ap (λ (b : Bool). or_item (first_of (if_so b BoxesFull ∷ if_so (is_uid_wide s None (delivery_of m) asked) UidWide ∷ if_so (number == 4194304) (Numbers number) ∷ [])) (item_of number m)) none_overfilled

-- ---- what is kept behind it

module _ (kept : Kept) (m : Mail) where
  house_as : (r : Result Item Refused) → (submitted_as kept r).kept.house ≡ kept.house
  house_as (Ok item) = refl
  house_as (Err why) = refl

  conf_as : (o : Option Refused) → (store_of (submitted_as kept (or_item o (item_of kept.next m))).kept).conf ≡ (store_of kept).conf
  conf_as None = refl
  conf_as (Some why) = refl

  -- a mail changes no alias and no filter
  conf_stays : (store_of (taken kept m)).conf ≡ (store_of kept).conf
  conf_stays =
      ap (λ (r : Result Item Refused). (store_of (submitted_as kept r).kept).conf) (live_is (store_of kept) kept.next m kept.deep)
      ∙ conf_as (refused_as (is_full kept m) kept.next)

  gone_performed : gone_between kept (performed kept (item_of kept.next m)) ≡ []
  gone_performed =
      (λ j. filter (λ (id : BoxId). not (has_row-put_at id (λ index. new_mail (asker None) (item_of kept.next m) (store_of kept).boxes index (deed.Deliver m.from m.to m.text)) (sought_by (store_of kept) (item_of kept.next m)).aims (store_of kept).boxes j)) (map (λ (r : BoxId × Mailbox). r.0) (store_of kept).boxes))
      ∙ none_gone_of kept

  gone_as : (o : Option Refused) → gone_between kept (submitted_as kept (or_item o (item_of kept.next m))).kept ≡ []
  gone_as None = gone_performed
  gone_as (Some why) = none_gone_of kept

  -- it takes no mailbox away
  pub none_gone : gone_between kept (taken kept m) ≡ []
  none_gone =
      ap (λ (r : Result Item Refused). gone_between kept (submitted_as kept r).kept) (live_is (store_of kept) kept.next m kept.deep)
      ∙ gone_as (refused_as (is_full kept m) kept.next)

-- what became of a mail is the same, and what is kept agrees for SMTP clients
pub record SameMailed (house : House) (k l : Kept) (x y : Asked) : Type 0 where
  pub outcome : x.outcome ≡ y.outcome
  pub gone : gone_between k x.kept ≡ gone_between l y.kept
  pub unsealed : x.unsealed ≡ y.unsealed
  pub out_of_memory : x.out_of_memory ≡ y.out_of_memory
  pub kept : AgreeForMail house x.kept y.kept

module _ (house : House) (k l : Kept) (a : AgreeForMail house k l) (m : Mail) where
  lives : live (store_of k) k.next m.at None (delivery_of m) k.deep ≡ live (store_of l) l.next m.at None (delivery_of m) l.deep
  lives =
      live_is (store_of k) k.next m k.deep ∙ (λ j. or_item (refused_as (a.room [] m j) (a.next j)) (item_of (a.next j) m))
      ∙ sym (live_is (store_of l) l.next m l.deep)

  next_as : (r : Result Item Refused) → (submitted_as k r).kept.next ≡ (submitted_as l r).kept.next
  next_as (Ok item) = ap (λ (n : ℕ). n + 1) a.next
  next_as (Err why) = a.next

  -- they agree again behind it
  agree_mailed : AgreeForMail house (taken k m) (taken l m)
  agree_mailed = record {
    one_house = house_as k m (live (store_of k) k.next m.at None (delivery_of m) k.deep) ∙ a.one_house;
    other_house = house_as l m (live (store_of l) l.next m.at None (delivery_of m) l.deep) ∙ a.other_house;
    next = next_as (live (store_of k) k.next m.at None (delivery_of m) k.deep) ∙ ap (λ (r : Result Item Refused). (submitted_as l r).kept.next) lives;
    known = λ local. ap (λ (c : Conf). not (is_empty (resolved house c local))) (conf_stays k m) ∙ a.known local ∙ sym (ap (λ (c : Conf). not (is_empty (resolved house c local))) (conf_stays l m));
    room = λ before later. a.room (m ∷ before) later;
  }

  outcome_as : (r : Result Item Refused) → (submitted_as k r).outcome ≡ (submitted_as l r).outcome
  outcome_as (Ok item) = refl
  outcome_as (Err why) = refl

  -- it is delivered, or refused
  pub same_does : SameMailed house k l (does m.at k None (delivery_of m)) (does m.at l None (delivery_of m))
  same_does = record {
    outcome = outcome_as (live (store_of k) k.next m.at None (delivery_of m) k.deep) ∙ ap (λ (r : Result Item Refused). (submitted_as l r).outcome) lives;
    gone = none_gone k m ∙ sym (none_gone l m);
    unsealed = refl;
    out_of_memory = refl;
    kept = agree_mailed;
  }

  none_taken : gone_between k k ≡ gone_between l l
  none_taken = none_gone_of k ∙ sym (none_gone_of l)

  unsealed_alike : (r : Result Item Refused) → SameMailed house k l (unsealed_as k r) (unsealed_as l r)
  unsealed_alike (Ok item) = record { outcome = refl; gone = none_taken; unsealed = refl; out_of_memory = refl; kept = a }
  unsealed_alike (Err why) = record { outcome = refl; gone = none_taken; unsealed = refl; out_of_memory = refl; kept = a }

  -- its sealing fails
  pub same_fails : SameMailed house k l (fails m.at k None (delivery_of m)) (fails m.at l None (delivery_of m))
  same_fails =
      subst (λ (r : Result Item Refused). SameMailed house k l (fails m.at k None (delivery_of m)) (unsealed_as l r)) lives
      (unsealed_alike (live (store_of k) k.next m.at None (delivery_of m) k.deep))

  -- no memory is found for it
  pub same_wanting : SameMailed house k l (runs_out_of_memory k None (delivery_of m)) (runs_out_of_memory l None (delivery_of m))
  same_wanting = record { outcome = refl; gone = none_taken; unsealed = refl; out_of_memory = refl; kept = a }

  pub same_unwritten : SameMailed house k l (unwritten k None (delivery_of m)) (unwritten l None (delivery_of m))
  same_unwritten = record { outcome = refl; gone = none_taken; unsealed = refl; out_of_memory = refl; kept = a }
