-- What stays of the store and of revs when an item is performed.
use Rattle.std.proofs.Common.{◌≡◌, ℕ, ◌+◌, ◌<◌, ◌==◌, ◌&&◌, Bool, List, true, false, cond, arith, refl, sym, subst, ◌∙◌, ap, ap₂, [], ◌∷◌, length, Some, None, is_some, eqb-true}
use Rattle.std.proofs.lemmas.Bool.{eq-eqb, le-leb, lt-ltb}
use Rattle.std.specs.Cmp.{first_so}
use Rattle.std.specs.List.{AllByRecursion}
use Rattle.verb_core.specs.declared.conf.House.{House}
use Rattle.verb_core.specs.declared.item.Item.{Item}
use Rattle.verb_core.specs.declared.mailbox.Body.{Body}
use Rattle.verb_core.specs.Items.{IsWellFormed, is_own, keys_in}
use Rattle.verb_core.specs.Step.{step}
use Rattle.verb_core.specs.Store.{MailStore}
use Rattle.verb_core.proofs.Joins.{run_joined}
use Rattle.verb_bytes.specs.declared.journal.JournalRecord.{JournalRecord}
use Rattle.verb_bytes.specs.declared.journal.JournalRecord.TheVariants.{Verb}
use Rattle.verb_bytes.specs.Fields.{◌&◌, actor_field, are_in_range, byte_field, moment_field, only_if, u32_field}
use Rattle.verb_bytes.specs.Spelling.{HasSpelling, deed_fields, item_fields, shown_fields, shown_kind}
use Rattle.verb_bytes.proofs.Puts.{others_in_range}
use Rattle.store_kept.specs.Kept.{BaseTexts, IsRun, Kept, performed}
use Rattle.mail_desk.proofs.Timelines.{all_on, all_weaker}
use Rattle.desk_journal.specs.Permanence.{RevsBelow}
use Rattle.desk_journal.specs.Records.{after_item, after_record, agree, can_follow, is_formed, is_spelled}

-- the store stays what the items leave
pub item_runs : (kept : Kept) (i : Item) → IsRun kept → IsRun (performed kept i)
item_runs kept i runs = ap (λ (s : MailStore). (step s i).0) runs ∙ sym (run_joined kept.base kept.timeline (i ∷ []))

-- what holds of all texts of a base still does where it says less
pub base_weaker : (P Q : Body × List ℕ → Type 0) → ((r : Body × List ℕ) → P r → Q r) → (texts : BaseTexts) → AllByRecursion P texts → AllByRecursion Q texts
base_weaker P Q less [] all = all
base_weaker P Q less (r ∷ texts) all = (less r all.0, base_weaker P Q less texts all.1)

pub item_revs : (kept : Kept) (i : Item) → i.rev ≡ 0 → RevsBelow kept → RevsBelow (performed kept i)
item_revs kept i none revs = record {
  items = all_on (λ (j : Item). j.rev < kept.next + 1) kept.timeline i
      (all_weaker (λ (j : Item). j.rev < kept.next) (λ (j : Item). j.rev < kept.next + 1) (λ j less. omega arith) kept.timeline revs.items) (omega arith);
  base = base_weaker (λ (r : Body × List ℕ). r.0.rev < kept.next) (λ (r : Body × List ℕ). r.0.rev < kept.next + 1) (λ r less. omega arith) kept.texts revs.base;
}

-- an item of a record has no rev
pub no_rev : (i : Item) → HasSpelling (Verb i) → i.rev ≡ 0
unfolding are_in_range only_if
no_rev i fits =
    let shown = shown_fields (shown_kind i.deed) i.shown in
    let fields = deed_fields i.deed & shown & only_if (i.rev == 0) in
    let behind = others_in_range (actor_field i.by) fields (others_in_range (moment_field i.at) (actor_field i.by & fields) (others_in_range (u32_field i.number) (moment_field i.at & actor_field i.by & fields) (others_in_range (byte_field 0 10 1) (item_fields i) fits))) in
    let last = others_in_range shown (only_if (i.rev == 0)) (others_in_range (deed_fields i.deed) (shown & only_if (i.rev == 0)) behind) in
    eqb-true i.rev 0 (first_so (i.rev == 0) true last)

-- nor has one whose record can stand
pub stood_rev : (kept new : Kept) (i : Item) → after_record kept (Verb i) ≡ Some new → i.rev ≡ 0
stood_rev kept new i is = by (is_spelled (Verb i)) (can_follow kept i) refl is
  where
    by : (spelled can : Bool) → is_spelled (Verb i) ≡ spelled → cond (spelled && can) (Some (performed kept i)) None ≡ Some new → i.rev ≡ 0
    by true can e is = no_rev i e
    by false can e is = absurd (cc is)

-- ---- an item that stands

agree_same : (a b : Bool) → a ≡ b → agree a b ≡ true
agree_same a b same = subst (λ (c : Bool). agree a c ≡ true) same (itself a)
  where
    itself : (c : Bool) → agree c c ≡ true
    itself true = refl
    itself false = refl

both_so : (a b : Bool) → a ≡ true → b ≡ true → (a && b) ≡ true
both_so a b x y = ap₂ (λ (c d : Bool). c && d) x y

-- an item that is well formed can be recorded
pub is_formed_as : (house : House) (i : Item) → IsWellFormed house i → is_formed house i ≡ true
is_formed_as house i formed = both_so _ _ (both_so _ _ (both_so _ _ (agree_same (is_some i.by) (is_own i.deed) formed.by) formed.users) (le-leb (length (keys_in i.deed)) 65536 formed.few)) formed.form

-- one of the next number that is well formed, where one is left, and whose record has a spelling
pub can_stand : (kept : Kept) (what : JournalRecord) (i : Item) → is_spelled what ≡ true → IsWellFormed kept.house i → i.number ≡ kept.next → kept.next < 4194304 → after_item kept what i ≡ Some (performed kept i)
can_stand kept what i spelled formed number left =
    ap (λ (b : Bool). cond (b && can_follow kept i) (Some (performed kept i)) None) spelled ∙ ap (λ (b : Bool). cond b (Some (performed kept i)) None) follows
  where
    follows : can_follow kept i ≡ true
    follows = both_so _ _ (both_so _ _ (eq-eqb i.number kept.next number) (lt-ltb kept.next 4194304 left)) (is_formed_as kept.house i formed)

pub item_stands : (kept : Kept) (i : Item) → is_spelled (Verb i) ≡ true → IsWellFormed kept.house i → i.number ≡ kept.next → kept.next < 4194304 → after_record kept (Verb i) ≡ Some (performed kept i)
item_stands kept i = can_stand kept (Verb i) i
