-- Where each message came from.
use Rattle.std.proofs.Common.{◌≡◌, ◌≢◌, ◌⊎◌, inl, inr, ℕ, ◌+◌, Bool, true, false, cond, List, [], ◌∷◌, ◌++◌, Some, find, refl, sym, ap, ◌∙◌, subst, arith, eqb, eqb-true, eq-eqb, is_eq}
use Rattle.std.specs.List.{AllByRecursion}
use Rattle.std.proofs.lemmas.List.Sums.{sum_by-cons}
use Rattle.undo_base.specs.declared.keys.Key.{Key}
use Rattle.undo_base.specs.declared.keys.User.{User}
use Rattle.verb_core.specs.declared.item.Item.{Item}
use Rattle.verb_core.specs.declared.mailbox.BoxId.{BoxId}
use Rattle.verb_core.specs.declared.mailbox.Entry.{Entry}
use Rattle.verb_core.specs.declared.mailbox.Mailbox.{Mailbox}
use Rattle.verb_core.specs.Boxes.{box_cmp, row_at, same_user}
use Rattle.verb_core.specs.Fates.{times_given, times_held, times_in, times_taken}
use Rattle.verb_core.specs.Items.{IsWellFormed}
use Rattle.verb_core.specs.Mailboxes.{same_key}
use Rattle.verb_core.specs.Step.{run, step}
use Rattle.verb_core.specs.Store.{IsValid, MailStore}
use Rattle.verb_core.proofs.BoxLaws.{same_user-refl, tied}
use Rattle.verb_core.proofs.FateLaws.{times_held-step, times_in-cons}
use Rattle.verb_core.proofs.Validity.{step-IsValid}
use Rattle.store_kept.specs.Kept.{Kept, store_of}
use Rattle.desk_journal.specs.Permanence.{IsSound, Message, message_at}
use Rattle.time_desk.proofs.Messages.{there}
use Rattle.journal_laws.specs.Keeping.{Came}

-- ---- what is held was given, or was there

-- one of the items gave it, or the base held it
abbrev CameBy : MailStore → List Item → User → Key → Type 0
CameBy base t u key =
    ((before : List Item) × (i : Item) × (later : List Item) × (t ≡ before ++ i ∷ later) × (times_given u key (run base before) i ≢ 0))
    ⊎ (times_held u key base.boxes ≢ 0)

came_first : (base : MailStore) (i : Item) (t : List Item) (u : User) (key : Key) → IsValid base → IsWellFormed base.house i → times_held u key (step base i).0.boxes ≢ 0 → CameBy base (i ∷ t) u key
came_first base i t u key valid formed held =
    let kept : times_held u key (step base i).0.boxes + times_taken u key base i ≡ times_held u key base.boxes + times_given u key base i = times_held-step u key base i valid formed in
    elim (eqb (times_given u key base i) 0) as (λ b. eqb (times_given u key base i) 0 ≡ b → CameBy base (i ∷ t) u key) [
      | true ↦ λ e. inr (λ none. held (omega (arith, kept, none, eqb-true (times_given u key base i) 0 e)))
      | false ↦ λ e. inl ([], i, t, refl, λ none. absurd (let wrong : true ≡ false = sym (eq-eqb (times_given u key base i) 0 none) ∙ e in cc))
    ] refl

came_by : (base : MailStore) (t : List Item) (u : User) (key : Key) → IsValid base → AllByRecursion (IsWellFormed base.house) t → times_held u key (run base t).boxes ≢ 0 → CameBy base t u key
came_by base [] u key valid formed held = inr held
came_by base (i ∷ t) u key valid formed held = by (came_by (step base i).0 t u key (step-IsValid base i valid formed.0) formed.1 held)
  where
    by : CameBy (step base i).0 t u key → CameBy base (i ∷ t) u key
    by (inl (before, j, later, split, given)) = inl (i ∷ before, j, later, ap (λ (l : List Item). i ∷ l) split, given)
    by (inr there) = came_first base i t u key valid formed.0 there

pub all_came : (kept : Kept) → IsSound kept → (u : User) (key : Key) → times_held u key (store_of kept).boxes ≢ 0 → Came kept u key
all_came kept sound u key held =
    came_by kept.base kept.timeline u key sound.base.stands.valid sound.base.stands.timeline.formed (subst (λ (s : MailStore). times_held u key s.boxes ≢ 0) sound.runs held)

-- ---- what is named is held

same_key-refl : (k : Key) → same_key k k ≡ true
same_key-refl k = rw (eq-eqb k.item k.item refl, eq-eqb k.index k.index refl) refl

-- an entry that is found is one of its key
found_counts : (p : Entry → Bool) (es : List Entry) (e : Entry) → find p es ≡ Some e → times_in e.key es ≢ 0
found_counts p [] e is = absurd (cc is)
found_counts p (x ∷ es) e is =
    elim (p x) as (λ b. cond b (Some x) (find p es) ≡ Some e → times_in e.key (x ∷ es) ≢ 0) [
      | true ↦ λ is.
          let same : x ≡ e = cc is in
          let own : same_key e.key x.key ≡ true = subst (λ (y : Entry). same_key e.key y.key ≡ true) (sym same) (same_key-refl e.key) in
          λ none. absurd (omega (arith, times_in-cons e.key x es, ap {B = ℕ} (λ b. cond b 1 0) own, none))
      | false ↦ λ is none. found_counts p es e is (omega (arith, times_in-cons e.key x es, none))
    ] is

-- so an entry that is found in a mailbox is held by its user
found_held : (p : Entry → Bool) (boxes : List (BoxId × Mailbox)) (id : BoxId) (box : Mailbox) (e : Entry) → row_at id boxes ≡ Some box → find p box.entries ≡ Some e → times_held id.user e.key boxes ≢ 0
found_held p [] id box e here found = absurd (cc here)
found_held p (r ∷ rs) id box e here found =
    let count = λ (q : BoxId × Mailbox). cond (same_user id.user q.0.user) (times_in e.key q.1.entries) 0 in
    elim (is_eq (box_cmp id r.0)) as (λ b. is_eq (box_cmp id r.0) ≡ b → cond b (Some r.1) (row_at id rs) ≡ Some box → times_held id.user e.key (r ∷ rs) ≢ 0) [
      | true ↦ λ at here.
          let same : r.1 ≡ box = cc here in
          let own : same_user id.user r.0.user ≡ true = subst (λ (q : BoxId). same_user id.user q.user ≡ true) (tied id r.0 at) (same_user-refl id.user) in
          let some : times_in e.key r.1.entries ≢ 0 = subst (λ (m : Mailbox). times_in e.key m.entries ≢ 0) (sym same) (found_counts p box.entries e found) in
          λ none. some (omega (arith, sum_by-cons count r rs, ap {B = ℕ} (λ b. cond b (times_in e.key r.1.entries) 0) own, none))
      | false ↦ λ at here none. found_held p rs id box e here found (omega (arith, sum_by-cons count r rs, none))
    ] refl here

pub named_came : (kept : Kept) → IsSound kept → (id : BoxId) (stamp uid : ℕ) (m : Message) → message_at kept id stamp uid ≡ Some m → Came kept id.user m.key
named_came kept sound id stamp uid m named =
    let found = there kept id stamp uid m named in
    all_came kept sound id.user m.key
    (subst (λ (k : Message). times_held id.user k.key (store_of kept).boxes ≢ 0) found.is
    (found_held (λ (e : Entry). eqb e.uid uid) (store_of kept).boxes id found.box found.entry found.there found.found))
