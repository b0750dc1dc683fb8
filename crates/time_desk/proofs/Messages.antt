-- The message under a UID, before and afterwards.
use Rattle.std.proofs.Common.{◌≡◌, ◌≢◌, ℕ, ◌<◌, ◌≤◌, ◌==◌, Bool, true, false, ◌&&◌, ◌||◌, cond, nat_le, nat_lt, arith, refl, sym, ◌∙◌, ap, subst, List, [], ◌∷◌, map, find, Option, Some, None, option_map, option_and_then, is_some, is_eq, eqb-true, true≢false, unwrap_or}
use Rattle.std.specs.List.{AllByRecursion, list_all, list_any}
use Rattle.std.specs.Cmp.{first_so, second_so}
use Rattle.std.specs.Option.{option_map_or, option_or}
use Rattle.std.specs.Ordering.{eq_by_cmp}
use Rattle.std.proofs.lemmas.Bool.{ltb-true}
use Rattle.std.proofs.lemmas.Bool.Decides.{nat_tests}
use Rattle.undo_base.specs.declared.keys.Key.{Key}
use Rattle.verb_core.specs.declared.item.Item.{Item}
use Rattle.verb_core.specs.declared.mailbox.Body.{Body}
use Rattle.verb_core.specs.declared.mailbox.BoxId.{BoxId}
use Rattle.verb_core.specs.declared.mailbox.Entry.{Entry}
use Rattle.verb_core.specs.declared.mailbox.Mailbox.{Mailbox}
use Rattle.verb_core.specs.Boxes.{box_cmp, row_at}
use Rattle.verb_core.specs.Deeds.{same_body}
use Rattle.verb_core.specs.Items.{text_in, text_of}
use Rattle.verb_core.specs.Mailboxes.{same_key, uids_rise}
use Rattle.verb_core.specs.Store.{IsValid, is_row}
use Rattle.store_kept.specs.Kept.{BaseTexts, Kept, body_cmp, mailbox_at, stamp_at, store_of}
use Rattle.repair_desk.specs.Renewals.{extends, extends_one, is_old, same_mail}
use Rattle.mail_cycle.specs.Permanence.{UidsLast}
use Rattle.store_kept.specs.Texts.{all_bodies, has_text_kept, text_at_hand, text_before, text_kept}
use Rattle.store_kept.proofs.Bodies.{named_then, tied}
use Rattle.store_kept.proofs.Coming.{kept_at_hand}
use Rattle.desk_journal.specs.Permanence.{IsSound, Message, RevsBelow, entry_at, message_at, message_of}

-- ---- rows

-- what holds of all rows holds of the row of a mailbox
pub row_has : {A : Type 0} (P : BoxId × A → Bool) (Q : A → Type 0) → ((r : BoxId × A) → P r ≡ true → Q r.1) → (rs : List (BoxId × A)) (id : BoxId) (x : A) → list_all P rs ≡ true → row_at id rs ≡ Some x → Q x
row_has P Q so [] id x all is = absurd (cc is)
row_has P Q so (r ∷ rs) id x all is =
    elim (is_eq (box_cmp id r.0)) as (λ b. cond b (Some r.1) (row_at id rs) ≡ Some x → Q x) [
      | true ↦ λ e. let same : r.1 ≡ x = cc e in subst Q same (so r (first_so (P r) (list_all P rs) all))
      | false ↦ λ e. row_has P Q so rs id x (second_so (P r) (list_all P rs) all) e
    ] is

-- the stamp of a mailbox is below the next number
pub stamp_below : (stamps : List (BoxId × ℕ)) (next : ℕ) (id : BoxId) (stamp : ℕ) → AllByRecursion (λ (r : BoxId × ℕ). r.1 < next) stamps → row_at id stamps ≡ Some stamp → stamp < next
stamp_below [] next id stamp all is = absurd (cc is)
stamp_below (r ∷ stamps) next id stamp all is =
    elim (is_eq (box_cmp id r.0)) as (λ b. cond b (Some r.1) (row_at id stamps) ≡ Some stamp → stamp < next) [
      | true ↦ λ e. let same : r.1 ≡ stamp = cc e in let low : r.1 < next = all.0 in omega arith
      | false ↦ λ e. stamp_below stamps next id stamp all.1 e
    ] is

-- a stamp has a mailbox
pub stamped_there : (stamps : List (BoxId × ℕ)) (boxes : List (BoxId × Mailbox)) (id : BoxId) (stamp : ℕ) → map (λ (r : BoxId × ℕ). r.0) stamps ≡ map (λ (r : BoxId × Mailbox). r.0) boxes
    → row_at id stamps ≡ Some stamp → (m : Mailbox) × (row_at id boxes ≡ Some m)
stamped_there [] boxes id stamp named is = absurd (cc is)
stamped_there (s ∷ stamps) [] id stamp named is = absurd (cc named)
stamped_there (s ∷ stamps) (r ∷ boxes) id stamp named is =
    let head : s.0 ≡ r.0 = cc named in
    let tail : map (λ (r : BoxId × ℕ). r.0) stamps ≡ map (λ (r : BoxId × Mailbox). r.0) boxes = cc named in
    elim (is_eq (box_cmp id r.0)) as (λ b. cond b (Some s.1) (row_at id stamps) ≡ Some stamp → (m : Mailbox) × (cond b (Some r.1) (row_at id boxes) ≡ Some m)) [
      | true ↦ λ e. (r.1, refl)
      | false ↦ λ e. stamped_there stamps boxes id stamp tail e
    ] (subst (λ (q : BoxId). cond (is_eq (box_cmp id q)) (Some s.1) (row_at id stamps) ≡ Some stamp) head is)

-- ---- entries

-- what is found passes, and is one of all
pub found_passes : {A : Type 0} (p : A → Bool) (xs : List A) (x : A) → find p xs ≡ Some x → p x ≡ true
found_passes p [] x is = absurd (cc is)
found_passes p (y ∷ xs) x is =
    elim (p y) as (λ b. p y ≡ b → cond b (Some y) (find p xs) ≡ Some x → p x ≡ true) [
      | true ↦ λ e is. let same : y ≡ x = cc is in ap p (sym same) ∙ e
      | false ↦ λ e is. found_passes p xs x is
    ] refl is

pub found_among : {A : Type 0} (p q : A → Bool) (xs : List A) (x : A) → list_all q xs ≡ true → find p xs ≡ Some x → q x ≡ true
found_among p q [] x all is = absurd (cc is)
found_among p q (y ∷ xs) x all is =
    elim (p y) as (λ b. cond b (Some y) (find p xs) ≡ Some x → q x ≡ true) [
      | true ↦ λ is. let same : y ≡ x = cc is in ap q (sym same) ∙ first_so (q y) (list_all q xs) all
      | false ↦ λ is. found_among p q xs x (second_so (q y) (list_all q xs) all) is
    ] is

-- the UIDs of a mailbox are below its next one
rise_above : (low : ℕ) (es : List Entry) (next : ℕ) → uids_rise low es next ≡ true → low < next
rise_above low [] next rise = ltb-true low next rise
rise_above low (e ∷ es) next rise =
    let first : low < e.uid = ltb-true low e.uid (first_so (nat_lt low e.uid) (uids_rise e.uid es next) rise) in
    let rest : e.uid < next = rise_above e.uid es next (second_so (nat_lt low e.uid) (uids_rise e.uid es next) rise) in
    omega arith

pub found_below : (low : ℕ) (es : List Entry) (next : ℕ) (p : Entry → Bool) (e : Entry) → uids_rise low es next ≡ true → find p es ≡ Some e → e.uid < next
found_below low [] next p e rise is = absurd (cc is)
found_below low (x ∷ es) next p e rise is =
    let higher : uids_rise x.uid es next ≡ true = second_so (nat_lt low x.uid) (uids_rise x.uid es next) rise in
    elim (p x) as (λ b. cond b (Some x) (find p es) ≡ Some e → e.uid < next) [
      | true ↦ λ is. let same : x ≡ e = cc is in subst (λ (y : Entry). y.uid < next) same (rise_above x.uid es next higher)
      | false ↦ λ is. found_below x.uid es next p e higher is
    ] is

-- other UIDs are other mail
other_mail : (e x : Entry) → e.uid ≢ x.uid → same_mail e x ≡ false
other_mail e x apart = let differs : (e.uid == x.uid) ≡ false = grind (arith, nat_tests) in rw differs refl

none_above : (low : ℕ) (es : List Entry) (next : ℕ) (e : Entry) → uids_rise low es next ≡ true → e.uid ≤ low → list_any (same_mail e) es ≡ false
none_above low [] next e rise le = refl
none_above low (x ∷ es) next e rise le =
    let above : low < x.uid = ltb-true low x.uid (first_so (nat_lt low x.uid) (uids_rise x.uid es next) rise) in
    let other : same_mail e x ≡ false = other_mail e x (λ same. let is : e.uid ≡ x.uid = same in absurd (omega arith)) in
    rw other (none_above x.uid es next e (second_so (nat_lt low x.uid) (uids_rise x.uid es next) rise) (omega arith))

-- the entry that is found under the UID of old mail is that mail
pub same_found : (low : ℕ) (es : List Entry) (next uid : ℕ) (e f : Entry) → uids_rise low es next ≡ true → e.uid ≡ uid → find (λ (x : Entry). x.uid == uid) es ≡ Some f → list_any (same_mail e) es ≡ true → same_mail e f ≡ true
same_found low [] next uid e f rise under is any = absurd (cc is)
same_found low (x ∷ es) next uid e f rise under is any =
    let higher : uids_rise x.uid es next ≡ true = second_so (nat_lt low x.uid) (uids_rise x.uid es next) rise in
    elim (x.uid == uid) as (λ b. (x.uid == uid) ≡ b → cond b (Some x) (find (λ (y : Entry). y.uid == uid) es) ≡ Some f → same_mail e f ≡ true) [
      | true ↦ λ here is.
          let at : x.uid ≡ uid = eqb-true x.uid uid here in
          let same : x ≡ f = cc is in
          subst (λ (y : Entry). same_mail e y ≡ true) same (none_else (same_mail e x) (list_any (same_mail e) es) any (none_above x.uid es next e higher (omega arith)))
      | false ↦ λ other is.
          let apart : e.uid ≢ x.uid = λ same. true≢false (sym (let at : (x.uid == uid) ≡ true = grind (arith, nat_tests) in at) ∙ other) in
          same_found x.uid es next uid e f higher under is (rest_then (same_mail e x) (list_any (same_mail e) es) any (other_mail e x apart))
    ] refl is
  where
    none_else : (a b : Bool) → (a || b) ≡ true → b ≡ false → a ≡ true
    none_else true b e f = refl
    none_else false b e f = absurd (true≢false (sym e ∙ f))

    rest_then : (a b : Bool) → (a || b) ≡ true → a ≡ false → b ≡ true
    rest_then true b e f = absurd (true≢false f)
    rest_then false b e f = e

one_key : (a b : Key) → same_key a b ≡ true → a ≡ b
one_key a b h = λ j. record { item = eqb-true a.item b.item (first_so _ _ h) j; index = eqb-true a.index b.index (second_so _ _ h) j }

one_body : (a b : Body) → same_body a b ≡ true → a ≡ b
one_body a b h = λ j. record { origin = eqb-true a.origin b.origin (first_so _ _ h) j; rev = eqb-true a.rev b.rev (second_so _ _ h) j }

-- ---- texts

-- a body that has a text was brought by an item of its number and its rev
pub text_below : (t : List Item) (next : ℕ) (body : Body) (text : List ℕ) → AllByRecursion (λ (i : Item). i.number < next) t → AllByRecursion (λ (i : Item). i.rev < next) t → text_of t body ≡ Some text
    → (body.origin < next) × (body.rev < next)
text_below [] next body text numbers revs is = absurd (cc is)
text_below (i ∷ t) next body text numbers revs is =
    elim ((i.number == body.origin) && (i.rev == body.rev) && is_some (text_in i.deed)) as (λ b. ((i.number == body.origin) && (i.rev == body.rev) && is_some (text_in i.deed)) ≡ b
    → option_and_then (λ (j : Item). text_in j.deed) (cond b (Some i) (find (λ (j : Item). (j.number == body.origin) && (j.rev == body.rev) && is_some (text_in j.deed)) t)) ≡ Some text → (body.origin < next) × (body.rev < next)) [
      | true ↦ λ here is.
          let both = first_so ((i.number == body.origin) && (i.rev == body.rev)) (is_some (text_in i.deed)) here in
          let number : i.number ≡ body.origin = eqb-true i.number body.origin (first_so (i.number == body.origin) (i.rev == body.rev) both) in
          let rev : i.rev ≡ body.rev = eqb-true i.rev body.rev (second_so (i.number == body.origin) (i.rev == body.rev) both) in
          let low : i.number < next = numbers.0 in
          let few : i.rev < next = revs.0 in
          (omega arith, omega arith)
      | false ↦ λ here is. text_below t next body text numbers.1 revs.1 is
    ] refl is

-- so was one of the text that comes with a base
base_below : (texts : BaseTexts) (next : ℕ) (body : Body) (text : List ℕ) → ((n : ℕ) → next ≤ n → AllByRecursion (λ (r : Body × List ℕ). r.0.origin ≢ n) texts) → AllByRecursion (λ (r : Body × List ℕ). r.0.rev < next) texts
    → text_before texts body ≡ Some text → (body.origin < next) × (body.rev < next)
base_below texts next body text new revs is = (number (nat_lt body.origin next) refl, rev texts revs is)
  where
    number : (t : Bool) → nat_lt body.origin next ≡ t → body.origin < next
    number true e = ltb-true body.origin next e
    number false e = let le : next ≤ body.origin = grind (arith, nat_tests) in absurd (named_then body.origin texts body text (new body.origin le) is refl)

    rev : (ts : BaseTexts) → AllByRecursion (λ (r : Body × List ℕ). r.0.rev < next) ts → text_before ts body ≡ Some text → body.rev < next
    rev [] all is = absurd (cc is)
    rev (r ∷ ts) all is = elim (eq_by_cmp body_cmp body r.0) as (λ b. eq_by_cmp body_cmp body r.0 ≡ b → cond b (Some r.1) (text_before ts body) ≡ Some text → body.rev < next) [
      | true ↦ λ e is. subst (λ (b : Body). b.rev < next) (sym (tied body r.0 e)) all.0
      | false ↦ λ e is. rev ts all.1 is
    ] refl is

-- of what is kept
kept_below : (kept : Kept) (body : Body) (text : List ℕ) → IsSound kept → RevsBelow kept → text_kept kept body ≡ Some text → (body.origin < kept.next) × (body.rev < kept.next)
kept_below kept body text sound revs is = by (text_of kept.timeline body) refl is
  where
    by : (o : Option (List ℕ)) → text_of kept.timeline body ≡ o → option_or o (text_before kept.texts body) ≡ Some text → (body.origin < kept.next) × (body.rev < kept.next)
    by None e is = base_below kept.texts kept.next body text (λ n le. (sound.base.beyond n le).unnamed) revs.base is
    by (Some own) e is = text_below kept.timeline kept.next body own sound.below revs.items e

some_of : {A : Type 0} (o : Option A) → is_some o ≡ true → (x : A) × (o ≡ Some x)
some_of None e = absurd (cc e)
some_of (Some x) e = (x, refl)

-- ---- the message under a UID

-- where it was found
pub record IsThere (kept : Kept) (id : BoxId) (stamp uid : ℕ) (m : Message) : Type 0 where
  pub stamped : stamp_at kept id ≡ Some stamp
  pub box : Mailbox
  pub there : mailbox_at kept id ≡ Some box
  pub entry : Entry
  pub found : find (λ (e : Entry). e.uid == uid) box.entries ≡ Some entry
  pub is : message_of kept entry ≡ m

pub there : (kept : Kept) (id : BoxId) (stamp uid : ℕ) (m : Message) → message_at kept id stamp uid ≡ Some m → IsThere kept id stamp uid m
there kept id stamp uid m is = by_stamp (stamp_at kept id) refl is
  where
    by_entry : (box : Mailbox) (o : Option Entry) → stamp_at kept id ≡ Some stamp → mailbox_at kept id ≡ Some box → find (λ (e : Entry). e.uid == uid) box.entries ≡ o → option_map (message_of kept) o ≡ Some m → IsThere kept id stamp uid m
    by_entry box None stamped here found is = absurd (cc is)
    by_entry box (Some entry) stamped here found is = record { stamped = stamped; box = box; there = here; entry = entry; found = found; is = cc is }

    by_box : (o : Option Mailbox) → stamp_at kept id ≡ Some stamp → mailbox_at kept id ≡ o
        → option_map (message_of kept) (find (λ (e : Entry). e.uid == uid) (unwrap_or (option_map (λ (b : Mailbox). b.entries) o) [])) ≡ Some m → IsThere kept id stamp uid m
    by_box None stamped here is = absurd (cc is)
    by_box (Some box) stamped here is = by_entry box (find (λ (e : Entry). e.uid == uid) box.entries) stamped here refl is

    by_test : (n : ℕ) (b : Bool) → (n == stamp) ≡ b → stamp_at kept id ≡ Some n → cond b (option_map (message_of kept) (entry_at kept id uid)) None ≡ Some m → IsThere kept id stamp uid m
    by_test n false e stamped is = absurd (cc is)
    by_test n true e stamped is = by_box (mailbox_at kept id) (stamped ∙ ap (λ (k : ℕ). Some k) (eqb-true n stamp e)) refl is

    by_stamp : (o : Option ℕ) → stamp_at kept id ≡ o → cond (option_map_or (λ n. n == stamp) o false) (option_map (message_of kept) (entry_at kept id uid)) None ≡ Some m → IsThere kept id stamp uid m
    by_stamp None stamped is = absurd (cc is)
    by_stamp (Some n) stamped is = by_test n (n == stamp) refl stamped is

-- the entry has a text
pub text_there : (kept : Kept) (boxes : List (BoxId × Mailbox)) (id : BoxId) (uid : ℕ) (box : Mailbox) (e : Entry) → all_bodies (has_text_kept kept) boxes ≡ true → row_at id boxes ≡ Some box
    → find (λ (x : Entry). x.uid == uid) box.entries ≡ Some e → (text : List ℕ) × (text_kept kept e.body ≡ Some text)
text_there kept boxes id uid box e texts here found =
    some_of (text_kept kept e.body)
    (row_has (λ (r : BoxId × Mailbox). list_all (λ (x : Entry). has_text_kept kept x.body) r.1.entries) (λ (m : Mailbox). find (λ (x : Entry). x.uid == uid) m.entries ≡ Some e → has_text_kept kept e.body ≡ true)
    (λ r all at. found_among (λ (x : Entry). x.uid == uid) (λ (x : Entry). has_text_kept kept x.body) r.1.entries e all at) boxes id box texts here found)

-- it is the same mail under the same UID
same_entry : (a b : Mailbox) (uid : ℕ) (e f : Entry) → uids_rise 0 a.entries a.next ≡ true → extends a b ≡ true → find (λ (x : Entry). x.uid == uid) a.entries ≡ Some e → find (λ (x : Entry). x.uid == uid) b.entries ≡ Some f → same_mail f e ≡ true
same_entry a b uid e f rise ext first second =
    let under : e.uid ≡ uid = eqb-true e.uid uid (found_passes (λ (x : Entry). x.uid == uid) a.entries e first) in
    let also : f.uid ≡ uid = eqb-true f.uid uid (found_passes (λ (x : Entry). x.uid == uid) b.entries f second) in
    let low : e.uid < a.next = found_below 0 a.entries a.next (λ (x : Entry). x.uid == uid) e rise first in
    let old : is_old a f ≡ true = found_among (λ (x : Entry). x.uid == uid) (is_old a) b.entries f (second_so (nat_le a.next b.next) (list_all (is_old a) b.entries) ext) second in
    let under_next : nat_le a.next f.uid ≡ false = grind (arith, nat_tests) in
    same_found 0 a.entries a.next uid f e rise also first (ap (λ (v : Bool). v || list_any (same_mail f) a.entries) (sym under_next) ∙ old)

-- one message, where UIDs last
pub one_message : (a b : Kept) (id : BoxId) (stamp uid : ℕ) (m n : Message) → IsSound a → RevsBelow a → IsValid (store_of a) → IsSound b → all_bodies (has_text_kept a) (store_of a).boxes ≡ true → all_bodies (has_text_kept b) (store_of b).boxes ≡ true
    → UidsLast a b → message_at a id stamp uid ≡ Some m → message_at b id stamp uid ≡ Some n → m ≡ n
one_message a b id stamp uid m n sound revs valid later texts_a texts_b lasts first second =
    let old = there a id stamp uid m first in
    let new = there b id stamp uid n second in
    let low : stamp < a.next = stamp_below a.stamps a.next id stamp sound.fresh old.stamped in
    let ext : extends old.box new.box ≡ true = subst (λ (o : Option Mailbox). extends_one o new.box ≡ true) old.there (lasts.stamps id stamp new.box low new.stamped new.there).1 in
    let rise : uids_rise 0 old.box.entries old.box.next ≡ true = row_has (is_row (store_of a).house) (λ (x : Mailbox). uids_rise 0 x.entries x.next ≡ true) (λ r row. second_so _ (uids_rise 0 r.1.entries r.1.next) row) (store_of a).boxes id old.box valid.rows old.there in
    let same : same_mail new.entry old.entry ≡ true = same_entry old.box new.box uid old.entry new.entry rise ext old.found new.found in
    let key : new.entry.key ≡ old.entry.key = one_key new.entry.key old.entry.key (second_so (new.entry.uid == old.entry.uid) (same_key new.entry.key old.entry.key) (first_so _ (same_body new.entry.body old.entry.body) same)) in
    let body : new.entry.body ≡ old.entry.body = one_body new.entry.body old.entry.body (second_so _ (same_body new.entry.body old.entry.body) same) in
    let had = text_there a (store_of a).boxes id uid old.box old.entry texts_a old.there old.found in
    let has = text_there b (store_of b).boxes id uid new.box new.entry texts_b new.there new.found in
    let given = kept_below a old.entry.body had.0 sound revs had.1 in
    let at_hand : text_at_hand a old.entry.body ≡ Some has.0 = lasts.texts old.entry.body has.0 given.0 given.1 (kept_at_hand b old.entry.body has.0 later.undone (ap (text_kept b) (sym body) ∙ has.1)) in
    let kept : text_kept a old.entry.body ≡ Some has.0 = had.1 ∙ sym (kept_at_hand a old.entry.body had.0 sound.undone had.1) ∙ at_hand in
    let text : text_kept a old.entry.body ≡ text_kept b new.entry.body = kept ∙ sym has.1 in
    sym old.is ∙ (λ j. record { key = sym key j; text = text j }) ∙ new.is
