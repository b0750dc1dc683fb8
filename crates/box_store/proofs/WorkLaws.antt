-- Mailboxes that are left, joined and deleted.
use Rattle.std.proofs.Common.{◌≡◌, ℕ, suc, ◌+◌, ◌<◌, ◌≤◌, ◌^◌, Bool, true, false, not, cond, List, [], ◌∷◌, Option, Some, None, option_map, unwrap_or, is_some, length, bytes_eq, arith, refl, sym, ap, ◌∙◌, subst}
use Rattle.std.specs.Ordering.{eq_by_cmp}
use Rattle.undo_base.specs.declared.keys.User.{User}
use Rattle.undo_base.specs.declared.keys.Key.{Key}
use Rattle.verb_core.specs.declared.item.Way.TheVariants.{Plain, NoSource, Merged}
use Rattle.verb_core.specs.declared.mailbox.BoxId.{BoxId}
use Rattle.verb_core.specs.declared.mailbox.Entry.{Entry}
use Rattle.verb_core.specs.declared.mailbox.Mailbox.{Mailbox}
use Rattle.verb_core.specs.Names.{inbox, lost_found, is_fixed}
use Rattle.verb_core.specs.Mailboxes.{no_mail, put_all, with_entries, emptied, expunged, without, is_among}
use Rattle.verb_core.specs.Boxes.{box_cmp, box_of, is_rising, has_row, row_at, add_row, drop_row, change_row, mail_at, next_at}
use Rattle.verb_core.specs.Step.{Boxes, left, inbox_renamed, after_rename, saved, deleted, created, all_created}
use Rattle.verb_core.proofs.BoxLaws.{row_at-change_row, row_at-drop_row, rising-add_row, rising-change_row}
use Rattle.verb_core.proofs.Moves.{stays_empty, rising-left}
use Rattle.verb_core.proofs.RowLists.{rising-all_created, rising-created}
use Rattle.box_store.proofs.Renames.{rising-all_moved}
use Rattle.mail_rows.specs.declared.change.Put.{Put}
use Rattle.box_store.specs.declared.effect.Move.{Move}
use Rattle.box_store.specs.declared.effect.Work.{Work}
use Rattle.box_store.specs.declared.effect.Work.TheVariants.{Puts, Flags, Expunge, Remove, Create, Rename, Delete}
use Rattle.mail_rows.specs.Mail.{all_flags_set}
use Rattle.box_store.specs.Effects.{HasSpares, all_moved, row_moved, put_each, worked}

entries_of : Option Mailbox → List Entry
entries_of o = unwrap_or (option_map (λ (m : Mailbox). m.entries) o) []

next_of : Option Mailbox → ℕ
next_of o = unwrap_or (option_map (λ (m : Mailbox). m.next) o) 0

-- no mailbox has more after another was left
record NoMore (o p : Option Mailbox) : Type 0 where
  entries : length (entries_of o) ≤ length (entries_of p)
  next : next_of o ≤ next_of p

no_more_emptied : (b : Bool) (o : Option Mailbox) → NoMore (cond b (option_map emptied o) o) o
unfolding entries_of next_of
no_more_emptied true None = record { entries = omega arith; next = omega arith }
no_more_emptied true (Some m) = record { entries = omega arith; next = omega arith }
no_more_emptied false o = record { entries = omega arith; next = omega arith }

no_more_dropped : (b : Bool) (o : Option Mailbox) → NoMore (cond b None o) o
unfolding entries_of next_of
no_more_dropped true o = record { entries = omega arith; next = omega arith }
no_more_dropped false o = record { entries = omega arith; next = omega arith }

no_more_left : (q : BoxId) (u : User) (source : List ℕ) (rs : Boxes) → NoMore (row_at q (left u source rs)) (row_at q rs)
no_more_left q u source rs =
    elim (stays_empty u source rs) as (λ b. NoMore (row_at q (cond b (change_row (box_of u source) emptied rs) (drop_row (box_of u source) rs))) (row_at q rs)) [
      | true ↦ subst (λ (o : Option Mailbox). NoMore o (row_at q rs)) (sym (row_at-change_row q (box_of u source) emptied rs)) (no_more_emptied (eq_by_cmp box_cmp (box_of u source) q) (row_at q rs))
      | false ↦ subst (λ (o : Option Mailbox). NoMore o (row_at q rs)) (sym (row_at-drop_row q (box_of u source) rs)) (no_more_dropped (eq_by_cmp box_cmp (box_of u source) q) (row_at q rs))
    ]

spared_no_more : (q : BoxId) (n k : ℕ) (spares : List ℕ) (rs ss : Boxes) → k ≤ n → NoMore (row_at q ss) (row_at q rs) → HasSpares ((q, n) ∷ []) spares rs → HasSpares ((q, k) ∷ []) spares ss
unfolding entries_of next_of
spared_no_more q n k [] rs ss le more has = absurd has
spared_no_more q n k (s ∷ spares) rs ss le more has =
    let room : length (mail_at q rs) + n ≤ s = has.0 in
    let uids : next_at q rs + n < 2 ^ 64 = has.1 in
    let fewer : length (mail_at q ss) ≤ length (mail_at q rs) = more.entries in
    let lower : next_at q ss ≤ next_at q rs = more.next in
    (omega arith, omega arith, tt)

-- the spare list is large enough after another mailbox was left
pub spared_left : (q : BoxId) (u : User) (source : List ℕ) (m : Mailbox) (spares : List ℕ) (rs : Boxes) → row_at (box_of u source) rs ≡ Some m
    → HasSpares ((q, length (mail_at (box_of u source) rs)) ∷ []) spares rs → HasSpares ((q, length m.entries) ∷ []) spares (left u source rs)
spared_left q u source m spares rs is has =
    let count : length (mail_at (box_of u source) rs) ≡ length m.entries = ap (λ (o : Option Mailbox). length (unwrap_or (option_map (λ (n : Mailbox). n.entries) o) [])) is in
    spared_no_more q (length (mail_at (box_of u source) rs)) (length m.entries) spares rs (left u source rs) (omega arith) (no_more_left q u source rs) has

fewer_left : (keys : List Key) (entries : List Entry) → length (without keys entries) ≤ length entries
fewer_left keys [] = omega arith
fewer_left keys (e ∷ es) =
    let rest = fewer_left keys es in
    elim (not (is_among keys e.key)) as (λ b. length (cond b (e ∷ without keys es) (without keys es)) ≤ suc (length es)) [ true ↦ omega arith | false ↦ omega arith ]

-- and for what of it is saved
pub spared_saved : (q : BoxId) (u : User) (name : List ℕ) (keys : List Key) (m : Mailbox) (spares : List ℕ) (rs : Boxes) → row_at (box_of u name) rs ≡ Some m
    → HasSpares ((q, length (mail_at (box_of u name) rs)) ∷ []) spares rs → HasSpares ((q, length (without keys m.entries)) ∷ []) spares (left u name rs)
spared_saved q u name keys m spares rs is has =
    let count : length (mail_at (box_of u name) rs) ≡ length m.entries = ap (λ (o : Option Mailbox). length (unwrap_or (option_map (λ (n : Mailbox). n.entries) o) [])) is in
    let fewer : length (without keys m.entries) ≤ length m.entries = fewer_left keys m.entries in
    spared_no_more q (length (mail_at (box_of u name) rs)) (length (without keys m.entries)) spares rs (left u name rs) (omega arith) (no_more_left q u name rs) has

-- ---- what the parts make

same_rows_put : (id : BoxId) (rs : Boxes) → change_row id (put_all []) rs ≡ rs
same_rows_put id [] = refl
same_rows_put id (r ∷ rs) =
    elim (eq_by_cmp box_cmp id r.0) as (λ b. ◌≡◌ {A = Boxes} ((r.0, cond b (put_all [] r.1) r.1) ∷ change_row id (put_all []) rs) (r ∷ rs)) [
      | true ↦ ap (λ (t : Boxes). r ∷ t) (same_rows_put id rs)
      | false ↦ ap (λ (t : Boxes). r ∷ t) (same_rows_put id rs)
    ]

mail_is : (id : BoxId) (rs : Boxes) (o : Option Mailbox) → row_at id rs ≡ o → mail_at id rs ≡ unwrap_or (option_map (λ (m : Mailbox). m.entries) o) []
mail_is id rs o is = ap (λ (p : Option Mailbox). unwrap_or (option_map (λ (m : Mailbox). m.entries) p) []) is

pub merged_none : (u : User) (source target : List ℕ) (rs : Boxes) → row_at (box_of u source) rs ≡ None → left u source rs ≡ after_rename Merged u source target rs
merged_none u source target rs is =
    sym (same_rows_put (box_of u target) (left u source rs))
    ∙ ap (λ (es : List Entry). change_row (box_of u target) (put_all es) (left u source rs)) (sym (mail_is (box_of u source) rs None is))

pub merged_some : (u : User) (source target : List ℕ) (m : Mailbox) (rs : Boxes) → row_at (box_of u source) rs ≡ Some m
    → change_row (box_of u target) (put_all m.entries) (left u source rs) ≡ after_rename Merged u source target rs
merged_some u source target m rs is = ap (λ (es : List Entry). change_row (box_of u target) (put_all es) (left u source rs)) (sym (mail_is (box_of u source) rs (Some m) is))

pub deleted_fixed : (u : User) (name : List ℕ) (keys : List Key) (rs : Boxes) → is_fixed name ≡ true → rs ≡ deleted u name keys rs
deleted_fixed u name keys rs fixed = sym (ap (λ b. cond b rs (change_row (box_of u lost_found) (put_all (saved u name keys rs)) (left u name rs))) fixed)

deleted_other : (u : User) (name : List ℕ) (keys : List Key) (rs : Boxes) (es : List Entry) → is_fixed name ≡ false → mail_at (box_of u name) rs ≡ es
    → change_row (box_of u lost_found) (put_all (without keys es)) (left u name rs) ≡ deleted u name keys rs
deleted_other u name keys rs es free is =
    ap (λ (xs : List Entry). change_row (box_of u lost_found) (put_all (without keys xs)) (left u name rs)) (sym is)
    ∙ ap (λ b. cond b rs (change_row (box_of u lost_found) (put_all (cond b [] (without keys (mail_at (box_of u name) rs)))) (left u name rs))) (sym free)

pub deleted_none : (u : User) (name : List ℕ) (keys : List Key) (rs : Boxes) → is_fixed name ≡ false → row_at (box_of u name) rs ≡ None → left u name rs ≡ deleted u name keys rs
deleted_none u name keys rs free is =
    sym (same_rows_put (box_of u lost_found) (left u name rs))
    ∙ deleted_other u name keys rs [] free (mail_is (box_of u name) rs None is)

pub deleted_some : (u : User) (name : List ℕ) (keys : List Key) (m : Mailbox) (rs : Boxes) → is_fixed name ≡ false → row_at (box_of u name) rs ≡ Some m
    → change_row (box_of u lost_found) (put_all (without keys m.entries)) (left u name rs) ≡ deleted u name keys rs
deleted_some u name keys m rs free is = deleted_other u name keys rs m.entries free (mail_is (box_of u name) rs (Some m) is)

pub created_there : (id : BoxId) (m : Mailbox) (rs : Boxes) → row_at id rs ≡ Some m → rs ≡ created id rs
created_there id m rs is = sym (ap (λ (o : Option Mailbox). cond (is_some o) rs (add_row id no_mail rs)) is)

pub created_new : (id : BoxId) (rs : Boxes) → row_at id rs ≡ None → add_row id no_mail rs ≡ created id rs
created_new id rs is = sym (ap (λ (o : Option Mailbox). cond (is_some o) rs (add_row id no_mail rs)) is)

-- ---- the rows stay in order

rising_if : (b : Bool) (xs ys : Boxes) → is_rising xs ≡ true → is_rising ys ≡ true → is_rising (cond b xs ys) ≡ true
rising_if true xs ys h k = h
rising_if false xs ys h k = k

pub rising_changed : (id : BoxId) (f : Mailbox → Mailbox) (rs : Boxes) → is_rising rs ≡ true → is_rising (change_row id f rs) ≡ true
rising_changed id f rs h = rising-change_row id f rs ∙ h

pub rising_put : (puts : List Put) (rs : Boxes) → is_rising rs ≡ true → is_rising (put_each puts rs) ≡ true
rising_put [] rs h = h
rising_put (p ∷ ps) rs h = rising_put ps (change_row p.mailbox (put_all p.mail) rs) (rising_changed p.mailbox (put_all p.mail) rs h)

rising_inbox : (u : User) (target : List ℕ) (rs : Boxes) → is_rising rs ≡ true → is_rising (inbox_renamed u target rs) ≡ true
rising_inbox u target rs h = rising-add_row (box_of u target) (put_all (mail_at (box_of u inbox) rs) no_mail) (left u inbox rs) (rising-left u inbox rs h)

pub rising_worked : (w : Work) (rs : Boxes) → is_rising rs ≡ true → is_rising (worked w rs) ≡ true
rising_worked (Puts puts) rs h = rising_put puts rs h
rising_worked (Flags mailbox flags) rs h = rising_changed mailbox (with_entries (all_flags_set flags)) rs h
rising_worked (Expunge mailbox keys) rs h = rising_changed mailbox (with_entries (expunged keys)) rs h
rising_worked (Remove mailbox key) rs h = rising_changed mailbox (with_entries (without (key ∷ []))) rs h
rising_worked (Create u mailboxes) rs h = rising-all_created u mailboxes rs h
rising_worked (Rename NoSource u source target made moves) rs h = h
rising_worked (Rename Plain u source target made moves) rs h =
    rising_if (bytes_eq source inbox) (inbox_renamed u target (all_created u made rs)) (all_moved u moves (all_created u made rs))
    (rising_inbox u target (all_created u made rs) (rising-all_created u made rs h))
    (rising-all_moved u moves (all_created u made rs) (rising-all_created u made rs h))
rising_worked (Rename Merged u source target made moves) rs h = rising_changed (box_of u target) (put_all (mail_at (box_of u source) rs)) (left u source rs) (rising-left u source rs h)
rising_worked (Delete u mailbox keys) rs h =
    rising_if (is_fixed mailbox) rs (change_row (box_of u lost_found) (put_all (saved u mailbox keys rs)) (left u mailbox rs)) h
    (rising_changed (box_of u lost_found) (put_all (saved u mailbox keys rs)) (left u mailbox rs) (rising-left u mailbox rs h))

pub rising_leave : (u : User) (source : List ℕ) (rs : Boxes) → is_rising rs ≡ true → is_rising (left u source rs) ≡ true
rising_leave u source rs h = rising-left u source rs h

-- ---- a mailbox takes another name

dropped_none : (id : BoxId) (rs : Boxes) → row_at id rs ≡ None → drop_row id rs ≡ rs
dropped_none id [] h = refl
dropped_none id (r ∷ rs) h = elim (eq_by_cmp box_cmp id r.0) as (λ b. cond b (Some r.1) (row_at id rs) ≡ None → cond (not b) (r ∷ drop_row id rs) (drop_row id rs) ≡ r ∷ rs) [
  | true ↦ λ e. cc
  | false ↦ λ e. ap (λ (t : Boxes). r ∷ t) (dropped_none id rs e)
] h

pub moved_none : (u : User) (m : Move) (rs : Boxes) → row_at (box_of u m.from) rs ≡ None → drop_row (box_of u m.from) rs ≡ row_moved u m rs
moved_none u m rs is =
    dropped_none (box_of u m.from) rs is
    ∙ sym (ap (λ (o : Option Mailbox). unwrap_or (option_map (λ x. add_row (box_of u m.to) x (drop_row (box_of u m.from) rs)) o) rs) is)

pub moved_some : (u : User) (m : Move) (x : Mailbox) (rs : Boxes) → row_at (box_of u m.from) rs ≡ Some x → add_row (box_of u m.to) x (drop_row (box_of u m.from) rs) ≡ row_moved u m rs
moved_some u m x rs is = sym (ap (λ (o : Option Mailbox). unwrap_or (option_map (λ x. add_row (box_of u m.to) x (drop_row (box_of u m.from) rs)) o) rs) is)

pub rising_made : (id : BoxId) (rs : Boxes) → is_rising rs ≡ true → is_rising (created id rs) ≡ true
rising_made id rs h = rising-created id rs h
