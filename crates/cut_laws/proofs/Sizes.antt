-- How many mailboxes and items the records of an image leave.
use Rattle.std.proofs.Common.{◌≡◌, ℕ, suc, ◌+◌, ◌≤◌, ◌&&◌, Bool, true, false, cond, List, [], ◌∷◌, ◌++◌, length, nat_le, is_none, Option, Some, None, refl, sym, ◌∙◌, ap, subst, arith}
use Rattle.std.specs.Prelude.{option_and_then, option_map}
use Rattle.std.specs.Cmp.{first_so, second_so}
use Rattle.std.specs.List.{AllByRecursion, enumerate_from, flat_map}
use Rattle.std.specs.Int.{w32}
use Rattle.std.proofs.lemmas.Bool.{leb-true}
use Rattle.std.proofs.lemmas.List.{length-map}
use Rattle.undo_base.specs.declared.keys.User.{User}
use Rattle.seal_log.specs.Journal.{IsPayload}
use Rattle.verb_core.specs.declared.conf.Account.{Account}
use Rattle.verb_core.specs.declared.conf.Conf.{Conf}
use Rattle.verb_core.specs.declared.conf.House.{House}
use Rattle.verb_core.specs.declared.item.Item.{Item}
use Rattle.verb_core.specs.declared.mailbox.Body.{Body}
use Rattle.verb_core.specs.declared.mailbox.BoxId.{BoxId}
use Rattle.verb_core.specs.declared.mailbox.Mailbox.{Mailbox}
use Rattle.verb_core.specs.Boxes.{box_of}
use Rattle.verb_core.specs.Deeds.{act_item}
use Rattle.verb_core.specs.Mailboxes.{no_mail}
use Rattle.verb_core.specs.Names.{inbox, lost_found}
use Rattle.verb_core.specs.Store.{MailStore, is_house, is_known, opening, users_of}
use Rattle.paradox.specs.declared.reports.Report.{Report}
use Rattle.verb_bytes.specs.declared.journal.JournalRecord.{JournalRecord}
use Rattle.verb_bytes.specs.declared.journal.JournalRecord.TheVariants.{Format, Verb, Operator, Cycle, Snapshot, Upgrade, Withdraw, Base as BaseRecord, Text as TextRecord, Kept as KeptRecord}
use Rattle.verb_bytes.specs.Fields.{Field, ◌&◌, any_list_fields, bool_field, bytes_of, most_of_four, name_field, number_field, record_kind, u32_field, u64_field, user_field}
use Rattle.verb_bytes.specs.Places.{size_of}
use Rattle.verb_bytes.specs.Spelling.{aliases_fields, base_fields, entry_fields, keyed_report_fields, record_bytes, record_fields, row_fields, scoped_fields, stamp_fields}
use Rattle.verb_bytes.proofs.Sizes.{size_both, size_byte, size_name}
use Rattle.store_kept.specs.Founding.{Based, base_stands, based_on, founded, is_whole, text_stands, with_item, with_text}
use Rattle.store_kept.specs.Kept.{Kept, new_desk, passed, performed, snapshotted, upgraded}
use Rattle.cycle_rules.specs.Asking.{Due, Repeats, NoPoint, NoNumbers, Rewinds, after_cycle, cycle_due}
use Rattle.cycle_rules.specs.Repairing.{Cycled}
use Rattle.cycle_rules.specs.Withdrawals.{after_withdrawal, withdraw_due}
use Rattle.house_text.specs.Beginning.{can_begin}
use Rattle.mail_desk.proofs.Timelines.{few}
use Rattle.desk_journal.specs.Formed.{is_spelled}
use Rattle.desk_journal.specs.Founding.{Fore, based_by, behind, first_fore, fore_after, fore_of, front, kept_stands, opening_state, own, settled, settled_by}
use Rattle.desk_journal.specs.Permanence.{IsSound}
use Rattle.desk_journal.specs.Records.{after_due, after_record, after_records, can_follow, can_keep, can_rewind, is_true, payloads_of, state}
use Rattle.desk_journal.proofs.Fronts.{two_parts}
use Rattle.cut_laws.specs.Cuts.{CanBeCut}

-- ---- items

-- no more than there are numbers
pub few_items : (kept : Kept) → IsSound kept → CanBeCut kept → length kept.timeline ≤ 4194304
few_items kept sound can =
    let least : length kept.timeline ≤ kept.next = few kept.next kept.timeline sound.timeline.apart sound.below in
    let most : kept.next ≤ 4194304 = can.next in
    omega (arith, least, most)

-- ---- no record changes the base

some_when : (b : Bool) (x new : Kept) → cond b (Some x) None ≡ Some new → x ≡ new
some_when true x new e = cc
some_when false x new e = absurd (cc e)

base_of_some : (b : Bool) (old x new : Kept) → x.base ≡ old.base → cond b (Some x) None ≡ Some new → new.base ≡ old.base
base_of_some b old x new same e = ap (λ (k : Kept). k.base) (sym (some_when b x new e)) ∙ same

base_when : (b : Bool) (o : Option Kept) (old new : Kept) → (o ≡ Some new → new.base ≡ old.base) → cond b o None ≡ Some new → new.base ≡ old.base
base_when true o old new same e = same e
base_when false o old new same e = absurd (cc e)

due_base : (after : Cycled → Kept) (old new : Kept) → ((due : Cycled) → (after due).base ≡ old.base) → (d : Due) → after_due after d ≡ Some new → new.base ≡ old.base
due_base after old new same (Repeats report) e = absurd (cc e)
due_base after old new same NoPoint e = absurd (cc e)
due_base after old new same NoNumbers e = absurd (cc e)
due_base after old new same (Rewinds due) e = let is : after due ≡ new = cc e in ap (λ (k : Kept). k.base) (sym is) ∙ same due

marked_base : (b : Bool) (old : Kept) → (cond b (snapshotted old) (record old { marks = passed old.marks })).base ≡ old.base
marked_base true old = refl
marked_base false old = refl

record_base : (old new : Kept) (r : JournalRecord) → after_record old r ≡ Some new → new.base ≡ old.base
record_base old new (Verb i) e = base_of_some (is_spelled (Verb i) && can_follow old i) old (performed old i) new refl e
record_base old new (Operator number at act) e = base_of_some (is_spelled (Operator number at act) && can_follow old (act_item number at act)) old (performed old (act_item number at act)) new refl e
record_base old new (Cycle number at ask) e =
    base_when (is_spelled (Cycle number at ask) && can_rewind old number ask) (after_due (after_cycle old ask) (cycle_due old at ask)) old new
    (due_base (after_cycle old ask) old new (λ due. refl) (cycle_due old at ask)) e
record_base old new (Snapshot items conf rows) e =
    base_of_some (is_spelled (Snapshot items conf rows) && can_keep old items conf rows) old
    (cond (is_true old (Snapshot items conf rows)) (snapshotted old) (record old { marks = passed old.marks })) new (marked_base (is_true old (Snapshot items conf rows)) old) e
record_base old new (Upgrade at) e = base_of_some _ old (upgraded old) new refl e
record_base old new (Withdraw number at key of) e =
    base_when _ (after_due (after_withdrawal old key) (withdraw_due old at key of)) old new (due_base (after_withdrawal old key) old new (λ due. refl) (withdraw_due old at key of)) e
record_base old new _ e = absurd (cc e)

records_base : (old new : Kept) (rs : List JournalRecord) → after_records old rs ≡ Some new → new.base ≡ old.base
records_base old new [] e = let same : old ≡ new = cc e in ap (λ (k : Kept). k.base) (sym same)
records_base old new (r ∷ rs) e = by (λ next is. records_base next new rs is) (after_record old r) refl e
  where
    by : ((next : Kept) → after_records next rs ≡ Some new → new.base ≡ next.base) → (o : Option Kept) → after_record old r ≡ o → option_and_then (λ (k : Kept). after_records k rs) o ≡ Some new → new.base ≡ old.base
    by rest None is e = absurd (cc e)
    by rest (Some next) is e = rest next e ∙ record_base old next r is

-- ---- the mailboxes of a Base

pub size_is : (fields : List Field) → size_of fields ≡ length (bytes_of fields)
unfolding size_of
size_is fields = refl

pub size_behind : (x y : List Field) (n : ℕ) → n ≤ size_of y → n ≤ size_of (x ++ y)
size_behind x y n le = omega (arith, le, size_both x y)

pub size_before : (x y : List Field) (n : ℕ) → n ≤ size_of x → n ≤ size_of (x ++ y)
size_before x y n le = omega (arith, le, size_both x y)

-- a mailbox takes two bytes at least
row_size : (r : BoxId × Mailbox) → 2 ≤ size_of (row_fields r)
row_size r =
    let more = u64_field r.1.next & any_list_fields entry_fields r.1.entries in
    omega (arith, size_byte 0 199 r.0.user.0, size_name r.0.name, size_both (user_field r.0.user) (name_field r.0.name & more), size_both (name_field r.0.name) more)

rows_size : (rows : List (BoxId × Mailbox)) → length rows + length rows ≤ size_of (flat_map row_fields rows)
rows_size [] = omega arith
rows_size (r ∷ rows) = omega (arith, size_both (row_fields r) (flat_map row_fields rows), row_size r, rows_size rows)

-- so that a payload with a frame has not too many
framed_rows : (next : ℕ) (deep : Bool) (conf : Conf) (rows : List (BoxId × Mailbox)) (stamps : List (BoxId × ℕ)) (reports : List (List ℕ × Report)) → IsPayload (record_bytes (BaseRecord next deep conf rows stamps reports))
    → length rows ≤ 2147483647
framed_rows next deep conf rows stamps reports framed =
    let last = any_list_fields stamp_fields stamps & any_list_fields keyed_report_fields reports in
    let mailboxes = any_list_fields row_fields rows in
    let filters = any_list_fields (scoped_fields 0) conf.filters in
    let count = length rows + length rows in
    let fields = record_fields (BaseRecord next deep conf rows stamps reports) in
    let room : count ≤ size_of fields =
    size_behind (record_kind 8) (base_fields next deep conf rows stamps reports) count
    (size_behind (u32_field next) (bool_field deep & aliases_fields conf.aliases & filters & mailboxes & last) count
    (size_behind (bool_field deep) (aliases_fields conf.aliases & filters & mailboxes & last) count
    (size_behind (aliases_fields conf.aliases) (filters & mailboxes & last) count
    (size_behind filters (mailboxes & last) count (size_before mailboxes last count (size_behind (number_field w32 most_of_four (length rows)) (flat_map row_fields rows) count (rows_size rows))))))) in
    omega (arith, room, size_is fields, framed)

-- ---- those of a front

abbrev FewRows : Option Based → Type 0
FewRows None = Unit {0}
FewRows (Some b) = length b.rows ≤ 2147483647

some_based : (b : Bool) (x y : Based) → cond b (Some x) None ≡ Some y → x ≡ y
some_based true x y e = cc
some_based false x y e = absurd (cc e)

few_as : (b : Bool) (x y : Based) → length x.rows ≤ 2147483647 → cond b (Some x) None ≡ Some y → length y.rows ≤ 2147483647
few_as b x y le e = subst (λ (z : Based). length z.rows ≤ 2147483647) (some_based b x y e) le

text_few : (o : Option Based) (body : Body) (text : List ℕ) (b : Based) → FewRows o
    → option_and_then (λ (a : Based). cond (is_spelled (TextRecord body text) && text_stands a body) (Some (with_text a body text)) None) o ≡ Some b → length b.rows ≤ 2147483647
text_few None body text b le e = absurd (cc e)
text_few (Some a) body text b le e = few_as (is_spelled (TextRecord body text) && text_stands a body) (with_text a body text) b le e

kept_few : (house : House) (o : Option Based) (i : Item) (b : Based) → FewRows o
    → option_and_then (λ (a : Based). cond (is_spelled (KeptRecord i) && kept_stands house a i) (Some (with_item a i)) None) o ≡ Some b → length b.rows ≤ 2147483647
kept_few house None i b le e = absurd (cc e)
kept_few house (Some a) i b le e = few_as (is_spelled (KeptRecord i) && kept_stands house a i) (with_item a i) b le e

based_few : (f : Fore) (r : JournalRecord) (b : Based) → FewRows f.based → IsPayload (record_bytes r) → based_by f r ≡ Some b → length b.rows ≤ 2147483647
based_few f (BaseRecord next deep conf rows stamps reports) b le framed e =
    let new = based_on next deep conf rows stamps reports in
    few_as (is_spelled (BaseRecord next deep conf rows stamps reports) && is_none f.based && base_stands f.house new) new b (framed_rows next deep conf rows stamps reports framed) e
based_few f (TextRecord body text) b le framed e = text_few f.based body text b le e
based_few f (KeptRecord i) b le framed e = kept_few f.house f.based i b le e
based_few f _ b le framed e = absurd (cc e)

own_few : (f g : Fore) (r : JournalRecord) → FewRows f.based → IsPayload (record_bytes r) → own f r ≡ Some g → FewRows g.based
own_few f g r le framed e = by (based_by f r) refl e
  where
    by : (o : Option Based) → based_by f r ≡ o → option_map (λ (b : Based). record f { based = Some b }) o ≡ Some g → FewRows g.based
    by None is e = absurd (cc e)
    by (Some b) is e = let same : record f { based = Some b } ≡ g = cc e in subst (λ (h : Fore). FewRows h.based) same (based_few f r b le framed is)

fore_few : (f g : Fore) (rs : List JournalRecord) → FewRows f.based → AllByRecursion IsPayload (payloads_of rs) → fore_after f rs ≡ Some g → FewRows g.based
fore_few f g [] le framed e = let same : f ≡ g = cc e in subst (λ (h : Fore). FewRows h.based) same le
fore_few f g (r ∷ rs) le framed e = by (λ h few is. fore_few h g rs few framed.1 is) (own f r) refl e
  where
    by : ((h : Fore) → FewRows h.based → fore_after h rs ≡ Some g → FewRows g.based) → (o : Option Fore) → own f r ≡ o → option_and_then (λ (h : Fore). fore_after h rs) o ≡ Some g → FewRows g.based
    by rest None is e = absurd (cc e)
    by rest (Some h) is e = rest h (own_few f h r le framed.0 is) e

first_few : (r : JournalRecord) (f : Fore) → first_fore r ≡ Some f → FewRows f.based
first_few (Format house conf) f e = by (is_spelled (Format house conf) && can_begin house conf) e
  where
    by : (b : Bool) → cond b (Some (let plain : Fore = record { house = house; opening = conf; based = None } in plain)) None ≡ Some f → FewRows f.based
    by true e =
        let plain : Fore = record { house = house; opening = conf; based = None } in
        let same : plain ≡ f = cc e in
        subst (λ (h : Fore). FewRows h.based) same tt
    by false e = absurd (cc e)
first_few _ f e = absurd (cc e)

front_few : (rs : List JournalRecord) (f : Fore) → AllByRecursion IsPayload (payloads_of rs) → fore_of rs ≡ Some f → FewRows f.based
front_few [] f framed e = absurd (cc e)
front_few (r ∷ rs) f framed e = by (first_fore r) refl e
  where
    by : (o : Option Fore) → first_fore r ≡ o → option_and_then (λ (g : Fore). fore_after g rs) o ≡ Some f → FewRows f.based
    by None is e = absurd (cc e)
    by (Some g) is e = fore_few g f rs (first_few r g is) framed.1 e

-- ---- at first

abbrev first_rows : List User → List (BoxId × Mailbox)
first_rows us = flat_map (λ (u : User). (box_of u inbox, no_mail) ∷ (box_of u lost_found, no_mail) ∷ []) us

first_length : (us : List User) → length (first_rows us) ≡ length us + length us
first_length [] = refl
first_length (u ∷ us) = let rest : length (first_rows us) ≡ length us + length us = first_length us in omega (arith, rest)

length_enumerated : (n : ℕ) (xs : List Account) → length (enumerate_from n xs) ≡ length xs
length_enumerated n [] = refl
length_enumerated n (x ∷ xs) = ap suc (length_enumerated (n + 1) xs)

-- a house has 200 users at most
pub few_users : (house : House) → is_house house ≡ true → length house.accounts ≤ 200
few_users house is =
    let count = nat_le 1 (length house.accounts) && nat_le (length house.accounts) 200 in
    let known = is_known house house.postmaster in
    let two = first_so (count && known && nat_le 2 house.first) (nat_le house.first 4194303) is in
    let one = first_so count known (first_so (count && known) (nat_le 2 house.first) two) in
    leb-true (length house.accounts) 200 (second_so (nat_le 1 (length house.accounts)) (nat_le (length house.accounts) 200) one)

pub opening_length : (house : House) (conf : Conf) → is_house house ≡ true → length (opening house conf).boxes ≤ 400
opening_length house conf is =
    let twice : length (first_rows (users_of house)) ≡ length (users_of house) + length (users_of house) = first_length (users_of house) in
    let many : length (users_of house) ≡ length (enumerate_from 0 house.accounts) = length-map (enumerate_from 0 house.accounts) (λ (a : ℕ × Account). record { 0 = a.0 }) in
    let all : length (enumerate_from 0 house.accounts) ≡ length house.accounts = length_enumerated 0 house.accounts in
    let most : length house.accounts ≤ 200 = few_users house is in
    omega (arith, twice, many, all, most)

opening_few : (house : House) (conf : Conf) → is_house house ≡ true → length (opening house conf).boxes ≤ 2147483647
opening_few house conf is = let le : length (opening house conf).boxes ≤ 400 = opening_length house conf is in omega (arith, le)

-- what a front leaves
settled_few : (house : House) (conf : Conf) (o : Option Based) (kept : Kept) → FewRows o → settled_by house conf o ≡ Some kept → is_house kept.house ≡ true → length kept.base.boxes ≤ 2147483647
settled_few house conf None kept le e is =
    let same : new_desk house conf ≡ kept = cc e in
    subst (λ (k : Kept). length k.base.boxes ≤ 2147483647) same (opening_few house conf (subst (λ (k : Kept). is_house k.house ≡ true) (sym same) is))
settled_few house conf (Some b) kept le e is = subst (λ (k : Kept). length k.base.boxes ≤ 2147483647) (some_when (is_whole house b) (founded house conf b) kept e) le

first_framed : (first more : List JournalRecord) → AllByRecursion IsPayload (payloads_of (first ++ more)) → AllByRecursion IsPayload (payloads_of first)
first_framed [] more framed = tt
first_framed (r ∷ first) more framed = (framed.0, first_framed first more framed.1)

-- and what all records of an image leave
pub few_mailboxes : (records : List JournalRecord) (kept : Kept) → ((first : Kept) → opening_state (front records) ≡ Some first → IsSound first) → AllByRecursion IsPayload (payloads_of records) → state records ≡ Some kept
    → length kept.base.boxes ≤ 2147483647
few_mailboxes records kept sound framed is = by (fore_of (front records)) refl is
  where
    within : AllByRecursion IsPayload (payloads_of (front records))
    within = first_framed (front records) (behind records) (subst (λ (rs : List JournalRecord). AllByRecursion IsPayload (payloads_of rs)) (sym (two_parts records)) framed)

    then : (f : Fore) → fore_of (front records) ≡ Some f → (o : Option Kept) → settled f ≡ o → option_and_then (λ (k : Kept). after_records k (behind records)) o ≡ Some kept → length kept.base.boxes ≤ 2147483647
    then f e None left is = absurd (cc is)
    then f e (Some first) left is =
        subst (λ (base : MailStore). length base.boxes ≤ 2147483647) (sym (records_base first kept (behind records) is))
        (settled_few f.house f.opening f.based first (front_few (front records) f within e) left (sound first (ap (option_and_then settled) e ∙ left)).house)

    by : (o : Option Fore) → fore_of (front records) ≡ o → option_and_then (λ (k : Kept). after_records k (behind records)) (option_and_then settled o) ≡ Some kept → length kept.base.boxes ≤ 2147483647
    by None e is = absurd (cc is)
    by (Some f) e is = then f e (settled f) refl is
