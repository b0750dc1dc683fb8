-- A step keeps a store in the ranges of records.
use Rattle.std.proofs.Common.{◌≡◌, ℕ, suc, ◌+◌, ◌*◌, ◌≤◌, Bool, true, false, not, cond, ◌||◌, List, [], ◌∷◌, ◌++◌, length, map, filter, Less, Equal, Greater, refl, arith, bytes_eq, ◌∙◌, length-append}
use Rattle.std.specs.Prelude.{IsTrue}
use Rattle.std.specs.List.{AllByRecursion}
use Rattle.std.specs.Ordering.{eq_by_cmp}
use Rattle.std.specs.FinMap.Entries as rows
use Rattle.std.proofs.lemmas.List.{length-map}
use Rattle.undo_base.specs.declared.asks.How.TheVariants.{Add}
use Rattle.undo_base.specs.declared.keys.Key.{Key}
use Rattle.undo_base.specs.declared.keys.User.{User}
use Rattle.undo_base.specs.Name.{IsName}
use Rattle.verb_core.specs.declared.conf.Conf.{Conf}
use Rattle.verb_core.specs.declared.conf.House.{House}
use Rattle.verb_core.specs.declared.item.Act.TheVariants.{Remove}
use Rattle.verb_core.specs.declared.item.Aim.{Aim}
use Rattle.verb_core.specs.declared.item.Deed.{Deed}
use Rattle.verb_core.specs.declared.item.Deed.TheVariants.{Fetch, Store, Copy, Expunge, Close, Create, Rename, Delete, Act as Acts, Notice}
use Rattle.verb_core.specs.declared.item.Item.{Item}
use Rattle.verb_core.specs.declared.item.Way.{Way}
use Rattle.verb_core.specs.declared.item.Way.TheVariants.{Plain, NoSource, Merged}
use Rattle.verb_core.specs.declared.mailbox.BoxId.{BoxId}
use Rattle.verb_core.specs.declared.mailbox.Entry.{Entry}
use Rattle.verb_core.specs.declared.mailbox.Mailbox.{Mailbox}
use Rattle.verb_core.specs.Aims.{box_aimed, sought_by}
use Rattle.verb_core.specs.Boxes.{add_row, add_rows, box_cmp, box_of, change_row, drop_row, has_inferior, has_row, is_at_or_below, mail_at}
use Rattle.verb_core.specs.Items.{actor, keys_in}
use Rattle.verb_core.specs.Mailboxes.{emptied, expunged, no_flags, no_mail, put_all, reflagged, with_entries, without}
use Rattle.verb_core.specs.Names.{inbox, is_fixed, lost_found, moved_name, superiors, with_superiors}
use Rattle.verb_core.specs.Step.{Boxes, after_rename, all_created, created, created_below, deleted, inbox_renamed, left, moved, new_mail, put_at, rearranged, run, saved, step, way_of}
use Rattle.verb_core.specs.Store.{MailStore, is_house, opening, users_of}
use Rattle.verb_bytes.specs.Limits.{IsAsked, IsDeed}
use Rattle.dialog_laws.specs.Ranges.{IsKeeping, IsStored, IsStoredEntry, names_made}
use Rattle.cut_laws.proofs.Sizes.{opening_length}
use Rattle.kept_laws.proofs.Fits as fits
use Rattle.kept_laws.proofs.Rows as kept
use Rattle.kept_laws.proofs.Lists.{either, filter_no_longer}
use Rattle.dialog_laws.proofs.Boxes.{AreRows}
use Rattle.kept_laws.proofs.NamesMade.{few_superiors}

-- ---- rows

-- the names under which an item may put a mailbox
made_named : (d : Deed) → AllByRecursion IsName (names_made d) → AllByRecursion IsName (fits.names_made d)
made_named (Create mailbox) h = h
made_named (Rename mailbox target) h = h
made_named _ h = tt

step_rows : (s : MailStore) (i : Item) → AreRows s.boxes → IsKeeping i → AreRows (step s i).0.boxes
step_rows s i h keeping =
    kept.step_rows IsStoredEntry (λ (at : ℕ). Unit {0}) (λ e uid flags is. is) (λ e number index le lt is. ((omega (arith, le), lt), is.1))
    (λ i index flags at number rev lt moment. ((omega (arith, number), lt), rev)) s i h keeping.number keeping.rev tt keeping.few (made_named i.deed keeping.names)

-- ---- how many mailboxes there are

length_changed : (id : BoxId) (f : Mailbox → Mailbox) (rs : Boxes) → length (change_row id f rs) ≡ length rs
length_changed id f rs = length-map rs (λ (r : BoxId × Mailbox). (r.0, cond (eq_by_cmp box_cmp id r.0) (f r.1) r.1))

length_dropped : (id : BoxId) (rs : Boxes) → length (drop_row id rs) ≤ length rs
length_dropped id rs = filter_no_longer _ rs

length_added : (id : BoxId) (m : Mailbox) (rs : Boxes) → length (add_row id m rs) ≤ length rs + 1
length_added id m [] = omega arith
length_added id m (r ∷ rs) =
    let rest : length (add_row id m rs) ≤ length rs + 1 = length_added id m rs in
    elim (box_cmp id r.0) as (λ o. length (rows.by_order o ((id, m) ∷ r ∷ rs) ((r.0, m) ∷ rs) (r ∷ add_row id m rs)) ≤ suc (length rs) + 1) [
      | Less ↦ omega arith
      | Equal ↦ omega arith
      | Greater ↦ omega (arith, rest)
    ]

length_put : (mail : ℕ → List Entry) (aims : List Aim) (rs : Boxes) → length (put_at mail aims rs) ≡ length rs
length_put mail [] rs = refl
length_put mail (a ∷ aims) rs = length_put mail aims (change_row (box_aimed a) (put_all (mail a.index)) rs) ∙ length_changed (box_aimed a) (put_all (mail a.index)) rs

abbrev NoLonger : ℕ → Boxes → Type 0
NoLonger n rs = length rs ≤ n

length_left : (u : User) (source : List ℕ) (rs : Boxes) → length (left u source rs) ≤ length rs
length_left u source rs =
    let same : length (change_row (box_of u source) emptied rs) ≡ length rs = length_changed (box_of u source) emptied rs in
    either (NoLonger (length rs)) (bytes_eq source inbox || has_inferior u source rs) (change_row (box_of u source) emptied rs) (drop_row (box_of u source) rs) (omega (arith, same)) (length_dropped (box_of u source) rs)

no_more : (n m : ℕ) → n ≡ m → n ≤ m + 200
no_more n m e = omega (arith, e)

length_created : (u : User) (names : List (List ℕ)) (rs : Boxes) → length (all_created u names rs) ≤ length rs + length names
length_created u [] rs = omega arith
length_created u (n ∷ names) rs =
    let added : length (add_row (box_of u n) no_mail rs) ≤ length rs + 1 = length_added (box_of u n) no_mail rs in
    let one : length (created (box_of u n) rs) ≤ length rs + 1 = either (NoLonger (length rs + 1)) (has_row (box_of u n) rs) rs (add_row (box_of u n) no_mail rs) (omega arith) added in
    let rest : length (all_created u names (created (box_of u n) rs)) ≤ length (created (box_of u n) rs) + length names = length_created u names (created (box_of u n) rs) in
    omega (arith, one, rest)

length_made : (u : User) (name : List ℕ) (rs : Boxes) → IsName name → length (created_below u name rs) ≤ length rs + 200
length_made u name rs is =
    let all : length (all_created u (with_superiors name) rs) ≤ length rs + length (superiors name ++ name ∷ []) = length_created u (with_superiors name) rs in
    let joined : length (superiors name ++ name ∷ []) ≡ length (superiors name) + 1 = length-append (superiors name) (name ∷ []) in
    let few : length (superiors name) + 1 ≤ 200 = few_superiors name is in
    either (NoLonger (length rs + 200)) (has_row (box_of u name) rs) rs (all_created u (with_superiors name) rs) (omega arith) (omega (arith, all, joined, few))

length_joined : (cs rs : Boxes) → length (add_rows cs rs) ≤ length cs + length rs
length_joined [] rs = omega arith
length_joined (c ∷ cs) rs =
    let added : length (add_row c.0 c.1 (add_rows cs rs)) ≤ length (add_rows cs rs) + 1 = length_added c.0 c.1 (add_rows cs rs) in
    let rest : length (add_rows cs rs) ≤ length cs + length rs = length_joined cs rs in
    omega (arith, added, rest)

length_parted : (p : BoxId × Mailbox → Bool) (rs : Boxes) → length (filter p rs) + length (filter (λ r. not (p r)) rs) ≡ length rs
length_parted p [] = refl
length_parted p (r ∷ rs) =
    let rest : length (filter p rs) + length (filter (λ r. not (p r)) rs) ≡ length rs = length_parted p rs in
    elim (p r) as (λ b. length (cond b (r ∷ filter p rs) (filter p rs)) + length (cond (not b) (r ∷ filter (λ r. not (p r)) rs) (filter (λ r. not (p r)) rs)) ≡ suc (length rs)) [
      | true ↦ omega (arith, rest)
      | false ↦ omega (arith, rest)
    ]

length_moved : (u : User) (source target : List ℕ) (rs : Boxes) → length (moved u source target rs) ≤ length rs
length_moved u source target rs =
    let joined : length (moved u source target rs) ≤ length {A = BoxId × Mailbox} (map (λ (r : BoxId × Mailbox). (box_of u (moved_name source target r.0.name), r.1)) (filter (λ (r : BoxId × Mailbox). is_at_or_below u source r.0) rs)) + length (filter (λ (r : BoxId × Mailbox). not (is_at_or_below u source r.0)) rs) =
    length_joined (map {B = BoxId × Mailbox} (λ (r : BoxId × Mailbox). (box_of u (moved_name source target r.0.name), r.1)) (filter (λ (r : BoxId × Mailbox). is_at_or_below u source r.0) rs)) (filter (λ (r : BoxId × Mailbox). not (is_at_or_below u source r.0)) rs) in
    let same : length {A = BoxId × Mailbox} (map (λ (r : BoxId × Mailbox). (box_of u (moved_name source target r.0.name), r.1)) (filter (λ (r : BoxId × Mailbox). is_at_or_below u source r.0) rs)) ≡ length (filter (λ (r : BoxId × Mailbox). is_at_or_below u source r.0) rs) =
    length-map (filter (λ (r : BoxId × Mailbox). is_at_or_below u source r.0) rs) (λ (r : BoxId × Mailbox). (box_of u (moved_name source target r.0.name), r.1)) in
    let parted : length (filter (λ (r : BoxId × Mailbox). is_at_or_below u source r.0) rs) + length (filter (λ (r : BoxId × Mailbox). not (is_at_or_below u source r.0)) rs) ≡ length rs = length_parted (λ r. is_at_or_below u source r.0) rs in
    omega (arith, joined, same, parted)

length_renamed : (way : Way) (u : User) (source target : List ℕ) (rs : Boxes) → IsName target → length (after_rename way u source target rs) ≤ length rs + 200
length_renamed NoSource u source target rs is = omega arith
length_renamed Plain u source target rs is =
    let all : length (all_created u (superiors target) rs) ≤ length rs + length (superiors target) = length_created u (superiors target) rs in
    let few : length (superiors target) + 1 ≤ 200 = few_superiors target is in
    let added : length (inbox_renamed u target (all_created u (superiors target) rs)) ≤ length (left u inbox (all_created u (superiors target) rs)) + 1 =
    length_added (box_of u target) (put_all (mail_at (box_of u inbox) (all_created u (superiors target) rs)) no_mail) (left u inbox (all_created u (superiors target) rs)) in
    let rest : length (left u inbox (all_created u (superiors target) rs)) ≤ length (all_created u (superiors target) rs) = length_left u inbox (all_created u (superiors target) rs) in
    let same : length (moved u source target (all_created u (superiors target) rs)) ≤ length (all_created u (superiors target) rs) = length_moved u source target (all_created u (superiors target) rs) in
    either (NoLonger (length rs + 200)) (bytes_eq source inbox) (inbox_renamed u target (all_created u (superiors target) rs)) (moved u source target (all_created u (superiors target) rs)) (omega (arith, all, few, added, rest)) (omega (arith, all, few, same))
length_renamed Merged u source target rs is =
    let same : length (change_row (box_of u target) (put_all (mail_at (box_of u source) rs)) (left u source rs)) ≡ length (left u source rs) = length_changed (box_of u target) (put_all (mail_at (box_of u source) rs)) (left u source rs) in
    let rest : length (left u source rs) ≤ length rs = length_left u source rs in
    omega (arith, same, rest)

length_deleted : (u : User) (name : List ℕ) (keys : List Key) (rs : Boxes) → length (deleted u name keys rs) ≤ length rs + 200
length_deleted u name keys rs =
    let same : length (change_row (box_of u lost_found) (put_all (saved u name keys rs)) (left u name rs)) ≡ length (left u name rs) = length_changed (box_of u lost_found) (put_all (saved u name keys rs)) (left u name rs) in
    let rest : length (left u name rs) ≤ length rs = length_left u name rs in
    either (NoLonger (length rs + 200)) (is_fixed name) rs (change_row (box_of u lost_found) (put_all (saved u name keys rs)) (left u name rs)) (omega arith) (omega (arith, same, rest))

length_rearranged : (u : User) (d : Deed) (rs : Boxes) → AllByRecursion IsName (names_made d) → length (rearranged u d rs) ≤ length rs + 200
length_rearranged u (Fetch mailbox keys sets_seen shows_body) rs names = either (NoLonger (length rs + 200)) sets_seen _ rs (no_more _ _ (length_changed (box_of u mailbox) (with_entries (reflagged keys Add (record no_flags { seen = true }))) rs)) (omega arith)
length_rearranged u (Store mailbox keys how flags) rs names = no_more _ _ (length_changed (box_of u mailbox) (with_entries (reflagged keys how flags)) rs)
length_rearranged u (Expunge mailbox keys) rs names = no_more _ _ (length_changed (box_of u mailbox) (with_entries (expunged keys)) rs)
length_rearranged u (Close mailbox keys) rs names = no_more _ _ (length_changed (box_of u mailbox) (with_entries (expunged keys)) rs)
length_rearranged u (Create mailbox) rs names = length_made u mailbox rs names.0
length_rearranged u (Rename mailbox target) rs names = length_renamed (way_of u mailbox target rs) u mailbox target rs names.0
length_rearranged u (Delete mailbox keys) rs names = length_deleted u mailbox keys rs
length_rearranged u (Acts (Remove w mailbox key)) rs names = no_more _ _ (length_changed (box_of u mailbox) (with_entries (without (key ∷ []))) rs)
length_rearranged u _ rs names = omega arith

-- an item makes one mailbox and its superiors at most
pub step_grows : (s : MailStore) (i : Item) → IsKeeping i → length (step s i).0.boxes ≤ length s.boxes + 200
step_grows s i keeping =
    let same : length (step s i).0.boxes ≡ length (rearranged (actor i.by i.deed) i.deed s.boxes) = length_put (λ index. new_mail (actor i.by i.deed) i s.boxes index i.deed) (sought_by s i).aims (rearranged (actor i.by i.deed) i.deed s.boxes) in
    let le : length (rearranged (actor i.by i.deed) i.deed s.boxes) ≤ length s.boxes + 200 = length_rearranged (actor i.by i.deed) i.deed s.boxes keeping.names in
    omega (arith, same, le)

pub step_stored : (s : MailStore) (i : Item) → IsStored s → length s.boxes + 200 ≤ 4294967295 → IsKeeping i → IsStored (step s i).0
step_stored s i h room keeping = record {
  each = step_rows s i h.each keeping;
  few = let le : length (step s i).0.boxes ≤ length s.boxes + 200 = step_grows s i keeping in omega (arith, le, room);
}

-- ---- whole runs

pub run_stored : (base : MailStore) (t : List Item) → IsStored base → length base.boxes + 200 * length t ≤ 4294967295 → AllByRecursion IsKeeping t → IsStored (run base t)
run_stored base [] h room all = h
run_stored base (i ∷ is) h room all =
    let le : length (step base i).0.boxes ≤ length base.boxes + 200 = step_grows base i all.0 in
    run_stored (step base i).0 is (step_stored base i h (omega (arith, room)) all.0) (omega (arith, le, room)) all.1

pub opening_stored : (house : House) (conf : Conf) → IsTrue (is_house house) → IsStored (opening house conf)
opening_stored house conf is = record { each = kept.first_fit IsStoredEntry (users_of house); few = let le : length (opening house conf).boxes ≤ 400 = opening_length house conf is in omega (arith, le) }

-- ---- what users ask

keys_few : (d : Deed) → IsDeed d → length (keys_in d) ≤ 65536
keys_few (Fetch mailbox keys sets_seen shows_body) h = h.1.few
keys_few (Store mailbox keys how flags) h = h.1.few
keys_few (Copy mailbox keys target) h = h.1.few
keys_few (Expunge mailbox keys) h = h.1.few
keys_few (Close mailbox keys) h = h.1.few
keys_few (Delete mailbox keys) h = h.1.few
keys_few (Acts a) h = absurd h
keys_few (Notice u text) h = absurd h
keys_few _ h = omega arith

names_are : (d : Deed) → IsDeed d → AllByRecursion IsName (names_made d)
names_are (Create mailbox) h = (h, tt)
names_are (Rename mailbox target) h = (h.1, tt)
names_are (Acts a) h = absurd h
names_are (Notice u text) h = absurd h
names_are _ h = tt

pub asked_keeping : (i : Item) → IsAsked i → IsKeeping i
asked_keeping i h = record { number = h.number; rev = let none : i.rev ≡ 0 = h.rev in omega (arith, none); few = keys_few i.deed h.deed; names = names_are i.deed h.deed }
