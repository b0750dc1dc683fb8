-- An outline that goes on by the configuration and the names alone stays the outline of the store.
use Rattle.std.proofs.Common.{◌≡◌, ℕ, Bool, true, false, not, ◌&&◌, ◌||◌, nat_lt, cond, List, [], ◌∷◌, map, filter, length, Option, Some, None, option_map, unwrap_or, bytes_eq, refl, sym, ap, ap₂, ◌∙◌, true≢false, Less, Equal, Greater}
use Rattle.std.specs.List.{list_any}
use Rattle.std.specs.Ordering.{eq_by_cmp}
use Rattle.std.specs.FinMap.Entries as rows
use Rattle.undo_base.specs.declared.keys.User.{User}
use Rattle.undo_base.specs.declared.keys.Key.{Key}
use Rattle.undo_base.specs.declared.limits.TheConstants.{MOST_NAME}
use Rattle.verb_core.specs.declared.conf.House.{House}
use Rattle.verb_core.specs.declared.conf.Conf.{Conf}
use Rattle.verb_core.specs.declared.item.Aim.{Aim}
use Rattle.verb_core.specs.declared.item.Deed.{Deed}
use Rattle.verb_core.specs.declared.item.Deed.TheVariants.{Deliver, Append, Fetch, Store, Copy, Expunge, Close, Create, Rename, Delete, Act as Acts, Notice}
use Rattle.verb_core.specs.declared.item.Act.TheVariants.{SetAlias, DropAlias, SetFilter, DropFilter, Remove, Give}
use Rattle.verb_core.specs.declared.item.Item.{Item}
use Rattle.verb_core.specs.declared.item.Way.{Way}
use Rattle.verb_core.specs.declared.item.Way.TheVariants.{Plain, NoSource, Merged}
use Rattle.verb_core.specs.declared.mailbox.BoxId.{BoxId}
use Rattle.verb_core.specs.declared.mailbox.Entry.{Entry}
use Rattle.verb_core.specs.declared.mailbox.Mailbox.{Mailbox}
use Rattle.verb_core.specs.Names.{inbox, lost_found, is_fixed, is_empty, superiors, with_superiors, is_inferior, moved_name}
use Rattle.verb_core.specs.Mailboxes.{no_mail, put_all, emptied, without}
use Rattle.verb_core.specs.Boxes.{box_cmp, box_of, same_user, is_at_or_below, has_row, row_at, change_row, drop_row, add_row, add_rows, rows_of, names_of, has_inferior, mail_at}
use Rattle.verb_core.specs.Store.{MailStore}
use Rattle.verb_core.specs.Items.{actor, text_in}
use Rattle.verb_core.specs.Aims.{box_aimed, sought, sought_by}
use Rattle.verb_core.specs.Step.{Boxes, created, all_created, created_below, is_below_itself, way_of, left, inbox_renamed, moved, renamed, saved, after_rename, deleted, rearranged, new_mail, put_at, conf_after, step}
use Rattle.verb_core.proofs.AimNames.{sought_by-same}
use Rattle.box_store.specs.Outline.{outline, outlined}
use Rattle.box_store.proofs.Outlines.{has_outlined, row_outlined}
use Rattle.replay_crew.specs.Outline.{changes_outline, outline_after}

-- ---- rows

-- what changes in a mailbox does not show in the outline
changed : (id : BoxId) (f : Mailbox → Mailbox) (rs : Boxes) → outlined (change_row id f rs) ≡ outlined rs
changed id f [] = refl
changed id f (r ∷ rs) = ap (λ (t : Boxes). (r.0, no_mail) ∷ t) (changed id f rs)

same_either : (b : Bool) (m n : Mailbox) → m ≡ n → cond b m n ≡ n
same_either true m n is = is
same_either false m n is = refl

-- what leaves a new mailbox as it is leaves the outline
still : (id : BoxId) (f : Mailbox → Mailbox) → f no_mail ≡ no_mail → (rs : Boxes) → change_row id f (outlined rs) ≡ outlined rs
still id f is [] = refl
still id f is (r ∷ rs) = ap₂ (λ (m : Mailbox) (t : Boxes). (r.0, m) ∷ t) (same_either (eq_by_cmp box_cmp id r.0) (f no_mail) no_mail is) (still id f is rs)

dropped : (id : BoxId) (rs : Boxes) → outlined (drop_row id rs) ≡ drop_row id (outlined rs)
dropped id [] = refl
dropped id (r ∷ rs) =
    elim (not (eq_by_cmp box_cmp id r.0)) as (λ b. outlined (cond b (r ∷ drop_row id rs) (drop_row id rs)) ≡ cond b ((r.0, no_mail) ∷ drop_row id (outlined rs)) (drop_row id (outlined rs))) [
      | true ↦ ap (λ (t : Boxes). (r.0, no_mail) ∷ t) (dropped id rs)
      | false ↦ dropped id rs
    ]

added : (id : BoxId) (m : Mailbox) (rs : Boxes) → outlined (add_row id m rs) ≡ add_row id no_mail (outlined rs)
added id m [] = refl
added id m (r ∷ rs) =
    elim (box_cmp id r.0) as (λ o. outlined (rows.by_order o ((id, m) ∷ r ∷ rs) ((r.0, m) ∷ rs) (r ∷ add_row id m rs)) ≡ rows.by_order o ((id, no_mail) ∷ (r.0, no_mail) ∷ outlined rs) ((r.0, no_mail) ∷ outlined rs) ((r.0, no_mail) ∷ add_row id no_mail (outlined rs))) [
      | Less ↦ refl
      | Equal ↦ refl
      | Greater ↦ ap (λ (t : Boxes). (r.0, no_mail) ∷ t) (added id m rs)
    ]

all_added : (cs rs : Boxes) → outlined (add_rows cs rs) ≡ add_rows (outlined cs) (outlined rs)
all_added [] rs = refl
all_added (c ∷ cs) rs = added c.0 c.1 (add_rows cs rs) ∙ ap (add_row c.0 no_mail) (all_added cs rs)

kept_where : (test : BoxId → Bool) (rs : Boxes) → outlined (filter (λ (r : BoxId × Mailbox). test r.0) rs) ≡ filter (λ (r : BoxId × Mailbox). test r.0) (outlined rs)
kept_where test [] = refl
kept_where test (r ∷ rs) =
    elim (test r.0) as (λ b. outlined (cond b (r ∷ filter (λ (t : BoxId × Mailbox). test t.0) rs) (filter (λ (t : BoxId × Mailbox). test t.0) rs)) ≡ cond b ((r.0, no_mail) ∷ filter (λ (t : BoxId × Mailbox). test t.0) (outlined rs)) (filter (λ (t : BoxId × Mailbox). test t.0) (outlined rs))) [
      | true ↦ ap (λ (t : Boxes). (r.0, no_mail) ∷ t) (kept_where test rs)
      | false ↦ kept_where test rs
    ]

with_ids : (f : BoxId → BoxId) (rs : Boxes) → outlined (map (λ (r : BoxId × Mailbox). (f r.0, r.1)) rs) ≡ map (λ (r : BoxId × Mailbox). (f r.0, r.1)) (outlined rs)
with_ids f [] = refl
with_ids f (r ∷ rs) = ap (λ (t : Boxes). (f r.0, no_mail) ∷ t) (with_ids f rs)

-- an outline has the same names
names_alike : (u : User) (rs : Boxes) → names_of u (outlined rs) ≡ names_of u rs
names_alike u [] = refl
names_alike u (r ∷ rs) =
    elim (same_user u r.0.user) as (λ b. map (λ (t : BoxId × Mailbox). t.0.name) (cond b ((r.0, no_mail) ∷ rows_of u (outlined rs)) (rows_of u (outlined rs))) ≡ map (λ (t : BoxId × Mailbox). t.0.name) (cond b (r ∷ rows_of u rs) (rows_of u rs))) [
      | true ↦ ap (λ (ns : List (List ℕ)). r.0.name ∷ ns) (names_alike u rs)
      | false ↦ names_alike u rs
    ]

put : (mail : ℕ → List Entry) (aims : List Aim) (rs : Boxes) → outlined (put_at mail aims rs) ≡ outlined rs
put mail [] rs = refl
put mail (a ∷ aims) rs = put mail aims (change_row (box_aimed a) (put_all (mail a.index)) rs) ∙ changed (box_aimed a) (put_all (mail a.index)) rs

none_in : (o : Option Mailbox) → unwrap_or (option_map (λ (m : Mailbox). m.entries) (option_map (λ (m : Mailbox). no_mail) o)) [] ≡ []
none_in None = refl
none_in (Some m) = refl

-- no mail lies in an outline
none_at : (id : BoxId) (rs : Boxes) → mail_at id (outlined rs) ≡ []
none_at id rs = ap (λ (o : Option Mailbox). unwrap_or (option_map (λ (m : Mailbox). m.entries) o) []) (row_outlined id rs) ∙ none_in (row_at id rs)

-- ---- mailboxes that come, go and change their names

created_alike : (id : BoxId) (rs : Boxes) → outlined (created id rs) ≡ created id (outlined rs)
created_alike id rs = by (has_row id rs) ∙ ap (λ (b : Bool). cond b (outlined rs) (add_row id no_mail (outlined rs))) (sym (has_outlined id rs))
  where
    by : (b : Bool) → outlined (cond b rs (add_row id no_mail rs)) ≡ cond b (outlined rs) (add_row id no_mail (outlined rs))
    by true = refl
    by false = added id no_mail rs

all_alike : (u : User) (names : List (List ℕ)) (rs : Boxes) → outlined (all_created u names rs) ≡ all_created u names (outlined rs)
all_alike u [] rs = refl
all_alike u (name ∷ names) rs = all_alike u names (created (box_of u name) rs) ∙ ap (all_created u names) (created_alike (box_of u name) rs)

below_alike : (u : User) (name : List ℕ) (rs : Boxes) → outlined (created_below u name rs) ≡ created_below u name (outlined rs)
below_alike u name rs = by (has_row (box_of u name) rs) ∙ ap (λ (b : Bool). cond b (outlined rs) (all_created u (with_superiors name) (outlined rs))) (sym (has_outlined (box_of u name) rs))
  where
    by : (b : Bool) → outlined (cond b rs (all_created u (with_superiors name) rs)) ≡ cond b (outlined rs) (all_created u (with_superiors name) (outlined rs))
    by true = refl
    by false = all_alike u (with_superiors name) rs

left_alike : (u : User) (source : List ℕ) (rs : Boxes) → outlined (left u source rs) ≡ left u source (outlined rs)
left_alike u source rs =
    by (bytes_eq source inbox || has_inferior u source rs)
    ∙ ap (λ (ns : List (List ℕ)). cond (bytes_eq source inbox || list_any (is_inferior source) ns) (change_row (box_of u source) emptied (outlined rs)) (drop_row (box_of u source) (outlined rs))) (sym (names_alike u rs))
  where
    by : (b : Bool) → outlined (cond b (change_row (box_of u source) emptied rs) (drop_row (box_of u source) rs)) ≡ cond b (change_row (box_of u source) emptied (outlined rs)) (drop_row (box_of u source) (outlined rs))
    by true = changed (box_of u source) emptied rs ∙ sym (still (box_of u source) emptied refl rs)
    by false = dropped (box_of u source) rs

inbox_alike : (u : User) (target : List ℕ) (rs : Boxes) → outlined (inbox_renamed u target rs) ≡ inbox_renamed u target (outlined rs)
inbox_alike u target rs =
    added (box_of u target) (put_all (mail_at (box_of u inbox) rs) no_mail) (left u inbox rs)
    ∙ ap₂ (λ (es : List Entry) (t : Boxes). add_row (box_of u target) (put_all es no_mail) t) (sym (none_at (box_of u inbox) rs)) (left_alike u inbox rs)

moved_alike : (u : User) (source target : List ℕ) (rs : Boxes) → outlined (moved u source target rs) ≡ moved u source target (outlined rs)
moved_alike u source target rs =
    all_added (map (λ (r : BoxId × Mailbox). (box_of u (moved_name source target r.0.name), r.1)) (filter (λ (r : BoxId × Mailbox). is_at_or_below u source r.0) rs)) (filter (λ (r : BoxId × Mailbox). not (is_at_or_below u source r.0)) rs)
    ∙ ap₂ add_rows
    (with_ids (λ q. box_of u (moved_name source target q.name)) (filter (λ (r : BoxId × Mailbox). is_at_or_below u source r.0) rs)
    ∙ ap (map (λ (r : BoxId × Mailbox). (box_of u (moved_name source target r.0.name), r.1))) (kept_where (is_at_or_below u source) rs))
    (kept_where (λ q. not (is_at_or_below u source q)) rs)

renamed_alike : (u : User) (source target : List ℕ) (rs : Boxes) → outlined (renamed u source target rs) ≡ renamed u source target (outlined rs)
renamed_alike u source target rs =
    elim (bytes_eq source inbox) as (λ b. outlined (cond b (inbox_renamed u target rs) (moved u source target rs)) ≡ cond b (inbox_renamed u target (outlined rs)) (moved u source target (outlined rs))) [
      | true ↦ inbox_alike u target rs
      | false ↦ moved_alike u source target rs
    ]

rename_alike : (way : Way) (u : User) (source target : List ℕ) (rs : Boxes) → outlined (after_rename way u source target rs) ≡ after_rename way u source target (outlined rs)
rename_alike NoSource u source target rs = refl
rename_alike Plain u source target rs = renamed_alike u source target (all_created u (superiors target) rs) ∙ ap (renamed u source target) (all_alike u (superiors target) rs)
rename_alike Merged u source target rs =
    changed (box_of u target) (put_all (mail_at (box_of u source) rs)) (left u source rs)
    ∙ sym (still (box_of u target) (put_all (mail_at (box_of u source) (outlined rs))) (ap (λ (es : List Entry). put_all es no_mail) (none_at (box_of u source) rs)) (left u source rs))
    ∙ ap (change_row (box_of u target) (put_all (mail_at (box_of u source) (outlined rs)))) (left_alike u source rs)

-- the way goes by the names
abbrev way_by : Bool → Bool → List (List ℕ) → List ℕ → List ℕ → Way
way_by here there names source target =
    cond (is_empty target || bytes_eq source lost_found || is_fixed target || bytes_eq source target || is_below_itself source target
    || (not (bytes_eq source inbox) && not there && list_any (λ name. is_inferior source name && nat_lt MOST_NAME (length (moved_name source target name))) names)
    || not here) NoSource (cond there Merged Plain)

way_alike : (u : User) (source target : List ℕ) (rs : Boxes) → way_of u source target (outlined rs) ≡ way_of u source target rs
way_alike u source target rs = λ j. way_by (has_outlined (box_of u source) rs j) (has_outlined (box_of u target) rs j) (names_alike u rs j) source target

saved_none : (u : User) (name : List ℕ) (keys : List Key) (rs : Boxes) → saved u name keys (outlined rs) ≡ []
saved_none u name keys rs =
    elim (is_fixed name) as (λ b. cond b [] (without keys (mail_at (box_of u name) (outlined rs))) ≡ []) [ true ↦ refl | false ↦ ap (without keys) (none_at (box_of u name) rs) ]

deleted_alike : (u : User) (name : List ℕ) (keys : List Key) (rs : Boxes) → outlined (deleted u name keys rs) ≡ deleted u name keys (outlined rs)
deleted_alike u name keys rs =
    elim (is_fixed name) as (λ b. outlined (cond b rs (change_row (box_of u lost_found) (put_all (saved u name keys rs)) (left u name rs))) ≡ cond b (outlined rs) (change_row (box_of u lost_found) (put_all (saved u name keys (outlined rs))) (left u name (outlined rs)))) [
      | true ↦ refl
      | false ↦
          changed (box_of u lost_found) (put_all (saved u name keys rs)) (left u name rs)
          ∙ sym (still (box_of u lost_found) (put_all (saved u name keys (outlined rs))) (ap (λ (es : List Entry). put_all es no_mail) (saved_none u name keys rs)) (left u name rs))
          ∙ ap (change_row (box_of u lost_found) (put_all (saved u name keys (outlined rs)))) (left_alike u name rs)
    ]

-- ---- deeds

-- a deed that changes the outline does to it what it does to the mailboxes
goes_on : (u : User) (d : Deed) (rs : Boxes) → changes_outline d ≡ true → outlined (rearranged u d rs) ≡ rearranged u d (outlined rs)
goes_on u (Create mailbox) rs is = below_alike u mailbox rs
goes_on u (Rename mailbox target) rs is =
    rename_alike (way_of u mailbox target rs) u mailbox target rs
    ∙ ap (λ (way : Way). after_rename way u mailbox target (outlined rs)) (sym (way_alike u mailbox target rs))
goes_on u (Delete mailbox keys) rs is = deleted_alike u mailbox keys rs
goes_on u (Acts (SetAlias local users)) rs is = refl
goes_on u (Acts (DropAlias local)) rs is = refl
goes_on u (Acts (SetFilter filter)) rs is = refl
goes_on u (Acts (DropFilter id)) rs is = refl
goes_on u _ rs is = absurd (true≢false (sym is))

-- and any other leaves it
stays : (u : User) (d : Deed) (rs : Boxes) → changes_outline d ≡ false → outlined (rearranged u d rs) ≡ outlined rs
stays u (Create mailbox) rs not = absurd (true≢false not)
stays u (Rename mailbox target) rs not = absurd (true≢false not)
stays u (Delete mailbox keys) rs not = absurd (true≢false not)
stays u (Fetch mailbox keys sets_seen shows_body) rs not = by sets_seen
  where
    by : (b : Bool) → outlined (rearranged u (Fetch mailbox keys b shows_body) rs) ≡ outlined rs
    by true = changed _ _ rs
    by false = refl
stays u (Store mailbox keys how flags) rs not = changed _ _ rs
stays u (Expunge mailbox keys) rs not = changed _ _ rs
stays u (Close mailbox keys) rs not = changed _ _ rs
stays u (Acts (Remove w mailbox key)) rs not = changed _ _ rs
stays u _ rs not = refl

same_conf : (house : House) (d : Deed) (conf : Conf) → changes_outline d ≡ false → conf_after house d conf ≡ conf
same_conf house (Acts (SetAlias local users)) conf not = absurd (true≢false not)
same_conf house (Acts (DropAlias local)) conf not = absurd (true≢false not)
same_conf house (Acts (SetFilter filter)) conf not = absurd (true≢false not)
same_conf house (Acts (DropFilter id)) conf not = absurd (true≢false not)
same_conf house _ conf not = refl

-- a deed that changes the outline aims at nothing
no_aims : (s : MailStore) (text : List ℕ) (by : Option User) (d : Deed) → changes_outline d ≡ true → (sought s text by d).aims ≡ []
no_aims s text by (Deliver from to t) is = absurd (true≢false (sym is))
no_aims s text by (Append mailbox flags moment t) is = absurd (true≢false (sym is))
no_aims s text by (Copy mailbox keys target) is = absurd (true≢false (sym is))
no_aims s text by (Acts (Give w mailbox t)) is = absurd (true≢false (sym is))
no_aims s text by (Notice w t) is = absurd (true≢false (sym is))
no_aims s text by _ is = refl

-- ---- items

-- behind an item the outline of a store is that of the store behind it
pub step_outline : (s : MailStore) (i : Item) → outline (step s i).0 ≡ outline_after (outline s) i
step_outline s i = by (changes_outline i.deed) refl
  where
    u : User
    u = actor i.by i.deed

    by : (b : Bool) → changes_outline i.deed ≡ b → outline (step s i).0 ≡ cond b (step (outline s) i).0 (outline s)
    by true is =
        let boxes : outlined (step s i).0.boxes ≡ (step (outline s) i).0.boxes =
        put (λ index. new_mail u i s.boxes index i.deed) (sought_by s i).aims (rearranged u i.deed s.boxes)
        ∙ goes_on u i.deed s.boxes is
        ∙ sym (ap (λ (aims : List Aim). put_at (λ index. new_mail u i (outlined s.boxes) index i.deed) aims (rearranged u i.deed (outlined s.boxes))) (no_aims (outline s) (unwrap_or (text_in i.deed) []) i.by i.deed is))
        in
        ap (λ (rs : Boxes). record { house = s.house; conf = conf_after s.house i.deed s.conf; boxes = rs }) boxes
    by false not =
        ap₂ (λ (conf : Conf) (rs : Boxes). record { house = s.house; conf = conf; boxes = rs })
        (same_conf s.house i.deed s.conf not)
        (put (λ index. new_mail u i s.boxes index i.deed) (sought_by s i).aims (rearranged u i.deed s.boxes) ∙ stays u i.deed s.boxes not)

-- an item aims on the outline as on the store
pub aims_on_outline : (s : MailStore) (i : Item) → sought_by (outline s) i ≡ sought_by s i
aims_on_outline s i = sought_by-same (outline s) s i refl refl (λ id. has_outlined id s.boxes)
