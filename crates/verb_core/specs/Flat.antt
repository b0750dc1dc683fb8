-- What an item did before names had a hierarchy and filters a scope. It serves for one law: on items of those days this and
-- `step` are the same.
--
-- What old records mean is a law over any valid base without `/` in its names and with filters of the whole text, and the opening
-- store is one. It asks that a RENAME's target has a byte, as every name has.
use Rattle.std.specs.Prelude.{ℕ, Bool, true, false, not, ◌&&◌, ◌||◌, ◌==◌, if◌then◌else◌, List, [], ◌∷◌, filter, find, option_map, unwrap_or, Option, bytes_eq, IsTrue}
use Rattle.std.specs.List.{list_all, list_any, AllByRecursion}
use Rattle.std.specs.Str.{str_to_ascii_uppercase}
use Rattle.undo_base.specs.declared.keys.User.{User}
use Rattle.undo_base.specs.declared.keys.Key.{Key}
use Rattle.verb_core.specs.declared.conf.Conf.{Conf}
use Rattle.verb_core.specs.declared.conf.Filter.{Filter}
use Rattle.verb_core.specs.declared.item.Act.TheVariants.{SetFilter}
use Rattle.verb_core.specs.declared.item.Deed.{Deed}
use Rattle.verb_core.specs.declared.item.Deed.TheVariants.{Deliver, List as Names, Create, Rename, Delete, Act as Acts}
use Rattle.verb_core.specs.declared.item.Item.{Item}
use Rattle.verb_core.specs.declared.item.Shown.{Shown}
use Rattle.verb_core.specs.declared.item.Shown.TheVariants.{Names as Named, Way as Went}
use Rattle.verb_core.specs.declared.item.Way.{Way}
use Rattle.verb_core.specs.declared.item.Way.TheVariants.{Plain, NoSource, Merged}
use Rattle.verb_core.specs.declared.mailbox.Mailbox.{Mailbox}
use Rattle.verb_core.specs.Names.{inbox, lost_found, is_fixed, is_empty, is_slash, is_wildcard}
use Rattle.verb_core.specs.Filters.{occurs, is_of_body, are_of_body}
use Rattle.verb_core.specs.Mailboxes.{no_mail, put_all, emptied}
use Rattle.verb_core.specs.Boxes.{box_of, row_at, has_row, add_row, drop_row, change_row, names_of, mail_at}
use Rattle.verb_core.specs.Store.{MailStore}
use Rattle.verb_core.specs.Items.{actor, text_in}
use Rattle.verb_core.specs.Aims.{Sought, delivered, sought}
use Rattle.verb_core.specs.Step.{Boxes, created, new_mail, put_at, saved, rearranged, shown, conf_after}

-- ---- items of those days

-- a name without `/`
abbrev pub is_flat_name : List ℕ → Bool
is_flat_name name = not (list_any is_slash name)

-- whether a deed makes no name with `/`, and no filter that looks at less than the whole text; a name has at least one byte
abbrev pub is_flat_deed : Deed → Bool
is_flat_deed (Create mailbox) = is_flat_name mailbox
is_flat_deed (Rename mailbox target) = is_flat_name target && not (is_empty target)
is_flat_deed (Acts (SetFilter f)) = is_of_body f.scope
is_flat_deed _ = true

-- items of those days
abbrev pub AreFlat : List Item → Type 0
AreFlat t = AllByRecursion (λ (i : Item). IsTrue (is_flat_deed i.deed)) t

-- a store of those days
pub record IsFlat (s : MailStore) : Type 0 where
  pub names : IsTrue (list_all (λ r. is_flat_name r.0.name) s.boxes)
  pub filters : IsTrue (are_of_body s.conf.filters)

-- ---- what they did

-- the first filter whose needle is in the text decided
abbrev pub deciding_flat : Conf → List ℕ → Option Filter
deciding_flat conf text = find (λ (f : Filter). occurs f.needle text) conf.filters

abbrev pub sought_flat : MailStore → List ℕ → Option User → Deed → Sought
sought_flat s text by (Deliver from to _) = delivered s to (option_map (λ (f : Filter). f.file) (deciding_flat s.conf text))
sought_flat s text by d = sought s text by d

-- both wildcards matched any run of bytes
abbrev pub some_end_flat : (List ℕ → Bool) → List ℕ → Bool
some_end_flat test [] = test []
some_end_flat test (b ∷ bs) = test (b ∷ bs) || some_end_flat test bs

abbrev pub begins_flat : ℕ → (List ℕ → Bool) → List ℕ → Bool
begins_flat byte test [] = false
begins_flat byte test (b ∷ bs) = b == byte && test bs

abbrev pub matches_flat : List ℕ → List ℕ → Bool
matches_flat [] = is_empty
matches_flat (p ∷ ps) = if is_wildcard p then some_end_flat (matches_flat ps) else begins_flat p (matches_flat ps)

abbrev pub is_listed_flat : List ℕ → List ℕ → Bool
is_listed_flat pattern name = matches_flat (if bytes_eq name inbox then str_to_ascii_uppercase pattern else pattern) name

abbrev pub way_flat : User → List ℕ → List ℕ → Boxes → Way
way_flat u source target boxes =
    if bytes_eq source lost_found || is_fixed target || bytes_eq source target || not (has_row (box_of u source) boxes) then NoSource
    else if has_row (box_of u target) boxes then Merged
    else Plain

abbrev pub left_flat : User → List ℕ → Boxes → Boxes
left_flat u source boxes = if bytes_eq source inbox then change_row (box_of u source) emptied boxes else drop_row (box_of u source) boxes

abbrev pub renamed_flat : User → List ℕ → Boxes → Mailbox
renamed_flat u source boxes =
    if bytes_eq source inbox then put_all (mail_at (box_of u source) boxes) no_mail
    else unwrap_or (row_at (box_of u source) boxes) no_mail

abbrev pub after_rename_flat : Way → User → List ℕ → List ℕ → Boxes → Boxes
after_rename_flat NoSource u source target boxes = boxes
after_rename_flat Plain u source target boxes = add_row (box_of u target) (renamed_flat u source boxes) (left_flat u source boxes)
after_rename_flat Merged u source target boxes = change_row (box_of u target) (put_all (mail_at (box_of u source) boxes)) (left_flat u source boxes)

abbrev pub deleted_flat : User → List ℕ → List Key → Boxes → Boxes
deleted_flat u name keys boxes =
    if is_fixed name then boxes
    else change_row (box_of u lost_found) (put_all (saved u name keys boxes)) (drop_row (box_of u name) boxes)

abbrev pub rearranged_flat : User → Deed → Boxes → Boxes
rearranged_flat u (Create mailbox) boxes = created (box_of u mailbox) boxes
rearranged_flat u (Rename mailbox target) boxes = after_rename_flat (way_flat u mailbox target boxes) u mailbox target boxes
rearranged_flat u (Delete mailbox keys) boxes = deleted_flat u mailbox keys boxes
rearranged_flat u d boxes = rearranged u d boxes

abbrev pub shown_flat : Bool → User → Deed → Boxes → Shown
shown_flat redirected u (Names pattern) boxes = Named (filter (is_listed_flat pattern) (names_of u boxes))
shown_flat redirected u (Rename mailbox target) boxes = Went (way_flat u mailbox target boxes)
shown_flat redirected u d boxes = shown redirected u d boxes

-- one item with its aims
abbrev pub step_flat_with : Sought → MailStore → Item → MailStore × Shown
step_flat_with to s i = (
  record s {
    conf = conf_after s.house i.deed s.conf;
    boxes = put_at (λ index. new_mail (actor i.by i.deed) i s.boxes index i.deed) to.aims (rearranged_flat (actor i.by i.deed) i.deed s.boxes);
  },
  shown_flat (not (is_empty to.missed)) (actor i.by i.deed) i.deed s.boxes,
)

abbrev pub step_flat : MailStore → Item → MailStore × Shown
step_flat s i = step_flat_with (sought_flat s (unwrap_or (text_in i.deed) []) i.by i.deed) s i

abbrev pub run_flat : MailStore → List Item → MailStore
run_flat base [] = base
run_flat base (i ∷ is) = run_flat (step_flat base i).0 is

abbrev pub answers_flat : MailStore → List Item → List Shown
answers_flat base [] = []
answers_flat base (i ∷ is) = (step_flat base i).1 ∷ answers_flat (step_flat base i).0 is
