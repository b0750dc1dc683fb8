-- A step keeps what the entries of mailboxes have, and names of mailboxes.
use Rattle.std.proofs.Common.{◌≡◌, ℕ, ◌+◌, ◌<◌, ◌≤◌, Bool, true, false, not, cond, ◌&&◌, ◌||◌, List, [], ◌∷◌, length, map, filter, Option, None, Some, option_map, unwrap_or, Less, Equal, Greater, refl, sym, subst, arith, true≢false, bytes_eq, nat_lt, ◌∙◌}
use Rattle.std.specs.Prelude.{IfSome}
use Rattle.std.specs.Cmp.{first_so, second_so}
use Rattle.std.specs.Cmp.Lexicographic.{bytes_decides}
use Rattle.std.specs.List.{AllByRecursion, enumerate_from, flat_map, list_any}
use Rattle.std.specs.Ordering.{eq_by_cmp}
use Rattle.std.specs.FinMap.Entries as rows
use Rattle.std.proofs.lemmas.Bool.{ltb-false, or_parts}
use Rattle.undo_base.specs.declared.asks.How.{How}
use Rattle.undo_base.specs.declared.asks.How.TheVariants.{Add}
use Rattle.undo_base.specs.declared.keys.Flags.{Flags}
use Rattle.undo_base.specs.declared.keys.Key.{Key}
use Rattle.undo_base.specs.declared.keys.User.{User}
use Rattle.undo_base.specs.Name.{IsName}
use Rattle.undo_base.specs.declared.limits.TheConstants.{MOST_NAME}
use Rattle.verb_core.specs.declared.conf.Filter.{Filter}
use Rattle.verb_core.specs.declared.item.Act.TheVariants.{Remove, Give}
use Rattle.verb_core.specs.declared.item.Aim.{Aim}
use Rattle.verb_core.specs.declared.item.Deed.{Deed}
use Rattle.verb_core.specs.declared.item.Deed.TheVariants.{Deliver, Append, Fetch, Store, Copy, Expunge, Close, Create, Rename, Delete, Act as Acts, Notice}
use Rattle.verb_core.specs.declared.item.Item.{Item}
use Rattle.verb_core.specs.declared.item.Way.TheVariants.{Plain, NoSource, Merged}
use Rattle.verb_core.specs.declared.mailbox.BoxId.{BoxId}
use Rattle.verb_core.specs.declared.mailbox.Entry.{Entry}
use Rattle.verb_core.specs.declared.mailbox.Mailbox.{Mailbox}
use Rattle.verb_core.specs.Aims.{Sought, and_postmaster, box_aimed, delivered, into_or, sought, sought_by}
use Rattle.verb_core.specs.Boxes.{add_row, add_rows, box_cmp, box_of, change_row, drop_row, has_inferior, has_row, is_at_or_below, mail_at, names_of, row_at, rows_of, same_user}
use Rattle.verb_core.specs.Items.{actor, keys_in, text_in}
use Rattle.verb_core.specs.Mailboxes.{changed, copies, emptied, entry_of, expunged, is_among, no_flags, no_mail, put, put_all, reflagged, same_key, without}
use Rattle.verb_core.specs.Names.{inbox, is_fixed, is_inferior, lost_found, moved_name, superiors, with_superiors}
use Rattle.verb_core.specs.Filters.{deciding}
use Rattle.verb_core.specs.Recipients.{recipients, some_unknown}
use Rattle.verb_core.specs.Step.{Boxes, after_rename, all_created, created, deleted, inbox_renamed, changes_nothing, is_overlong, left, message, moved, new_mail, put_at, rearranged, saved, step, way_of}
use Rattle.verb_core.specs.Store.{MailStore}
use Rattle.verb_core.proofs.Moves.{not_below, not_in_vain}
use Rattle.verb_core.proofs.NameLaws.{through}
use Rattle.kept_laws.proofs.Fits.{names_made}
use Rattle.kept_laws.proofs.Lists.{all_chosen, all_filtered, all_joined, all_mapped, either, found_has, some_mapped}
use Rattle.kept_laws.proofs.NamesMade.{each_among, moved_named, source_moved, superiors_named, with_superiors_named}

-- ---- what its mailboxes' entries have

-- a mailbox that has a name, and such entries
abbrev pub Entries : (Entry → Type 0) → List Entry → Type 0
Entries P es = AllByRecursion P es

abbrev pub Row : (Entry → Type 0) → BoxId × Mailbox → Type 0
Row P r = IsName r.0.name × Entries P r.1.entries

abbrev pub Rows : (Entry → Type 0) → Boxes → Type 0
Rows P rs = AllByRecursion (Row P) rs

abbrev Keeps : (Entry → Type 0) → (Mailbox → Mailbox) → Type 0
Keeps P f = (m : Mailbox) → Entries P m.entries → Entries P (f m).entries

inbox_named : IsName inbox
inbox_named = record { some = omega arith; most = omega arith; printable = refl }

lost_found_named : IsName lost_found
lost_found_named = record { some = omega arith; most = omega arith; printable = refl }

module _ (P : Entry → Type 0) where
  -- ---- what lies in a mailbox

  row_has : (id : BoxId) (rs : Boxes) → Rows P rs → IfSome (row_at id rs) (λ (m : Mailbox). Entries P m.entries)
  row_has id [] h = tt
  row_has id (r ∷ rs) h = either (λ (o : Option Mailbox). IfSome o (λ (m : Mailbox). Entries P m.entries)) (eq_by_cmp box_cmp id r.0) (Some r.1) (row_at id rs) h.0.1 (row_has id rs h.1)

  mail_in : (o : Option Mailbox) → IfSome o (λ (m : Mailbox). Entries P m.entries) → Entries P (unwrap_or (option_map (λ (m : Mailbox). m.entries) o) [])
  mail_in None h = tt
  mail_in (Some m) h = h

  pub mail_fits : (id : BoxId) (rs : Boxes) → Rows P rs → Entries P (mail_at id rs)
  mail_fits id rs h = mail_in (row_at id rs) (row_has id rs h)

  expunged_fit : (keys : List Key) (es : List Entry) → Entries P es → Entries P (expunged keys es)
  expunged_fit keys es h = all_filtered P (λ (e : Entry). not (is_among keys e.key && e.flags.deleted)) es h

  without_fit : (keys : List Key) (es : List Entry) → Entries P es → Entries P (without keys es)
  without_fit keys es h = all_filtered P (λ (e : Entry). not (is_among keys e.key)) es h

  pub saved_fit : (u : User) (name : List ℕ) (keys : List Key) (rs : Boxes) → Rows P rs → Entries P (saved u name keys rs)
  saved_fit u name keys rs h =
      either (Entries P) (is_fixed name) [] (without keys (mail_at (box_of u name) rs)) tt (without_fit keys (mail_at (box_of u name) rs) (mail_fits (box_of u name) rs h))

  -- ---- rows

  changed_rows : (id : BoxId) (f : Mailbox → Mailbox) → Keeps P f → (rs : Boxes) → Rows P rs → Rows P (change_row id f rs)
  changed_rows id f keeps [] h = tt
  changed_rows id f keeps (r ∷ rs) h =
      ((h.0.0, either (λ (m : Mailbox). Entries P m.entries) (eq_by_cmp box_cmp id r.0) (f r.1) r.1 (keeps r.1 h.0.1) h.0.1), changed_rows id f keeps rs h.1)

  added_rows : (id : BoxId) (m : Mailbox) (rs : Boxes) → IsName id.name → Entries P m.entries → Rows P rs → Rows P (add_row id m rs)
  added_rows id m [] name stored h = ((name, stored), tt)
  added_rows id m (r ∷ rs) name stored h =
      elim (box_cmp id r.0) as (λ o. Rows P (rows.by_order o ((id, m) ∷ r ∷ rs) ((r.0, m) ∷ rs) (r ∷ add_row id m rs))) [
        | Less ↦ ((name, stored), h)
        | Equal ↦ ((h.0.0, stored), h.1)
        | Greater ↦ (h.0, added_rows id m rs name stored h.1)
      ]

  dropped_rows : (id : BoxId) (rs : Boxes) → Rows P rs → Rows P (drop_row id rs)
  dropped_rows id rs h = all_filtered (Row P) _ rs h

  -- mailboxes that are made are empty
  created_rows : (u : User) (names : List (List ℕ)) (rs : Boxes) → AllByRecursion IsName names → Rows P rs → Rows P (all_created u names rs)
  created_rows u [] rs named h = h
  created_rows u (n ∷ names) rs named h =
      created_rows u names (created (box_of u n) rs) named.1 (either (Rows P) (has_row (box_of u n) rs) rs (add_row (box_of u n) no_mail rs) h (added_rows (box_of u n) no_mail rs named.0 tt h))

  left_rows : (u : User) (source : List ℕ) (rs : Boxes) → Rows P rs → Rows P (left u source rs)
  left_rows u source rs h =
      either (Rows P) (bytes_eq source inbox || has_inferior u source rs) (change_row (box_of u source) emptied rs) (drop_row (box_of u source) rs) (changed_rows (box_of u source) emptied (λ m k. tt) rs h) (dropped_rows (box_of u source) rs h)

  joined_rows : (cs rs : Boxes) → Rows P cs → Rows P rs → Rows P (add_rows cs rs)
  joined_rows [] rs h k = k
  joined_rows (c ∷ cs) rs h k = added_rows c.0 c.1 (add_rows cs rs) h.0.0 h.0.1 (joined_rows cs rs h.1 k)

  -- ---- an opening

  pub first_fit : (us : List User) → Rows P (flat_map (λ u. (box_of u inbox, no_mail) ∷ (box_of u lost_found, no_mail) ∷ []) us)
  first_fit [] = tt
  first_fit (u ∷ us) = ((inbox_named, tt), ((lost_found_named, tt), first_fit us))

-- ---- what a RENAME moves

-- under its new name a mailbox that moves has a name
abbrev Renamed : User → List ℕ → List ℕ → BoxId × Mailbox → Type 0
Renamed u source target r = is_at_or_below u source r.0 ≡ true → IsName (moved_name source target r.0.name)

module _ (P : Entry → Type 0) (u : User) (source target : List ℕ) (name : IsName target) where
  moved_fits : (rs : Boxes) → Rows P rs → AllByRecursion (Renamed u source target) rs → Rows P (moved u source target rs)
  moved_fits rs h fit = joined_rows P _ _ (news rs h fit) (all_filtered (Row P) (λ r. not (is_at_or_below u source r.0)) rs h)
    where
      news : (rs : Boxes) → Rows P rs → AllByRecursion (Renamed u source target) rs → Rows P (map (λ (r : BoxId × Mailbox). (box_of u (moved_name source target r.0.name), r.1)) (filter (λ (r : BoxId × Mailbox). is_at_or_below u source r.0) rs))
      news [] h fit = tt
      news (r ∷ rs) h fit =
          elim (is_at_or_below u source r.0) as (λ b. is_at_or_below u source r.0 ≡ b → Rows P (map (λ (r : BoxId × Mailbox). (box_of u (moved_name source target r.0.name), r.1)) (cond b (r ∷ filter (λ (r : BoxId × Mailbox). is_at_or_below u source r.0) rs) (filter (λ (r : BoxId × Mailbox). is_at_or_below u source r.0) rs)))) [
            | true ↦ λ e. ((fit.0 e, h.0.1), news rs h.1 fit.1)
            | false ↦ λ e. news rs h.1 fit.1
          ] refl

  -- no inferior gets too long a name
  short_fits : (rs : Boxes) → Rows P rs → list_any (λ n. is_inferior source n && nat_lt MOST_NAME (length (moved_name source target n))) (names_of u rs) ≡ false → AllByRecursion (Renamed u source target) rs
  short_fits [] h short = tt
  short_fits (r ∷ rs) h short =
      elim (same_user u r.0.user) as (λ b. same_user u r.0.user ≡ b
      → list_any (λ n. is_inferior source n && nat_lt MOST_NAME (length (moved_name source target n))) (map (λ (q : BoxId × Mailbox). q.0.name) (cond b (r ∷ rows_of u rs) (rows_of u rs))) ≡ false → AllByRecursion (Renamed u source target) (r ∷ rs)) [
        | true ↦ λ e short. (λ at. fits r.0.name h.0.0 (second_so _ _ at) (or_first _ _ short), short_fits rs h.1 (or_second _ _ short))
        | false ↦ λ e short. (λ at. absurd (true≢false (sym (first_so _ _ at) ∙ e)), short_fits rs h.1 short)
      ] refl short
    where
      or_first : (a b : Bool) → (a || b) ≡ false → a ≡ false
      or_first true b e = e
      or_first false b e = refl

      or_second : (a b : Bool) → (a || b) ≡ false → b ≡ false
      or_second true b e = absurd (true≢false e)
      or_second false b e = e

      fits : (n : List ℕ) → IsName n → (bytes_eq source n || is_inferior source n) ≡ true → (is_inferior source n && nat_lt MOST_NAME (length (moved_name source target n))) ≡ false → IsName (moved_name source target n)
      fits n is at short =
          elim (bytes_eq source n) as (λ b. bytes_eq source n ≡ b → (b || is_inferior source n) ≡ true → IsName (moved_name source target n)) [
            | true ↦ λ e _. subst IsName (sym (source_moved source target n e)) name
            | false ↦ λ e below. moved_named source target n name is (ltb-false 200 (length (moved_name source target n)) (subst (λ (b : Bool). (b && nat_lt MOST_NAME (length (moved_name source target n))) ≡ false) below short))
          ] refl at

  fits_added : (id : BoxId) (m : Mailbox) (rs : Boxes) → Renamed u source target (id, m) → AllByRecursion (Renamed u source target) rs → AllByRecursion (Renamed u source target) (add_row id m rs)
  fits_added id m [] new h = (new, tt)
  fits_added id m (r ∷ rs) new h =
      elim (box_cmp id r.0) as (λ o. AllByRecursion (Renamed u source target) (rows.by_order o ((id, m) ∷ r ∷ rs) ((r.0, m) ∷ rs) (r ∷ add_row id m rs))) [
        | Less ↦ (new, h)
        | Equal ↦ (h.0, h.1)
        | Greater ↦ (h.0, fits_added id m rs new h.1)
      ]

  -- mailboxes that are made do not move
  fits_created : (names : List (List ℕ)) (rs : Boxes) → AllByRecursion (λ n. is_at_or_below u source (box_of u n) ≡ true → ⊥) names → AllByRecursion (Renamed u source target) rs → AllByRecursion (Renamed u source target) (all_created u names rs)
  fits_created [] rs off h = h
  fits_created (n ∷ names) rs off h =
      fits_created names (created (box_of u n) rs) off.1 (either (λ (ss : Boxes). AllByRecursion (Renamed u source target) ss) (has_row (box_of u n) rs) rs (add_row (box_of u n) no_mail rs) h (fits_added (box_of u n) no_mail rs (λ at. absurd (off.0 at)) h))

  -- the superiors of the target are not below the source, if it is not
  superiors_off : is_inferior source target ≡ false → AllByRecursion (λ n. is_at_or_below u source (box_of u n) ≡ true → ⊥) (superiors target)
  superiors_off apart = each_among (λ n. is_at_or_below u source (box_of u n) ≡ true → ⊥) (superiors target) (λ n above at. true≢false (sym (below n above (second_so _ _ at)) ∙ apart))
    where
      below : (n : List ℕ) → is_inferior n target ≡ true → (bytes_eq source n || is_inferior source n) ≡ true → is_inferior source target ≡ true
      below n above at =
          elim (bytes_eq source n) as (λ b. bytes_eq source n ≡ b → (b || is_inferior source n) ≡ true → is_inferior source target ≡ true) [
            | true ↦ λ e _. subst (λ (m : List ℕ). is_inferior m target ≡ true) (sym ((bytes_decides source n).0 e)) above
            | false ↦ λ e lower. through source n target lower above
          ] refl at

-- ---- aims

-- an index that two bytes hold
abbrev IsIndex : Aim → Type 0
IsIndex a = a.index < 65536

into_is : (rs : Boxes) (name other : List ℕ) (us : List User) → AllByRecursion IsIndex (into_or rs name other us).aims
into_is rs name other [] = tt
into_is rs name other (u ∷ us) = (omega arith, into_is rs name other us)

postmaster_is : (s : MailStore) (to : List (List ℕ)) (x : Sought) → AllByRecursion IsIndex x.aims → AllByRecursion IsIndex (and_postmaster s to x).aims
postmaster_is s to x h = either (λ (y : Sought). AllByRecursion IsIndex y.aims) (some_unknown s.house s.conf to) _ x (all_joined IsIndex x.aims _ h (omega arith, tt)) h

delivered_is : (s : MailStore) (to : List (List ℕ)) (file : Option (Option (List ℕ))) → AllByRecursion IsIndex (delivered s to file).aims
delivered_is s to None = postmaster_is s to (into_or s.boxes inbox inbox (recipients s.house s.conf to)) (into_is s.boxes inbox inbox (recipients s.house s.conf to))
delivered_is s to (Some None) = tt
delivered_is s to (Some (Some name)) = postmaster_is s to (into_or s.boxes name inbox (recipients s.house s.conf to)) (into_is s.boxes name inbox (recipients s.house s.conf to))

sought_is : (s : MailStore) (text : List ℕ) (by : Option User) (d : Deed) → AllByRecursion IsIndex (sought s text by d).aims
sought_is s text by (Deliver from to _) = delivered_is s to (option_map (λ (f : Filter). f.file) (deciding s.conf from to text))
sought_is s text by (Append mailbox flags moment _) = (omega arith, tt)
sought_is s text by (Copy mailbox keys target) = (omega arith, tt)
sought_is s text by (Acts (Give u mailbox _)) = (omega arith, tt)
sought_is s text by (Notice u _) = (omega arith, tt)
sought_is s text by _ = tt

-- ---- new mail

abbrev IsCounted : ℕ × Key → Type 0
IsCounted k = k.0 < 65536

counted : (n : ℕ) (keys : List Key) → n + length keys ≤ 65536 → AllByRecursion IsCounted (enumerate_from n keys)
counted n [] le = tt
counted n (key ∷ keys) le = (omega (arith, le), counted (n + 1) keys (omega (arith, le)))

-- the moment of the mail that an item puts
abbrev pub moment_of : ℕ → Deed → ℕ
moment_of at (Append mailbox flags moment text) = moment
moment_of at _ = at

-- ---- a step

-- What an entry has stays with it under another UID and with other flags, comes to a copy, and comes to new mail whose moment is such a one.
module _ (P : Entry → Type 0) (T : ℕ → Type 0)
    (same : (e : Entry) (uid : ℕ) (flags : Flags) → P e → P (record e { uid = uid; flags = flags }))
    (again : (e : Entry) (number index : ℕ) → number ≤ 4294967295 → index < 65536 → P e → P (record e { key = record { item = number; index = index } }))
    (fresh : (i : Item) (index : ℕ) (flags : Flags) (at : ℕ) → i.number ≤ 4294967295 → i.rev ≤ 4294967295 → index < 65536 → T at → P (message i index flags at)) where
  put_fits : (es : List Entry) (m : Mailbox) → Entries P es → Entries P m.entries → Entries P (put_all es m).entries
  put_fits [] m h k = k
  put_fits (e ∷ es) m h k = put_fits es (put e m) h.1 (all_joined P m.entries (record e { uid = m.next } ∷ []) k (same e m.next e.flags h.0, tt))

  flagged_fits : (keys : List Key) (how : How) (flags : Flags) (es : List Entry) → Entries P es → Entries P (reflagged keys how flags es)
  flagged_fits keys how flags es h =
      all_mapped P P _ (λ e k. either P (is_among keys e.key) (record e { flags = changed how flags e.flags }) e (same e e.uid (changed how flags e.flags) k) k) es h

  inbox_rows : (u : User) (target : List ℕ) (rs : Boxes) → IsName target → Rows P rs → Rows P (inbox_renamed u target rs)
  inbox_rows u target rs name h =
      added_rows P (box_of u target) (put_all (mail_at (box_of u inbox) rs) no_mail) (left u inbox rs) name (put_fits (mail_at (box_of u inbox) rs) no_mail (mail_fits P (box_of u inbox) rs h) tt) (left_rows P u inbox rs h)

  plain_rows : (u : User) (source target : List ℕ) (rs : Boxes) → changes_nothing u source target rs ≡ false → has_row (box_of u target) rs ≡ false → IsName target → Rows P rs → Rows P (after_rename Plain u source target rs)
  plain_rows u source target rs sound gone name h =
      let made : Rows P (all_created u (superiors target) rs) = created_rows P u (superiors target) rs (superiors_named target name) h in
      let known = not_in_vain u source target rs sound in
      elim (bytes_eq source inbox) as (λ b. bytes_eq source inbox ≡ b → Rows P (cond b (inbox_renamed u target (all_created u (superiors target) rs)) (moved u source target (all_created u (superiors target) rs)))) [
        | true ↦ λ e. inbox_rows u target (all_created u (superiors target) rs) name made
        | false ↦ λ e. moved_fits P u source target name (all_created u (superiors target) rs) made
            (fits_created P u source target name (superiors target) rs (superiors_off P u source target name (not_below source target e known.4)) (short_fits P u source target name rs h (short e known.5)))
      ] refl
    where
      short : bytes_eq source inbox ≡ false → is_overlong u source target rs ≡ false → list_any (λ n. is_inferior source n && nat_lt MOST_NAME (length (moved_name source target n))) (names_of u rs) ≡ false
      short e over = subst (λ (b : Bool). (not b && list_any (λ n. is_inferior source n && nat_lt MOST_NAME (length (moved_name source target n))) (names_of u rs)) ≡ false) gone
          (subst (λ (b : Bool). (not b && not (has_row (box_of u target) rs) && list_any (λ n. is_inferior source n && nat_lt MOST_NAME (length (moved_name source target n))) (names_of u rs)) ≡ false) e over)

  merged_rows : (u : User) (source target : List ℕ) (rs : Boxes) → Rows P rs → Rows P (after_rename Merged u source target rs)
  merged_rows u source target rs h =
      changed_rows P (box_of u target) (put_all (mail_at (box_of u source) rs)) (λ m k. put_fits (mail_at (box_of u source) rs) m (mail_fits P (box_of u source) rs h) k) (left u source rs) (left_rows P u source rs h)

  renamed_rows : (u : User) (source target : List ℕ) (rs : Boxes) → IsName target → Rows P rs → Rows P (after_rename (way_of u source target rs) u source target rs)
  renamed_rows u source target rs name h =
      elim (changes_nothing u source target rs || not (has_row (box_of u source) rs)) as (λ b. (changes_nothing u source target rs || not (has_row (box_of u source) rs)) ≡ b →
      Rows P (after_rename (cond b NoSource (cond (has_row (box_of u target) rs) Merged Plain)) u source target rs)) [
        | true ↦ λ e. h
        | false ↦ λ e.
            elim (has_row (box_of u target) rs) as (λ t. has_row (box_of u target) rs ≡ t → Rows P (after_rename (cond t Merged Plain) u source target rs)) [
              | true ↦ λ t. merged_rows u source target rs h
              | false ↦ λ t. plain_rows u source target rs (or_parts (changes_nothing u source target rs) _ e).0 t name h
            ] refl
      ] refl

  deleted_rows : (u : User) (name : List ℕ) (keys : List Key) (rs : Boxes) → Rows P rs → Rows P (deleted u name keys rs)
  deleted_rows u name keys rs h =
      either (Rows P) (is_fixed name) rs (change_row (box_of u lost_found) (put_all (saved u name keys rs)) (left u name rs)) h
      (changed_rows P (box_of u lost_found) (put_all (saved u name keys rs)) (λ m k. put_fits (saved u name keys rs) m (saved_fit P u name keys rs h) k) (left u name rs) (left_rows P u name rs h))

  rearranged_rows : (u : User) (d : Deed) (rs : Boxes) → AllByRecursion IsName (names_made d) → Rows P rs → Rows P (rearranged u d rs)
  rearranged_rows u (Fetch mailbox keys sets_seen shows_body) rs names h =
      either (Rows P) sets_seen _ rs (changed_rows P (box_of u mailbox) _ (λ m k. flagged_fits keys Add (record no_flags { seen = true }) m.entries k) rs h) h
  rearranged_rows u (Store mailbox keys how flags) rs names h = changed_rows P (box_of u mailbox) _ (λ m k. flagged_fits keys how flags m.entries k) rs h
  rearranged_rows u (Expunge mailbox keys) rs names h = changed_rows P (box_of u mailbox) _ (λ m k. expunged_fit P keys m.entries k) rs h
  rearranged_rows u (Close mailbox keys) rs names h = changed_rows P (box_of u mailbox) _ (λ m k. expunged_fit P keys m.entries k) rs h
  rearranged_rows u (Create mailbox) rs names h = either (Rows P) (has_row (box_of u mailbox) rs) rs (all_created u (with_superiors mailbox) rs) h (created_rows P u (with_superiors mailbox) rs (with_superiors_named mailbox names.0) h)
  rearranged_rows u (Rename mailbox target) rs names h = renamed_rows u mailbox target rs names.0 h
  rearranged_rows u (Delete mailbox keys) rs names h = deleted_rows u mailbox keys rs h
  rearranged_rows u (Acts (Remove w mailbox key)) rs names h = changed_rows P (box_of u mailbox) _ (λ m k. without_fit P (key ∷ []) m.entries k) rs h
  rearranged_rows u _ rs names h = h

  copies_fit : (number : ℕ) (es : List Entry) (keys : List Key) → number ≤ 4294967295 → length keys ≤ 65536 → Entries P es → Entries P (copies number es keys)
  copies_fit number es keys le few h =
      all_chosen IsCounted P _
      (λ k lt. some_mapped P P (λ (e : Entry). record e { key = record { item = number; index = k.0 } }) (entry_of es k.1) (λ e is. again e number k.0 le lt is) (found_has P (λ (e : Entry). same_key k.1 e.key) es h))
      (enumerate_from 0 keys) (counted 0 keys (omega (arith, few)))

  mail_is : (u : User) (i : Item) (rs : Boxes) (index : ℕ) (d : Deed) → i.number ≤ 4294967295 → i.rev ≤ 4294967295 → T (moment_of i.at d) → length (keys_in d) ≤ 65536 → index < 65536 → Rows P rs → Entries P (new_mail u i rs index d)
  mail_is u i rs index (Deliver from to text) number rev moment few lt h = (fresh i index no_flags i.at number rev lt moment, tt)
  mail_is u i rs index (Append mailbox flags at text) number rev moment few lt h = (fresh i index flags at number rev lt moment, tt)
  mail_is u i rs index (Copy mailbox keys target) number rev moment few lt h = copies_fit i.number (mail_at (box_of u mailbox) rs) keys number few (mail_fits P (box_of u mailbox) rs h)
  mail_is u i rs index (Acts (Give w mailbox text)) number rev moment few lt h = (fresh i index no_flags i.at number rev lt moment, tt)
  mail_is u i rs index (Notice w text) number rev moment few lt h = (fresh i index no_flags i.at number rev lt moment, tt)
  mail_is u i rs index _ number rev moment few lt h = tt

  put_rows : (mail : ℕ → List Entry) → ((index : ℕ) → index < 65536 → Entries P (mail index)) → (aims : List Aim) (rs : Boxes) → AllByRecursion IsIndex aims → Rows P rs → Rows P (put_at mail aims rs)
  put_rows mail stored [] rs few h = h
  put_rows mail stored (a ∷ aims) rs few h =
      put_rows mail stored aims (change_row (box_aimed a) (put_all (mail a.index)) rs) few.1 (changed_rows P (box_aimed a) (put_all (mail a.index)) (λ m k. put_fits (mail a.index) m (stored a.index few.0) k) rs h)

  pub step_rows : (s : MailStore) (i : Item) → Rows P s.boxes → i.number ≤ 4294967295 → i.rev ≤ 4294967295 → T (moment_of i.at i.deed) → length (keys_in i.deed) ≤ 65536 → AllByRecursion IsName (names_made i.deed) → Rows P (step s i).0.boxes
  step_rows s i h number rev moment few names =
      put_rows (λ index. new_mail (actor i.by i.deed) i s.boxes index i.deed) (λ index lt. mail_is (actor i.by i.deed) i s.boxes index i.deed number rev moment few lt h) (sought_by s i).aims
      (rearranged (actor i.by i.deed) i.deed s.boxes) (sought_is s (unwrap_or (text_in i.deed) []) i.by i.deed) (rearranged_rows (actor i.by i.deed) i.deed s.boxes names h)
