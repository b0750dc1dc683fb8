-- The fields of an item's record, and those of its Kept without a text.
use Rattle.std.proofs.Common.{◌≡◌, ◌==◌, ℕ, ◌+◌, ◌<◌, ◌≤◌, true, List, [], ◌++◌, length, Option, Some, None, refl, sym, subst, arith}
use Rattle.std.specs.Cmp.{first_so, second_so}
use Rattle.std.specs.Int.{w32, w64}
use Rattle.std.specs.List.{AllByRecursion, cons_option, list_all}
use Rattle.std.proofs.lemmas.Bool.{ltb-true}
use Rattle.undo_base.specs.declared.keys.User.{User}
use Rattle.undo_base.specs.declared.limits.TheConstants.{LAST_MOMENT, MOST_KEYS, MOST_RECIPIENTS}
use Rattle.undo_base.specs.Name.{IsName}
use Rattle.verb_core.specs.declared.conf.House.{House}
use Rattle.verb_core.specs.declared.item.Act.{Act}
use Rattle.verb_core.specs.declared.item.Act.TheVariants.{SetAlias, DropAlias, SetFilter, DropFilter, Remove, Give}
use Rattle.verb_core.specs.declared.item.Deed.{Deed}
use Rattle.verb_core.specs.declared.item.Deed.TheVariants.{Deliver, Append, Fetch, Store, Copy, List as Names, Status, Select, Expunge, Close, Create, Rename, Delete, Act as Acts, Notice}
use Rattle.verb_core.specs.declared.item.Item.{Item}
use Rattle.verb_core.specs.Deeds.{act_item, with_text}
use Rattle.verb_core.specs.Items.{IsWellFormed, users_in}
use Rattle.verb_core.specs.Store.{is_house, is_known}
use Rattle.verb_bytes.specs.declared.journal.CycleAsk.{CycleAsk}
use Rattle.verb_bytes.specs.declared.journal.JournalRecord.TheVariants.{Verb, Operator, Cycle, Withdraw, Kept as KeptRecord}
use Rattle.verb_bytes.specs.Fields.{Field, ◌&◌, act_kind, actor_field, any_list_fields, any_text_field, are_in_range, body_field, deed_kind_to, flags_field, list_fields, moment_field, most_of_four, name_field, only_if, record_kind, text_field, u32_field, user_field}
use Rattle.verb_bytes.specs.Spelling.{HasSpelling, act_fields, act_fields_within, ask_fields, deed_fields, deed_fields_within, item_fields, kept_deed_fields, kept_fields, replace_fields, shown_fields, shown_fields_within, shown_kind}
use Rattle.verb_bytes.proofs.Exact.{in_range_both}
use Rattle.verb_bytes.proofs.Forms.{cycle_moment, deed_ranged, no_rev, withdraw_moment}
use Rattle.verb_bytes.proofs.Puts.{first_in_range, number_in_range, others_in_range}
use Rattle.verb_bytes.proofs.Ranges.{byte_fits, number_fits, record_kind_fits, text_fits, user_fits}
use Rattle.mail_desk.specs.Counting.{bare_item}
use Rattle.cut_laws.proofs.Sizes.{few_users}
use Rattle.kept_laws.proofs.Fits.{Fits, IsAgain, IsDeedAgain, IsFour}
use Rattle.kept_laws.proofs.Ranged.{four_ranged, list_ranged, name_ranged, shown_ranged}

-- fields behind others, in the place of which those stand that are in range too
behind : (x y z : List Field) → (are_in_range y ≡ true → are_in_range z ≡ true) → are_in_range (x ++ y) ≡ true → are_in_range (x ++ z) ≡ true
behind x y z more is = in_range_both x z (first_in_range x y is) (more (others_in_range x y is))

-- fields behind the kind of a deed
kind_behind : (last kind : ℕ) (y z : List Field) → 1 ≤ kind → kind ≤ 15 → (are_in_range y ≡ true → are_in_range z ≡ true) → are_in_range (deed_kind_to last kind ++ y) ≡ true → are_in_range (deed_kind_to 15 kind ++ z) ≡ true
kind_behind last kind y z least most more is = in_range_both (deed_kind_to 15 kind) z (byte_fits 1 15 kind least most) (more (others_in_range (deed_kind_to last kind) y is))

no_text : are_in_range (text_field most_of_four []) ≡ true
no_text = text_fits most_of_four [] (omega arith)

-- ---- a deed

-- an act without a text
act_kept : (last most : ℕ) (a : Act) → are_in_range (deed_kind_to last 14 ++ act_fields_within most a) ≡ true → are_in_range (kept_deed_fields (with_text [] (Acts a))) ≡ true
act_kept last most (Give u mailbox text) =
    kind_behind last 14 (act_kind 6 & user_field u & name_field mailbox & text_field most text) (act_kind 6 & user_field u & name_field mailbox & text_field most_of_four []) (omega arith) (omega arith)
    (behind (act_kind 6) (user_field u & name_field mailbox & text_field most text) (user_field u & name_field mailbox & text_field most_of_four [])
    (behind (user_field u) (name_field mailbox & text_field most text) (name_field mailbox & text_field most_of_four [])
    (behind (name_field mailbox) (text_field most text) (text_field most_of_four []) (λ old. no_text))))
act_kept last most (SetAlias local users) = kind_behind last 14 (act_fields_within most (SetAlias local users)) (act_fields_within most_of_four (SetAlias local users)) (omega arith) (omega arith) (λ is. is)
act_kept last most (DropAlias local) = kind_behind last 14 (act_fields_within most (DropAlias local)) (act_fields_within most_of_four (DropAlias local)) (omega arith) (omega arith) (λ is. is)
act_kept last most (SetFilter f) = kind_behind last 14 (act_fields_within most (SetFilter f)) (act_fields_within most_of_four (SetFilter f)) (omega arith) (omega arith) (λ is. is)
act_kept last most (DropFilter id) = kind_behind last 14 (act_fields_within most (DropFilter id)) (act_fields_within most_of_four (DropFilter id)) (omega arith) (omega arith) (λ is. is)
act_kept last most (Remove u mailbox k) = kind_behind last 14 (act_fields_within most (Remove u mailbox k)) (act_fields_within most_of_four (Remove u mailbox k)) (omega arith) (omega arith) (λ is. is)

-- a deed without its text
pub deed_kept : (last most : ℕ) (d : Deed) → are_in_range (deed_fields_within last most d) ≡ true → are_in_range (kept_deed_fields (with_text [] d)) ≡ true
deed_kept last most (Deliver from to text) =
    let all = list_fields MOST_RECIPIENTS name_field to in
    kind_behind last 1 (any_text_field from & all & text_field most text) (any_text_field from & all & text_field most_of_four []) (omega arith) (omega arith)
    (behind (any_text_field from) (all & text_field most text) (all & text_field most_of_four []) (behind all (text_field most text) (text_field most_of_four []) (λ old. no_text)))
deed_kept last most (Append mailbox given at text) =
    kind_behind last 2 (name_field mailbox & flags_field given & moment_field at & text_field most text) (name_field mailbox & flags_field given & moment_field at & text_field most_of_four []) (omega arith) (omega arith)
    (behind (name_field mailbox) (flags_field given & moment_field at & text_field most text) (flags_field given & moment_field at & text_field most_of_four [])
    (behind (flags_field given) (moment_field at & text_field most text) (moment_field at & text_field most_of_four [])
    (behind (moment_field at) (text_field most text) (text_field most_of_four []) (λ old. no_text))))
deed_kept last most (Acts a) = act_kept last most a
deed_kept last most (Notice u text) =
    kind_behind last 15 (user_field u & text_field most text) (user_field u & text_field most_of_four []) (omega arith) (omega arith)
    (behind (user_field u) (text_field most text) (text_field most_of_four []) (λ old. no_text))
deed_kept last most (Fetch mailbox ks sets_seen shows_body) = kind_behind last 3 _ _ (omega arith) (omega arith) (λ is. is)
deed_kept last most (Store mailbox ks how given) = kind_behind last 4 _ _ (omega arith) (omega arith) (λ is. is)
deed_kept last most (Copy mailbox ks target) = kind_behind last 5 _ _ (omega arith) (omega arith) (λ is. is)
deed_kept last most (Names pattern) = kind_behind last 6 _ _ (omega arith) (omega arith) (λ is. is)
deed_kept last most (Status mailbox) = kind_behind last 7 _ _ (omega arith) (omega arith) (λ is. is)
deed_kept last most (Select mailbox) = kind_behind last 8 _ _ (omega arith) (omega arith) (λ is. is)
deed_kept last most (Expunge mailbox ks) = kind_behind last 9 _ _ (omega arith) (omega arith) (λ is. is)
deed_kept last most (Close mailbox ks) = kind_behind last 10 _ _ (omega arith) (omega arith) (λ is. is)
deed_kept last most (Create mailbox) = kind_behind last 11 _ _ (omega arith) (omega arith) (λ is. is)
deed_kept last most (Rename mailbox target) = kind_behind last 12 _ _ (omega arith) (omega arith) (λ is. is)
deed_kept last most (Delete mailbox ks) = kind_behind last 13 _ _ (omega arith) (omega arith) (λ is. is)

-- what a deed shows does not depend on its text
pub shown_same : (d : Deed) → shown_kind (with_text [] d) ≡ shown_kind d
shown_same (Deliver from to text) = refl
shown_same (Append mailbox flags moment text) = refl
shown_same (Acts (Give u mailbox text)) = refl
shown_same (Notice u text) = refl
shown_same _ = refl

-- ---- the moment and the deed of an item

deed_again : (d : Deed) → are_in_range (kept_deed_fields (with_text [] d)) ≡ true → IsDeedAgain d
deed_again (Notice u text) is = tt
deed_again _ is = is

-- another text
retold_deed : (text : List ℕ) (d : Deed) → IsDeedAgain d → IsDeedAgain (with_text text d)
retold_deed text (Notice u old) is = tt
retold_deed text (Deliver from to old) is = is
retold_deed text (Append mailbox given at old) is = is
retold_deed text (Acts (Give u mailbox old)) is = is
retold_deed text _ is = is

pub retold_again : (c : ℕ) (text : List ℕ) (i : Item) → IsAgain i → IsAgain (record i { rev = c; deed = with_text text i.deed })
retold_again c text i again = record { at = again.at; deed = retold_deed text i.deed again.deed }

-- ---- of a record

-- an item of a user's record
verb_from : (i : Item) → HasSpelling (Verb i) → are_in_range (moment_field i.at & actor_field i.by & deed_fields i.deed & shown_fields (shown_kind i.deed) i.shown & only_if (i.rev == 0)) ≡ true
verb_from i spelled =
    let fields = actor_field i.by & deed_fields i.deed & shown_fields (shown_kind i.deed) i.shown & only_if (i.rev == 0) in
    others_in_range (u32_field i.number) (moment_field i.at & fields) (others_in_range (record_kind 1) (item_fields i) spelled)

pub verb_fits : (i : Item) → HasSpelling (Verb i) → Fits i
verb_fits i spelled =
    let last = shown_fields (shown_kind i.deed) i.shown & only_if (i.rev == 0) in
    let fields = actor_field i.by & deed_fields i.deed & last in
    let none : i.rev ≡ 0 = no_rev i spelled in
    record {
      number = number_in_range w32 most_of_four i.number (first_in_range (u32_field i.number) (moment_field i.at & fields) (others_in_range (record_kind 1) (item_fields i) spelled));
      rev = omega (arith, none);
      again = record {
        at = number_in_range w64 LAST_MOMENT i.at (first_in_range (moment_field i.at) fields (verb_from i spelled));
        deed = deed_again i.deed (deed_kept _ _ i.deed (deed_ranged i spelled));
      };
      shows = shown_ranged MOST_KEYS (shown_kind i.deed) i.shown
          (first_in_range (shown_fields (shown_kind i.deed) i.shown) (only_if (i.rev == 0))
          (others_in_range (deed_fields i.deed) last (others_in_range (actor_field i.by) (deed_fields i.deed & last) (others_in_range (moment_field i.at) fields (verb_from i spelled)))));
    }

-- one that was kept
kept_from : (i : Item) → HasSpelling (KeptRecord i) → are_in_range (moment_field i.at & actor_field i.by & u32_field i.rev & kept_deed_fields i.deed & shown_fields_within most_of_four (shown_kind i.deed) i.shown) ≡ true
kept_from i spelled =
    let fields = actor_field i.by & u32_field i.rev & kept_deed_fields i.deed & shown_fields_within most_of_four (shown_kind i.deed) i.shown in
    others_in_range (u32_field i.number) (moment_field i.at & fields) (others_in_range (record_kind 10) (kept_fields i) spelled)

pub kept_fits : (i : Item) → HasSpelling (KeptRecord i) → Fits i
kept_fits i spelled =
    let last = kept_deed_fields i.deed & shown_fields_within most_of_four (shown_kind i.deed) i.shown in
    let fields = actor_field i.by & u32_field i.rev & last in
    let from_rev = others_in_range (actor_field i.by) (u32_field i.rev & last) (others_in_range (moment_field i.at) fields (kept_from i spelled)) in
    let from_deed = others_in_range (u32_field i.rev) last from_rev in
    record {
      number = number_in_range w32 most_of_four i.number (first_in_range (u32_field i.number) (moment_field i.at & fields) (others_in_range (record_kind 10) (kept_fields i) spelled));
      rev = number_in_range w32 most_of_four i.rev (first_in_range (u32_field i.rev) last from_rev);
      again = record {
        at = number_in_range w64 LAST_MOMENT i.at (first_in_range (moment_field i.at) fields (kept_from i spelled));
        deed = deed_again i.deed (deed_kept _ _ i.deed (first_in_range (kept_deed_fields i.deed) (shown_fields_within most_of_four (shown_kind i.deed) i.shown) from_deed));
      };
      shows = shown_ranged most_of_four (shown_kind i.deed) i.shown (others_in_range (kept_deed_fields i.deed) (shown_fields_within most_of_four (shown_kind i.deed) i.shown) from_deed);
    }

-- an act in range
act_fits : (number at : ℕ) (a : Act) → number ≤ 4294967295 → at ≤ LAST_MOMENT → are_in_range (act_fields a) ≡ true → Fits (act_item number at a)
act_fits number at a few le ranged = record {
  number = few;
  rev = omega arith;
  again = record {
    at = le;
    deed = deed_again (Acts a) (act_kept 15 _ a (in_range_both (deed_kind_to 15 14) (act_fields a) (byte_fits 1 15 14 (omega arith) (omega arith)) ranged));
  };
  shows = tt;
}

pub operator_fits : (number at : ℕ) (a : Act) → HasSpelling (Operator number at a) → Fits (act_item number at a)
operator_fits number at a spelled =
    let from_number = others_in_range (record_kind 2) (u32_field number & moment_field at & act_fields a) spelled in
    let from_at = others_in_range (u32_field number) (moment_field at & act_fields a) from_number in
    act_fits number at a (number_in_range w32 most_of_four number (first_in_range (u32_field number) (moment_field at & act_fields a) from_number))
    (number_in_range w64 LAST_MOMENT at (first_in_range (moment_field at) (act_fields a) from_at)) (others_in_range (moment_field at) (act_fields a) from_at)

-- what a cycle is asked to do
pub record CycleFits (at : ℕ) (ask : CycleAsk) : Type 0 where
  pub moment : at ≤ LAST_MOMENT
  pub named : IsName ask.key
  pub point : ask.point ≤ 4294967295
  pub drops : AllByRecursion IsFour ask.drops
  pub replaces : AllByRecursion (λ (r : ℕ × List ℕ). r.0 ≤ 4294967295) ask.replaces
  pub inserts : (n : ℕ) → n ≤ 4294967295 → AllByRecursion (λ (a : Act). Fits (act_item n at a)) ask.inserts

replace_fits : (r : ℕ × List ℕ) → are_in_range (replace_fields r) ≡ true → r.0 ≤ 4294967295
replace_fits r e = four_ranged r.0 (first_in_range (u32_field r.0) (body_field r.1) e)

pub cycle_fits : (number at : ℕ) (ask : CycleAsk) → HasSpelling (Cycle number at ask) → CycleFits at ask
cycle_fits number at ask spelled =
    let acts = any_list_fields act_fields ask.inserts in
    let replaces = any_list_fields replace_fields ask.replaces & acts in
    let drops = any_list_fields u32_field ask.drops & replaces in
    let asked = others_in_range (moment_field at) (ask_fields ask) (others_in_range (u32_field number) (moment_field at & ask_fields ask) (others_in_range (record_kind 3) (u32_field number & moment_field at & ask_fields ask) spelled)) in
    let from_point = others_in_range (name_field ask.key) (u32_field ask.point & drops) asked in
    let from_drops = others_in_range (u32_field ask.point) drops from_point in
    let from_replaces = others_in_range (any_list_fields u32_field ask.drops) replaces from_drops in
    let le = cycle_moment number at ask spelled in
    record {
      moment = le;
      named = name_ranged ask.key (first_in_range (name_field ask.key) (u32_field ask.point & drops) asked);
      point = four_ranged ask.point (first_in_range (u32_field ask.point) drops from_point);
      drops = list_ranged most_of_four u32_field IsFour four_ranged ask.drops (first_in_range (any_list_fields u32_field ask.drops) replaces from_drops);
      replaces = list_ranged most_of_four replace_fields (λ (r : ℕ × List ℕ). r.0 ≤ 4294967295) replace_fits ask.replaces (first_in_range (any_list_fields replace_fields ask.replaces) acts from_replaces);
      inserts = λ n few. list_ranged most_of_four act_fields (λ (a : Act). Fits (act_item n at a)) (λ a e. act_fits n at a few le e) ask.inserts (others_in_range (any_list_fields replace_fields ask.replaces) acts from_replaces);
    }

-- a withdrawal's moment and key
pub withdraw_at : (number at : ℕ) (key : List ℕ) (of : ℕ) → HasSpelling (Withdraw number at key of) → at ≤ LAST_MOMENT
withdraw_at number at key of spelled = withdraw_moment number at key of spelled

pub withdraw_key : (number at : ℕ) (key : List ℕ) (of : ℕ) → HasSpelling (Withdraw number at key of) → IsName key
withdraw_key number at key of spelled =
    let last = name_field key & u32_field of in
    name_ranged key (first_in_range (name_field key) (u32_field of) (others_in_range (moment_field at) last (others_in_range (u32_field number) (moment_field at & last) (others_in_range (record_kind 7) (u32_field number & moment_field at & last) spelled))))

-- ---- its Kept

pub known_fits : (house : House) (u : User) → is_house house ≡ true → is_known house u ≡ true → are_in_range (user_field u) ≡ true
known_fits house u is known =
    let few : length house.accounts ≤ 200 = few_users house is in
    let below : u.0 < length house.accounts = ltb-true u.0 (length house.accounts) known in
    user_fits u (omega (arith, few, below))

actor_fits : (house : House) (o : Option User) (users : List User) → is_house house ≡ true → list_all (is_known house) (cons_option o users) ≡ true → are_in_range (actor_field o) ≡ true
actor_fits house None users is known = byte_fits 255 255 255 (omega arith) (omega arith)
actor_fits house (Some u) users is known = known_fits house u is (first_so (is_known house u) (list_all (is_known house) users) known)

others_known : (house : House) (o : Option User) (users : List User) → list_all (is_known house) (cons_option o users) ≡ true → list_all (is_known house) users ≡ true
others_known house None users known = known
others_known house (Some u) users known = second_so (is_known house u) (list_all (is_known house) users) known

deed_fits : (house : House) (d : Deed) → is_house house ≡ true → list_all (is_known house) (users_in d) ≡ true → IsDeedAgain d → are_in_range (kept_deed_fields (with_text [] d)) ≡ true
deed_fits house (Notice u text) is known again =
    in_range_both (deed_kind_to 15 15) (user_field u & any_text_field []) (byte_fits 1 15 15 (omega arith) (omega arith))
    (in_range_both (user_field u) (any_text_field []) (known_fits house u is (first_so (is_known house u) true known)) no_text)
deed_fits house (Deliver from to text) is known again = again
deed_fits house (Append mailbox given at text) is known again = again
deed_fits house (Acts a) is known again = again
deed_fits house (Fetch mailbox ks sets_seen shows_body) is known again = again
deed_fits house (Store mailbox ks how given) is known again = again
deed_fits house (Copy mailbox ks target) is known again = again
deed_fits house (Names pattern) is known again = again
deed_fits house (Status mailbox) is known again = again
deed_fits house (Select mailbox) is known again = again
deed_fits house (Expunge mailbox ks) is known again = again
deed_fits house (Close mailbox ks) is known again = again
deed_fits house (Create mailbox) is known again = again
deed_fits house (Rename mailbox target) is known again = again
deed_fits house (Delete mailbox ks) is known again = again

-- a well-formed item that fits has a Kept without its text, where what it shows is in range
pub again_spelled : (house : House) (i : Item) → is_house house ≡ true → IsWellFormed house i → Fits i → are_in_range (shown_fields_within most_of_four (shown_kind i.deed) i.shown) ≡ true → HasSpelling (KeptRecord (bare_item i))
again_spelled house i is formed fits shows =
    let deed = kept_deed_fields (with_text [] i.deed) in
    let shown = shown_fields_within most_of_four (shown_kind (with_text [] i.deed)) i.shown in
    in_range_both (record_kind 10) (u32_field i.number & moment_field i.at & actor_field i.by & u32_field i.rev & deed & shown) (record_kind_fits 10 (omega arith))
    (in_range_both (u32_field i.number) (moment_field i.at & actor_field i.by & u32_field i.rev & deed & shown) (number_fits w32 most_of_four i.number fits.number)
    (in_range_both (moment_field i.at) (actor_field i.by & u32_field i.rev & deed & shown) (number_fits w64 LAST_MOMENT i.at fits.again.at)
    (in_range_both (actor_field i.by) (u32_field i.rev & deed & shown) (actor_fits house i.by (users_in i.deed) is formed.users)
    (in_range_both (u32_field i.rev) (deed & shown) (number_fits w32 most_of_four i.rev fits.rev)
    (in_range_both deed shown (deed_fits house i.deed is (others_known house i.by (users_in i.deed) formed.users) fits.again.deed)
    (subst (λ (kind : ℕ). are_in_range (shown_fields_within most_of_four kind i.shown) ≡ true) (sym (shown_same i.deed)) shows))))))
