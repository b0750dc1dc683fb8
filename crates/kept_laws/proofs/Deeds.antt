-- What a deed has whose Kept without its text has a spelling.
use Rattle.std.proofs.Common.{◌≡◌, ℕ, true, List, [], ◌++◌, arith}
use Rattle.std.specs.Prelude.{if◌then◌else◌}
use Rattle.std.specs.Int.{w64}
use Rattle.undo_base.specs.declared.limits.TheConstants.{LAST_MOMENT}
use Rattle.undo_base.specs.Name.{IsName}
use Rattle.verb_core.specs.declared.conf.Filter.{Filter}
use Rattle.verb_core.specs.declared.conf.Scope.{Scope}
use Rattle.verb_core.specs.declared.conf.Scope.TheVariants.{Body, Field as HeaderField, Sender, Recipient}
use Rattle.verb_core.specs.declared.item.Act.{Act}
use Rattle.verb_core.specs.declared.item.Act.TheVariants.{SetAlias, DropAlias, SetFilter, DropFilter, Remove, Give}
use Rattle.verb_core.specs.declared.item.Deed.{Deed}
use Rattle.verb_core.specs.declared.item.Deed.TheVariants.{Deliver, Append, Fetch, Store, Copy, List as Names, Status, Select, Expunge, Close, Create, Rename, Delete, Act as Acts, Notice}
use Rattle.verb_core.specs.Filters.{is_of_body}
use Rattle.verb_bytes.specs.Fields.{Field, ◌&◌, act_kind, any_list_fields, any_text_field, are_in_range, bool_field, byte_field, deed_kind_to, field_name_field, flags_field, moment_field, name_field, user_field, key_field}
use Rattle.verb_bytes.specs.Spelling.{act_fields_within, filter_fields, how_field, key_list, scope_fields}
use Rattle.verb_bytes.proofs.Exact.{in_range_both}
use Rattle.verb_bytes.proofs.Puts.{first_in_range, number_in_range, others_in_range}
use Rattle.verb_bytes.proofs.Ranges.{byte_fits}
use Rattle.kept_laws.proofs.Fits.{FitsDeed, FitsFilter, IsDeedAgain}
use Rattle.kept_laws.proofs.Ranged.{keys_few, keys_ranged, name_ranged}

-- ---- parts of its fields

mailbox_of : (kind : ℕ) (mailbox : List ℕ) (more : List Field) → are_in_range (deed_kind_to 15 kind ++ (name_field mailbox ++ more)) ≡ true → IsName mailbox
mailbox_of kind mailbox more e = name_ranged mailbox (first_in_range (name_field mailbox) more (others_in_range (deed_kind_to 15 kind) (name_field mailbox ++ more) e))

alone_of : (kind : ℕ) (mailbox : List ℕ) → are_in_range (deed_kind_to 15 kind ++ name_field mailbox) ≡ true → IsName mailbox
alone_of kind mailbox e = name_ranged mailbox (others_in_range (deed_kind_to 15 kind) (name_field mailbox) e)

behind_mailbox : (kind : ℕ) (mailbox : List ℕ) (more : List Field) → are_in_range (deed_kind_to 15 kind ++ (name_field mailbox ++ more)) ≡ true → are_in_range more ≡ true
behind_mailbox kind mailbox more e = others_in_range (name_field mailbox) more (others_in_range (deed_kind_to 15 kind) (name_field mailbox ++ more) e)

-- a filter, with the fields of any scope
filter_of : (f : Filter) → are_in_range (act_fields_within 4294967295 (SetFilter f)) ≡ true → FitsFilter f
filter_of f e = by f.scope e
  where
    by : (s : Scope) → are_in_range (if is_of_body s then act_kind 3 & filter_fields f else act_kind 7 & (filter_fields f & scope_fields 1 s)) ≡ true → are_in_range (filter_fields f & scope_fields 0 s) ≡ true
    by Body e = in_range_both (filter_fields f) (scope_fields 0 Body) (others_in_range (act_kind 3) (filter_fields f) e) (byte_fits 0 3 0 (omega arith) (omega arith))
    by (HeaderField name) e =
        let both = others_in_range (act_kind 7) (filter_fields f & scope_fields 1 (HeaderField name)) e in
        let named = others_in_range (byte_field 1 3 1) (field_name_field name) (others_in_range (filter_fields f) (scope_fields 1 (HeaderField name)) both) in
        in_range_both (filter_fields f) (scope_fields 0 (HeaderField name)) (first_in_range (filter_fields f) (scope_fields 1 (HeaderField name)) both)
        (in_range_both (byte_field 0 3 1) (field_name_field name) (byte_fits 0 3 1 (omega arith) (omega arith)) named)
    by Sender e =
        let both = others_in_range (act_kind 7) (filter_fields f & scope_fields 1 Sender) e in
        in_range_both (filter_fields f) (scope_fields 0 Sender) (first_in_range (filter_fields f) (scope_fields 1 Sender) both) (byte_fits 0 3 2 (omega arith) (omega arith))
    by Recipient e =
        let both = others_in_range (act_kind 7) (filter_fields f & scope_fields 1 Recipient) e in
        in_range_both (filter_fields f) (scope_fields 0 Recipient) (first_in_range (filter_fields f) (scope_fields 1 Recipient) both) (byte_fits 0 3 3 (omega arith) (omega arith))

-- ---- an act

act_fits : (a : Act) → are_in_range (deed_kind_to 15 14 ++ act_fields_within 4294967295 a) ≡ true → FitsDeed (Acts a)
act_fits (SetAlias local users) e =
    let named = others_in_range (act_kind 1) (name_field local & any_list_fields user_field users) (others_in_range (deed_kind_to 15 14) (act_kind 1 & name_field local & any_list_fields user_field users) e) in
    record { names = tt; keys = tt; few = omega arith; moment = tt; change = name_ranged local (first_in_range (name_field local) (any_list_fields user_field users) named); mailbox = tt }
act_fits (DropAlias local) e = record { names = tt; keys = tt; few = omega arith; moment = tt; change = tt; mailbox = tt }
act_fits (SetFilter f) e = record { names = tt; keys = tt; few = omega arith; moment = tt; change = filter_of f (others_in_range (deed_kind_to 15 14) (act_fields_within 4294967295 (SetFilter f)) e); mailbox = tt }
act_fits (DropFilter id) e = record { names = tt; keys = tt; few = omega arith; moment = tt; change = tt; mailbox = tt }
act_fits (Remove u mailbox k) e =
    let last = name_field mailbox & key_field k in
    let named = others_in_range (user_field u) last (others_in_range (act_kind 5) (user_field u & last) (others_in_range (deed_kind_to 15 14) (act_kind 5 & user_field u & last) e)) in
    record { names = tt; keys = tt; few = omega arith; moment = tt; change = tt; mailbox = name_ranged mailbox (first_in_range (name_field mailbox) (key_field k) named) }
act_fits (Give u mailbox text) e =
    let last = name_field mailbox & any_text_field text in
    let named = others_in_range (user_field u) last (others_in_range (act_kind 6) (user_field u & last) (others_in_range (deed_kind_to 15 14) (act_kind 6 & user_field u & last) e)) in
    record { names = tt; keys = tt; few = omega arith; moment = tt; change = tt; mailbox = name_ranged mailbox (first_in_range (name_field mailbox) (any_text_field text) named) }

-- ---- a deed

pub deed_fits : (d : Deed) → IsDeedAgain d → FitsDeed d
deed_fits (Deliver from to text) e = record { names = tt; keys = tt; few = omega arith; moment = tt; change = tt; mailbox = tt }
deed_fits (Append mailbox flags moment text) e =
    let more = flags_field flags & moment_field moment & any_text_field [] in
    let from_moment = others_in_range (flags_field flags) (moment_field moment & any_text_field []) (behind_mailbox 2 mailbox more e) in
    record {
      names = tt;
      keys = tt;
      few = omega arith;
      moment = number_in_range w64 LAST_MOMENT moment (first_in_range (moment_field moment) (any_text_field []) from_moment);
      change = tt;
      mailbox = mailbox_of 2 mailbox more e;
    }
deed_fits (Fetch mailbox ks sets_seen shows_body) e =
    let last = bool_field sets_seen & bool_field shows_body in
    let keys = first_in_range (key_list ks) last (behind_mailbox 3 mailbox (key_list ks & last) e) in
    record { names = tt; keys = keys_ranged ks keys; few = keys_few ks keys; moment = tt; change = tt; mailbox = mailbox_of 3 mailbox (key_list ks & last) e }
deed_fits (Store mailbox ks how flags) e =
    let last = how_field how & flags_field flags in
    let keys = first_in_range (key_list ks) last (behind_mailbox 4 mailbox (key_list ks & last) e) in
    record { names = tt; keys = keys_ranged ks keys; few = keys_few ks keys; moment = tt; change = tt; mailbox = mailbox_of 4 mailbox (key_list ks & last) e }
deed_fits (Copy mailbox ks target) e =
    let keys = first_in_range (key_list ks) (name_field target) (behind_mailbox 5 mailbox (key_list ks & name_field target) e) in
    record { names = tt; keys = keys_ranged ks keys; few = keys_few ks keys; moment = tt; change = tt; mailbox = mailbox_of 5 mailbox (key_list ks & name_field target) e }
deed_fits (Names pattern) e = record { names = tt; keys = tt; few = omega arith; moment = tt; change = tt; mailbox = tt }
deed_fits (Status mailbox) e = record { names = tt; keys = tt; few = omega arith; moment = tt; change = tt; mailbox = alone_of 7 mailbox e }
deed_fits (Select mailbox) e = record { names = tt; keys = tt; few = omega arith; moment = tt; change = tt; mailbox = alone_of 8 mailbox e }
deed_fits (Expunge mailbox ks) e =
    let keys = behind_mailbox 9 mailbox (key_list ks) e in
    record { names = tt; keys = keys_ranged ks keys; few = keys_few ks keys; moment = tt; change = tt; mailbox = mailbox_of 9 mailbox (key_list ks) e }
deed_fits (Close mailbox ks) e =
    let keys = behind_mailbox 10 mailbox (key_list ks) e in
    record { names = tt; keys = keys_ranged ks keys; few = keys_few ks keys; moment = tt; change = tt; mailbox = mailbox_of 10 mailbox (key_list ks) e }
deed_fits (Create mailbox) e = record { names = (alone_of 11 mailbox e, tt); keys = tt; few = omega arith; moment = tt; change = tt; mailbox = alone_of 11 mailbox e }
deed_fits (Rename mailbox target) e =
    record { names = (name_ranged target (behind_mailbox 12 mailbox (name_field target) e), tt); keys = tt; few = omega arith; moment = tt; change = tt; mailbox = mailbox_of 12 mailbox (name_field target) e }
deed_fits (Delete mailbox ks) e =
    let keys = behind_mailbox 13 mailbox (key_list ks) e in
    record { names = tt; keys = keys_ranged ks keys; few = keys_few ks keys; moment = tt; change = tt; mailbox = mailbox_of 13 mailbox (key_list ks) e }
deed_fits (Acts (Give u mailbox text)) e =
    let bare = act_fits (Give u mailbox []) e in
    record { names = tt; keys = tt; few = omega arith; moment = tt; change = tt; mailbox = bare.mailbox }
deed_fits (Acts (SetAlias local users)) e = act_fits (SetAlias local users) e
deed_fits (Acts (DropAlias local)) e = act_fits (DropAlias local) e
deed_fits (Acts (SetFilter f)) e = act_fits (SetFilter f) e
deed_fits (Acts (DropFilter id)) e = act_fits (DropFilter id) e
deed_fits (Acts (Remove u mailbox k)) e = act_fits (Remove u mailbox k) e
deed_fits (Notice u text) e = record { names = tt; keys = tt; few = omega arith; moment = tt; change = tt; mailbox = tt }
