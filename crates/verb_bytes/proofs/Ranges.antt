-- Fields are in their ranges where plain facts say so.
use Rattle.std.proofs.Common.{◌≡◌, ℕ, ◌≤◌, true, List, [], ◌∷◌, length, refl, sym, ap, subst, arith}
use Rattle.std.specs.Prelude.{nat_le, is_none}
use Rattle.std.specs.List.{flat_map, AllByRecursion}
use Rattle.std.specs.Int.{Width, w32, w64}
use Rattle.std.proofs.lemmas.Bool.{and_from, le-leb}
use Rattle.undo_base.specs.declared.keys.User.{User}
use Rattle.undo_base.specs.Name.{IsName, first_unprintable}
use Rattle.undo_base.specs.declared.limits.TheConstants.{LAST_MOMENT, MOST_RECIPIENTS, MOST_USERS}
use Rattle.verb_core.specs.declared.conf.Account.{Account}
use Rattle.verb_core.specs.declared.conf.Alias.{Alias}
use Rattle.verb_core.specs.declared.conf.Filter.{Filter}
use Rattle.verb_core.specs.declared.conf.House.{House}
use Rattle.verb_core.specs.declared.conf.Conf.{Conf}
use Rattle.verb_core.specs.Names.{is_empty}
use Rattle.verb_bytes.specs.declared.journal.JournalRecord.TheVariants.{Format, Verb}
use Rattle.verb_bytes.specs.declared.kinds.TheConstants.{LAST_RECORD, LAST_ACT, LAST_DEED}
use Rattle.verb_bytes.specs.declared.write.TheConstants.{LAST_USER, MOST_BODY, NOBODY}
use Rattle.verb_bytes.specs.Fields.{Field, are_in_range, only_if, byte_field, number_field, name_field, text_field, list_fields, any_list_fields, user_field, most_of_four, record_kind, act_kind, deed_kind}
use Rattle.verb_bytes.specs.Spelling.{HasSpelling, account_fields, alias_fields}
use Rattle.verb_bytes.specs.Limits.{AreMany, IsUser, IsAccount, IsAlias, IsOpening, IsMail, delivery}
use Rattle.verb_bytes.proofs.Exact.{in_range_both}

pub byte_fits : (least most n : ℕ) → least ≤ n → n ≤ most → are_in_range (byte_field least most n) ≡ true
unfolding byte_field are_in_range
byte_fits least most n low high = and_from _ _ (and_from (nat_le least n) (nat_le n most) (le-leb _ _ low) (le-leb _ _ high)) refl

pub record_kind_fits : (kind : ℕ) → kind ≤ LAST_RECORD → are_in_range (record_kind kind) ≡ true
record_kind_fits kind last = byte_fits 0 LAST_RECORD kind (omega arith) last

pub act_kind_fits : (kind : ℕ) → 1 ≤ kind → kind ≤ LAST_ACT → are_in_range (act_kind kind) ≡ true
act_kind_fits kind first last = byte_fits 1 LAST_ACT kind first last

pub deed_kind_fits : (kind : ℕ) → 1 ≤ kind → kind ≤ LAST_DEED → are_in_range (deed_kind kind) ≡ true
deed_kind_fits kind first last = byte_fits 1 LAST_DEED kind first last

pub number_fits : (w : Width) (most n : ℕ) → n ≤ most → are_in_range (number_field w most n) ≡ true
unfolding number_field are_in_range
number_fits w most n le = and_from _ _ (le-leb _ _ le) refl

pub text_fits : (most : ℕ) (bytes : List ℕ) → length bytes ≤ most → are_in_range (text_field most bytes) ≡ true
unfolding text_field are_in_range
text_fits most bytes le = and_from _ _ (le-leb _ _ le) refl

pub name_fits : (bytes : List ℕ) → IsName bytes → are_in_range (name_field bytes) ≡ true
unfolding name_field are_in_range
name_fits bytes name =
    let printable : is_none (first_unprintable bytes) ≡ true = ap is_none name.printable in
    let long : nat_le 1 (length bytes) ≡ true = le-leb _ _ name.some in
    let short : nat_le (length bytes) 200 ≡ true = le-leb _ _ name.most in
    rw (long, short, printable) refl

pub holds : are_in_range (only_if true) ≡ true
unfolding only_if are_in_range
holds = refl

pub user_fits : (u : User) → IsUser u → are_in_range (user_field u) ≡ true
user_fits u le = byte_fits 0 LAST_USER u.0 (omega arith) le

each_fits : {A : Type 0} (F : A → List Field) (P : A → Type 0) → ((x : A) → P x → are_in_range (F x) ≡ true) → (xs : List A) → AllByRecursion P xs → are_in_range (flat_map F xs) ≡ true
unfolding are_in_range
each_fits F P h [] all = refl
each_fits F P h (x ∷ xs) all = in_range_both (F x) (flat_map F xs) (h x all.0) (each_fits F P h xs all.1)

pub list_fits : {A : Type 0} (most : ℕ) (F : A → List Field) (P : A → Type 0) → ((x : A) → P x → are_in_range (F x) ≡ true) → (xs : List A) → AllByRecursion P xs → length xs ≤ most → are_in_range (list_fields most F xs) ≡ true
list_fits most F P h xs all few = in_range_both (number_field w32 most (length xs)) (flat_map F xs) (number_fits w32 most (length xs) few) (each_fits F P h xs all)

pub many_fit : {A : Type 0} (F : A → List Field) (P : A → Type 0) → ((x : A) → P x → are_in_range (F x) ≡ true) → (xs : List A) → AreMany P xs → are_in_range (any_list_fields F xs) ≡ true
many_fit F P h xs all = list_fits most_of_four F P h xs all.each all.few

account_fits : (a : Account) → IsAccount a → are_in_range (account_fields a) ≡ true
account_fits a h = in_range_both _ _ (name_fits a.name h.name) (name_fits a.password h.password)

pub alias_fits : (a : Alias) → IsAlias a → are_in_range (alias_fields a) ≡ true
alias_fits a h = in_range_both _ _ (name_fits a.local h.local) (many_fit user_field IsUser user_fits a.users h.users)

no_filter : (fs : List Filter) → fs ≡ [] → are_in_range (only_if (is_empty fs)) ≡ true
no_filter fs e = subst (λ (gs : List Filter). are_in_range (only_if (is_empty gs)) ≡ true) (sym e) holds

pub opening_is_spelled : (h : House) (conf : Conf) → IsOpening h conf → HasSpelling (Format h conf)
opening_is_spelled h conf o =
    in_range_both _ _ (record_kind_fits 0 (omega arith))
    (in_range_both _ _ (name_fits h.host o.host)
    (in_range_both _ _ (many_fit name_field IsName name_fits h.domains o.domains)
    (in_range_both _ _ (number_fits w32 most_of_four h.first o.first)
    (in_range_both _ _ (list_fits MOST_USERS account_fields IsAccount account_fits h.accounts o.accounts o.few)
    (in_range_both _ _ (user_fits h.postmaster o.postmaster)
    (in_range_both _ _ (many_fit alias_fields IsAlias alias_fits conf.aliases o.aliases) (no_filter conf.filters o.filters)))))))

pub delivery_is_spelled : (number at : ℕ) (from : List ℕ) (to : List (List ℕ)) (text : List ℕ) → number ≤ most_of_four → at ≤ LAST_MOMENT → IsMail from to text → HasSpelling (Verb (delivery number at from to text))
delivery_is_spelled number at from to text number_le at_le mail =
    in_range_both _ _ (record_kind_fits 1 (omega arith))
    (in_range_both _ _ (number_fits w32 most_of_four number number_le)
    (in_range_both _ _ (number_fits w64 LAST_MOMENT at at_le)
    (in_range_both _ _ (byte_fits NOBODY NOBODY NOBODY (omega arith) (omega arith))
    (in_range_both _ _ (in_range_both _ _ (deed_kind_fits 1 (omega arith) (omega arith))
    (in_range_both _ _ (text_fits most_of_four from mail.from_fits)
    (in_range_both _ _ (list_fits MOST_RECIPIENTS name_field IsName name_fits to mail.names mail.few) (text_fits MOST_BODY text mail.small))))
    (in_range_both _ _ (byte_fits 0 0 0 (omega arith) (omega arith)) holds)))))
