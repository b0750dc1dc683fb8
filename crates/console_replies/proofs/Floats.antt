-- No body has a float.
use Rattle.std.proofs.Common.{◌≡◌, ℕ, List, [], ◌∷◌, Bool, true, false, ◌||◌, Less, Equal, Greater, nat_cmp, refl}
use Rattle.std.specs.Cmp.Lexicographic.{slice_cmp}
use Rattle.std.specs.Ordering.{match_ordering}
use Rattle.std.specs.Prelude.{map, fold, Option, Some, None}
use Rattle.serde_json.specs.Data.{Data, Members, no_members, member, put}
use Rattle.serde_json.specs.View.{items_of}
use Rattle.serde_json.specs.Written.{has_float, items_have_float, members_have_float}
use Rattle.undo_base.specs.declared.keys.User.{User}
use Rattle.verb_core.specs.declared.conf.Alias.{Alias}
use Rattle.verb_core.specs.declared.conf.Conf.{Conf}
use Rattle.verb_core.specs.declared.conf.Filter.{Filter}
use Rattle.verb_core.specs.declared.conf.House.{House}
use Rattle.verb_core.specs.declared.conf.Scope.{Scope}
use Rattle.verb_core.specs.declared.conf.Scope.TheVariants.{Body, Field, Sender, Recipient}
use Rattle.verb_core.specs.declared.item.Item.{Item}
use Rattle.verb_core.specs.declared.mailbox.Mailbox.{Mailbox}
use Rattle.console_replies.specs.declared.bodies.StatusCounts.{StatusCounts}
use Rattle.paradox.specs.declared.reports.Report.{Report}
use Rattle.console_replies.specs.Bodies.{counted, status_data, body_data}
use Rattle.console_replies.specs.Timeline.{item_data, timeline_data}
use Rattle.console_replies.specs.Mailboxes.{entry_data, box_data}
use Rattle.console_replies.specs.Reports.{broken_data, renewal_data, report_data}
use Rattle.console_replies.specs.Confs.{user_data, users_data, put_alias, file_data, scoped_data, filter_data, conf_data}

-- a list of values of which none has a float
listed : {A : Type 0} (f : A → Data) → ((a : A) → has_float (f a) ≡ false) → (xs : List A) → items_have_float (items_of (map f xs)) ≡ false
listed f none [] = refl
listed f none (x ∷ xs) = rw (none x) (listed f none xs)

pub status_has_none : (d : Data) (c : StatusCounts) → d ≡ status_data c → has_float d ≡ false
status_has_none d c e = rw e refl

pub body_has_none : (d : Data) (text : List ℕ) (rev : ℕ) → d ≡ body_data text rev → has_float d ≡ false
body_has_none d text rev e = rw e refl

pub timeline_has_none : (d : Data) (house : House) (items : List Item) → d ≡ timeline_data house items → has_float d ≡ false
timeline_has_none d house items e = rw (e, listed (item_data house) (λ i. refl) items) refl

pub box_has_none : (d : Data) (box : Mailbox) (stamp : ℕ) → d ≡ box_data box stamp → has_float d ≡ false
box_has_none d box stamp e = rw (e, listed entry_data (λ i. refl) box.entries) refl

pub report_has_none : (d : Data) (house : House) (r : Report) → d ≡ report_data house r → has_float d ≡ false
report_has_none d house r e =
    rw (
      e,
      listed (broken_data house) (λ b. refl) r.broken,
      listed counted (λ n. refl) r.notices,
      listed (renewal_data house) (λ x. refl) r.renewed,
      listed counted (λ n. refl) r.unmatched,
    ) refl

file_has_none : (file : Option (List ℕ)) → has_float (file_data file) ≡ false
file_has_none None = refl
file_has_none (Some name) = refl

scoped_has_none : (f : Filter) (scope : Scope) → has_float (scoped_data f scope) ≡ false
scoped_has_none f Body = rw (file_has_none f.file) refl
scoped_has_none f (Field field) = rw (file_has_none f.file) refl
scoped_has_none f Sender = rw (file_has_none f.file) refl
scoped_has_none f Recipient = rw (file_has_none f.file) refl

filter_has_none : (f : Filter) → has_float (filter_data f) ≡ false
filter_has_none f = scoped_has_none f f.scope

users_have_none : (house : House) (users : List User) → has_float (users_data house users) ≡ false
users_have_none house users = listed (user_data house) (λ u. refl) users

first_false : (a b : Bool) → (a || b) ≡ false → a ≡ false
first_false false b e = refl
first_false true b e = cc

second_false : (a b : Bool) → (a || b) ≡ false → b ≡ false
second_false false b e = e
second_false true b e = cc

put_has_none : (k : List ℕ) (d : Data) (ms : Members) → has_float d ≡ false → members_have_float ms ≡ false → members_have_float (put k d ms) ≡ false
put_has_none k d no_members e f = rw e refl
put_has_none k d (member l m ms) e f =
    elim (slice_cmp nat_cmp k l) as (λ o. members_have_float (match_ordering o (member k d (member l m ms)) (member l d ms) (member l m (put k d ms))) ≡ false) [
      | Less ↦ rw e f
      | Equal ↦ rw e (second_false (has_float m) _ f)
      | Greater ↦ rw (first_false (has_float m) _ f) (put_has_none k d ms e (second_false (has_float m) _ f))
    ]

aliases_have_none : (house : House) (aliases : List Alias) (ms : Members) → members_have_float ms ≡ false → members_have_float (fold (put_alias house) ms aliases) ≡ false
aliases_have_none house [] ms f = f
aliases_have_none house (a ∷ aliases) ms f =
    aliases_have_none house aliases (put_alias house ms a) (put_has_none a.local (users_data house a.users) ms (users_have_none house a.users) f)

pub conf_has_none : (d : Data) (house : House) (conf : Conf) → d ≡ conf_data house conf → has_float d ≡ false
conf_has_none d house conf e = rw (e, aliases_have_none house conf.aliases no_members refl, listed filter_data filter_has_none conf.filters) refl
