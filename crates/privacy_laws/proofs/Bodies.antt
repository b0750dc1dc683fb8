-- What holds of the body of each entry of a user holds of each after the user's own item, where it holds of the body that the item brings.
use Rattle.std.proofs.Common.{◌≡◌, ℕ, ◌+◌, Bool, true, false, not, ◌&&◌, cond, List, [], ◌∷◌, filter_map, Option, None, Some, is_some, option_map, unwrap_or, sum_by, refl, ap, sym, ◌∙◌, arith, zero-add, true≢false}
use Rattle.std.proofs.lemmas.List.Sums.{sum_by-cons}
use Rattle.std.specs.List.{list_all, cons_option, enumerate_from}
use Rattle.std.specs.Cmp.{first_so, second_so}
use Rattle.std.specs.Ordering.{eq_by_cmp}
use Rattle.undo_base.specs.declared.keys.User.{User}
use Rattle.undo_base.specs.declared.keys.Key.{Key}
use Rattle.verb_core.specs.declared.item.Aim.{Aim}
use Rattle.verb_core.specs.declared.item.Deed.{Deed}
use Rattle.verb_core.specs.declared.item.Deed.TheVariants.{Deliver, Append, Copy, Act as Acts, Notice}
use Rattle.verb_core.specs.declared.item.Item.{Item}
use Rattle.verb_core.specs.declared.mailbox.Body.{Body}
use Rattle.verb_core.specs.declared.mailbox.BoxId.{BoxId}
use Rattle.verb_core.specs.declared.mailbox.Entry.{Entry}
use Rattle.verb_core.specs.declared.mailbox.Mailbox.{Mailbox}
use Rattle.verb_core.specs.Aims.{sought_by}
use Rattle.verb_core.specs.Boxes.{box_cmp, box_of, mail_at, row_at, rows_of, same_user}
use Rattle.verb_core.specs.Fates.{count_given, count_held, count_in, count_taken}
use Rattle.verb_core.specs.Items.{IsWellFormed, actor, is_own, text_in}
use Rattle.verb_core.specs.Mailboxes.{entry_of, same_key}
use Rattle.verb_core.specs.Step.{Boxes, new_mail, step}
use Rattle.verb_core.specs.Store.{IsValid, MailStore}
use Rattle.verb_core.proofs.BoxLaws.{own-row_at}
use Rattle.verb_core.proofs.FateLaws.{count_held-step, count_in-cons}
use Rattle.verb_core.proofs.Validity.{both}
use Rattle.store_kept.specs.Texts.{all_bodies}

-- the body of the text that an item brings
abbrev pub body_of : Item → Body
body_of i = record { origin = i.number; rev = i.rev }

abbrev fails : (Body → Bool) → Entry → Bool
fails test e = not (test e.body)

-- ---- entries, by how many fail

none_fail : (test : Body → Bool) (es : List Entry) → list_all (λ (e : Entry). test e.body) es ≡ true → count_in (fails test) es ≡ 0
none_fail test [] all = refl
none_fail test (e ∷ es) all =
    count_in-cons (fails test) e es
    ∙ ap (λ b. cond (not b) 1 0 + count_in (fails test) es) (first_so (test e.body) _ all)
    ∙ zero-add (count_in (fails test) es) ∙ none_fail test es (second_so (test e.body) _ all)

passes : (b : Bool) (rest : ℕ) → cond (not b) 1 0 + rest ≡ 0 → b ≡ true
passes true rest e = refl
passes false rest e = absurd (omega arith)

rest_none : (n rest : ℕ) → n + rest ≡ 0 → rest ≡ 0
rest_none n rest e = omega arith

first_none : (n rest : ℕ) → n + rest ≡ 0 → n ≡ 0
first_none n rest e = omega arith

all_pass : (test : Body → Bool) (es : List Entry) → count_in (fails test) es ≡ 0 → list_all (λ (e : Entry). test e.body) es ≡ true
all_pass test [] none = refl
all_pass test (e ∷ es) none =
    let split = sym (count_in-cons (fails test) e es) ∙ none in
    rw (passes (test e.body) (count_in (fails test) es) split) (all_pass test es (rest_none (cond (not (test e.body)) 1 0) (count_in (fails test) es) split))

none_if : (b : Bool) (n : ℕ) → n ≡ 0 → cond b n 0 ≡ 0
none_if true n e = e
none_if false n e = refl

-- ---- a user's rows

abbrev held_in : User → (Entry → Bool) → BoxId × Mailbox → ℕ
held_in u test r = cond (same_user u r.0.user) (count_in test r.1.entries) 0

rest_pass : (test : Body → Bool) (b : Bool) (r : BoxId × Mailbox) (rs : Boxes) → all_bodies test (cond b (r ∷ rs) rs) ≡ true → all_bodies test rs ≡ true
rest_pass test true r rs all = second_so (list_all (λ (e : Entry). test e.body) r.1.entries) _ all
rest_pass test false r rs all = all

none_in : (test : Body → Bool) (b : Bool) (r : BoxId × Mailbox) (rs : Boxes) → all_bodies test (cond b (r ∷ rs) rs) ≡ true → cond b (count_in (fails test) r.1.entries) 0 ≡ 0
none_in test true r rs all = none_fail test r.1.entries (first_so _ _ all)
none_in test false r rs all = refl

none_held : (test : Body → Bool) (u : User) (boxes : Boxes) → all_bodies test (rows_of u boxes) ≡ true → count_held u (fails test) boxes ≡ 0
none_held test u [] all = refl
none_held test u (r ∷ rs) all =
    sum_by-cons (held_in u (fails test)) r rs
    ∙ ap (λ n. n + count_held u (fails test) rs) (none_in test (same_user u r.0.user) r (rows_of u rs) all)
    ∙ zero-add (count_held u (fails test) rs)
    ∙ none_held test u rs (rest_pass test (same_user u r.0.user) r (rows_of u rs) all)

with_row : (test : Body → Bool) (b : Bool) (r : BoxId × Mailbox) (rs : Boxes) → cond b (count_in (fails test) r.1.entries) 0 ≡ 0 → all_bodies test rs ≡ true → all_bodies test (cond b (r ∷ rs) rs) ≡ true
with_row test true r rs none all = both (list_all (λ (e : Entry). test e.body) r.1.entries) (all_bodies test rs) (all_pass test r.1.entries none) all
with_row test false r rs none all = all

all_held : (test : Body → Bool) (u : User) (boxes : Boxes) → count_held u (fails test) boxes ≡ 0 → all_bodies test (rows_of u boxes) ≡ true
all_held test u [] none = refl
all_held test u (r ∷ rs) none =
    let split = sym (sum_by-cons (held_in u (fails test)) r rs) ∙ none in
    with_row test (same_user u r.0.user) r (rows_of u rs)
    (first_none (held_in u (fails test) r) (count_held u (fails test) rs) split)
    (all_held test u rs (rest_none (held_in u (fails test) r) (count_held u (fails test) rs) split))

-- ---- mail of a user

-- the mail in a user's mailbox is that in the user's rows
pub mail_own : (u : User) (n : List ℕ) (boxes : Boxes) → mail_at (box_of u n) boxes ≡ mail_at (box_of u n) (rows_of u boxes)
mail_own u n boxes = ap (λ (o : Option Mailbox). unwrap_or (option_map (λ (m : Mailbox). m.entries) o) []) (sym (own-row_at u n boxes))

mail_pass : (test : Body → Bool) (id : BoxId) (boxes : Boxes) → all_bodies test boxes ≡ true → list_all (λ (e : Entry). test e.body) (mail_at id boxes) ≡ true
mail_pass test id [] all = refl
mail_pass test id (r ∷ rs) all =
    elim (eq_by_cmp box_cmp id r.0) as (λ b. list_all (λ (e : Entry). test e.body) (unwrap_or (option_map (λ (m : Mailbox). m.entries) (cond b (Some r.1) (row_at id rs))) []) ≡ true) [
      | true ↦ first_so _ _ all
      | false ↦ mail_pass test id rs (second_so (list_all (λ (e : Entry). test e.body) r.1.entries) _ all)
    ]

pub own_pass : (test : Body → Bool) (u : User) (n : List ℕ) (boxes : Boxes) → all_bodies test (rows_of u boxes) ≡ true → list_all (λ (e : Entry). test e.body) (mail_at (box_of u n) boxes) ≡ true
own_pass test u n boxes all = ap (list_all (λ (e : Entry). test e.body)) (mail_own u n boxes) ∙ mail_pass test (box_of u n) (rows_of u boxes) all

-- ---- what an item brings

abbrev found_passes : (Body → Bool) → Option Entry → Bool
found_passes test None = true
found_passes test (Some e) = test e.body

abbrev copied : ℕ → List Entry → ℕ × Key → Option Entry
copied number entries k = option_map (λ (e : Entry). record e { key = record { item = number; index = k.0 } }) (entry_of entries k.1)

entry_pass : (test : Body → Bool) (key : Key) (entries : List Entry) → list_all (λ (e : Entry). test e.body) entries ≡ true → found_passes test (entry_of entries key) ≡ true
entry_pass test key [] all = refl
entry_pass test key (e ∷ es) all =
    elim (same_key key e.key) as (λ b. found_passes test (cond b (Some e) (entry_of es key)) ≡ true) [
      | true ↦ first_so _ _ all
      | false ↦ entry_pass test key es (second_so (test e.body) _ all)
    ]

with_copy : (test : Body → Bool) (number index : ℕ) (o : Option Entry) (rest : List Entry) → found_passes test o ≡ true → list_all (λ (e : Entry). test e.body) rest ≡ true
    → list_all (λ (e : Entry). test e.body) (cons_option (option_map (λ (e : Entry). record e { key = record { item = number; index = index } }) o) rest) ≡ true
with_copy test number index None rest here all = all
with_copy test number index (Some e) rest here all = rw here all

copies_pass : (test : Body → Bool) (number : ℕ) (entries : List Entry) (ks : List (ℕ × Key)) → list_all (λ (e : Entry). test e.body) entries ≡ true
    → list_all (λ (e : Entry). test e.body) (filter_map (copied number entries) ks) ≡ true
copies_pass test number entries [] all = refl
copies_pass test number entries (k ∷ ks) all =
    with_copy test number k.0 (entry_of entries k.1) (filter_map (copied number entries) ks) (entry_pass test k.1 entries all) (copies_pass test number entries ks all)

only : (b : Bool) → b ≡ true → (b && true) ≡ true
only b e = rw e refl

new_pass : (test : Body → Bool) (u : User) (i : Item) (boxes : Boxes) (index : ℕ) (d : Deed) → is_own d ≡ true → all_bodies test (rows_of u boxes) ≡ true
    → (is_some (text_in d) ≡ true → test (body_of i) ≡ true) → list_all (λ (e : Entry). test e.body) (new_mail u i boxes index d) ≡ true
new_pass test u i boxes index (Append mailbox flags moment text) own all brings = only _ (brings refl)
new_pass test u i boxes index (Copy mailbox keys target) own all brings = copies_pass test i.number (mail_at (box_of u mailbox) boxes) (enumerate_from 0 keys) (own_pass test u mailbox boxes all)
new_pass test u i boxes index (Deliver from to text) own all brings = absurd (true≢false (sym own))
new_pass test u i boxes index (Acts act) own all brings = absurd (true≢false (sym own))
new_pass test u i boxes index (Notice v text) own all brings = absurd (true≢false (sym own))
new_pass test u i boxes index _ own all brings = refl

sum_none : {X : Type 0} (f : X → ℕ) → ((x : X) → f x ≡ 0) → (xs : List X) → sum_by f xs ≡ 0
sum_none f none [] = refl
sum_none f none (x ∷ xs) = sum_by-cons f x xs ∙ ap (λ n. n + sum_by f xs) (none x) ∙ zero-add (sum_by f xs) ∙ sum_none f none xs

none_given : (test : Body → Bool) (s : MailStore) (i : Item) → is_own i.deed ≡ true → all_bodies test (rows_of (actor i.by i.deed) s.boxes) ≡ true
    → (is_some (text_in i.deed) ≡ true → test (body_of i) ≡ true) → count_given (actor i.by i.deed) (fails test) s i ≡ 0
none_given test s i own all brings =
    let u : User = actor i.by i.deed in
    sum_none (λ (a : Aim). cond (same_user u a.user) (count_in (fails test) (new_mail u i s.boxes a.index i.deed)) 0)
    (λ a. none_if (same_user u a.user) _ (none_fail test (new_mail u i s.boxes a.index i.deed) (new_pass test u i s.boxes a.index i.deed own all brings)))
    (sought_by s i).aims

none_after : (held taken before given : ℕ) → held + taken ≡ before + given → before ≡ 0 → given ≡ 0 → held ≡ 0
none_after held taken before given e b g = omega arith

-- after the user's own item
pub all_after : (test : Body → Bool) (s : MailStore) (i : Item) → IsValid s → IsWellFormed s.house i → is_own i.deed ≡ true → all_bodies test (rows_of (actor i.by i.deed) s.boxes) ≡ true
    → (is_some (text_in i.deed) ≡ true → test (body_of i) ≡ true) → all_bodies test (rows_of (actor i.by i.deed) (step s i).0.boxes) ≡ true
all_after test s i valid formed own all brings =
    let u : User = actor i.by i.deed in
    all_held test u (step s i).0.boxes (none_after (count_held u (fails test) (step s i).0.boxes) (count_taken u (fails test) s i) (count_held u (fails test) s.boxes) (count_given u (fails test) s i)
    (count_held-step u (fails test) s i valid formed (λ e uid. refl) (λ is e flags. refl)) (none_held test u s.boxes all) (none_given test s i own all brings))

-- ---- tests

-- a user's rows are rows
pub rows_pass : (test : Body → Bool) (u : User) (boxes : Boxes) → all_bodies test boxes ≡ true → all_bodies test (rows_of u boxes) ≡ true
rows_pass test u [] all = refl
rows_pass test u (r ∷ rs) all =
    elim (same_user u r.0.user) as (λ b. all_bodies test (cond b (r ∷ rows_of u rs) (rows_of u rs)) ≡ true) [
      | true ↦ both (list_all (λ (e : Entry). test e.body) r.1.entries) (all_bodies test (rows_of u rs)) (first_so _ _ all) (rows_pass test u rs (second_so (list_all (λ (e : Entry). test e.body) r.1.entries) _ all))
      | false ↦ rows_pass test u rs (second_so (list_all (λ (e : Entry). test e.body) r.1.entries) _ all)
    ]

entries_both : (p q : Body → Bool) (es : List Entry) → list_all (λ (e : Entry). p e.body) es ≡ true → list_all (λ (e : Entry). q e.body) es ≡ true → list_all (λ (e : Entry). p e.body && q e.body) es ≡ true
entries_both p q [] one other = refl
entries_both p q (e ∷ es) one other =
    both (p e.body && q e.body) (list_all (λ (e : Entry). p e.body && q e.body) es) (both (p e.body) (q e.body) (first_so _ _ one) (first_so _ _ other))
    (entries_both p q es (second_so (p e.body) _ one) (second_so (q e.body) _ other))

-- two tests of each body
pub bodies_both : (p q : Body → Bool) (boxes : Boxes) → all_bodies p boxes ≡ true → all_bodies q boxes ≡ true → all_bodies (λ (b : Body). p b && q b) boxes ≡ true
bodies_both p q [] one other = refl
bodies_both p q (r ∷ rs) one other =
    both (list_all (λ (e : Entry). p e.body && q e.body) r.1.entries) (all_bodies (λ (b : Body). p b && q b) rs)
    (entries_both p q r.1.entries (first_so _ _ one) (first_so _ _ other))
    (bodies_both p q rs (second_so (list_all (λ (e : Entry). p e.body) r.1.entries) _ one) (second_so (list_all (λ (e : Entry). q e.body) r.1.entries) _ other))
