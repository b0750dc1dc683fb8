-- What holds of the body of each entry, over items that bring none but bodies of which it holds.
use Rattle.std.proofs.Common.{◌≡◌, ℕ, ◌+◌, Bool, true, false, not, ◌&&◌, cond, List, [], ◌∷◌, ◌++◌, filter_map, find, Option, None, Some, is_some, option_map, unwrap_or, sum_by, refl, ap, sym, ◌∙◌, arith, zero-add, map, ◌==◌, eq-eqb}
use Rattle.std.proofs.lemmas.List.Sums.{sum_by-cons}
use Rattle.std.specs.List.{list_all, cons_option, enumerate_from, AllByRecursion}
use Rattle.std.specs.Cmp.{first_so, second_so}
use Rattle.std.specs.Ordering.{eq_by_cmp}
use Rattle.undo_base.specs.declared.keys.User.{User}
use Rattle.undo_base.specs.declared.keys.Key.{Key}
use Rattle.verb_core.specs.declared.item.Act.TheVariants.{SetAlias, DropAlias, SetFilter, DropFilter, Remove, Give}
use Rattle.verb_core.specs.declared.item.Aim.{Aim}
use Rattle.verb_core.specs.declared.item.Deed.{Deed}
use Rattle.verb_core.specs.declared.item.Deed.TheVariants.{Deliver, Append, Fetch, Store, Copy, List as Names, Status, Select, Expunge, Close, Create, Rename, Delete, Act as Acts, Notice}
use Rattle.verb_core.specs.declared.item.Item.{Item}
use Rattle.verb_core.specs.declared.mailbox.Body.{Body}
use Rattle.verb_core.specs.declared.mailbox.BoxId.{BoxId}
use Rattle.verb_core.specs.declared.mailbox.Entry.{Entry}
use Rattle.verb_core.specs.declared.mailbox.Mailbox.{Mailbox}
use Rattle.verb_core.specs.Aims.{sought_by}
use Rattle.verb_core.specs.Boxes.{box_cmp, box_of, row_at, mail_at, same_user}
use Rattle.verb_core.specs.Fates.{IgnoresUid, IgnoresFlags, sets_flags, count_in, count_held, count_given, count_taken}
use Rattle.verb_core.specs.Items.{IsWellFormed, actor, text_in}
use Rattle.verb_core.specs.Mailboxes.{entry_of, same_key}
use Rattle.verb_core.specs.Step.{Boxes, new_mail, step, run}
use Rattle.verb_core.specs.Store.{MailStore, IsValid}
use Rattle.verb_core.proofs.BoxLaws.{same_user-refl}
use Rattle.verb_core.proofs.FateLaws.{count_in-cons}
use Rattle.verb_core.proofs.Validity.{all_kept}
use Rattle.store_kept.specs.Texts.{all_bodies}

-- the body of the text that an item brings
abbrev pub body_of : Item → Body
body_of i = record { origin = i.number; rev = i.rev }

-- ---- entries whose bodies pass a test, by how many fail

abbrev fails : (Body → Bool) → Entry → Bool
fails test e = not (test e.body)

none_fail : (test : Body → Bool) (es : List Entry) → list_all (λ (e : Entry). test e.body) es ≡ true → count_in (fails test) es ≡ 0
none_fail test [] all = refl
none_fail test (e ∷ es) all =
    count_in-cons (fails test) e es
    ∙ ap (λ b. cond (not b) 1 0 + count_in (fails test) es) (first_so (test e.body) _ all)
    ∙ zero-add (count_in (fails test) es) ∙ none_fail test es (second_so (test e.body) _ all)

passes : (b : Bool) (rest : ℕ) → cond (not b) 1 0 + rest ≡ 0 → b ≡ true
passes true rest e = refl
passes false rest e = absurd (omega arith)

rest_none : (n rest : ℕ) → n + rest ≡ 0 → rest ≡ 0
rest_none n rest e = omega arith

all_pass : (test : Body → Bool) (es : List Entry) → count_in (fails test) es ≡ 0 → list_all (λ (e : Entry). test e.body) es ≡ true
all_pass test [] none = refl
all_pass test (e ∷ es) none =
    let split = sym (count_in-cons (fails test) e es) ∙ none in
    rw (passes (test e.body) (count_in (fails test) es) split) (all_pass test es (rest_none (cond (not (test e.body)) 1 0) (count_in (fails test) es) split))

abbrev held_in : User → (Entry → Bool) → BoxId × Mailbox → ℕ
held_in u test r = cond (same_user u r.0.user) (count_in test r.1.entries) 0

none_if : (b : Bool) (n : ℕ) → n ≡ 0 → cond b n 0 ≡ 0
none_if true n e = e
none_if false n e = refl

none_held : (test : Body → Bool) (u : User) (boxes : Boxes) → all_bodies test boxes ≡ true → count_held u (fails test) boxes ≡ 0
none_held test u [] all = refl
none_held test u (r ∷ rs) all =
    let here : held_in u (fails test) r ≡ 0 = none_if (same_user u r.0.user) _ (none_fail test r.1.entries (first_so _ _ all)) in
    let rest : count_held u (fails test) rs ≡ 0 = none_held test u rs (second_so (list_all (λ (e : Entry). test e.body) r.1.entries) _ all) in
    sum_by-cons (held_in u (fails test)) r rs ∙ ap (λ n. n + count_held u (fails test) rs) here ∙ zero-add (count_held u (fails test) rs) ∙ rest

first_none : (n rest : ℕ) → n + rest ≡ 0 → n ≡ 0
first_none n rest e = omega arith

all_held : (test : Body → Bool) (boxes : Boxes) → ((u : User) → count_held u (fails test) boxes ≡ 0) → all_bodies test boxes ≡ true
all_held test [] none = refl
all_held test (r ∷ rs) none =
    let split = λ (u : User). sym (sum_by-cons (held_in u (fails test)) r rs) ∙ none u in
    let here : count_in (fails test) r.1.entries ≡ 0 =
    ap (λ b. cond b (count_in (fails test) r.1.entries) 0) (sym (same_user-refl r.0.user)) ∙ first_none (held_in r.0.user (fails test) r) (count_held r.0.user (fails test) rs) (split r.0.user) in
    rw (all_pass test r.1.entries here) (all_held test rs (λ u. rest_none (held_in u (fails test) r) (count_held u (fails test) rs) (split u)))

-- ---- what an item brings

-- of a found entry
abbrev found_passes : (Body → Bool) → Option Entry → Bool
found_passes test None = true
found_passes test (Some e) = test e.body

mail_known : (test : Body → Bool) (id : BoxId) (boxes : Boxes) → all_bodies test boxes ≡ true → list_all (λ (e : Entry). test e.body) (mail_at id boxes) ≡ true
mail_known test id [] all = refl
mail_known test id (r ∷ rs) all =
    elim (eq_by_cmp box_cmp id r.0) as (λ b. list_all (λ (e : Entry). test e.body) (unwrap_or (option_map (λ (m : Mailbox). m.entries) (cond b (Some r.1) (row_at id rs))) []) ≡ true) [
      | true ↦ first_so _ _ all
      | false ↦ mail_known test id rs (second_so (list_all (λ (e : Entry). test e.body) r.1.entries) _ all)
    ]

abbrev copied : ℕ → List Entry → ℕ × Key → Option Entry
copied number entries k = option_map (λ (e : Entry). record e { key = record { item = number; index = k.0 } }) (entry_of entries k.1)

entry_known : (test : Body → Bool) (key : Key) (entries : List Entry) → list_all (λ (e : Entry). test e.body) entries ≡ true → found_passes test (entry_of entries key) ≡ true
entry_known test key [] all = refl
entry_known test key (e ∷ es) all =
    elim (same_key key e.key) as (λ b. found_passes test (cond b (Some e) (entry_of es key)) ≡ true) [
      | true ↦ first_so _ _ all
      | false ↦ entry_known test key es (second_so (test e.body) _ all)
    ]

with_copy : (test : Body → Bool) (number index : ℕ) (o : Option Entry) (rest : List Entry) → found_passes test o ≡ true → list_all (λ (e : Entry). test e.body) rest ≡ true
    → list_all (λ (e : Entry). test e.body) (cons_option (option_map (λ (e : Entry). record e { key = record { item = number; index = index } }) o) rest) ≡ true
with_copy test number index None rest here all = all
with_copy test number index (Some e) rest here all = rw here all

copies_known : (test : Body → Bool) (number : ℕ) (entries : List Entry) (ks : List (ℕ × Key)) → list_all (λ (e : Entry). test e.body) entries ≡ true
    → list_all (λ (e : Entry). test e.body) (filter_map (copied number entries) ks) ≡ true
copies_known test number entries [] all = refl
copies_known test number entries (k ∷ ks) all =
    with_copy test number k.0 (entry_of entries k.1) (filter_map (copied number entries) ks) (entry_known test k.1 entries all) (copies_known test number entries ks all)

only : (b : Bool) → b ≡ true → (b && true) ≡ true
only b e = rw e refl

new_known : (test : Body → Bool) (u : User) (i : Item) (boxes : Boxes) (index : ℕ) (d : Deed) → all_bodies test boxes ≡ true
    → (is_some (text_in d) ≡ true → test (body_of i) ≡ true) → list_all (λ (e : Entry). test e.body) (new_mail u i boxes index d) ≡ true
new_known test u i boxes index (Deliver from to text) all own = only _ (own refl)
new_known test u i boxes index (Append mailbox flags moment text) all own = only _ (own refl)
new_known test u i boxes index (Copy mailbox keys target) all own = copies_known test i.number (mail_at (box_of u mailbox) boxes) (enumerate_from 0 keys) (mail_known test (box_of u mailbox) boxes all)
new_known test u i boxes index (Acts (Give v mailbox text)) all own = only _ (own refl)
new_known test u i boxes index (Acts (SetAlias local users)) all own = refl
new_known test u i boxes index (Acts (DropAlias local)) all own = refl
new_known test u i boxes index (Acts (SetFilter f)) all own = refl
new_known test u i boxes index (Acts (DropFilter id)) all own = refl
new_known test u i boxes index (Acts (Remove v mailbox key)) all own = refl
new_known test u i boxes index (Notice v text) all own = only _ (own refl)
new_known test u i boxes index (Fetch mailbox keys sets_seen shows_body) all own = refl
new_known test u i boxes index (Store mailbox keys how flags) all own = refl
new_known test u i boxes index (Names pattern) all own = refl
new_known test u i boxes index (Status mailbox) all own = refl
new_known test u i boxes index (Select mailbox) all own = refl
new_known test u i boxes index (Expunge mailbox keys) all own = refl
new_known test u i boxes index (Close mailbox keys) all own = refl
new_known test u i boxes index (Create mailbox) all own = refl
new_known test u i boxes index (Rename mailbox target) all own = refl
new_known test u i boxes index (Delete mailbox keys) all own = refl

sum_none : {X : Type 0} (f : X → ℕ) → ((x : X) → f x ≡ 0) → (xs : List X) → sum_by f xs ≡ 0
sum_none f none [] = refl
sum_none f none (x ∷ xs) = sum_by-cons f x xs ∙ ap (λ n. n + sum_by f xs) (none x) ∙ zero-add (sum_by f xs) ∙ sum_none f none xs

none_given : (test : Body → Bool) (u : User) (s : MailStore) (i : Item) → all_bodies test s.boxes ≡ true → (is_some (text_in i.deed) ≡ true → test (body_of i) ≡ true)
    → count_given u (fails test) s i ≡ 0
none_given test u s i all own =
    sum_none (λ (a : Aim). cond (same_user u a.user) (count_in (fails test) (new_mail (actor i.by i.deed) i s.boxes a.index i.deed)) 0)
    (λ a. none_if (same_user u a.user) _ (none_fail test (new_mail (actor i.by i.deed) i s.boxes a.index i.deed) (new_known test (actor i.by i.deed) i s.boxes a.index i.deed all own)))
    (sought_by s i).aims

-- ---- the laws

abbrev pub MailIsKept : Type 0
MailIsKept = (u : User) (test : Entry → Bool) (s : MailStore) (i : Item) → IsValid s → IsWellFormed s.house i →
    IgnoresUid test → (sets_flags i.deed ≡ true → IgnoresFlags test) →
    count_held u test (step s i).0.boxes + count_taken u test s i ≡ count_held u test s.boxes + count_given u test s i

abbrev pub StepsKeep : Type 0
StepsKeep = (s : MailStore) (i : Item) → IsValid s → IsWellFormed s.house i → IsValid (step s i).0

none_after : (held taken before given : ℕ) → held + taken ≡ before + given → before ≡ 0 → given ≡ 0 → held ≡ 0
none_after held taken before given e b g = omega arith

step_known : MailIsKept → (test : Body → Bool) (s : MailStore) (i : Item) → IsValid s → IsWellFormed s.house i → all_bodies test s.boxes ≡ true
    → (is_some (text_in i.deed) ≡ true → test (body_of i) ≡ true) → all_bodies test (step s i).0.boxes ≡ true
step_known law test s i valid formed all own =
    all_held test (step s i).0.boxes (λ u. none_after _ (count_taken u (fails test) s i) (count_held u (fails test) s.boxes) (count_given u (fails test) s i)
    (law u (fails test) s i valid formed (λ e uid. refl) (λ is e flags. refl)) (none_held test u s.boxes all) (none_given test u s i all own))

-- items of which each brings none but bodies that pass
pub run_known : MailIsKept → StepsKeep → (test : Body → Bool) (s : MailStore) (t : List Item) → IsValid s → AllByRecursion (IsWellFormed s.house) t
    → AllByRecursion (λ (i : Item). is_some (text_in i.deed) ≡ true → test (body_of i) ≡ true) t → all_bodies test s.boxes ≡ true → all_bodies test (run s t).boxes ≡ true
run_known law stays test s [] valid formed own all = all
run_known law stays test s (i ∷ t) valid formed own all =
    run_known law stays test (step s i).0 t (stays s i valid formed.0) formed.1 own.1 (step_known law test s i valid formed.0 all own.0)

-- entries whose bodies pass a weaker test
pub bodies_weaker : (test other : Body → Bool) (boxes : Boxes) → ((body : Body) → test body ≡ true → other body ≡ true) → all_bodies test boxes ≡ true → all_bodies other boxes ≡ true
bodies_weaker test other boxes weaker all =
    all_kept (λ (r : BoxId × Mailbox). list_all (λ (e : Entry). test e.body) r.1.entries) (λ (r : BoxId × Mailbox). list_all (λ (e : Entry). other e.body) r.1.entries) boxes
    (λ r here. all_kept (λ (e : Entry). test e.body) (λ (e : Entry). other e.body) r.1.entries (λ e has. weaker e.body has) here) all
