-- What a touch of messages does to a mailbox, what new mail does to it, and what is seen of other messages.
use Rattle.std.proofs.Common.{◌≡◌, ℕ, ◌+◌, Bool, true, false, not, ◌&&◌, ◌||◌, ◌==◌, cond, List, [], ◌∷◌, ◌++◌, filter, filter_map, find, Option, Some, None, is_some, option_map, unwrap_or, refl, sym, ap, ap₂, ◌∙◌, true≢false, eqb-true, eq-eqb}
use Rattle.std.specs.List.{list_all, list_any, cons_option, enumerate_from, AllByRecursion}
use Rattle.std.specs.Cmp.{first_so, second_so}
use Rattle.std.proofs.lemmas.List.{append-nil}
use Rattle.std.proofs.lemmas.List.Elements.{filter-append}
use Rattle.undo_base.specs.declared.keys.Key.{Key}
use Rattle.undo_base.specs.declared.keys.Flags.{Flags}
use Rattle.undo_base.specs.declared.asks.How.{How}
use Rattle.verb_core.specs.declared.mailbox.Entry.{Entry}
use Rattle.verb_core.specs.declared.mailbox.Mailbox.{Mailbox}
use Rattle.verb_core.specs.declared.item.Sight.{Sight}
use Rattle.verb_core.specs.Mailboxes.{put, put_all, with_entries, same_key, is_among, entry_of, there, sights, copies, reflagged, changed, expunged}
use Rattle.touch_rules.specs.Commuting.{have_common, has_number}

-- ---- Bools

pub neither_first : (a b : Bool) → (a || b) ≡ false → a ≡ false
neither_first true b h = h
neither_first false b h = refl

pub neither_second : (a b : Bool) → (a || b) ≡ false → b ≡ false
neither_second true b h = absurd (true≢false h)
neither_second false b h = h

pub both : (a b : Bool) → a ≡ true → b ≡ true → (a && b) ≡ true
both true b h k = k
both false b h k = h

pub neither : (a b : Bool) → a ≡ false → b ≡ false → (a || b) ≡ false
neither true b h k = h
neither false b h k = k

pub negated : (a : Bool) → not a ≡ true → a ≡ false
negated true h = absurd (true≢false (sym h))
negated false h = refl

flip_or : (a b : Bool) → (a || b) ≡ (b || a)
flip_or true true = refl
flip_or true false = refl
flip_or false true = refl
flip_or false false = refl

-- ---- keys

pub one_key : (a b : Key) → same_key a b ≡ true → a ≡ b
one_key a b h = λ j. record { item = eqb-true a.item b.item (first_so _ _ h) j; index = eqb-true a.index b.index (second_so _ _ h) j }

pub flip_eqb : (a b : ℕ) → (a == b) ≡ (b == a)
flip_eqb a b = elim (a == b) as (λ t. (a == b) ≡ t → t ≡ (b == a)) [
  | true ↦ λ e. sym (eq-eqb b a (sym (eqb-true a b e)))
  | false ↦ λ e. elim (b == a) as (λ t. (b == a) ≡ t → false ≡ t) [ true ↦ λ k. absurd (true≢false (sym (eq-eqb a b (sym (eqb-true b a k))) ∙ e)) | false ↦ λ k. refl ] refl
] refl

flip_key : (a b : Key) → same_key a b ≡ same_key b a
flip_key a b = ap₂ (λ x y. x && y) (flip_eqb a.item b.item) (flip_eqb a.index b.index)

-- what is common is common the other way round
common_more : (k : Key) (ks ls : List Key) → have_common ls (k ∷ ks) ≡ (is_among ls k || have_common ls ks)
common_more k ks [] = refl
common_more k ks (l ∷ ls) = ap₂ (λ a b. (a || is_among ks l) || b) (flip_key l k) (common_more k ks ls) ∙ shuffled (same_key k l) (is_among ks l) (is_among ls k) (have_common ls ks)
  where
    shuffled : (a b c d : Bool) → ((a || b) || (c || d)) ≡ ((a || c) || (b || d))
    shuffled true b c d = refl
    shuffled false true true d = refl
    shuffled false true false d = refl
    shuffled false false c d = refl

no_common : (ls : List Key) → have_common ls [] ≡ false
no_common [] = refl
no_common (l ∷ ls) = no_common ls

pub common_flip : (ks ls : List Key) → have_common ks ls ≡ have_common ls ks
common_flip [] ls = sym (no_common ls)
common_flip (k ∷ ks) ls = ap (λ b. is_among ls k || b) (common_flip ks ls) ∙ sym (common_more k ks ls)

-- a key among some is none of others with which they have none in common
pub apart_key : (ks ls : List Key) (key : Key) → have_common ks ls ≡ false → is_among ks key ≡ true → is_among ls key ≡ false
apart_key [] ls key h is = absurd (true≢false (sym is))
apart_key (k ∷ ks) ls key h is = (elim (same_key key k) as (λ b. same_key key k ≡ b → (b || is_among ks key) ≡ true → is_among ls key ≡ false) [
  | true ↦ λ e _. ap (is_among ls) (one_key key k e) ∙ neither_first _ _ h
  | false ↦ λ e on. apart_key ks ls key (neither_second _ _ h) on
] refl) is

-- a key of the item of a number is none of keys that have none of it
pub apart_number : (ks : List Key) (number : ℕ) (key : Key) → has_number number ks ≡ false → (key.item == number) ≡ true → is_among ks key ≡ false
apart_number [] number key h is = refl
apart_number (k ∷ ks) number key h is = neither _ _
    (elim (same_key key k) as (λ b. same_key key k ≡ b → b ≡ false) [
      | true ↦ λ e. absurd (true≢false (sym (ap (λ (x : Key). x.item == number) (sym (one_key key k e)) ∙ is) ∙ neither_first _ _ h))
      | false ↦ λ e. refl
    ] refl)
    (apart_number ks number key (neither_second _ _ h) is)

-- ---- changes by entry: none of another key changes, and each that stays keeps its key

pub record LeavesOthers (keys : List Key) (f : Entry → Option Entry) : Type 0 where
  pub other : (e : Entry) → is_among keys e.key ≡ false → f e ≡ Some e
  pub keeps : (e x : Entry) → f e ≡ Some x → x.key ≡ e.key

-- a STORE, entry by entry
abbrev pub flags_by : List Key → How → Flags → Entry → Option Entry
flags_by keys how flags e = Some (cond (is_among keys e.key) (record e { flags = changed how flags e.flags }) e)

-- a filter, entry by entry
abbrev pub kept_by : (Entry → Bool) → Entry → Option Entry
kept_by test e = cond (test e) (Some e) None

pub flags_form : (keys : List Key) (how : How) (flags : Flags) (es : List Entry) → reflagged keys how flags es ≡ filter_map (flags_by keys how flags) es
flags_form keys how flags [] = refl
flags_form keys how flags (e ∷ es) = ap (λ xs. cond (is_among keys e.key) (record e { flags = changed how flags e.flags }) e ∷ xs) (flags_form keys how flags es)

pub kept_form : (test : Entry → Bool) (es : List Entry) → filter test es ≡ filter_map (kept_by test) es
kept_form test [] = refl
kept_form test (e ∷ es) = elim (test e) as (λ b. cond b (e ∷ filter test es) (filter test es) ≡ cons_option (cond b (Some e) None) (filter_map (kept_by test) es)) [ true ↦ ap (λ xs. e ∷ xs) (kept_form test es) | false ↦ kept_form test es ]

pub flags_leave : (keys : List Key) (how : How) (flags : Flags) → LeavesOthers keys (flags_by keys how flags)
flags_leave keys how flags = record {
  other = λ e off. ap (λ b. Some (cond b (record e { flags = changed how flags e.flags }) e)) off;
  keeps = λ e x h. ap (λ (o : Option Entry). (unwrap_or o e).key) (sym h) ∙ elim (is_among keys e.key) as (λ b. (cond b (record e { flags = changed how flags e.flags }) e).key ≡ e.key) [ true ↦ refl | false ↦ refl ];
}

pub kept_leave : (keys : List Key) (test : Entry → Bool) → ((e : Entry) → is_among keys e.key ≡ false → test e ≡ true) → LeavesOthers keys (kept_by test)
kept_leave keys test stays = record {
  other = λ e off. ap (λ b. cond b (Some e) None) (stays e off);
  keeps = λ e x h. ap (λ (o : Option Entry). (unwrap_or o e).key) (sym h) ∙ elim (test e) as (λ b. (unwrap_or (cond b (Some e) None) e).key ≡ e.key) [ true ↦ refl | false ↦ refl ];
}

module _ (ks ls : List Key) (f g : Entry → Option Entry) (one : LeavesOthers ks f) (two : LeavesOthers ls g) (apart : have_common ks ls ≡ false) where
  -- what one leaves of an entry of its own keys, the other lets be
  passes : (h : Entry → Option Entry) (o : Option Entry) (es : List Entry) → ((x : Entry) → o ≡ Some x → h x ≡ Some x) → filter_map h (cons_option o es) ≡ cons_option o (filter_map h es)
  passes h None es stays = refl
  passes h (Some x) es stays = ap (λ (o : Option Entry). cons_option o (filter_map h es)) (stays x refl)

  -- changes of different messages come in either order
  pub edits_swap : (es : List Entry) → filter_map f (filter_map g es) ≡ filter_map g (filter_map f es)
  edits_swap [] = refl
  edits_swap (e ∷ es) = elim (is_among ks e.key) as (λ b. is_among ks e.key ≡ b → filter_map f (cons_option (g e) (filter_map g es)) ≡ filter_map g (cons_option (f e) (filter_map f es))) [
    | true ↦ λ is.
        let off : is_among ls e.key ≡ false = apart_key ks ls e.key apart is in
        ap (λ (o : Option Entry). filter_map f (cons_option o (filter_map g es))) (two.other e off)
        ∙ ap (cons_option (f e)) (edits_swap es)
        ∙ sym (passes g (f e) (filter_map f es) (λ x h. two.other x (ap (is_among ls) (one.keeps e x h) ∙ off)))
    | false ↦ λ off.
        passes f (g e) (filter_map g es) (λ x h. one.other x (ap (is_among ks) (two.keeps e x h) ∙ off))
        ∙ ap (cons_option (g e)) (edits_swap es)
        ∙ sym (ap (λ (o : Option Entry). filter_map g (cons_option o (filter_map f es))) (one.other e off))
  ] refl

-- ---- what is seen of other messages

-- the entries of a key
abbrev pub with_key : Key → List Entry → List Entry
with_key k es = filter (λ e. same_key k e.key) es

module _ (ls : List Key) (g : Entry → Option Entry) (two : LeavesOthers ls g) where
  pub seen_after : (k : Key) (es : List Entry) → is_among ls k ≡ false → with_key k (filter_map g es) ≡ with_key k es
  seen_after k [] off = refl
  seen_after k (e ∷ es) off = elim (same_key k e.key) as (λ b. same_key k e.key ≡ b → with_key k (cons_option (g e) (filter_map g es)) ≡ cond b (e ∷ with_key k es) (with_key k es)) [
    | true ↦ λ is.
        ap (λ (o : Option Entry). with_key k (cons_option o (filter_map g es))) (two.other e (ap (is_among ls) (sym (one_key k e.key is)) ∙ off))
        ∙ ap (λ b. cond b (e ∷ with_key k (filter_map g es)) (with_key k (filter_map g es))) is
        ∙ ap (λ xs. e ∷ xs) (seen_after k es off)
    | false ↦ λ isnt. skips (g e) (λ x h. ap (same_key k) (two.keeps e x h) ∙ isnt) ∙ seen_after k es off
  ] refl
    where
      skips : (o : Option Entry) → ((x : Entry) → o ≡ Some x → same_key k x.key ≡ false) → with_key k (cons_option o (filter_map g es)) ≡ with_key k (filter_map g es)
      skips None h = refl
      skips (Some x) h = ap (λ b. cond b (x ∷ with_key k (filter_map g es)) (with_key k (filter_map g es))) (h x refl)

-- entries that are all of the item of a number
abbrev pub all_of : ℕ → List Entry → Bool
all_of number es = list_all (λ (e : Entry). e.key.item == number) es

-- new mail behind a mailbox shows nothing of another item
pub seen_before : (number : ℕ) (k : Key) (es : List Entry) (m : Mailbox) → all_of number es ≡ true → (k.item == number) ≡ false → with_key k (put_all es m).entries ≡ with_key k m.entries
seen_before number k [] m all off = refl
seen_before number k (e ∷ es) m all off =
    seen_before number k es (put e m) (second_so _ _ all) off
    ∙ filter-append (λ (x : Entry). same_key k x.key) m.entries (record e { uid = m.next } ∷ [])
    ∙ ap (λ b. with_key k m.entries ++ cond b (record e { uid = m.next } ∷ []) []) (elim (same_key k e.key) as (λ b. same_key k e.key ≡ b → b ≡ false) [
      | true ↦ λ is. absurd (true≢false (sym (ap (λ (x : Key). x.item == number) (one_key k e.key is) ∙ first_so _ _ all) ∙ off))
      | false ↦ λ isnt. refl
    ] refl)
    ∙ append-nil (with_key k m.entries)

-- changes of messages and new mail of another item come in either order
pub edit_and_mail : (ks : List Key) (f : Entry → Option Entry) (number : ℕ) → LeavesOthers ks f → has_number number ks ≡ false
    → (es : List Entry) (m : Mailbox) → all_of number es ≡ true → with_entries (filter_map f) (put_all es m) ≡ put_all es (with_entries (filter_map f) m)
edit_and_mail ks f number one apart [] m all = refl
edit_and_mail ks f number one apart (e ∷ es) m all =
    edit_and_mail ks f number one apart es (put e m) (second_so _ _ all)
    ∙ ap (λ (xs : List Entry). put_all es (record { next = m.next + 1; entries = xs })) (at_end m.entries)
  where
    last : filter_map f (record e { uid = m.next } ∷ []) ≡ record e { uid = m.next } ∷ []
    last = ap (λ (o : Option Entry). cons_option o []) (one.other (record e { uid = m.next }) (apart_number ks number e.key apart (first_so _ _ all)))

    at_end : (xs : List Entry) → filter_map f (xs ++ record e { uid = m.next } ∷ []) ≡ filter_map f xs ++ record e { uid = m.next } ∷ []
    at_end [] = last
    at_end (x ∷ xs) = ap (cons_option (f x)) (at_end xs) ∙ joined (f x) (filter_map f xs)
      where
        joined : (o : Option Entry) (xs : List Entry) → cons_option o (xs ++ record e { uid = m.next } ∷ []) ≡ cons_option o xs ++ record e { uid = m.next } ∷ []
        joined None xs = refl
        joined (Some x) xs = refl

-- ---- what is seen by keys

-- each of the keys shows the same in both
abbrev pub SeenAlike : List Key → List Entry → List Entry → Type 0
SeenAlike keys es fs = AllByRecursion (λ (k : Key). with_key k es ≡ with_key k fs) keys

pub alike_itself : (keys : List Key) (es : List Entry) → SeenAlike keys es es
alike_itself [] es = tt
alike_itself (k ∷ keys) es = (refl, alike_itself keys es)

pub alike_then : (keys : List Key) (es fs gs : List Entry) → SeenAlike keys es fs → SeenAlike keys fs gs → SeenAlike keys es gs
alike_then [] es fs gs h k = tt
alike_then (x ∷ keys) es fs gs h k = (h.0 ∙ k.0, alike_then keys es fs gs h.1 k.1)

-- by keys that a touch of others leaves alone
pub alike_edit : (keys ls : List Key) (g : Entry → Option Entry) → LeavesOthers ls g → (es : List Entry) → have_common keys ls ≡ false → SeenAlike keys (filter_map g es) es
alike_edit [] ls g two es apart = tt
alike_edit (k ∷ keys) ls g two es apart = (seen_after ls g two k es (neither_first _ _ apart), alike_edit keys ls g two es (neither_second _ _ apart))

pub alike_mail : (keys : List Key) (number : ℕ) (new : List Entry) (m : Mailbox) → all_of number new ≡ true → has_number number keys ≡ false → SeenAlike keys (put_all new m).entries m.entries
alike_mail [] number new m all apart = tt
alike_mail (k ∷ keys) number new m all apart = (seen_before number k new m all (neither_first _ _ apart), alike_mail keys number new m all (neither_second _ _ apart))

found_with : (k : Key) (es : List Entry) → entry_of es k ≡ find (λ e. same_key k e.key) (with_key k es)
found_with k [] = refl
found_with k (e ∷ es) = elim (same_key k e.key) as (λ b. same_key k e.key ≡ b → cond b (Some e) (entry_of es k) ≡ find (λ x. same_key k x.key) (cond b (e ∷ with_key k es) (with_key k es))) [
  | true ↦ λ is. ap (λ b. cond b (Some e) (find (λ x. same_key k x.key) (with_key k es))) (sym is)
  | false ↦ λ isnt. found_with k es
] refl

pub found_alike : (k : Key) (es fs : List Entry) → with_key k es ≡ with_key k fs → entry_of es k ≡ entry_of fs k
found_alike k es fs h = found_with k es ∙ ap (find (λ e. same_key k e.key)) h ∙ sym (found_with k fs)

filters_step : (p q : Entry → Bool) (e : Entry) (es : List Entry) (a b : Bool) → p e ≡ a → q e ≡ b → filter p (filter q es) ≡ filter q (filter p es) → filter p (cond b (e ∷ filter q es) (filter q es)) ≡ filter q (cond a (e ∷ filter p es) (filter p es))
filters_step p q e es true true h k rest = ap (λ c. cond c (e ∷ filter p (filter q es)) (filter p (filter q es))) h ∙ ap (λ xs. e ∷ xs) rest ∙ sym (ap (λ c. cond c (e ∷ filter q (filter p es)) (filter q (filter p es))) k)
filters_step p q e es true false h k rest = rest ∙ sym (ap (λ c. cond c (e ∷ filter q (filter p es)) (filter q (filter p es))) k)
filters_step p q e es false true h k rest = ap (λ c. cond c (e ∷ filter p (filter q es)) (filter p (filter q es))) h ∙ rest
filters_step p q e es false false h k rest = rest

filters_turn : (p q : Entry → Bool) (es : List Entry) → filter p (filter q es) ≡ filter q (filter p es)
filters_turn p q [] = refl
filters_turn p q (e ∷ es) = filters_step p q e es (p e) (q e) refl refl (filters_turn p q es)

-- what an EXPUNGE leaves of the keys
pub expunged_alike : (keys of : List Key) (es fs : List Entry) → SeenAlike keys es fs → SeenAlike keys (expunged of es) (expunged of fs)
expunged_alike [] of es fs h = tt
expunged_alike (k ∷ keys) of es fs h = (
  filters_turn (λ e. same_key k e.key) (λ e. not (is_among of e.key && e.flags.deleted)) es
      ∙ ap (filter (λ (e : Entry). not (is_among of e.key && e.flags.deleted))) h.0
      ∙ sym (filters_turn (λ e. same_key k e.key) (λ e. not (is_among of e.key && e.flags.deleted)) fs),
  expunged_alike keys of es fs h.1,
)

pub sights_alike : (keys : List Key) (es fs : List Entry) → SeenAlike keys es fs → sights es keys ≡ sights fs keys
sights_alike [] es fs h = refl
sights_alike (k ∷ keys) es fs h = ap₂ (λ (o : Option Entry) (xs : List Sight). cons_option (option_map (λ (e : Entry). record { key = k; rev = e.body.rev }) o) xs) (found_alike k es fs h.0) (sights_alike keys es fs h.1)

any_found : (test : Entry → Bool) (es : List Entry) → list_any test es ≡ is_some (find test es)
any_found test [] = refl
any_found test (e ∷ es) = elim (test e) as (λ b. (b || list_any test es) ≡ is_some (cond b (Some e) (find test es))) [ true ↦ refl | false ↦ any_found test es ]

pub there_alike : (keys : List Key) (es fs : List Entry) → SeenAlike keys es fs → there es keys ≡ there fs keys
there_alike [] es fs h = refl
there_alike (k ∷ keys) es fs h = ap₂ (λ (b : Bool) (xs : List Key). cond b (k ∷ xs) xs) (any_found (λ e. same_key k e.key) es ∙ ap is_some (found_alike k es fs h.0) ∙ sym (any_found (λ e. same_key k e.key) fs)) (there_alike keys es fs h.1)

copies_from : (number n : ℕ) (keys : List Key) (es fs : List Entry) → SeenAlike keys es fs
    → filter_map (λ (k : ℕ × Key). option_map (λ (e : Entry). record e { key = record { item = number; index = k.0 } }) (entry_of es k.1)) (enumerate_from n keys)
    ≡ filter_map (λ (k : ℕ × Key). option_map (λ (e : Entry). record e { key = record { item = number; index = k.0 } }) (entry_of fs k.1)) (enumerate_from n keys)
copies_from number n [] es fs h = refl
copies_from number n (k ∷ keys) es fs h = ap₂ (λ (o : Option Entry) (xs : List Entry). cons_option (option_map (λ (e : Entry). record e { key = record { item = number; index = n } }) o) xs) (found_alike k es fs h.0) (copies_from number (n + 1) keys es fs h.1)

pub copies_alike : (number : ℕ) (keys : List Key) (es fs : List Entry) → SeenAlike keys es fs → copies number es keys ≡ copies number fs keys
copies_alike number keys es fs h = copies_from number 0 keys es fs h

-- copies are of the item that makes them
copies_all : (number n : ℕ) (keys : List Key) (es : List Entry) → all_of number (filter_map (λ (k : ℕ × Key). option_map (λ (e : Entry). record e { key = record { item = number; index = k.0 } }) (entry_of es k.1)) (enumerate_from n keys)) ≡ true
copies_all number n [] es = refl
copies_all number n (k ∷ keys) es = put_first (entry_of es k) _ (copies_all number (n + 1) keys es)
  where
    put_first : (o : Option Entry) (xs : List Entry) → all_of number xs ≡ true → all_of number (cons_option (option_map (λ (e : Entry). record e { key = record { item = number; index = n } }) o) xs) ≡ true
    put_first None xs h = h
    put_first (Some e) xs h = both _ _ (eq-eqb number number refl) h

pub copies_are : (number : ℕ) (keys : List Key) (es : List Entry) → all_of number (copies number es keys) ≡ true
copies_are number keys es = copies_all number 0 keys es
