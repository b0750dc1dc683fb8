-- What mail at the end of a mailbox is, entry by entry.
use Rattle.std.proofs.Common.{◌≡◌, ℕ, suc, ◌+◌, ◌<◌, ◌≤◌, List, [], ◌∷◌, ◌++◌, refl, sym, ap, ap₂, ◌∙◌, length, get_or, set, take, drop, arith, append_assoc}
use Rattle.std.proofs.lemmas.List.{drop_more, take_more, append-nil, set_at, get_or_at, take_all, drop_all, length-append, length-take, length-drop, length-take-le}
use Rattle.verb_core.specs.declared.mailbox.Entry.{Entry}
use Rattle.verb_core.specs.declared.mailbox.Mailbox.{Mailbox}
use Rattle.verb_core.specs.Mailboxes.{no_mail, put, put_all}
use Rattle.mail_rows.specs.declared.change.FlagChange.{FlagChange}
use Rattle.mail_rows.specs.Mail.{flags_set, all_flags_set}
use Rattle.mail_rows.specs.Mail.{numbered}

mailbox_of : (n k : ℕ) (xs ys : List Entry) → n ≡ k → xs ≡ ys → ◌≡◌ {A = Mailbox} (record { next = n; entries = xs }) (record { next = k; entries = ys })
mailbox_of n k xs ys e f = λ j. record { next = e j; entries = f j }

-- mail comes to the end of a mailbox under the next UIDs
pub put_all-numbered : (es : List Entry) (m : Mailbox) → put_all es m ≡ record { next = m.next + length es; entries = m.entries ++ numbered m.next es }
put_all-numbered [] m = mailbox_of m.next (m.next + 0) m.entries (m.entries ++ []) (omega arith) (sym (append-nil m.entries))
put_all-numbered (e ∷ es) m =
    put_all-numbered es (put e m)
    ∙ mailbox_of ((m.next + 1) + length es) (m.next + suc (length es)) ((m.entries ++ record e { uid = m.next } ∷ []) ++ numbered (m.next + 1) es) (m.entries ++ (record e { uid = m.next } ∷ numbered (m.next + 1) es))
    (omega arith) (append_assoc m.entries (record e { uid = m.next } ∷ []) (numbered (m.next + 1) es))

pub length-numbered : (uid : ℕ) (es : List Entry) → length (numbered uid es) ≡ length es
length-numbered uid [] = refl
length-numbered uid (e ∷ es) = ap suc (length-numbered (uid + 1) es)

-- one more entry is added
pub numbered-step : (xs : List Entry) (uid : ℕ) (mail : List Entry) (i : ℕ) (d : Entry) → i < length mail
    → (xs ++ record (get_or mail i d) { uid = uid } ∷ []) ++ numbered (uid + 1) (drop (i + 1) mail) ≡ xs ++ numbered uid (drop i mail)
numbered-step xs uid mail i d within =
    append_assoc xs (record (get_or mail i d) { uid = uid } ∷ []) (numbered (uid + 1) (drop (i + 1) mail))
    ∙ ap (λ (t : List Entry). xs ++ numbered uid t) (sym (drop_more mail i d within))

pub numbered-append : (uid : ℕ) (xs ys : List Entry) → numbered uid (xs ++ ys) ≡ numbered uid xs ++ numbered (uid + length xs) ys
numbered-append uid [] ys = ap (λ (n : ℕ). numbered n ys) (omega arith)
numbered-append uid (x ∷ xs) ys =
    let n : (uid + 1) + length xs ≡ uid + suc (length xs) = omega arith in
    ap (λ (t : List Entry). record x { uid = uid } ∷ t) (numbered-append (uid + 1) xs ys ∙ ap (λ (k : ℕ). numbered (uid + 1) xs ++ numbered k ys) n)

-- one more entry has its UID in place
pub renumbered-step : (uid : ℕ) (mail : List Entry) (i : ℕ) (d : Entry) → i < length mail
    → set (numbered uid (take i mail) ++ drop i mail) i (record (get_or mail i d) { uid = uid + i }) ≡ numbered uid (take (i + 1) mail) ++ drop (i + 1) mail
renumbered-step uid mail i d within =
    let front : List Entry = numbered uid (take i mail) in
    let long : length (numbered uid (take i mail)) ≡ i = length-numbered uid (take i mail) ∙ length-take-le i mail (omega arith) in
    let here : length (take i mail) ≡ i = length-take-le i mail (omega arith) in
    let new : Entry = record (get_or mail i d) { uid = uid + i } in
    ap (λ (t : List Entry). set (numbered uid (take i mail) ++ t) i (record (get_or mail i d) { uid = uid + i })) (drop_more mail i d within)
    ∙ set_at (numbered uid (take i mail)) (get_or mail i d) (drop (i + 1) mail) (record (get_or mail i d) { uid = uid + i }) i long
    ∙ sym (append_assoc (numbered uid (take i mail)) (record (get_or mail i d) { uid = uid + i } ∷ []) (drop (i + 1) mail))
    ∙ ap (λ (k : ℕ). (numbered uid (take i mail) ++ record (get_or mail i d) { uid = uid + k } ∷ []) ++ drop (i + 1) mail) (sym here)
    ∙ ap (λ (t : List Entry). t ++ drop (i + 1) mail) (sym (numbered-append uid (take i mail) (get_or mail i d ∷ [])))
    ∙ ap (λ (t : List Entry). numbered uid t ++ drop (i + 1) mail) (sym (take_more mail i d within))

-- one more entry's flags are changed
pub flags-step : (changes : List FlagChange) (entries : List Entry) (i : ℕ) (d : FlagChange) → i < length changes
    → all_flags_set (drop (i + 1) changes) (flags_set (get_or changes i d) entries) ≡ all_flags_set (drop i changes) entries
flags-step changes entries i d within = ap (λ (cs : List FlagChange). all_flags_set cs entries) (sym (drop_more changes i d within))

pub renumbered-next : (items mail : List Entry) (i next : ℕ) (d : Entry) → items ≡ numbered 1 (take i mail) ++ drop i mail → next ≡ 1 + i → i < length items
    → set items i (record (get_or items i d) { uid = next }) ≡ numbered 1 (take (i + 1) mail) ++ drop (i + 1) mail
renumbered-next items mail i next d is n within =
    let long : length items ≡ length (numbered 1 (take i mail)) + length (drop i mail) = ap length is ∙ length-append (numbered 1 (take i mail)) (drop i mail) in
    let lt : i < length mail = omega (arith, length-numbered 1 (take i mail), length-take i mail, length-drop i mail) in
    let front : length (numbered 1 (take i mail)) ≡ i = length-numbered 1 (take i mail) ∙ length-take-le i mail (omega arith) in
    let here : get_or (numbered 1 (take i mail) ++ drop i mail) i d ≡ get_or mail i d =
    ap (λ (t : List Entry). get_or (numbered 1 (take i mail) ++ t) i d) (drop_more mail i d lt) ∙ get_or_at (numbered 1 (take i mail)) (get_or mail i d) (drop (i + 1) mail) d i front in
    (λ j. set (is j) i (record (get_or (is j) i d) { uid = n j }))
    ∙ ap (λ (e : Entry). set (numbered 1 (take i mail) ++ drop i mail) i (record e { uid = 1 + i })) here
    ∙ renumbered-step 1 mail i d lt

pub renumbered-end : (mail : List Entry) (i : ℕ) → length mail ≤ i → numbered 1 (take i mail) ++ drop i mail ≡ numbered 1 mail
renumbered-end mail i h =
    ap₂ (λ (xs ys : List Entry). numbered 1 xs ++ ys) (take_all i mail h) (drop_all i mail h) ∙ append-nil (numbered 1 mail)

-- a mailbox of this mail
pub begun : (items mail : List Entry) (i next : ℕ) → items ≡ numbered 1 (take i mail) ++ drop i mail → next ≡ 1 + i → length items ≤ i → i ≤ length items
    → ◌≡◌ {A = Mailbox} (record { next = next; entries = items }) (put_all mail no_mail)
begun items mail i next is n past upto =
    let long : length items ≡ length (numbered 1 (take i mail)) + length (drop i mail) = ap length is ∙ length-append (numbered 1 (take i mail)) (drop i mail) in
    let all : length mail ≤ i = omega (arith, length-numbered 1 (take i mail), length-take i mail, length-drop i mail) in
    let count : i ≡ length mail = omega (arith, length-numbered 1 (take i mail), length-take i mail, length-drop i mail) in
    mailbox_of next (1 + length mail) items (numbered 1 mail) (n ∙ ap (λ (k : ℕ). 1 + k) count) (is ∙ renumbered-end mail i all)
    ∙ sym (put_all-numbered mail no_mail)
