-- What a SEARCH finds.
use Rattle.std.proofs.Common.{◌≡◌, ℕ, ◌+◌, Bool, true, false, cond, List, [], ◌∷◌, ◌++◌, refl, ap, sym, ◌∙◌, if◌then◌else◌, length, map, filter, get_or, append_assoc, arith}
use Rattle.imap_fetch.specs.declared.messages.Message.{Message}
use Rattle.imap_session.specs.Searching.{facts_of, found, found_from, is_of_texts, is_too_large, kept}
use Rattle.imap_session.specs.declared.dialog.Searching.{Searching}
use Rattle.search_verb.specs.Meets.{meets, needed}
use Rattle.search_laws.proofs.Looking.{text_aside}

-- whether a message matches by its own text
abbrev pub matches : Searching → (Message → List ℕ) → Message → Bool
matches q own m = meets q.key (facts_of q m (own m))

-- one message, and those behind it
one_more : (b : Bool) (m : Message) (rest : List Message) → (if b then m ∷ [] else []) ++ rest ≡ cond b (m ∷ rest) rest
one_more true m rest = refl
one_more false m rest = refl

keeps : (q : Searching) (own : Message → List ℕ) (texts : List (List ℕ)) (place : ℕ) (m : Message) (more rest : List Message)
    → meets q.key (facts_of q m (get_or texts place [])) ≡ matches q own m → more ≡ rest → kept q texts place m ++ more ≡ cond (matches q own m) (m ∷ rest) rest
keeps q own texts place m more rest same behind =
    ap (λ b. (if b then m ∷ [] else []) ++ more) same ∙ ap (λ r. (if matches q own m then m ∷ [] else []) ++ r) behind ∙ one_more (matches q own m) m rest

-- the text at a message's place is its own
own_text : (own : Message → List ℕ) (front rows : List Message) (m : Message) → get_or (map own (front ++ m ∷ rows)) (length front) [] ≡ own m
own_text own [] rows m = refl
own_text own (x ∷ front) rows m = own_text own front rows m

longer : (front : List Message) (m : Message) → length (front ++ m ∷ []) ≡ length front + 1
longer [] m = refl
longer (x ∷ front) m = let more : length (front ++ m ∷ []) ≡ length front + 1 = longer front m in omega (arith, more)

-- where texts are looked at, each message has its own
by_texts : (q : Searching) (own : Message → List ℕ) (front rows : List Message) → found_from q (map own (front ++ rows)) (length front) rows ≡ filter (matches q own) rows
unfolding found_from
by_texts q own front [] = refl
by_texts q own front (m ∷ rows) =
    keeps q own (map own (front ++ m ∷ rows)) (length front) m (found_from q (map own (front ++ m ∷ rows)) (length front + 1) rows) (filter (matches q own) rows)
    (ap (λ text. meets q.key (facts_of q m text)) (own_text own front rows m))
    (ap (λ items. found_from q (map own items) (length front + 1) rows) (sym (append_assoc front (m ∷ []) rows))
    ∙ ap (λ n. found_from q (map own ((front ++ m ∷ []) ++ rows)) n rows) (sym (longer front m))
    ∙ by_texts q own (front ++ m ∷ []) rows)

-- where none is looked at, what is there in their place does not count
by_none : (q : Searching) (own : Message → List ℕ) (texts : List (List ℕ)) (place : ℕ) (rows : List Message) → is_of_texts (needed q.key) ≡ false
    → found_from q texts place rows ≡ filter (matches q own) rows
unfolding found_from
by_none q own texts place [] none = refl
by_none q own texts place (m ∷ rows) none =
    keeps q own texts place m (found_from q texts (place + 1) rows) (filter (matches q own) rows)
    (text_aside q.key (facts_of q m (own m)) (get_or texts place []) none)
    (by_none q own texts (place + 1) rows none)

by_either : (q : Searching) (own : Message → List ℕ) (texts : List (List ℕ)) (b : Bool) → is_of_texts (needed q.key) ≡ b
    → (is_of_texts (needed q.key) ≡ true → texts ≡ map own q.rows) → found_from q texts 0 q.rows ≡ filter (matches q own) q.rows
by_either q own texts true looks given = ap (λ ts. found_from q ts 0 q.rows) (given looks) ∙ by_texts q own [] q.rows
by_either q own texts false none given = by_none q own texts 0 q.rows none

-- exactly those that match
pub finds_those : (q : Searching) (own : Message → List ℕ) (texts : List (List ℕ)) → is_too_large q ≡ false → (is_of_texts (needed q.key) ≡ true → texts ≡ map own q.rows)
    → found q texts ≡ filter (matches q own) q.rows
finds_those q own texts few given = rw few (by_either q own texts (is_of_texts (needed q.key)) refl given)
