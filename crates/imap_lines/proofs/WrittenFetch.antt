-- FETCH is read as it is written.
use Rattle.std.proofs.Common.{◌≡◌, ℕ, ◌+◌, ◌-◌, ◌<◌, ◌≤◌, Bool, true, false, ◌&&◌, inl, inr, List, [], ◌∷◌, ◌++◌, length, map, take, codes, get_or, Option, None, Some, refl, ap, sym, ◌∙◌, arith, subst, suc}
use Rattle.std.specs.Prelude.{option_map, option_and_then, slice_get}
use Rattle.std.specs.Fmt.{decimal}
use Rattle.std.specs.List.{list_all, AllByRecursion}
use Rattle.std.proofs.lemmas.List.{append_assoc, append-nil, length-append, take_at, get_or_push}
use Rattle.std.proofs.lemmas.List.Folds.{list_all-append}
use Rattle.undo_base.specs.declared.asks.Section.{Section}
use Rattle.undo_base.specs.declared.asks.Section.TheVariants.{Whole, Header, Text, Fields, NotFields}
use Rattle.imap_stream.specs.declared.picks.SetRange.{SetRange}
use Rattle.header_fields.specs.Values.{is_field_name}
use Rattle.imap_lines.specs.Asks.{numbers_in, closed_part_in, part_in}
use Rattle.imap_lines.specs.Fetch.{begins_in, body_of, begun, with_fields, with_tokens, whole_asks, asks_in, ends_closed, fetch_in}
use Rattle.imap_tokens.specs.Sets.{cut_at}
use Rattle.imap_lines.specs.What.{what_in}
use Rattle.imap_lines.specs.PlainCommands.{spaced, string_token, part_text, body_word, whole_tokens, field_tokens, section_tokens, ask_tokens, asks_tokens, fetch_tokens, IsSet, IsPart, AreFields, IsSection, IsAsk, AreAsks}
use Rattle.imap_lines.specs.declared.asks.FetchAsk.{FetchAsk}
use Rattle.imap_lines.specs.declared.asks.FetchAsk.TheVariants as ask
use Rattle.imap_lines.specs.declared.fetch.Wanted.{Wanted}
use Rattle.imap_lines.specs.declared.fetch.Wanted.TheVariants.{Attribute, Behind, FieldName, Tail}
use Rattle.imap_lines.specs.declared.fetch.Kind.{Kind}
use Rattle.imap_lines.specs.declared.fetch.Attributes.{Attributes}
use Rattle.imap_lines.specs.declared.fetch.Begins.TheVariants.{Whole as WholeAsk}
use Rattle.imap_lines.specs.declared.verbs.Verb.TheVariants as verb
use Rattle.imap_tokens.specs.declared.tokens.Token.{Token}
use Rattle.imap_tokens.specs.declared.tokens.Token.TheVariants.{Space, Open, Close, Word}
use Rattle.imap_lines.specs.declared.command.ImapWhat.TheVariants as what
use Rattle.imap_stream.proofs.LineMarks.{apart}
use Rattle.imap_tokens.specs.Spelling.{is_word_token}
use Rattle.imap_lines.proofs.WrittenTokens.{plain_byte, IsWhole, AreWhole, EndsWell, starts_word}
use Rattle.imap_lines.proofs.WrittenHeads.{IsRead, read_by}
use Rattle.imap_lines.proofs.WrittenNumbers.{set_is, number_is, count_is, cut_is, digit_apart, decimal_word, both_true}
use Rattle.imap_lines.proofs.WrittenStrings.{AreItems, string_argument, spaced_whole, ends_after}
use Rattle.imap_lines.proofs.WrittenFlags.{set_whole}

-- o.n of a part
numbers_are : (o n : ℕ) → o ≤ 4294967295 → 1 ≤ n → n ≤ 4294967295 → numbers_in (decimal o) (decimal n) ≡ Some (o, n)
numbers_are o n first some last = rw (count_is o first, number_is n some last) refl

closed_is : (inner : List ℕ) → closed_part_in (inner ++ 62 ∷ []) ≡ option_and_then (λ parts. numbers_in parts.0 parts.1) (cut_at 46 inner)
closed_is inner =
    let size : length (inner ++ 62 ∷ []) ≡ suc (length inner) = simp length-append (omega arith) in
    let less : suc (length inner) - 1 ≡ length inner = omega arith in
    let front : take (length inner) (inner ++ 62 ∷ []) ≡ inner = take_at inner (62 ∷ []) (length inner) refl in
    let last : get_or (inner ++ 62 ∷ []) (length inner) 0 ≡ 62 = get_or_push inner 62 0 (length inner) refl in
    rw (size, less, last, front, apart (suc (length inner)) 0 (λ is. omega arith)) refl

-- a part is read as it is written
part_is : (part : Option (ℕ × ℕ)) → IsPart part → part_in (part_text part) ≡ Some part
part_is None is = refl
part_is (Some part) is =
    let inner = decimal part.0 ++ 46 ∷ decimal part.1 in
    let bytes : decimal part.0 ++ (46 ∷ decimal part.1 ++ 62 ∷ []) ≡ inner ++ 62 ∷ [] = sym (append_assoc (decimal part.0) (46 ∷ decimal part.1) (62 ∷ [])) in
    let cut : cut_at 46 inner ≡ Some (decimal part.0, decimal part.1) = cut_is 46 (decimal part.0) (decimal part.1) (digit_apart 46 part.0 (omega arith) is.0) refl in
    ap (λ l. option_map Some (closed_part_in l)) bytes
    ∙ ap (option_map Some) (closed_is inner ∙ ap (option_and_then (λ (parts : List ℕ × List ℕ). numbers_in parts.0 parts.1)) cut ∙ numbers_are part.0 part.1 is.0 is.1 is.2)

part_word : (part : Option (ℕ × ℕ)) → IsPart part → list_all plain_byte (part_text part) ≡ true
part_word None is = refl
part_word (Some part) is =
    list_all-append plain_byte (decimal part.0) (46 ∷ decimal part.1 ++ 62 ∷ [])
    ∙ both_true (list_all plain_byte (decimal part.0)) (list_all plain_byte (46 ∷ decimal part.1 ++ 62 ∷ [])) (decimal_word part.0 is.0)
    (list_all-append plain_byte (decimal part.1) (62 ∷ []) ∙ both_true (list_all plain_byte (decimal part.1)) true (decimal_word part.1 is.2) refl)

-- a list whose reading has come so far
abbrev at_state : List FetchAsk → Wanted → Kind → List (List ℕ) → Attributes
at_state asks wanted kind names = record { asks = asks; wanted = wanted; kind = kind; names = names }

-- an attribute is read, and what stands behind it
abbrev ReadsAsk : FetchAsk → Type 0
ReadsAsk asked =
    (asks : List FetchAsk) (kind : Kind) (names : List (List ℕ)) (rest : List Token)
    → (after : Kind) × (with_tokens (at_state asks Attribute kind names) (ask_tokens asked ++ rest) ≡ with_tokens (at_state (asks ++ asked ∷ []) Behind after []) rest)

-- a section without field names
whole_read : (peek : Bool) (section : List ℕ) (what_is : Section) (part : Option (ℕ × ℕ))
    → begins_in (body_word peek ++ (section ++ 93 ∷ part_text part)) ≡ option_map (λ p. WholeAsk (body_of what_is peek p)) (part_in (part_text part)) → IsPart part
    → (asks : List FetchAsk) (kind : Kind) (names : List (List ℕ)) (rest : List Token)
    → (after : Kind) × (with_tokens (at_state asks Attribute kind names) (whole_tokens peek section part ++ rest) ≡ with_tokens (at_state (asks ++ body_of what_is peek part ∷ []) Behind after []) rest)
whole_read peek section what_is part begins is asks kind names rest =
    let one : begins_in (body_word peek ++ (section ++ 93 ∷ part_text part)) ≡ Some (WholeAsk (body_of what_is peek part)) = begins ∙ ap (option_map (λ p. WholeAsk (body_of what_is peek p))) (part_is part is) in
    (kind, ap (λ o. option_and_then (λ more. with_tokens more rest) (option_map (begun (at_state asks Attribute kind names)) o)) one)

-- field names and the parenthesis behind them
names_read : (asks : List FetchAsk) (kind : Kind) (so_far : List (List ℕ)) (name : List ℕ) (names : List (List ℕ)) (rest : List Token) → AllByRecursion (λ n. is_field_name n ≡ true) (name ∷ names)
    → with_tokens (at_state asks FieldName kind so_far) (spaced (map string_token (name ∷ names)) ++ Close ∷ rest) ≡ with_tokens (at_state asks Tail kind (so_far ++ name ∷ names)) rest
names_read asks kind so_far name [] rest are = rw ((string_argument name).is, are.0) refl
names_read asks kind so_far name (next ∷ names) rest are =
    rw ((string_argument name).is, are.0) (names_read asks kind (so_far ++ name ∷ []) next names rest are.1)
    ∙ ap (λ l. with_tokens (at_state asks Tail kind l) rest) (append_assoc so_far (name ∷ []) (next ∷ names))

all_names : (asks : List FetchAsk) (kind : Kind) (names : List (List ℕ)) (rest : List Token) → AreFields names
    → with_tokens (at_state asks FieldName kind []) (spaced (map string_token names) ++ Close ∷ rest) ≡ with_tokens (at_state asks Tail kind names) rest
all_names asks kind [] rest are = absurd (let some = are.0 in omega arith)
all_names asks kind (name ∷ names) rest are = names_read asks kind [] name names rest are.1

-- what stands behind the names
tail_read : (asks : List FetchAsk) (kind : Kind) (names : List (List ℕ)) (part : Option (ℕ × ℕ)) (rest : List Token) → IsPart part
    → with_tokens (at_state asks Tail kind names) (Word (93 ∷ part_text part) ∷ rest) ≡ with_tokens (with_fields (at_state asks Tail kind names) part) rest
tail_read asks kind names part rest is = ap (λ o. option_and_then (λ more. with_tokens more rest) (option_map (with_fields (at_state asks Tail kind names)) o)) (part_is part is)

-- the tokens of field names, with what follows
fields_split : (items : List Token) (last : Token) (rest : List Token) → ((spaced items ++ Close ∷ []) ++ last ∷ []) ++ rest ≡ spaced items ++ Close ∷ last ∷ rest
fields_split items last rest = append_assoc (spaced items ++ Close ∷ []) (last ∷ []) rest ∙ append_assoc (spaced items) (Close ∷ []) (last ∷ rest)

fields_read : (asks : List FetchAsk) (kind : Kind) (names : List (List ℕ)) (part : Option (ℕ × ℕ)) (rest : List Token) → AreFields names → IsPart part
    → with_tokens (at_state asks FieldName kind []) (((spaced (map string_token names) ++ Close ∷ []) ++ Word (93 ∷ part_text part) ∷ []) ++ rest) ≡ with_tokens (with_fields (at_state asks Tail kind names) part) rest
fields_read asks kind names part rest are is =
    ap (with_tokens (at_state asks FieldName kind [])) (fields_split (map string_token names) (Word (93 ∷ part_text part)) rest)
    ∙ all_names asks kind names (Word (93 ∷ part_text part) ∷ rest) are ∙ tail_read asks kind names part rest is

section_read : (peek : Bool) (section : Section) (part : Option (ℕ × ℕ)) → IsSection section → IsPart part → ReadsAsk (ask.Body (record { what = section; part = part }) peek)
section_read true Whole part is fits = whole_read true [] Whole part refl fits
section_read false Whole part is fits = whole_read false [] Whole part refl fits
section_read true Header part is fits = whole_read true (codes "HEADER") Header part refl fits
section_read false Header part is fits = whole_read false (codes "HEADER") Header part refl fits
section_read true Text part is fits = whole_read true (codes "TEXT") Text part refl fits
section_read false Text part is fits = whole_read false (codes "TEXT") Text part refl fits
section_read true (Fields names) part is fits = λ asks kind old rest. (record { others = false; peek = true }, fields_read asks (record { others = false; peek = true }) names part rest is fits)
section_read false (Fields names) part is fits = λ asks kind old rest. (record { others = false; peek = false }, fields_read asks (record { others = false; peek = false }) names part rest is fits)
section_read true (NotFields names) part is fits = λ asks kind old rest. (record { others = true; peek = true }, fields_read asks (record { others = true; peek = true }) names part rest is fits)
section_read false (NotFields names) part is fits = λ asks kind old rest. (record { others = true; peek = false }, fields_read asks (record { others = true; peek = false }) names part rest is fits)

ask_read : (asked : FetchAsk) → IsAsk asked → ReadsAsk asked
ask_read ask.Flags is = λ asks kind names rest. (kind, refl)
ask_read ask.Uid is = λ asks kind names rest. (kind, refl)
ask_read ask.InternalDate is = λ asks kind names rest. (kind, refl)
ask_read ask.Size is = λ asks kind names rest. (kind, refl)
ask_read ask.Rfc822 is = λ asks kind names rest. (kind, refl)
ask_read ask.Rfc822Header is = λ asks kind names rest. (kind, refl)
ask_read ask.Rfc822Text is = λ asks kind names rest. (kind, refl)
ask_read ask.Fast is = absurd is
ask_read (ask.Body asked peek) is = section_read peek asked.what asked.part is.0 is.1

asks_read : (so_far : List FetchAsk) (kind : Kind) (asked : FetchAsk) (asks : List FetchAsk) → AllByRecursion IsAsk (asked ∷ asks)
    → option_and_then whole_asks (with_tokens (at_state so_far Attribute kind []) (asks_tokens (asked ∷ asks))) ≡ Some (so_far ++ asked ∷ asks)
asks_read so_far kind asked [] are =
    let one = ask_read asked are.0 so_far kind [] [] in
    ap (λ l. option_and_then whole_asks (with_tokens (at_state so_far Attribute kind []) l)) (sym (append-nil (ask_tokens asked))) ∙ ap (option_and_then whole_asks) one.1
asks_read so_far kind asked (next ∷ asks) are =
    let one = ask_read asked are.0 so_far kind [] (Space ∷ asks_tokens (next ∷ asks)) in
    ap (option_and_then whole_asks) one.1 ∙ asks_read (so_far ++ asked ∷ []) one.0 next asks are.1 ∙ ap Some (append_assoc so_far (asked ∷ []) (next ∷ asks))

all_asks : (asks : List FetchAsk) → 0 < length asks → AllByRecursion IsAsk asks → asks_in (asks_tokens asks) ≡ Some asks
all_asks [] some are = absurd (omega arith)
all_asks (asked ∷ asks) some are = asks_read [] (record { others = false; peek = false }) asked asks are

last_at : (tokens : List Token) (token : Token) → slice_get (tokens ++ token ∷ []) (length tokens) ≡ Some token
last_at [] token = refl
last_at (first ∷ tokens) token = last_at tokens token

closes : (tokens : List Token) → ends_closed (tokens ++ Close ∷ []) ≡ true
closes tokens =
    let size : length (tokens ++ Close ∷ []) ≡ length tokens + 1 = simp length-append refl in
    let less : length tokens + 1 - 1 ≡ length tokens = omega arith in
    rw (size, less, last_at tokens Close) refl

listed_asks : (asks : List FetchAsk) → 0 < length asks → AllByRecursion IsAsk asks → fetch_in (Open ∷ asks_tokens asks ++ Close ∷ []) ≡ Some asks
listed_asks asks some are =
    let tokens = asks_tokens asks in
    let size : length (tokens ++ Close ∷ []) ≡ length tokens + 1 = simp length-append refl in
    let less : length tokens + 1 - 1 ≡ length tokens = omega arith in
    let front : take (length tokens) (tokens ++ Close ∷ []) ≡ tokens = take_at tokens (Close ∷ []) (length tokens) refl in
    rw (closes tokens, size, less, front) (all_asks asks some are)

-- FAST does not stand in a list
no_fast : (asks : List FetchAsk) → 0 < length asks → AllByRecursion IsAsk asks → fetch_tokens asks ≡ Open ∷ asks_tokens asks ++ Close ∷ []
no_fast [] some are = absurd (omega arith)
no_fast (ask.Fast ∷ []) some are = absurd are.0
no_fast (ask.Fast ∷ next ∷ asks) some are = refl
no_fast (ask.Flags ∷ asks) some are = refl
no_fast (ask.Uid ∷ asks) some are = refl
no_fast (ask.InternalDate ∷ asks) some are = refl
no_fast (ask.Size ∷ asks) some are = refl
no_fast (ask.Rfc822 ∷ asks) some are = refl
no_fast (ask.Rfc822Header ∷ asks) some are = refl
no_fast (ask.Rfc822Text ∷ asks) some are = refl
no_fast (ask.Body asked peek ∷ asks) some are = refl

-- the tokens of a FETCH are written well, and read
record Fetched (asks : List FetchAsk) : Type 0 where
  whole : AreWhole (Space ∷ fetch_tokens asks)
  ends : EndsWell (Space ∷ fetch_tokens asks)
  read : fetch_in (fetch_tokens asks) ≡ Some asks

whole_append : (front back : List Token) → AreWhole front → AreWhole back → starts_word back ≡ false → AreWhole (front ++ back)
whole_append [] back are more seam = more
whole_append (token ∷ []) back are more seam = (are.0, none (is_word_token token) (starts_word back) seam, more)
  where
    none : (s t : Bool) → t ≡ false → (s && t) ≡ false
    none true t e = e
    none false t e = refl
whole_append (token ∷ next ∷ front) back are more seam = (are.0, are.1, whole_append (next ∷ front) back are.2 more seam)

body_whole : (peek : Bool) (section : List ℕ) (part : Option (ℕ × ℕ)) → list_all plain_byte section ≡ true → IsPart part → AreWhole (whole_tokens peek section part)
body_whole peek section part e is =
    let behind = section ++ 93 ∷ part_text part in
    let rest : list_all plain_byte behind ≡ true =
    list_all-append plain_byte section (93 ∷ part_text part) ∙ both_true (list_all plain_byte section) (list_all plain_byte (93 ∷ part_text part)) e (part_word part is) in
    ((some peek behind, bytes peek behind rest), refl, tt)
  where
    some : (p : Bool) (behind : List ℕ) → 0 < length (body_word p ++ behind)
    some true behind = omega arith
    some false behind = omega arith

    bytes : (p : Bool) (behind : List ℕ) → list_all plain_byte behind ≡ true → list_all plain_byte (body_word p ++ behind) ≡ true
    bytes true behind e = e
    bytes false behind e = e

field_items : (names : List (List ℕ)) → AreItems (map string_token names)
field_items [] = tt
field_items (name ∷ names) = (((string_argument name).whole, (string_argument name).last), field_items names)

fields_whole : (peek : Bool) (section : List ℕ) (names : List (List ℕ)) (part : Option (ℕ × ℕ)) → IsWhole (Word (body_word peek ++ section)) → IsPart part → AreWhole (field_tokens peek section names part)
fields_whole peek section names part head is =
    let last = Word (93 ∷ part_text part) in
    let items = map string_token names in
    let close : AreWhole (Close ∷ last ∷ []) = (tt, refl, ((omega arith, part_word part is), refl, tt)) in
    (head, refl, (tt, refl, (tt, refl, subst AreWhole (sym (append_assoc (spaced items) (Close ∷ []) (last ∷ []))) (spaced_whole items (last ∷ []) (field_items names) close))))

section_whole : (peek : Bool) (section : Section) (part : Option (ℕ × ℕ)) → IsPart part → AreWhole (section_tokens peek section part)
section_whole peek Whole part is = body_whole peek [] part refl is
section_whole peek Header part is = body_whole peek (codes "HEADER") part refl is
section_whole peek Text part is = body_whole peek (codes "TEXT") part refl is
section_whole true (Fields names) part is = fields_whole true (codes "HEADER.FIELDS") names part (omega arith, refl) is
section_whole false (Fields names) part is = fields_whole false (codes "HEADER.FIELDS") names part (omega arith, refl) is
section_whole true (NotFields names) part is = fields_whole true (codes "HEADER.FIELDS.NOT") names part (omega arith, refl) is
section_whole false (NotFields names) part is = fields_whole false (codes "HEADER.FIELDS.NOT") names part (omega arith, refl) is

ask_whole : (asked : FetchAsk) → IsAsk asked → AreWhole (ask_tokens asked)
ask_whole ask.Flags is = ((omega arith, refl), refl, tt)
ask_whole ask.Uid is = ((omega arith, refl), refl, tt)
ask_whole ask.InternalDate is = ((omega arith, refl), refl, tt)
ask_whole ask.Size is = ((omega arith, refl), refl, tt)
ask_whole ask.Rfc822 is = ((omega arith, refl), refl, tt)
ask_whole ask.Rfc822Header is = ((omega arith, refl), refl, tt)
ask_whole ask.Rfc822Text is = ((omega arith, refl), refl, tt)
ask_whole ask.Fast is = absurd is
ask_whole (ask.Body asked peek) is = section_whole peek asked.what asked.part is.1

asks_whole : (asks : List FetchAsk) → AllByRecursion IsAsk asks → AreWhole (asks_tokens asks)
asks_whole [] are = tt
asks_whole (asked ∷ []) are = ask_whole asked are.0
asks_whole (asked ∷ next ∷ asks) are =
    whole_append (ask_tokens asked) (Space ∷ asks_tokens (next ∷ asks)) (ask_whole asked are.0) (tt, refl, asks_whole (next ∷ asks) are.1) refl

fetched : (asks : List FetchAsk) → AreAsks asks → Fetched asks
fetched asks (inl fast) = subst Fetched (sym fast) (record { whole = (tt, refl, ((omega arith, refl), refl, tt)); ends = refl; read = refl })
fetched asks (inr are) =
    let tokens = asks_tokens asks in
    let is = sym (no_fast asks are.0 are.1) in
    record {
      whole = subst (λ l. AreWhole (Space ∷ l)) is (tt, refl, (tt, refl, whole_append tokens (Close ∷ []) (asks_whole asks are.1) (tt, refl, tt) refl));
      ends = subst (λ l. EndsWell (Space ∷ l)) is (ends_after (Space ∷ Open ∷ tokens) Close [] refl);
      read = subst (λ l. fetch_in l ≡ Some asks) is (listed_asks asks are.0 are.1);
    }

ends_set : (word : List ℕ) (tokens : List Token) → EndsWell (Space ∷ tokens) → EndsWell (Space ∷ Word word ∷ Space ∷ tokens)
ends_set word tokens ends = ends

pub fetch_read : (set : List SetRange) (asks : List FetchAsk) (by_uid : Bool) → IsSet set → AreAsks asks → IsRead (what.Fetch set asks by_uid)
unfolding what_in
fetch_read set asks by_uid is are =
    let f = fetched asks are in
    read_by (what.Fetch set asks by_uid) verb.Fetch refl refl (λ e. refl) refl refl (set_whole set (fetch_tokens asks) is f.whole, f.ends) (
    ap (option_and_then (λ s. option_map (λ asked. what.Fetch s asked by_uid) (fetch_in (fetch_tokens asks)))) (set_is set is)
    ∙ ap (option_map (λ asked. what.Fetch set asked by_uid)) f.read)
