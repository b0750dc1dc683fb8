-- What a command asks is in its ranges, and the commands of a stream are short.
use Rattle.std.proofs.Common.{◌≡◌, ℕ, ℤ, pos, negsuc, ◌+◌, ◌*◌, ◌≤◌, Bool, true, false, ◌==◌, ◌&&◌, List, [], ◌∷◌, ◌++◌, length, map, flat_map, Option, None, Some, option_map, Ok, Err, refl, sym, subst, arith, length-append}
use Rattle.std.specs.Prelude.{IfSome, codes}
use Rattle.std.specs.List.{AllByRecursion, Contains, after_first, before_first}
use Rattle.std.specs.Option.{option_and_then}
use Rattle.std.proofs.Math.Nat.{min-le_right}
use Rattle.std.proofs.lemmas.Grind.{common_steps}
use Rattle.std.proofs.lemmas.List.Sums.{sum_by-append, sum_by-cons}
use Rattle.civil_dates.specs.Days.{kept, seconds_of}
use Rattle.undo_base.specs.declared.asks.How.{How}
use Rattle.undo_base.specs.declared.keys.Flags.{Flags}
use Rattle.imap_stream.specs.declared.next.Next.{Next}
use Rattle.imap_stream.specs.declared.next.Next.TheVariants.{Command, Ask, Bad, NotYet}
use Rattle.imap_stream.specs.declared.next.LineFault.{LineFault}
use Rattle.imap_stream.specs.declared.next.RawCommand.{RawCommand}
use Rattle.imap_stream.specs.Commands.{said_of}
use Rattle.imap_stream.specs.Holding.{octets_in}
use Rattle.imap_stream.specs.LiteralMarks.{tag_of}
use Rattle.imap_stream.specs.Streams.{Entry, IsEntry, IsPart, IsReading, Line, Octets, Open, Part, Rest, marked_line, octets_of, told_end, told_entry, told_of, told_open, told_part}
use Rattle.imap_tokens.specs.Dates.{clock_in, date_in, day_in, is_punctuated, is_real, parts_in, zone_in}
use Rattle.imap_tokens.specs.Parts.{from_space, is_space, line_before}
use Rattle.imap_tokens.specs.Sets.{set_in}
use Rattle.imap_tokens.specs.Tokens.{pattern_of, quoted_of, string_of, text_by, tokens_with}
use Rattle.imap_tokens.specs.Words.{is_atom, is_word}
use Rattle.imap_tokens.specs.declared.tokens.Token.{Token}
use Rattle.imap_tokens.specs.declared.tokens.Token.TheVariants.{Space, Open as Opens, Close, Word, Quoted, Literal}
use Rattle.imap_lines.specs.Append.{append_in, date_by, first_date, first_flags, message_in, only_literal}
use Rattle.imap_tokens.specs.Arguments.{behind_space, first_string, next_string, next_word}
use Rattle.imap_lines.specs.Arguments.{first_pattern, string_and_list, string_and_pattern, two_strings, last_string}
use Rattle.imap_lines.specs.Asks.{statuses_from}
use Rattle.imap_lines.specs.Command.{Reading, command_in, command_of, heading_of, if_asked, if_headed, if_tagged, spoken, takes_all, uid_heading_of}
use Rattle.imap_lines.specs.Fetch.{fetch_in}
use Rattle.imap_lines.specs.Messages.{change_in, with_sought}
use Rattle.imap_lines.specs.Verbs.{message_verb, verb_in}
use Rattle.imap_lines.specs.What.{bare, list_in, what_in, with_list, with_mailbox}
use Rattle.imap_lines.specs.declared.command.ImapCommand.{ImapCommand}
use Rattle.imap_lines.specs.declared.command.ImapWhat.{ImapWhat}
use Rattle.imap_lines.specs.declared.command.ImapWhat.TheVariants as what
use Rattle.imap_lines.specs.declared.verbs.BareVerb.{BareVerb}
use Rattle.imap_lines.specs.declared.verbs.BareVerb.TheVariants as bare_verb
use Rattle.imap_lines.specs.declared.verbs.MailboxVerb.{MailboxVerb}
use Rattle.imap_lines.specs.declared.verbs.MailboxVerb.TheVariants as mailbox_verb
use Rattle.imap_lines.specs.declared.verbs.Verb.{Verb}
use Rattle.imap_lines.specs.declared.verbs.Verb.TheVariants as verb
use Rattle.dialog_laws.specs.ImapClient.{IsShort, IsSpoken}
use Rattle.kept_laws.proofs.Lists.{all_joined, member_has}
use Rattle.dialog_laws.proofs.Options.{any_mapped, any_then, if_has, mapped_has, then_has, when_has}
use Rattle.dialog_laws.proofs.Tokens.{Fit, octets_cons, size, sizes, sizes_cons, tokens_within, trimmed_short}

-- ---- moments

abbrev IsTimely : ℕ → Type 0
IsTimely at = at ≤ 253402300799

kept_timely : (n : ℤ) → kept n ≤ 253402300799
kept_timely (pos n) = min-le_right n 253402300799
kept_timely (negsuc n) = omega arith

date_timely : (bytes : List ℕ) → IfSome (date_in bytes) IsTimely
date_timely bytes =
    if_has IsTimely ((length bytes == 26) && is_punctuated bytes) (parts_in bytes) None
    (any_then IsTimely _ (day_in bytes) (λ day. any_then IsTimely _ (clock_in bytes) (λ second. any_then IsTimely _ (zone_in bytes)
    (λ zone. when_has IsTimely (is_real day) (kept (seconds_of day second zone)) (λ e. kept_timely (seconds_of day second zone))))))
    tt

-- the date that stands first
abbrev HasMoment : Option ℕ × List Token → Type 0
HasMoment r = IfSome r.0 IsTimely

dated : (text : Option (List ℕ)) (token : Token) (tokens : List Token) → IfSome (date_by text token tokens) HasMoment
dated None token tokens = tt
dated (Some text) token tokens =
    then_has IsTimely HasMoment (λ moment. option_map (λ rest. (Some moment, rest)) (behind_space tokens)) (date_in text) (date_timely text)
    (λ moment le. any_mapped HasMoment (λ rest. (Some moment, rest)) (behind_space tokens) (λ rest. le))

first_dated : (tokens : List Token) → IfSome (first_date tokens) HasMoment
first_dated [] = tt
first_dated (token ∷ tokens) = dated (quoted_of token) token tokens

abbrev HasDate : Flags × Option ℕ × List ℕ → Type 0
HasDate m = IfSome m.1 IsTimely

message_dated : (tokens : List Token) → IfSome (message_in tokens) HasDate
message_dated tokens =
    any_then HasDate _ (first_flags tokens)
    (λ f. then_has HasMoment HasDate _ (first_date f.1) (first_dated f.1) (λ d h. any_mapped HasDate (λ text. (f.0, d.0, text)) (only_literal d.1) (λ text. h)))

append_spoken : (tokens : List Token) → IfSome (append_in tokens) IsSpoken
append_spoken tokens =
    any_then IsSpoken _ (next_string tokens)
    (λ r. any_then IsSpoken _ (behind_space r.1) (λ rest. mapped_has HasDate IsSpoken (λ m. what.Append r.0 m.0 m.1 m.2) (message_in rest) (message_dated rest) (λ m h. h)))

-- ---- patterns

abbrev NoLonger : ℕ → List ℕ → Type 0
NoLonger most text = length text ≤ most

text_within : (word quoted literal : List ℕ → Option (List ℕ)) (token : Token) → ((text : List ℕ) → IfSome (word text) (NoLonger (length text)))
    → ((text : List ℕ) → IfSome (quoted text) (NoLonger (length text))) → ((text : List ℕ) → IfSome (literal text) (NoLonger (length text)))
    → IfSome (text_by word quoted literal token) (NoLonger (size token))
text_within word quoted literal Space f g h = tt
text_within word quoted literal Opens f g h = tt
text_within word quoted literal Close f g h = tt
text_within word quoted literal (Word text) f g h = f text
text_within word quoted literal (Quoted text) f g h = g text
text_within word quoted literal (Literal text) f g h = h text

own : (text : List ℕ) → length text ≤ length text
own text = omega arith

string_within : (token : Token) → IfSome (string_of token) (NoLonger (size token))
string_within token = text_within _ _ _ token (λ text. when_has (NoLonger (length text)) (is_atom text) text (λ e. own text)) own own

pattern_within : (token : Token) → IfSome (pattern_of token) (NoLonger (size token))
pattern_within token = text_within _ _ _ token (λ text. when_has (NoLonger (length text)) _ text (λ e. own text)) own own

space_within : (tokens : List Token) → IfSome (behind_space tokens) (Fit (sizes tokens))
space_within [] = tt
space_within (token ∷ tokens) = when_has (Fit (sizes (token ∷ tokens))) _ tokens (λ e. let same : sizes (token ∷ tokens) ≡ size token + sizes tokens = sizes_cons token tokens in omega (arith, same))

abbrev Both : ℕ → List ℕ × List Token → Type 0
Both most r = length r.0 + sizes r.1 ≤ most

first_within : (tokens : List Token) → IfSome (first_string tokens) (Both (sizes tokens))
first_within [] = tt
first_within (token ∷ tokens) =
    mapped_has (NoLonger (size token)) (Both (sizes (token ∷ tokens))) (λ text. (text, tokens)) (string_of token) (string_within token)
    (λ text le. let same : sizes (token ∷ tokens) ≡ size token + sizes tokens = sizes_cons token tokens in omega (arith, le, same))

wider_both : (m n : ℕ) (o : Option (List ℕ × List Token)) → m ≤ n → IfSome o (Both m) → IfSome o (Both n)
wider_both m n None le h = tt
wider_both m n (Some r) le h = omega (arith, le, h)

next_within : (tokens : List Token) → IfSome (next_string tokens) (Both (sizes tokens))
next_within tokens =
    then_has (Fit (sizes tokens)) (Both (sizes tokens)) first_string (behind_space tokens) (space_within tokens) (λ rest le. wider_both (sizes rest) (sizes tokens) (first_string rest) le (first_within rest))

longer : (m n : ℕ) (o : Option (List ℕ)) → m ≤ n → IfSome o (NoLonger m) → IfSome o (NoLonger n)
longer m n None le h = tt
longer m n (Some text) le h = omega (arith, le, h)

last_within : (tokens : List Token) → IfSome (first_pattern tokens) (NoLonger (sizes tokens))
last_within [] = tt
last_within (token ∷ tokens) =
    if_has (NoLonger (sizes (token ∷ tokens))) (length tokens == 0) (pattern_of token) None
    (let same : sizes (token ∷ tokens) ≡ size token + sizes tokens = sizes_cons token tokens in longer (size token) (sizes (token ∷ tokens)) (pattern_of token) (omega (arith, same)) (pattern_within token)) tt

abbrev Two : ℕ → List ℕ × List ℕ → Type 0
Two most r = length r.0 + length r.1 ≤ most

listed_within : (tokens : List Token) → IfSome (string_and_pattern tokens) (Two (sizes tokens))
listed_within tokens =
    then_has (Both (sizes tokens)) (Two (sizes tokens)) _ (next_string tokens) (next_within tokens)
    (λ r le. then_has (Fit (sizes r.1)) (Two (sizes tokens)) (λ rest. option_map (λ pattern. (r.0, pattern)) (first_pattern rest)) (behind_space r.1) (space_within r.1)
    (λ rest few. mapped_has (NoLonger (sizes rest)) (Two (sizes tokens)) (λ pattern. (r.0, pattern)) (first_pattern rest) (last_within rest) (λ pattern short. omega (arith, le, few, short))))

list_is : (subscribed : Bool) (reference pattern : List ℕ) → length reference + length pattern ≤ 4294967295 → IsSpoken (with_list subscribed reference pattern)
list_is true reference pattern le = le
list_is false reference pattern le = le

list_spoken : (subscribed : Bool) (tokens : List Token) → sizes tokens ≤ 4294967295 → IfSome (list_in subscribed tokens) IsSpoken
list_spoken subscribed tokens few =
    mapped_has (Two (sizes tokens)) IsSpoken (λ r. with_list subscribed r.0 r.1) (string_and_pattern tokens) (listed_within tokens) (λ r le. list_is subscribed r.0 r.1 (omega (arith, le, few)))

-- ---- what a verb asks

bare_spoken : (v : BareVerb) → IsSpoken (bare v)
bare_spoken bare_verb.Capability = tt
bare_spoken bare_verb.Noop = tt
bare_spoken bare_verb.Logout = tt
bare_spoken bare_verb.Check = tt
bare_spoken bare_verb.Close = tt
bare_spoken bare_verb.Expunge = tt

mailbox_spoken : (v : MailboxVerb) (mailbox : List ℕ) → IsSpoken (with_mailbox v mailbox)
mailbox_spoken mailbox_verb.Select mailbox = tt
mailbox_spoken mailbox_verb.Examine mailbox = tt
mailbox_spoken mailbox_verb.Create mailbox = tt
mailbox_spoken mailbox_verb.Delete mailbox = tt
mailbox_spoken mailbox_verb.Subscribe mailbox = tt
mailbox_spoken mailbox_verb.Unsubscribe mailbox = tt

what_spoken : (v : Verb) (by_uid : Bool) (tokens : List Token) → sizes tokens ≤ 4294967295 → IfSome (what_in v by_uid tokens) IsSpoken
unfolding what_in
what_spoken (verb.Bare v) by_uid tokens few = when_has IsSpoken (length tokens == 0) (bare v) (λ e. bare_spoken v)
what_spoken (verb.Mailbox v) by_uid tokens few = any_mapped IsSpoken (λ mailbox. with_mailbox v mailbox) (last_string tokens) (mailbox_spoken v)
what_spoken verb.Login by_uid tokens few = any_mapped IsSpoken (λ r. what.Login r.0 r.1) (two_strings tokens) (λ r. tt)
what_spoken verb.Rename by_uid tokens few = any_mapped IsSpoken (λ r. what.Rename r.0 r.1) (two_strings tokens) (λ r. tt)
what_spoken verb.List by_uid tokens few = list_spoken false tokens few
what_spoken verb.Lsub by_uid tokens few = list_spoken true tokens few
what_spoken verb.Status by_uid tokens few = any_then IsSpoken _ (string_and_list tokens) (λ r. any_mapped IsSpoken (λ asked. what.Status r.0 asked) (statuses_from true [] r.1) (λ asked. tt))
what_spoken verb.Append by_uid tokens few = append_spoken tokens
what_spoken verb.Fetch by_uid tokens few =
    any_then IsSpoken _ (next_word tokens)
    (λ w. any_then IsSpoken _ (behind_space w.1) (λ rest. any_then IsSpoken _ (set_in w.0) (λ set. any_mapped IsSpoken (λ asked. what.Fetch set asked by_uid) (fetch_in rest) (λ asked. tt))))
what_spoken verb.Store by_uid tokens few =
    any_then IsSpoken _ (next_word tokens)
    (λ w. any_then IsSpoken _ (change_in w.1) (λ (c : How × Bool × Flags). any_mapped IsSpoken (λ set. what.Store set c.0 c.1 c.2 by_uid) (set_in w.0) (λ set. tt)))
what_spoken verb.Copy by_uid tokens few =
    any_then IsSpoken _ (next_word tokens) (λ w. any_then IsSpoken _ (last_string w.1) (λ target. any_mapped IsSpoken (λ set. what.Copy set target by_uid) (set_in w.0) (λ set. tt)))
what_spoken verb.Search by_uid tokens few = any_mapped IsSpoken (with_sought by_uid) _ (λ sought. tt)
what_spoken verb.Authenticate by_uid tokens few = tt

-- ---- a command

short_behind : (line : List ℕ) → length (from_space line) ≤ length line
short_behind line = grind (arith, common_steps)

short_after : (line : List ℕ) → length (after_first is_space line) ≤ length line
short_after line = grind (arith, common_steps)

abbrev Heads : ℕ → Verb × Bool × List ℕ → Type 0
Heads most h = length h.2 ≤ most

heading_within : (line : List ℕ) → IfSome (heading_of line) (Heads (length line))
heading_within line =
    if_has (Heads (length line)) (is_word (codes "UID") (before_first is_space line)) (uid_heading_of (after_first is_space line)) (option_map (λ v. (v, false, from_space line)) (verb_in (before_first is_space line)))
    (any_mapped (Heads (length line)) (λ v. (v, true, from_space (after_first is_space line))) (message_verb (before_first is_space (after_first is_space line)))
    (λ v. let a : length (from_space (after_first is_space line)) ≤ length (after_first is_space line) = short_behind (after_first is_space line) in let b : length (after_first is_space line) ≤ length line = short_after line in omega (arith, a, b)))
    (any_mapped (Heads (length line)) (λ v. (v, false, from_space line)) (verb_in (before_first is_space line)) (λ v. short_behind line))

-- what is read is in its ranges
abbrev pub IsSaid : Reading → Type 0
IsSaid (Ok command) = IsSpoken command.what
IsSaid (Err refused) = Unit {0}

asked_said : (tag : List ℕ) (o : Option ImapWhat) → IfSome o IsSpoken → IsSaid (if_asked tag o)
asked_said tag None h = tt
asked_said tag (Some asked) h = h

spoken_said : (v : Verb) (by_uid : Bool) (line : List ℕ) (lines literals : List (List ℕ)) → length line + octets_in lines + octets_in literals ≤ 4294967295 → IfSome (spoken v by_uid line lines literals) IsSpoken
spoken_said v by_uid line lines literals few =
    if_has IsSpoken (takes_all v) (Some what.Authenticate) (option_and_then (λ tokens. what_in v by_uid tokens) (tokens_with line lines literals)) tt
    (then_has (Fit (length line + octets_in lines + octets_in literals)) IsSpoken (λ tokens. what_in v by_uid tokens) (tokens_with line lines literals) (tokens_within line lines literals)
    (λ tokens le. what_spoken v by_uid tokens (omega (arith, le, few))))

headed_said : (tag : List ℕ) (o : Option (Verb × Bool × List ℕ)) (most : ℕ) (lines literals : List (List ℕ)) → IfSome o (Heads most) → most + octets_in lines + octets_in literals ≤ 4294967295
    → IsSaid (if_headed tag o lines literals)
headed_said tag None most lines literals h few = tt
headed_said tag (Some h) most lines literals le few = asked_said tag (spoken h.0 h.1 h.2 lines literals) (spoken_said h.0 h.1 h.2 lines literals (omega (arith, le, few)))

tagged_said : (o : Option (List ℕ)) (line : List ℕ) (lines literals : List (List ℕ)) → length line + octets_in lines + octets_in literals ≤ 4294967295 → IsSaid (if_tagged o line lines literals)
tagged_said None line lines literals few = tt
tagged_said (Some tag) line lines literals few =
    let a : length (after_first is_space line) ≤ length line = short_after line in
    headed_said tag (heading_of (after_first is_space line)) (length (after_first is_space line)) lines literals (heading_within (after_first is_space line)) (omega (arith, a, few))

before_short : (line : List ℕ) (lines : List (List ℕ)) → length (line_before line lines) ≤ length line
before_short line [] = trimmed_short line
before_short line (next ∷ lines) = omega arith

lines_said : (lines literals : List (List ℕ)) → octets_in lines + octets_in literals ≤ 4294967295 → IsSaid (command_in lines literals)
lines_said [] literals few = tt
lines_said (line ∷ lines) literals few =
    let a : length (line_before line lines) ≤ length line = before_short line lines in
    let b : octets_in (line ∷ lines) ≡ length line + octets_in lines = octets_cons line lines in
    tagged_said (tag_of (line_before line lines)) (line_before line lines) lines literals (omega (arith, a, b, few))

pub reading_said : (raw : RawCommand) → IsShort raw → IsSaid (command_of raw)
reading_said raw few = lines_said raw.lines raw.literals few

pub command_spoken : (raw : RawCommand) (command : ImapCommand) → IsShort raw → command_of raw ≡ Ok command → IsSpoken command.what
command_spoken raw command few e = subst IsSaid e (reading_said raw few)

-- ---- the commands of a stream

abbrev IsShortNext : Next → Type 0
IsShortNext (Command raw) = IsShort raw
IsShortNext (Ask n) = Unit {0}
IsShortNext (Bad line) = Unit {0}
IsShortNext NotYet = Unit {0}

texts_short : (parts : List Part) → octets_in (map (λ (p : Part). p.text) parts) ≤ octets_of parts
texts_short [] = omega arith
texts_short (p ∷ parts) =
    let rest : octets_in (map (λ (p : Part). p.text) parts) ≤ octets_of parts = texts_short parts in
    let a : octets_in (p.text ∷ map (λ (p : Part). p.text) parts) ≡ length p.text + octets_in (map (λ (p : Part). p.text) parts) = octets_cons p.text (map (λ (p : Part). p.text) parts) in
    let b : octets_of (p ∷ parts) ≡ length (marked_line p.text p.digits) + octets_of parts = sum_by-cons (λ (p : Part). length (marked_line p.text p.digits)) p parts in
    let c : length (marked_line p.text p.digits) ≡ length p.text + length (123 ∷ p.digits ++ 125 ∷ []) = length-append p.text (123 ∷ p.digits ++ 125 ∷ []) in
    omega (arith, rest, a, b, c)

literals_short : (parts : List Part) → AllByRecursion IsPart parts → octets_in (map (λ (p : Part). p.literal) parts) ≤ 1048576 * length parts
literals_short [] h = omega arith
literals_short (p ∷ parts) h =
    let rest : octets_in (map (λ (p : Part). p.literal) parts) ≤ 1048576 * length parts = literals_short parts h.1 in
    let a : octets_in (p.literal ∷ map (λ (p : Part). p.literal) parts) ≡ length p.literal + octets_in (map (λ (p : Part). p.literal) parts) = octets_cons p.literal (map (λ (p : Part). p.literal) parts) in
    let small : length p.literal ≤ 1048576 = h.0.small in
    omega (arith, rest, a, small)

end_short : (parts : List Part) (last : List ℕ) (fault : Option LineFault) → IsEntry (record { parts = parts; last = last; fault = fault }) → IsShortNext (told_end parts last fault)
end_short parts last None is =
    let texts : octets_in (map (λ (p : Part). p.text) parts) ≤ octets_of parts = texts_short parts in
    let literals : octets_in (map (λ (p : Part). p.literal) parts) ≤ 1048576 * length parts = literals_short parts is.parts.each in
    let joined : octets_in (map (λ (p : Part). p.text) parts ++ last ∷ []) ≡ octets_in (map (λ (p : Part). p.text) parts) + octets_in (last ∷ []) =
    sum_by-append (λ (t : List ℕ). length t) (map (λ (p : Part). p.text) parts) (last ∷ []) in
    let one : octets_in (last ∷ []) ≡ length last + octets_in [] = octets_cons last [] in
    let none : octets_in [] ≡ 0 = refl in
    let few : length parts ≤ 8 = is.parts.few in
    let short : octets_of parts + length last ≤ 65536 = is.ends.0 in
    omega (arith, texts, literals, joined, one, none, few, short)
end_short parts last (Some why) is = tt

parts_short : (parts : List Part) → AllByRecursion IsShortNext (map told_part parts)
parts_short [] = tt
parts_short (p ∷ parts) = (tt, parts_short parts)

entry_short : (e : Entry) → IsEntry e → AllByRecursion IsShortNext (told_entry e)
entry_short e is = all_joined IsShortNext (map told_part e.parts) (told_end e.parts e.last e.fault ∷ []) (parts_short e.parts) (end_short e.parts e.last e.fault is, tt)

entries_short : (entries : List Entry) → AllByRecursion IsEntry entries → AllByRecursion IsShortNext (flat_map told_entry entries)
entries_short [] h = tt
entries_short (e ∷ entries) h = all_joined IsShortNext (told_entry e) (flat_map told_entry entries) (entry_short e h.0) (entries_short entries h.1)

open_short : (o : Open) → AllByRecursion IsShortNext (told_open o)
open_short (Line line) = tt
open_short (Octets text digits octets) = (tt, tt)

told_short : (entries : List Entry) (rest : Rest) → AllByRecursion IsEntry entries → AllByRecursion IsShortNext (told_of entries rest)
told_short entries rest h =
    all_joined IsShortNext (flat_map told_entry entries) (map told_part rest.parts ++ told_open rest.last) (entries_short entries h)
    (all_joined IsShortNext (map told_part rest.parts) (told_open rest.last) (parts_short rest.parts) (open_short rest.last))

stream_short : (stream : List ℕ) (nexts : List Next) → IsReading stream nexts → AllByRecursion IsShortNext nexts
stream_short stream nexts is = subst (AllByRecursion IsShortNext) (sym is.told) (told_short is.entries is.rest is.splits.each)

pub said_short : ((stream : List ℕ) → IsReading stream (said_of stream)) → (stream : List ℕ) (raw : RawCommand) → Contains (said_of stream) (Command raw) → IsShort raw
said_short one stream raw c = member_has IsShortNext (said_of stream) (Command raw) c (stream_short stream (said_of stream) (one stream))
