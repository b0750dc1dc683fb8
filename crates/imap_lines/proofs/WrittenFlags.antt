-- Commands with flags are read as they are written.
use Rattle.std.proofs.Common.{◌≡◌, ℕ, Bool, true, false, cond, ◌==◌, List, [], ◌∷◌, ◌++◌, length, codes, Option, None, Some, refl, ap, sym, ◌∙◌, arith, subst}
use Rattle.std.specs.Prelude.{option_map, option_and_then}
use Rattle.std.specs.List.{list_all}
use Rattle.std.proofs.lemmas.List.{append_assoc}
use Rattle.civil_dates.specs.Dates.{imap_date}
use Rattle.imap_stream.specs.declared.picks.SetRange.{SetRange}
use Rattle.undo_base.specs.declared.asks.How.{How}
use Rattle.undo_base.specs.declared.asks.How.TheVariants.{Replace, Add, Take}
use Rattle.undo_base.specs.declared.keys.Flags.{Flags}
use Rattle.imap_lines.specs.Append.{spaced_flags, first_date, only_literal, message_in, append_in}
use Rattle.imap_tokens.specs.Arguments.{behind_space}
use Rattle.imap_tokens.specs.Dates.{date_in}
use Rattle.imap_tokens.specs.Flags.{flags_in}
use Rattle.imap_lines.specs.Messages.{how_in, listed_flags, change_in}
use Rattle.imap_tokens.specs.Sets.{set_in}
use Rattle.imap_tokens.specs.Tokens.{is_quoted_byte}
use Rattle.imap_lines.specs.What.{what_in}
use Rattle.imap_lines.specs.PlainCommands.{spaced, string_token, flag_token, flag_tokens, date_tokens, how_word, set_text, IsSet}
use Rattle.imap_lines.specs.declared.verbs.Verb.TheVariants as verb
use Rattle.imap_tokens.specs.declared.tokens.Token.{Token}
use Rattle.imap_tokens.specs.declared.tokens.Token.TheVariants.{Space, Open, Close, Word, Literal}
use Rattle.imap_lines.specs.declared.command.ImapWhat.TheVariants as what
use Rattle.imap_tokens.specs.Spelling.{is_word_token}
use Rattle.imap_lines.proofs.WrittenTokens.{plain_byte, IsWhole, AreWhole, EndsWell}
use Rattle.imap_lines.proofs.WrittenHeads.{IsRead, read_by}
use Rattle.imap_lines.proofs.WrittenNumbers.{set_is, set_is_word}
use Rattle.imap_lines.proofs.WrittenStrings.{AreItems, string_argument, and_none, one_string, last_is, next_is, spaced_whole, ends_after}

items_append : (front back : List Token) → AreItems front → AreItems back → AreItems (front ++ back)
items_append [] back are more = more
items_append (token ∷ front) back are more = (are.0, items_append front back are.1 more)

flag_item : (set : Bool) (word : List ℕ) → list_all plain_byte (92 ∷ word) ≡ true → AreItems (flag_token set word)
flag_item true word e = (((omega arith, e), refl), tt)
flag_item false word e = tt

flag_items : (flags : Flags) → AreItems (flag_tokens flags)
flag_items flags =
    let a = flag_token flags.answered (codes "Answered") in
    let f = flag_token flags.flagged (codes "Flagged") in
    let d = flag_token flags.deleted (codes "Deleted") in
    let s = flag_token flags.seen (codes "Seen") in
    let t = flag_token flags.draft (codes "Draft") in
    items_append (a ++ f ++ d ++ s) t
    (items_append (a ++ f ++ d) s
    (items_append (a ++ f) d
    (items_append a f (flag_item flags.answered (codes "Answered") refl) (flag_item flags.flagged (codes "Flagged") refl))
    (flag_item flags.deleted (codes "Deleted") refl))
    (flag_item flags.seen (codes "Seen") refl))
    (flag_item flags.draft (codes "Draft") refl)

abbrev flags_with : Bool → Bool → Bool → Bool → Bool → Flags
flags_with a f d s t = record { answered = a; flagged = f; deleted = d; seen = s; draft = t }

each_flag : (a f d s t : Bool) (rest : List Token) → flags_in (spaced (flag_tokens (flags_with a f d s t)) ++ Close ∷ rest) ≡ Some (flags_with a f d s t, rest)
each_flag true true true true true rest = refl
each_flag true true true true false rest = refl
each_flag true true true false true rest = refl
each_flag true true true false false rest = refl
each_flag true true false true true rest = refl
each_flag true true false true false rest = refl
each_flag true true false false true rest = refl
each_flag true true false false false rest = refl
each_flag true false true true true rest = refl
each_flag true false true true false rest = refl
each_flag true false true false true rest = refl
each_flag true false true false false rest = refl
each_flag true false false true true rest = refl
each_flag true false false true false rest = refl
each_flag true false false false true rest = refl
each_flag true false false false false rest = refl
each_flag false true true true true rest = refl
each_flag false true true true false rest = refl
each_flag false true true false true rest = refl
each_flag false true true false false rest = refl
each_flag false true false true true rest = refl
each_flag false true false true false rest = refl
each_flag false true false false true rest = refl
each_flag false true false false false rest = refl
each_flag false false true true true rest = refl
each_flag false false true true false rest = refl
each_flag false false true false true rest = refl
each_flag false false true false false rest = refl
each_flag false false false true true rest = refl
each_flag false false false true false rest = refl
each_flag false false false false true rest = refl
each_flag false false false false false rest = refl

-- flags in a list
pub flags_is : (flags : Flags) (rest : List Token) → flags_in (spaced (flag_tokens flags) ++ Close ∷ rest) ≡ Some (flags, rest)
flags_is flags rest = each_flag flags.answered flags.flagged flags.deleted flags.seen flags.draft rest

-- a set before other arguments
pub set_whole : (set : List SetRange) (tokens : List Token) → IsSet set → AreWhole (Space ∷ tokens) → AreWhole (Space ∷ Word (set_text set) ∷ Space ∷ tokens)
set_whole set tokens is are = (tt, refl, (set_is_word set is, refl, are))

pub copy_read : (set : List SetRange) (target : List ℕ) (by_uid : Bool) → IsSet set → IsRead (what.Copy set target by_uid)
unfolding what_in
copy_read set target by_uid is =
    let last = one_string target in
    read_by (what.Copy set target by_uid) verb.Copy refl refl (λ e. refl) refl refl (set_whole set (string_token target ∷ []) is last.0, last.1) (
    ap (option_and_then (λ t. option_map (λ s. what.Copy s t by_uid) (set_in (set_text set)))) (last_is target) ∙ ap (option_map (λ s. what.Copy s target by_uid)) (set_is set is))

how_is : (how : How) (silent : Bool) → how_in (how_word how silent) ≡ Some (how, silent)
how_is Replace false = refl
how_is Replace true = refl
how_is Add false = refl
how_is Add true = refl
how_is Take false = refl
how_is Take true = refl

how_whole : (how : How) (silent : Bool) → IsWhole (Word (how_word how silent))
how_whole Replace false = (omega arith, refl)
how_whole Replace true = (omega arith, refl)
how_whole Add false = (omega arith, refl)
how_whole Add true = (omega arith, refl)
how_whole Take false = (omega arith, refl)
how_whole Take true = (omega arith, refl)

change_is : (how : How) (silent : Bool) (flags : Flags) → change_in (Space ∷ Word (how_word how silent) ∷ Space ∷ Open ∷ spaced (flag_tokens flags) ++ Close ∷ []) ≡ Some (how, silent, flags)
change_is how silent flags =
    ap (option_and_then (λ h. option_map (λ f. (h.0, h.1, f)) (listed_flags (spaced (flag_tokens flags) ++ Close ∷ [])))) (how_is how silent)
    ∙ ap (λ o. option_map (λ f. (how, silent, f)) (option_and_then (λ (r : Flags × List Token). cond (length r.1 == 0) (Some r.0) None) o)) (flags_is flags [])

pub store_read : (set : List SetRange) (how : How) (silent : Bool) (flags : Flags) (by_uid : Bool) → IsSet set → IsRead (what.Store set how silent flags by_uid)
unfolding what_in
store_read set how silent flags by_uid is =
    let inside = spaced (flag_tokens flags) ++ Close ∷ [] in
    let list : AreWhole (Space ∷ Open ∷ inside) = (tt, refl, (tt, refl, spaced_whole (flag_tokens flags) [] (flag_items flags) (tt, refl, tt))) in
    let whole : AreWhole (Space ∷ Word (set_text set) ∷ Space ∷ Word (how_word how silent) ∷ Space ∷ Open ∷ inside) =
    set_whole set (Word (how_word how silent) ∷ Space ∷ Open ∷ inside) is (tt, refl, (how_whole how silent, refl, list)) in
    let ends : EndsWell (Space ∷ Word (set_text set) ∷ Space ∷ Word (how_word how silent) ∷ Space ∷ Open ∷ inside) =
    ends_after (Space ∷ Word (set_text set) ∷ Space ∷ Word (how_word how silent) ∷ Space ∷ Open ∷ spaced (flag_tokens flags)) Close [] refl in
    read_by (what.Store set how silent flags by_uid) verb.Store refl refl (λ e. refl) refl refl (whole, ends) (
    ap (option_and_then (λ c. option_map (λ s. what.Store s c.0 c.1 c.2 by_uid) (set_in (set_text set)))) (change_is how silent flags)
    ∙ ap (option_map (λ s. what.Store s how silent flags by_uid)) (set_is set is))

-- a moment is read as its date is written
abbrev pub IsDated : Option ℕ → Type 0
IsDated None = Unit {0}
IsDated (Some at) = (date_in (imap_date at) ≡ Some at) × (list_all is_quoted_byte (imap_date at) ≡ true)

date_is : (moment : Option ℕ) (text : List ℕ) → IsDated moment → first_date (date_tokens moment ++ Literal text ∷ []) ≡ Some (moment, Literal text ∷ [])
date_is None text is = refl
date_is (Some at) text is = ap (option_and_then (λ m. Some (Some m, Literal text ∷ []))) is.0

date_whole : (moment : Option ℕ) (text : List ℕ) → IsDated moment → AreWhole (date_tokens moment ++ Literal text ∷ [])
date_whole None text is = (tt, refl, tt)
date_whole (Some at) text is = (is.1, refl, (tt, refl, (tt, refl, tt)))

message_is : (flags : Flags) (moment : Option ℕ) (text : List ℕ) → IsDated moment
    → message_in (Open ∷ (spaced (flag_tokens flags) ++ Close ∷ Space ∷ (date_tokens moment ++ Literal text ∷ []))) ≡ Some (flags, moment, text)
message_is flags moment text is =
    let rest = date_tokens moment ++ Literal text ∷ [] in
    let spaced_is : spaced_flags (spaced (flag_tokens flags) ++ Close ∷ Space ∷ rest) ≡ Some (flags, rest) =
    ap (option_and_then (λ r. option_map (λ t. (r.0, t)) (behind_space r.1))) (flags_is flags (Space ∷ rest)) in
    ap (option_and_then (λ (f : Flags × List Token). option_and_then (λ (d : Option ℕ × List Token). option_map (λ t. (f.0, d.0, t)) (only_literal d.1)) (first_date f.1))) spaced_is
    ∙ ap (option_and_then (λ (d : Option ℕ × List Token). option_map (λ t. (flags, d.0, t)) (only_literal d.1))) (date_is moment text is)

-- a message that is appended
pub append_read : (mailbox : List ℕ) (flags : Flags) (moment : Option ℕ) (text : List ℕ) → IsDated moment → IsRead (what.Append mailbox flags moment text)
unfolding what_in
append_read mailbox flags moment text is =
    read_by (what.Append mailbox flags moment text) verb.Append refl refl (λ e. absurd (let wrong : false ≡ true = e in cc)) refl refl (whole, ends) (
    ap (λ l. append_in (Space ∷ string_token mailbox ∷ Space ∷ Open ∷ l)) split
    ∙ ap (option_and_then (λ (r : List ℕ × List Token). option_and_then (λ rest. option_map (λ (m : Flags × Option ℕ × List ℕ). what.Append r.0 m.0 m.1 m.2) (message_in rest)) (behind_space r.1))) (next_is mailbox (Space ∷ Open ∷ inner))
    ∙ ap (option_map (λ (m : Flags × Option ℕ × List ℕ). what.Append mailbox m.0 m.1 m.2)) (message_is flags moment text is))
  where
    rest : List Token
    rest = Space ∷ (date_tokens moment ++ Literal text ∷ [])

    inner : List Token
    inner = spaced (flag_tokens flags) ++ Close ∷ rest

    split : (spaced (flag_tokens flags) ++ Close ∷ []) ++ rest ≡ inner
    split = append_assoc (spaced (flag_tokens flags)) (Close ∷ []) rest

    inner_whole : AreWhole inner
    inner_whole = spaced_whole (flag_tokens flags) rest (flag_items flags) (tt, refl, (tt, refl, date_whole moment text is))

    whole : AreWhole (Space ∷ string_token mailbox ∷ Space ∷ Open ∷ ((spaced (flag_tokens flags) ++ Close ∷ []) ++ rest))
    whole =
        (tt, refl, ((string_argument mailbox).whole, and_none (is_word_token (string_token mailbox)), (tt, refl, (tt, refl, subst AreWhole (sym split) inner_whole))))

    ends : EndsWell (Space ∷ string_token mailbox ∷ Space ∷ Open ∷ ((spaced (flag_tokens flags) ++ Close ∷ []) ++ rest))
    ends =
        subst (λ l. EndsWell (Space ∷ string_token mailbox ∷ Space ∷ Open ∷ l))
        (append_assoc (spaced (flag_tokens flags) ++ Close ∷ []) (Space ∷ date_tokens moment) (Literal text ∷ []))
        (ends_after (Space ∷ string_token mailbox ∷ Space ∷ Open ∷ ((spaced (flag_tokens flags) ++ Close ∷ []) ++ (Space ∷ date_tokens moment))) (Literal text) [] refl)
