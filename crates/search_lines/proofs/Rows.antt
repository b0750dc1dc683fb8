-- Arguments of SEARCH, worked out.
use Rattle.std.proofs.Common.{◌≡◌, ℕ, zero, suc, List, [], ◌∷◌, ◌++◌, codes, pos, negsuc, Option, Some, None, refl}
use Rattle.jiff_core.specs.Calendar.{days_from_civil, day_count, days_of_years, days_of_months}
use Rattle.imap_tokens.specs.declared.tokens.Token.{Token}
use Rattle.imap_tokens.specs.declared.tokens.Token.TheVariants.{Space, Open, Close, Word, Quoted, Literal}
use Rattle.search_verb.specs.Asked.{Asked, Every, Never, Seen, Draft, Flagged, Places, Uids, Before, On, Since, Larger, Smaller, Field, Body, Not, Or, all_of}
use Rattle.search_lines.specs.Keys.{key_in}
use Rattle.search_lines.specs.Sought.{sought, sought_in}
use Rattle.search_lines.specs.declared.sought.Sought.{Sought}

-- words, each behind a space
abbrev spaced : List (List ℕ) → List Token
spaced [] = []
spaced (word ∷ words) = Space ∷ Word word ∷ spaced words

-- the keys, with no charset
abbrev plain : List Asked → Option Sought
plain keys = Some (sought None (all_of keys))

subject_is : sought_in (spaced (codes "SUBJECT" ∷ codes "HI" ∷ [])) ≡ plain (Field (codes "SUBJECT") (codes "HI") ∷ [])
unfolding key_in
subject_is = refl

-- words of keys in any case, and a string in quotes
not_and_smaller : sought_in (spaced (codes "not" ∷ codes "Subject" ∷ []) ++ Space ∷ Quoted (codes "hi") ∷ spaced (codes "SMALLER" ∷ codes "1000" ∷ []))
    ≡ plain (Not (Field (codes "SUBJECT") (codes "hi")) ∷ Smaller 1000 ∷ [])
unfolding key_in
not_and_smaller = refl

-- the name of a field as it is written
header_is : sought_in (spaced (codes "HEADER" ∷ codes "x-Note" ∷ []) ++ Space ∷ Quoted [] ∷ []) ≡ plain (Field (codes "x-Note") [] ∷ [])
unfolding key_in
header_is = refl

-- a day counts from 1 January 1970, below 0 for an earlier one
on_a_day : sought_in (spaced (codes "ON" ∷ codes "7-Jan-2005" ∷ codes "OR" ∷ codes "SEEN" ∷ codes "FLAGGED" ∷ [])) ≡ plain (On (pos 12790) ∷ Or Seen Flagged ∷ [])
unfolding key_in days_from_civil day_count days_of_years days_of_months
on_a_day = refl

since_an_early_day : sought_in (spaced (codes "SINCE" ∷ codes "31-dec-1969" ∷ [])) ≡ plain (Since (negsuc 0) ∷ [])
unfolding key_in days_from_civil day_count days_of_years days_of_months
since_an_early_day = refl

before_a_day_in_quotes : sought_in (spaced (codes "BEFORE" ∷ []) ++ Space ∷ Quoted (codes "29-Feb-2004") ∷ []) ≡ plain (Before (pos 12477) ∷ [])
unfolding key_in days_from_civil day_count days_of_years days_of_months
before_a_day_in_quotes = refl

no_such_day : sought_in (spaced (codes "BEFORE" ∷ codes "29-Feb-2005" ∷ [])) ≡ None
unfolding key_in
no_such_day = refl

three_digits : sought_in (spaced (codes "BEFORE" ∷ codes "007-Jan-2005" ∷ [])) ≡ None
unfolding key_in
three_digits = refl

-- dates in the message's own header are not read
sent_is_none : sought_in (spaced (codes "SENTON" ∷ codes "7-Jan-2005" ∷ [])) ≡ None
unfolding key_in
sent_is_none = refl

-- no message is recent or has a keyword, and all are old
recent_is : sought_in (spaced (codes "RECENT" ∷ codes "OLD" ∷ codes "KEYWORD" ∷ codes "Junk" ∷ codes "UNKEYWORD" ∷ codes "Junk" ∷ [])) ≡ plain (Never ∷ Every ∷ Never ∷ Every ∷ [])
unfolding key_in
recent_is = refl

-- a set is of places, and behind UID of UIDs
sets_are : sought_in (spaced (codes "3:1,*" ∷ codes "UID" ∷ codes "7:*" ∷ []))
    ≡ plain (Places (record { from = Some 3; to = Some 1 } ∷ record { from = None; to = None } ∷ []) ∷ Uids (record { from = Some 7; to = None } ∷ []) ∷ [])
unfolding key_in
sets_are = refl

-- keys in parentheses are one key
listed_is : sought_in (Space ∷ Open ∷ Word (codes "UNSEEN") ∷ Space ∷ Word (codes "DRAFT") ∷ Close ∷ spaced (codes "ALL" ∷ [])) ≡ plain (all_of (Not Seen ∷ Draft ∷ []) ∷ Every ∷ [])
unfolding key_in
listed_is = refl

nothing_listed : sought_in (Space ∷ Open ∷ Close ∷ []) ≡ None
unfolding key_in
nothing_listed = refl

not_closed : sought_in (Space ∷ Open ∷ Word (codes "SEEN") ∷ []) ≡ None
unfolding key_in
not_closed = refl

no_keys : sought_in [] ≡ None
unfolding key_in
no_keys = refl

one_of_two : sought_in (spaced (codes "OR" ∷ codes "SEEN" ∷ [])) ≡ None
unfolding key_in
one_of_two = refl

-- sizes through 4294967295
largest_is : sought_in (spaced (codes "LARGER" ∷ codes "4294967295" ∷ [])) ≡ plain (Larger 4294967295 ∷ [])
unfolding key_in
largest_is = refl

too_large : sought_in (spaced (codes "LARGER" ∷ codes "4294967296" ∷ [])) ≡ None
unfolding key_in
too_large = refl

-- a charset, for strings that may be literals
charset_is : sought_in (spaced (codes "charset" ∷ codes "UTF-8" ∷ codes "BODY" ∷ []) ++ Space ∷ Literal (codes "a b") ∷ []) ≡ Some (sought (Some (codes "UTF-8")) (all_of (Body (codes "a b") ∷ [])))
unfolding key_in
charset_is = refl

charset_alone : sought_in (spaced (codes "CHARSET" ∷ codes "UTF-8" ∷ [])) ≡ None
unfolding key_in
charset_alone = refl

-- so many keys, each in the one before
abbrev nots : ℕ → List (List ℕ) → List (List ℕ)
nots zero words = words
nots (suc n) words = codes "NOT" ∷ nots n words

abbrev denied : ℕ → Asked → Asked
denied zero key = key
denied (suc n) key = Not (denied n key)

deep_enough : sought_in (spaced (nots 64 (codes "SEEN" ∷ []))) ≡ plain (denied 64 Seen ∷ [])
unfolding key_in
deep_enough = refl

too_deep : sought_in (spaced (nots 65 (codes "SEEN" ∷ []))) ≡ None
unfolding key_in
too_deep = refl
