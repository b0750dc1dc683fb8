-- Keys over small messages, worked out.
use Rattle.std.proofs.Common.{◌≡◌, ℕ, true, false, List, [], ◌∷◌, ◌++◌, codes, pos, negsuc, Some, None, refl}
use Rattle.search_verb.specs.declared.candidate.Look.TheVariants as look
use Rattle.search_verb.specs.Asked.{Every, Seen, Flagged, Places, Uids, Before, On, Since, Larger, Smaller, Field, Body, Text, Not, Or, And, all_of}
use Rattle.header_fields.specs.Header.{behind_header}
use Rattle.header_fields.specs.Values.{value_of}
use Rattle.search_verb.specs.Meets.{Facts, meets, needed}

abbrev line : List ℕ
line = 13 ∷ 10 ∷ []

-- the second of three messages, of 40 bytes, that came in the last second of 7 January 2005 in UTC
abbrev with_text : List ℕ → Facts
with_text text = record {
  place = 2;
  uid = 12;
  last_place = 3;
  last_uid = 15;
  answered = false;
  flagged = true;
  deleted = false;
  seen = false;
  draft = false;
  at = 1105142399;
  size = 40;
  text = text;
}

-- the same, one second later
abbrev a_second_later : Facts
a_second_later = record {
  place = 2;
  uid = 12;
  last_place = 3;
  last_uid = 15;
  answered = false;
  flagged = true;
  deleted = false;
  seen = false;
  draft = false;
  at = 1105142400;
  size = 40;
  text = [];
}

abbrev hello : Facts
hello = with_text (codes "To: ann" ++ line ++ codes "SubJect : Well, hi" ++ line ++ codes " there" ++ line ++ line ++ codes "Subject: body")

-- the case of a string and of a name is none
subject_is : meets (Field (codes "SUBJECT") (codes "HI")) hello ≡ true
subject_is = refl

-- a value goes on over a folded line
folded_is : meets (Field (codes "subject") (codes "there")) hello ≡ true
folded_is = refl

over_fold_is : meets (Field (codes "subject") (codes "hi" ++ line ++ codes " th")) hello ≡ true
over_fold_is = refl

-- what follows the header has no fields, and a name is not its front
other_is_none : meets (Field (codes "subject") (codes "body")) hello ≡ false
other_is_none = refl

front_is_none : meets (Field (codes "sub") (codes "hi")) hello ≡ false
front_is_none = refl

-- a string of no bytes asks for the field alone
any_subject : meets (Field (codes "subject") []) hello ≡ true
any_subject = refl

any_from : meets (Field (codes "from") []) hello ≡ false
any_from = refl

-- the value has what stands behind the colon, without the last end of a line
value_is : value_of (codes "A: b:" ++ line) ≡ codes " b:"
value_is = refl

value_is_none : value_of (codes "A") ≡ []
value_is_none = refl

body_is : behind_header hello.text ≡ codes "Subject: body"
body_is = refl

in_body : meets (Body (codes "BODY")) hello ≡ true
in_body = refl

not_in_body : meets (Body (codes "ann")) hello ≡ false
not_in_body = refl

in_text : meets (Text (codes "ANN")) hello ≡ true
in_text = refl

any_body : meets (Body []) (with_text (codes "A: b")) ≡ true
any_body = refl

-- what is made of keys
not_is : meets (Not (Field (codes "subject") (codes "hi"))) hello ≡ false
not_is = refl

or_takes_the_second : meets (Or Seen Flagged) hello ≡ true
or_takes_the_second = refl

all_must : meets (all_of (Flagged ∷ Not Seen ∷ Smaller 41 ∷ [])) hello ≡ true
all_must = refl

no_keys : meets (all_of []) hello ≡ true
no_keys = refl

-- sizes are met strictly
as_large_is_none : meets (Larger 40) hello ≡ false
as_large_is_none = refl

as_small_is_none : meets (Smaller 40) hello ≡ false
as_small_is_none = refl

-- a day begins at midnight in UTC: 7 January 2005 is day 12790
on_the_day : meets (On (pos 12790)) hello ≡ true
on_the_day = refl

on_the_next_day : meets (On (pos 12791)) a_second_later ≡ true
on_the_next_day = refl

before_the_day : meets (Before (pos 12790)) hello ≡ false
before_the_day = refl

before_the_next_day : meets (Before (pos 12791)) hello ≡ true
before_the_next_day = refl

since_the_day : meets (Since (pos 12790)) hello ≡ true
since_the_day = refl

since_the_next_day : meets (Since (pos 12791)) hello ≡ false
since_the_next_day = refl

-- 31 December 1969
since_before_all : meets (Since (negsuc 0)) hello ≡ true
since_before_all = refl

-- a range either way; * is the last, and a range to it has the last also where it begins beyond
either_way : meets (Places (record { from = Some 3; to = Some 1 } ∷ [])) hello ≡ true
either_way = refl

last_is_another : meets (Places (record { from = None; to = None } ∷ [])) hello ≡ false
last_is_another = refl

beyond_is_none : meets (Uids (record { from = Some 16; to = None } ∷ [])) hello ≡ false
beyond_is_none = refl

to_the_last : meets (Uids (record { from = Some 12; to = None } ∷ [])) hello ≡ true
to_the_last = refl

-- what has to be looked at
looks_at_text : needed (Or (Larger 1) (Not (Text []))) ≡ look.Text
looks_at_text = refl

looks_at_size : needed (And Seen (And (Smaller 9) Every)) ≡ look.Size
looks_at_size = refl

looks_at_nothing : needed (Not (On (pos 1))) ≡ look.Nothing
looks_at_nothing = refl
