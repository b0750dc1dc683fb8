-- The tag of a line is that of its first bytes.
use Rattle.std.proofs.Common.{◌≡◌, ℕ, ◌<◌, ◌≤◌, Bool, true, false, cond, not, ◌&&◌, ◌==◌, List, [], ◌∷◌, ◌++◌, length, nat_le, Option, None, Some, option_map, option_and_then, refl, ap, ◌∙◌, arith}
use Rattle.std.proofs.lemmas.Bool.{leb-true}
use Rattle.std.proofs.lemmas.List.{length-append}
use Rattle.std.specs.List.{list_all}
use Rattle.imap_stream.specs.LiteralMarks.{is_tag, is_tag_byte, before_space, tag_of}

none_long : (s t : Bool) → ((not s && false) && t) ≡ false
none_long true t = refl
none_long false t = refl

long_by : (t : Bool) (word : List ℕ) → nat_le (length word) 64 ≡ t → 64 < length word → ((not (length word == 0) && t) && list_all is_tag_byte word) ≡ false
long_by true word is long = absurd (let le : length word ≤ 64 = leb-true (length word) 64 is in omega arith)
long_by false word is long = none_long (length word == 0) (list_all is_tag_byte word)

-- no tag has more than 64 bytes
pub too_long : (word : List ℕ) → 64 < length word → is_tag word ≡ false
too_long word long = long_by (nat_le (length word) 64) word refl long

-- the word that a line begins with, in two pieces
abbrev pub onto_word : List ℕ → Option (List ℕ) → Option (List ℕ) → Option (List ℕ)
onto_word front (Some word) more = Some word
onto_word front None more = option_map (λ word. front ++ word) more

onto_more : (b : ℕ) (front : List ℕ) (o more : Option (List ℕ)) → option_map (λ word. b ∷ word) (onto_word front o more) ≡ onto_word (b ∷ front) (option_map (λ word. b ∷ word) o) more
onto_more b front None None = refl
onto_more b front None (Some word) = refl
onto_more b front (Some word) more = refl

first_none : (o : Option (List ℕ)) → o ≡ onto_word [] None o
first_none None = refl
first_none (Some word) = refl

by_space : (t : Bool) (b : ℕ) (p : List ℕ) (o more whole : Option (List ℕ)) → whole ≡ onto_word p o more
    → cond t (Some []) (option_map (λ word. b ∷ word) whole) ≡ onto_word (b ∷ p) (cond t (Some []) (option_map (λ word. b ∷ word) o)) more
by_space true b p o more whole e = refl
by_space false b p o more whole e = ap (option_map (λ word. b ∷ word)) e ∙ onto_more b p o more

pub before_space-append : (p q : List ℕ) → before_space (p ++ q) ≡ onto_word p (before_space p) (before_space q)
before_space-append [] q = first_none (before_space q)
before_space-append (b ∷ p) q = by_space (b == 32) b p (before_space p) (before_space q) (before_space (p ++ q)) (before_space-append p q)

-- the tag in a word
abbrev pub tag_in : List ℕ → Option (List ℕ)
tag_in word = cond (is_tag word) (Some word) None

no_tag : (word : List ℕ) → is_tag word ≡ false → tag_in word ≡ None
no_tag word e = ap (λ t. cond t (Some word) None) e

by_first : (p : List ℕ) (o more : Option (List ℕ)) → 64 < length p → option_and_then tag_in (onto_word p o more) ≡ option_and_then tag_in o
by_first p (Some word) more long = refl
by_first p None None long = refl
by_first p None (Some word) long = no_tag (p ++ word) (too_long (p ++ word) (let size : 64 < length (p ++ word) = simp length-append (omega arith) in size))

-- after 65 bytes nothing changes the tag
pub tag_of-front : (p q : List ℕ) → 64 < length p → tag_of (p ++ q) ≡ tag_of p
tag_of-front p q long = ap (option_and_then tag_in) (before_space-append p q) ∙ by_first p (before_space p) (before_space q) long
