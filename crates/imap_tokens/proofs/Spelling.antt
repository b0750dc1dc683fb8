-- Spelled tokens are read.
use Rattle.std.proofs.Common.{◌≡◌, ℕ, Bool, true, false, cond, ◌==◌, ◌&&◌, ◌||◌, List, [], ◌∷◌, ◌++◌, Option, None, Some, option_map, option_and_then, refl, ap, sym, ◌∙◌}
use Rattle.std.proofs.lemmas.List.{append_assoc, append-nil}
use Rattle.std.proofs.lemmas.Bool.{eqb-true}
use Rattle.std.specs.List.{list_all, flat_map}
use Rattle.imap_tokens.specs.Tokens.{is_word_byte, is_quoted_byte, started, in_word, tokens_from}
use Rattle.imap_tokens.specs.Spelling.{quoted_byte, spelled, is_whole_word, is_apart, are_spellable}
use Rattle.imap_tokens.specs.declared.tokens.Token.{Token}
use Rattle.imap_tokens.specs.declared.tokens.Token.TheVariants.{Space, Open, Close, Word, Quoted, Literal}
use Rattle.imap_tokens.specs.declared.tokens.Part.{Part}
use Rattle.imap_tokens.specs.declared.tokens.Part.TheVariants.{Between, Word as PartWord, Quoted as PartQuoted, Escape}

pub and_true : (a b : Bool) → (a && b) ≡ true → (a ≡ true) × (b ≡ true)
and_true true b e = (refl, e)
and_true false b e = absurd (let wrong : false ≡ true = e in cc)

-- a byte of a word is none of another kind
pub no_word : (b c : ℕ) → is_word_byte b ≡ true → is_word_byte c ≡ false → (b == c) ≡ false
no_word b c is other = by_test (b == c) refl
  where
    by_test : (t : Bool) → (b == c) ≡ t → t ≡ false
    by_test true e = absurd (let wrong : false ≡ true = sym other ∙ ap is_word_byte (sym (eqb-true b c e)) ∙ is in cc)
    by_test false e = refl

starts_by : (acc : List Token) (b : ℕ) (space open' close quote word : Bool) → space ≡ false → open' ≡ false → close ≡ false → quote ≡ false → word ≡ true
    → cond {A = Option (List Token × Part)} space (Some (acc ++ Space ∷ [], Between)) (cond open' (Some (acc ++ Open ∷ [], Between)) (cond close (Some (acc ++ Close ∷ [], Between))
    (cond quote (Some (acc, PartQuoted [])) (cond word (Some (acc, PartWord (b ∷ []))) None)))) ≡ Some (acc, PartWord (b ∷ []))
starts_by acc b space open' close quote word e1 e2 e3 e4 e5 = rw (e1, e2, e3, e4, e5) refl

word_starts : (acc : List Token) (b : ℕ) → is_word_byte b ≡ true → started acc b ≡ Some (acc, PartWord (b ∷ []))
word_starts acc b is = starts_by acc b (b == 32) (b == 40) (b == 41) (b == 34) (is_word_byte b) (no_word b 32 is refl) (no_word b 40 is refl) (no_word b 41 is refl) (no_word b 34 is refl) is

word_goes_on : (acc : List Token) (text : List ℕ) (b : ℕ) → is_word_byte b ≡ true → in_word acc text b ≡ Some (acc, PartWord (text ++ b ∷ []))
word_goes_on acc text b is = ap (λ t. cond t (Some (acc, PartWord (text ++ b ∷ []))) (started (acc ++ Word text ∷ []) b)) is

word_run : (acc : List Token) (done more rest : List ℕ) → list_all is_word_byte more ≡ true
    → tokens_from acc (PartWord done) (more ++ rest) ≡ tokens_from acc (PartWord (done ++ more)) rest
word_run acc done [] rest e = ap (λ d. tokens_from acc (PartWord d) rest) (sym (append-nil done))
word_run acc done (b ∷ more) rest e =
    let parts = and_true (is_word_byte b) (list_all is_word_byte more) e in
    ap (option_and_then (λ next. tokens_from next.0 next.1 (more ++ rest))) (word_goes_on acc done b parts.0)
    ∙ word_run acc (done ++ b ∷ []) more rest parts.1
    ∙ ap (λ d. tokens_from acc (PartWord d) rest) (append_assoc done (b ∷ []) more)

-- where a word ends
word_ends : (acc : List Token) (text : List ℕ) (tokens : List Token) → is_apart (Word text) tokens ≡ true → are_spellable tokens ≡ true
    → tokens_from acc (PartWord text) (flat_map spelled tokens) ≡ tokens_from (acc ++ Word text ∷ []) Between (flat_map spelled tokens)
word_ends acc text [] apart each = refl
word_ends acc text (Space ∷ tokens) apart each = refl
word_ends acc text (Open ∷ tokens) apart each = refl
word_ends acc text (Close ∷ tokens) apart each = refl
word_ends acc text (Word word ∷ tokens) apart each = absurd (let wrong : false ≡ true = apart in cc)
word_ends acc text (Quoted quoted ∷ tokens) apart each = refl
word_ends acc text (Literal literal ∷ tokens) apart each = absurd (let wrong : false ≡ true = each in cc)

plain_by : (acc : List Token) (text : List ℕ) (quote slash plain : Bool) (next : Option (List Token × Part)) → quote ≡ false → slash ≡ false → plain ≡ true
    → cond {A = Option (List Token × Part)} quote (Some (acc ++ Quoted text ∷ [], Between)) (cond slash (Some (acc, Escape text)) (cond plain next None)) ≡ next
plain_by acc text quote slash plain next q s is = rw (q, s, is) refl

plain_byte : (b : ℕ) → (b == 34) ≡ false → (b == 92) ≡ false → quoted_byte b ≡ b ∷ []
plain_byte b q s = rw (q, s) refl

slashed : (acc : List Token) (done : List ℕ) (b : ℕ) (rest : List ℕ) → (b == 34 || b == 92) ≡ true
    → tokens_from acc (PartQuoted done) (quoted_byte b ++ rest) ≡ tokens_from acc (PartQuoted (done ++ b ∷ [])) rest
slashed acc done b rest e =
    ap (λ t. tokens_from acc (PartQuoted done) (cond t (92 ∷ b ∷ []) (b ∷ []) ++ rest)) e
    ∙ ap (λ t. option_and_then (λ (next : List Token × Part). tokens_from next.0 next.1 rest) (option_map (λ part. (acc, part)) (cond t (Some (PartQuoted (done ++ b ∷ []))) None))) e

byte_by : (acc : List Token) (done : List ℕ) (b : ℕ) (rest : List ℕ) (quote slash : Bool) → (b == 34) ≡ quote → (b == 92) ≡ slash → is_quoted_byte b ≡ true
    → tokens_from acc (PartQuoted done) (quoted_byte b ++ rest) ≡ tokens_from acc (PartQuoted (done ++ b ∷ [])) rest
byte_by acc done b rest true slash q s is = slashed acc done b rest (rw q refl)
byte_by acc done b rest false true q s is = slashed acc done b rest (rw (q, s) refl)
byte_by acc done b rest false false q s is =
    ap (λ bytes. tokens_from acc (PartQuoted done) (bytes ++ rest)) (plain_byte b q s)
    ∙ ap (option_and_then (λ next. tokens_from next.0 next.1 rest))
    (plain_by acc done (b == 34) (b == 92) (is_quoted_byte b) (Some (acc, PartQuoted (done ++ b ∷ []))) q s is)

quoted_run : (acc : List Token) (done text rest : List ℕ) → list_all is_quoted_byte text ≡ true
    → tokens_from acc (PartQuoted done) (flat_map quoted_byte text ++ 34 ∷ rest) ≡ tokens_from (acc ++ Quoted (done ++ text) ∷ []) Between rest
quoted_run acc done [] rest e = ap (λ d. tokens_from (acc ++ Quoted d ∷ []) Between rest) (sym (append-nil done))
quoted_run acc done (b ∷ text) rest e =
    let parts = and_true (is_quoted_byte b) (list_all is_quoted_byte text) e in
    ap (tokens_from acc (PartQuoted done)) (append_assoc (quoted_byte b) (flat_map quoted_byte text) (34 ∷ rest))
    ∙ byte_by acc done b (flat_map quoted_byte text ++ 34 ∷ rest) (b == 34) (b == 92) refl refl parts.0
    ∙ quoted_run acc (done ++ b ∷ []) text rest parts.1
    ∙ ap (λ d. tokens_from (acc ++ Quoted d ∷ []) Between rest) (append_assoc done (b ∷ []) text)

on_one : (acc : List Token) (token : Token) (tokens : List Token) → Some (acc ++ token ∷ [] ++ tokens) ≡ Some (acc ++ token ∷ tokens)
on_one acc token tokens = ap Some (append_assoc acc (token ∷ []) tokens)

-- what tokens are spelled as is read as these tokens
pub read_spelled : (acc tokens : List Token) → are_spellable tokens ≡ true → tokens_from acc Between (flat_map spelled tokens) ≡ Some (acc ++ tokens)
read_spelled acc [] each = ap Some (sym (append-nil acc))
read_spelled acc (Space ∷ tokens) each =
    let parts = and_true (is_apart Space tokens) (are_spellable tokens) each in
    read_spelled (acc ++ Space ∷ []) tokens parts.1 ∙ on_one acc Space tokens
read_spelled acc (Open ∷ tokens) each =
    let parts = and_true (is_apart Open tokens) (are_spellable tokens) each in
    read_spelled (acc ++ Open ∷ []) tokens parts.1 ∙ on_one acc Open tokens
read_spelled acc (Close ∷ tokens) each =
    let parts = and_true (is_apart Close tokens) (are_spellable tokens) each in
    read_spelled (acc ++ Close ∷ []) tokens parts.1 ∙ on_one acc Close tokens
read_spelled acc (Word [] ∷ tokens) each = absurd (let wrong : false ≡ true = each in cc)
read_spelled acc (Word (b ∷ text) ∷ tokens) each =
    let parts = and_true (is_whole_word (b ∷ text) && is_apart (Word (b ∷ text)) tokens) (are_spellable tokens) each in
    let here = and_true (is_whole_word (b ∷ text)) (is_apart (Word (b ∷ text)) tokens) parts.0 in
    let bytes = and_true (is_word_byte b) (list_all is_word_byte text) here.0 in
    ap (option_and_then (λ next. tokens_from next.0 next.1 (text ++ flat_map spelled tokens))) (word_starts acc b bytes.0)
    ∙ word_run acc (b ∷ []) text (flat_map spelled tokens) bytes.1
    ∙ word_ends acc (b ∷ text) tokens here.1 parts.1
    ∙ read_spelled (acc ++ Word (b ∷ text) ∷ []) tokens parts.1 ∙ on_one acc (Word (b ∷ text)) tokens
read_spelled acc (Quoted text ∷ tokens) each =
    let parts = and_true (list_all is_quoted_byte text && is_apart (Quoted text) tokens) (are_spellable tokens) each in
    let here = and_true (list_all is_quoted_byte text) (is_apart (Quoted text) tokens) parts.0 in
    ap (tokens_from acc (PartQuoted [])) (append_assoc (flat_map quoted_byte text) (34 ∷ []) (flat_map spelled tokens))
    ∙ quoted_run acc [] text (flat_map spelled tokens) here.0
    ∙ read_spelled (acc ++ Quoted text ∷ []) tokens parts.1 ∙ on_one acc (Quoted text) tokens
read_spelled acc (Literal text ∷ tokens) each = absurd (let wrong : false ≡ true = each in cc)
