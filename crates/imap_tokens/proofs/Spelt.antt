-- Read tokens are spelled.
use Rattle.std.proofs.Common.{◌≡◌, ℕ, Bool, true, false, cond, not, ◌==◌, ◌&&◌, ◌||◌, List, [], ◌∷◌, ◌++◌, Option, None, Some, option_map, option_and_then, refl, ap, sym, ◌∙◌, subst}
use Rattle.std.proofs.lemmas.List.{append_assoc, append-nil}
use Rattle.std.proofs.lemmas.Bool.{eqb-true}
use Rattle.std.specs.List.{list_all, flat_map}
use Rattle.imap_tokens.specs.Tokens.{is_word_byte, is_quoted_byte, started, with_byte, ended, tokens_from, tokens_in}
use Rattle.imap_tokens.specs.Spelling.{quoted_byte, spelled, is_whole_word, is_spellable, is_word_token, are_spellable, Spells}
use Rattle.imap_tokens.specs.declared.tokens.Token.{Token}
use Rattle.imap_tokens.specs.declared.tokens.Token.TheVariants.{Space, Open, Close, Word, Quoted}
use Rattle.imap_tokens.specs.declared.tokens.Part.{Part}
use Rattle.imap_tokens.specs.declared.tokens.Part.TheVariants.{Between, Word as PartWord, Quoted as PartQuoted, Escape}
use Rattle.imap_tokens.proofs.Spelling.{and_true}

-- the last token is a word
abbrev pub ends_word : List Token → Bool
ends_word [] = false
ends_word (token ∷ []) = is_word_token token
ends_word (token ∷ next ∷ tokens) = ends_word (next ∷ tokens)

ends_push : (tokens : List Token) (token : Token) → ends_word (tokens ++ token ∷ []) ≡ is_word_token token
ends_push [] token = refl
ends_push (first ∷ []) token = refl
ends_push (first ∷ next ∷ tokens) token = ends_push (next ∷ tokens) token

push_none : (s : Bool) → ((s && true) && true) ≡ ((true && s) && true)
push_none true = refl
push_none false = refl

push_one : (s t apart : Bool) → ((s && apart) && ((t && true) && true)) ≡ ((((s && true) && true) && t) && apart)
push_one true true true = refl
push_one true true false = refl
push_one true false true = refl
push_one true false false = refl
push_one false t apart = refl

push_more : (s apart all t ends : Bool) → ((s && apart) && ((all && t) && ends)) ≡ ((((s && apart) && all) && t) && ends)
push_more true true all t ends = refl
push_more true false all t ends = refl
push_more false apart all t ends = refl

-- a token more
push_is : (tokens : List Token) (token : Token)
    → are_spellable (tokens ++ token ∷ []) ≡ ((are_spellable tokens && is_spellable token) && not (ends_word tokens && is_word_token token))
push_is [] token = push_none (is_spellable token)
push_is (first ∷ []) token = push_one (is_spellable first) (is_spellable token) (not (is_word_token first && is_word_token token))
push_is (first ∷ next ∷ tokens) token =
    ap (λ b. (is_spellable first && not (is_word_token first && is_word_token next)) && b) (push_is (next ∷ tokens) token)
    ∙ push_more (is_spellable first) (not (is_word_token first && is_word_token next)) (are_spellable (next ∷ tokens)) (is_spellable token) (not (ends_word (next ∷ tokens) && is_word_token token))

all_three : (a b c : Bool) → a ≡ true → b ≡ true → c ≡ true → ((a && b) && c) ≡ true
all_three a b c x y z = rw (x, y, z) refl

no_and_right : (a b : Bool) → b ≡ false → not (a && b) ≡ true
no_and_right true b e = rw e refl
no_and_right false b e = refl

no_and_left : (a b : Bool) → a ≡ false → not (a && b) ≡ true
no_and_left a b e = rw e refl

-- a token that is no word goes behind any
push_other : (tokens : List Token) (token : Token) → are_spellable tokens ≡ true → is_spellable token ≡ true → is_word_token token ≡ false → are_spellable (tokens ++ token ∷ []) ≡ true
push_other tokens token all is no_word =
    push_is tokens token ∙ all_three (are_spellable tokens) (is_spellable token) (not (ends_word tokens && is_word_token token)) all is (no_and_right (ends_word tokens) (is_word_token token) no_word)

-- a word goes behind no word
push_word : (tokens : List Token) (token : Token) → are_spellable tokens ≡ true → is_spellable token ≡ true → ends_word tokens ≡ false → are_spellable (tokens ++ token ∷ []) ≡ true
push_word tokens token all is apart =
    push_is tokens token ∙ all_three (are_spellable tokens) (is_spellable token) (not (ends_word tokens && is_word_token token)) all is (no_and_left (ends_word tokens) (is_word_token token) apart)

-- tokens without the last
pushed : (tokens : List Token) (token : Token) → are_spellable (tokens ++ token ∷ []) ≡ true
    → (are_spellable tokens ≡ true) × (is_spellable token ≡ true) × (not (ends_word tokens && is_word_token token) ≡ true)
pushed tokens token e =
    let outer = and_true (are_spellable tokens && is_spellable token) (not (ends_word tokens && is_word_token token)) (sym (push_is tokens token) ∙ e) in
    let inner = and_true (are_spellable tokens) (is_spellable token) outer.0 in
    (inner.0, inner.1, outer.1)

-- what the tokens and the part spell
abbrev pub wrote : List Token → Part → List ℕ
wrote tokens Between = flat_map spelled tokens
wrote tokens (PartWord text) = flat_map spelled tokens ++ text
wrote tokens (PartQuoted text) = flat_map spelled tokens ++ 34 ∷ flat_map quoted_byte text
wrote tokens (Escape text) = flat_map spelled tokens ++ 34 ∷ (flat_map quoted_byte text ++ 92 ∷ [])

-- the tokens, and the part, can stand in a line
abbrev pub CanStandInLine : List Token → Part → Type 0
CanStandInLine tokens Between = (are_spellable tokens ≡ true) × (ends_word tokens ≡ false)
CanStandInLine tokens (PartWord text) = (are_spellable tokens ≡ true) × (ends_word tokens ≡ false) × (is_whole_word text ≡ true)
CanStandInLine tokens (PartQuoted text) = (are_spellable tokens ≡ true) × (list_all is_quoted_byte text ≡ true)
CanStandInLine tokens (Escape text) = (are_spellable tokens ≡ true) × (list_all is_quoted_byte text ≡ true)

-- what a byte makes of them spells so much
abbrev pub Steps : List ℕ → Option (List Token × Part) → Type 0
Steps bytes None = Unit {0}
Steps bytes (Some next) = CanStandInLine next.0 next.1 × (wrote next.0 next.1 ≡ bytes)

flat_push : (tokens : List Token) (token : Token) → flat_map spelled (tokens ++ token ∷ []) ≡ flat_map spelled tokens ++ spelled token
flat_push [] token = append-nil (spelled token)
flat_push (first ∷ tokens) token = ap (λ s. spelled first ++ s) (flat_push tokens token) ∙ sym (append_assoc (spelled first) (flat_map spelled tokens) (spelled token))

quoted_push : (text : List ℕ) (b : ℕ) → flat_map quoted_byte (text ++ b ∷ []) ≡ flat_map quoted_byte text ++ quoted_byte b
quoted_push [] b = append-nil (quoted_byte b)
quoted_push (first ∷ text) b = ap (λ s. quoted_byte first ++ s) (quoted_push text b) ∙ sym (append_assoc (quoted_byte first) (flat_map quoted_byte text) (quoted_byte b))

-- a token of one byte
mark_more : (tokens : List Token) (token : Token) (b c : ℕ) → are_spellable tokens ≡ true → is_spellable token ≡ true → is_word_token token ≡ false → spelled token ≡ c ∷ [] → b ≡ c
    → Steps (flat_map spelled tokens ++ b ∷ []) (Some (tokens ++ token ∷ [], Between))
mark_more tokens token b c all is no_word spelling at =
    ((push_other tokens token all is no_word, ends_push tokens token ∙ no_word), flat_push tokens token ∙ ap (λ s. flat_map spelled tokens ++ s) (spelling ∙ ap (λ d. d ∷ []) (sym at)))

one_word : (b : ℕ) → is_word_byte b ≡ true → is_whole_word (b ∷ []) ≡ true
one_word b e = rw e refl

starts_by : (tokens : List Token) (b : ℕ) (space open' close quote word : Bool)
    → (b == 32) ≡ space → (b == 40) ≡ open' → (b == 41) ≡ close → (b == 34) ≡ quote → is_word_byte b ≡ word
    → are_spellable tokens ≡ true → (is_word_byte b ≡ true → ends_word tokens ≡ false)
    → Steps (flat_map spelled tokens ++ b ∷ []) (cond space (Some (tokens ++ Space ∷ [], Between)) (cond open' (Some (tokens ++ Open ∷ [], Between)) (cond close (Some (tokens ++ Close ∷ [], Between))
    (cond quote (Some (tokens, PartQuoted [])) (cond word (Some (tokens, PartWord (b ∷ []))) None)))))
starts_by tokens b true open' close quote word e1 e2 e3 e4 e5 all apart = mark_more tokens Space b 32 all refl refl refl (eqb-true b 32 e1)
starts_by tokens b false true close quote word e1 e2 e3 e4 e5 all apart = mark_more tokens Open b 40 all refl refl refl (eqb-true b 40 e2)
starts_by tokens b false false true quote word e1 e2 e3 e4 e5 all apart = mark_more tokens Close b 41 all refl refl refl (eqb-true b 41 e3)
starts_by tokens b false false false true word e1 e2 e3 e4 e5 all apart = ((all, refl), ap (λ d. flat_map spelled tokens ++ d ∷ []) (sym (eqb-true b 34 e4)))
starts_by tokens b false false false false true e1 e2 e3 e4 e5 all apart = ((all, apart e5, one_word b e5), refl)
starts_by tokens b false false false false false e1 e2 e3 e4 e5 all apart = tt

-- a byte after whole tokens
starts : (tokens : List Token) (b : ℕ) → are_spellable tokens ≡ true → (is_word_byte b ≡ true → ends_word tokens ≡ false) → Steps (flat_map spelled tokens ++ b ∷ []) (started tokens b)
starts tokens b all apart = starts_by tokens b (b == 32) (b == 40) (b == 41) (b == 34) (is_word_byte b) refl refl refl refl refl all apart

all_push : (p : ℕ → Bool) (text : List ℕ) (b : ℕ) → list_all p text ≡ true → p b ≡ true → list_all p (text ++ b ∷ []) ≡ true
all_push p [] b all is = rw is refl
all_push p (first ∷ text) b all is =
    let parts = and_true (p first) (list_all p text) all in
    ap (λ t. t && list_all p (text ++ b ∷ [])) parts.0 ∙ all_push p text b parts.1 is

longer_word : (text : List ℕ) (b : ℕ) → is_whole_word text ≡ true → is_word_byte b ≡ true → is_whole_word (text ++ b ∷ []) ≡ true
longer_word [] b whole is = absurd (let wrong : false ≡ true = whole in cc)
longer_word (first ∷ text) b whole is = all_push is_word_byte (first ∷ text) b whole is

-- a byte after bytes of a word
goes_on : (tokens : List Token) (text : List ℕ) (b : ℕ) (word : Bool) → is_word_byte b ≡ word → CanStandInLine tokens (PartWord text)
    → Steps (flat_map spelled tokens ++ text ++ b ∷ []) (cond word (Some (tokens, PartWord (text ++ b ∷ []))) (started (tokens ++ Word text ∷ []) b))
goes_on tokens text b true e sound = ((sound.0, sound.1, longer_word text b sound.2 e), sym (append_assoc (flat_map spelled tokens) text (b ∷ [])))
goes_on tokens text b false e sound =
    subst (λ s. Steps (s ++ b ∷ []) (started (tokens ++ Word text ∷ []) b)) (flat_push tokens (Word text))
    (starts (tokens ++ Word text ∷ []) b (push_word tokens (Word text) sound.0 sound.2 sound.1) (λ w. absurd (let wrong : false ≡ true = sym e ∙ w in cc)))

plain_byte : (b : ℕ) → (b == 34) ≡ false → (b == 92) ≡ false → quoted_byte b ≡ b ∷ []
plain_byte b quote slash = rw (quote, slash) refl

-- what a quoted string spells so far, and a byte
one_more : (tokens : List Token) (text : List ℕ) (bytes more : List ℕ) → bytes ≡ more
    → flat_map spelled tokens ++ 34 ∷ (flat_map quoted_byte text ++ bytes) ≡ flat_map spelled tokens ++ 34 ∷ flat_map quoted_byte text ++ more
one_more tokens text bytes more e =
    ap (λ s. flat_map spelled tokens ++ 34 ∷ (flat_map quoted_byte text ++ s)) e ∙ sym (append_assoc (flat_map spelled tokens) (34 ∷ flat_map quoted_byte text) more)

-- a byte of a quoted string
quoted_by : (tokens : List Token) (text : List ℕ) (b : ℕ) (quote slash plain : Bool) → (b == 34) ≡ quote → (b == 92) ≡ slash → is_quoted_byte b ≡ plain
    → CanStandInLine tokens (PartQuoted text)
    → Steps (flat_map spelled tokens ++ 34 ∷ flat_map quoted_byte text ++ b ∷ [])
    (cond quote (Some (tokens ++ Quoted text ∷ [], Between)) (cond slash (Some (tokens, Escape text)) (cond plain (Some (tokens, PartQuoted (text ++ b ∷ []))) None)))
quoted_by tokens text b true slash plain e1 e2 e3 sound = (
  (push_other tokens (Quoted text) sound.0 sound.1 refl, ends_push tokens (Quoted text)),
  flat_push tokens (Quoted text) ∙ one_more tokens text (34 ∷ []) (b ∷ []) (ap (λ d. d ∷ []) (sym (eqb-true b 34 e1))),
)
quoted_by tokens text b false true plain e1 e2 e3 sound = (sound, one_more tokens text (92 ∷ []) (b ∷ []) (ap (λ d. d ∷ []) (sym (eqb-true b 92 e2))))
quoted_by tokens text b false false true e1 e2 e3 sound = (
  (sound.0, all_push is_quoted_byte text b sound.1 e3),
  ap (λ s. flat_map spelled tokens ++ 34 ∷ s) (quoted_push text b) ∙ one_more tokens text (quoted_byte b) (b ∷ []) (plain_byte b e1 e2),
)
quoted_by tokens text b false false false e1 e2 e3 sound = tt

quote_is_quoted : (b : ℕ) → b ≡ 34 → is_quoted_byte b ≡ true
quote_is_quoted b e = ap is_quoted_byte e

slash_is_quoted : (b : ℕ) → b ≡ 92 → is_quoted_byte b ≡ true
slash_is_quoted b e = ap is_quoted_byte e

after_slash : (tokens : List Token) (text : List ℕ) (b : ℕ) → quoted_byte b ≡ 92 ∷ b ∷ []
    → flat_map spelled tokens ++ 34 ∷ flat_map quoted_byte (text ++ b ∷ []) ≡ flat_map spelled tokens ++ 34 ∷ (flat_map quoted_byte text ++ 92 ∷ []) ++ b ∷ []
after_slash tokens text b e =
    ap (λ s. flat_map spelled tokens ++ 34 ∷ s) (quoted_push text b)
    ∙ ap (λ s. flat_map spelled tokens ++ 34 ∷ (flat_map quoted_byte text ++ s)) e
    ∙ ap (λ s. flat_map spelled tokens ++ 34 ∷ s) (sym (append_assoc (flat_map quoted_byte text) (92 ∷ []) (b ∷ [])))
    ∙ sym (append_assoc (flat_map spelled tokens) (34 ∷ (flat_map quoted_byte text ++ 92 ∷ [])) (b ∷ []))

-- a byte behind a \ in a quoted string
escapes_by : (tokens : List Token) (text : List ℕ) (b : ℕ) (quote slash : Bool) → (b == 34) ≡ quote → (b == 92) ≡ slash
    → CanStandInLine tokens (Escape text)
    → Steps (flat_map spelled tokens ++ 34 ∷ (flat_map quoted_byte text ++ 92 ∷ []) ++ b ∷ [])
    (option_map (λ part. (tokens, part)) (cond (quote || slash) (Some (PartQuoted (text ++ b ∷ []))) None))
escapes_by tokens text b true slash e1 e2 sound =
    ((sound.0, all_push is_quoted_byte text b sound.1 (quote_is_quoted b (eqb-true b 34 e1))), after_slash tokens text b (rw e1 refl))
escapes_by tokens text b false true e1 e2 sound =
    ((sound.0, all_push is_quoted_byte text b sound.1 (slash_is_quoted b (eqb-true b 92 e2))), after_slash tokens text b (rw (e1, e2) refl))
escapes_by tokens text b false false e1 e2 sound = tt

steps : (tokens : List Token) (part : Part) (b : ℕ) → CanStandInLine tokens part → Steps (wrote tokens part ++ b ∷ []) (with_byte tokens part b)
steps tokens Between b sound = starts tokens b sound.0 (λ _. sound.1)
steps tokens (PartWord text) b sound = goes_on tokens text b (is_word_byte b) refl sound
steps tokens (PartQuoted text) b sound = quoted_by tokens text b (b == 34) (b == 92) (is_quoted_byte b) refl refl refl sound
steps tokens (Escape text) b sound = escapes_by tokens text b (b == 34) (b == 92) refl refl sound

abbrev pub Spelt : List ℕ → List Token → Type 0
Spelt bytes tokens = (are_spellable tokens ≡ true) × (flat_map spelled tokens ≡ bytes)

abbrev tokens_or_none : Option (List Token) → List Token
tokens_or_none None = []
tokens_or_none (Some tokens) = tokens

ends : (tokens : List Token) (part : Part) (all : List Token) → CanStandInLine tokens part → ended tokens part ≡ Some all → Spelt (wrote tokens part) all
ends tokens Between all sound e = subst (Spelt (flat_map spelled tokens)) (ap tokens_or_none e) (sound.0, refl)
ends tokens (PartWord text) all sound e =
    subst (Spelt (flat_map spelled tokens ++ text)) (ap tokens_or_none e)
    (push_word tokens (Word text) sound.0 sound.2 sound.1, flat_push tokens (Word text))
ends tokens (PartQuoted text) all sound e = absurd (cc)
ends tokens (Escape text) all sound e = absurd (cc)

run_by : (bytes line : List ℕ) (o : Option (List Token × Part)) (all : List Token) → Steps bytes o → option_and_then (λ next. tokens_from next.0 next.1 line) o ≡ Some all
    → ((tokens : List Token) (part : Part) → CanStandInLine tokens part → tokens_from tokens part line ≡ Some all → Spelt (wrote tokens part ++ line) all)
    → Spelt (bytes ++ line) all
run_by bytes line None all s e more = absurd (cc)
run_by bytes line (Some next) all s e more = let r = more next.0 next.1 s.0 e in (r.0, r.1 ∙ ap (λ w. w ++ line) s.1)

-- what is read of a line is spelled by it
run : (line : List ℕ) (tokens : List Token) (part : Part) (all : List Token) → CanStandInLine tokens part → tokens_from tokens part line ≡ Some all → Spelt (wrote tokens part ++ line) all
run [] tokens part all sound e = let r = ends tokens part all sound e in (r.0, r.1 ∙ sym (append-nil (wrote tokens part)))
run (b ∷ line) tokens part all sound e =
    let r = run_by (wrote tokens part ++ b ∷ []) line (with_byte tokens part b) all (steps tokens part b sound) e (λ t p s f. run line t p all s f) in
    (r.0, r.1 ∙ append_assoc (wrote tokens part) (b ∷ []) line)

-- the tokens that a line is read as are spelled by it
pub spelt : (line : List ℕ) (tokens : List Token) → tokens_in [] line ≡ Some tokens → Spells line tokens
spelt line tokens e = let r = run line [] Between tokens (refl, refl) e in record { whole = sym r.1; each = r.0 }
