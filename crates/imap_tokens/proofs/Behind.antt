-- Arguments behind spaces, and the tokens that they are read of.
use Rattle.std.proofs.Common.{◌≡◌, ℕ, List, [], ◌∷◌, Option, None, Some, option_map, option_and_then, refl, ap, sym, ◌∙◌, subst}
use Rattle.std.proofs.lemmas.Option.{same_Some}
use Rattle.imap_tokens.specs.Arguments.{behind_space, first_by, next_string, next_word}
use Rattle.imap_tokens.specs.Tokens.{word_of, string_of}
use Rattle.imap_tokens.specs.declared.tokens.Token.{Token}
use Rattle.imap_tokens.specs.declared.tokens.Token.TheVariants.{Space, Open, Close, Word, Quoted, Literal}
use Rattle.imap_tokens.proofs.Steps.{stepped, mapped}

-- what stands behind a space
pub space_sound : (tokens rest : List Token) → behind_space tokens ≡ Some rest → tokens ≡ Space ∷ rest
space_sound [] rest e = absurd (let wrong : None ≡ Some rest = e in cc)
space_sound (Space ∷ tokens) rest e = ap (λ l. Space ∷ l) (same_Some _ _ e)
space_sound (Open ∷ tokens) rest e = absurd (let wrong : None ≡ Some rest = e in cc)
space_sound (Close ∷ tokens) rest e = absurd (let wrong : None ≡ Some rest = e in cc)
space_sound (Word text ∷ tokens) rest e = absurd (let wrong : None ≡ Some rest = e in cc)
space_sound (Quoted text ∷ tokens) rest e = absurd (let wrong : None ≡ Some rest = e in cc)
space_sound (Literal text ∷ tokens) rest e = absurd (let wrong : None ≡ Some rest = e in cc)

-- a token behind a space, of which a part is read
pub record Next {X : Type 0} (read : Token → Option X) (tokens : List Token) (r : X × List Token) : Type 0 where
  pub token : Token
  pub whole : tokens ≡ Space ∷ token ∷ r.1
  pub is : read token ≡ Some r.0

first_sound : {X : Type 0} (read : Token → Option X) (tokens : List Token) (r : X × List Token) → first_by read tokens ≡ Some r → Next read (Space ∷ tokens) r
first_sound read [] r e = absurd (let wrong : None ≡ Some r = e in cc)
first_sound {X} read (token ∷ tokens) r e =
    let m = mapped (read token) (λ (x : X). (x, tokens)) r e in
    subst (Next read (Space ∷ token ∷ tokens)) m.is (record { token = token; whole = refl; is = m.was })

pub next_sound : {X : Type 0} (read : Token → Option X) (tokens : List Token) (r : X × List Token) → option_and_then (first_by read) (behind_space tokens) ≡ Some r → Next read tokens r
next_sound {X} read tokens r e =
    let s = stepped (behind_space tokens) (first_by read) r e in
    subst (λ t. Next read t r) (sym (space_sound tokens s.value s.was)) (first_sound read s.value r s.gives)

pub word_is : (token : Token) (text : List ℕ) → word_of token ≡ Some text → token ≡ Word text
word_is Space text e = absurd (let wrong : None ≡ Some text = e in cc)
word_is Open text e = absurd (let wrong : None ≡ Some text = e in cc)
word_is Close text e = absurd (let wrong : None ≡ Some text = e in cc)
word_is (Word own) text e = ap Word (same_Some _ _ e)
word_is (Quoted own) text e = absurd (let wrong : None ≡ Some text = e in cc)
word_is (Literal own) text e = absurd (let wrong : None ≡ Some text = e in cc)

pub word_sound : (tokens : List Token) (r : List ℕ × List Token) → next_word tokens ≡ Some r → tokens ≡ Space ∷ Word r.0 ∷ r.1
word_sound tokens r e = let n = next_sound word_of tokens r e in n.whole ∙ ap (λ t. Space ∷ t ∷ r.1) (word_is n.token r.0 n.is)

pub string_complete : (token : Token) (text : List ℕ) (rest : List Token) → string_of token ≡ Some text → next_string (Space ∷ token ∷ rest) ≡ Some (text, rest)
string_complete token text rest is = ap (option_map (λ (t : List ℕ). (t, rest))) is
