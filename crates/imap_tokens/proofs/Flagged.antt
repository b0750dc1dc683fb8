-- Flags, and what spells them.
use Rattle.std.proofs.Common.{◌≡◌, ℕ, Bool, true, false, cond, not, List, [], ◌∷◌, ◌++◌, Option, None, Some, option_and_then, refl, ap, sym, ◌∙◌, subst, ◌⊎◌, inl, inr}
use Rattle.std.proofs.lemmas.Option.{same_Some}
use Rattle.undo_base.specs.declared.keys.Flags.{Flags}
use Rattle.imap_tokens.specs.Spelling.{Spaced}
use Rattle.imap_tokens.specs.Flags.{no_flags, unslashed, with_flag, flag_added, flags_from, flags_in, bare_from}
use Rattle.imap_tokens.specs.Lists.{SpellsFlag, flags_of, SpellsFlags, SpellsList}
use Rattle.imap_tokens.specs.Words.{is_atom}
use Rattle.imap_tokens.specs.declared.tokens.Token.{Token}
use Rattle.imap_tokens.specs.declared.tokens.Token.TheVariants.{Space, Open, Close, Word, Quoted, Literal}

-- a flag counts
counts : (flags : Flags) (word : List ℕ) → is_atom (unslashed word) ≡ true → flag_added flags word ≡ Some (with_flag flags word)
counts flags word is = ap (λ t. cond (not t) None (Some (with_flag flags word))) is

-- a flag is read, in a list or without one
one_listed : (flags : Flags) (word : List ℕ) (tokens : List Token) → is_atom (unslashed word) ≡ true
    → flags_from true flags (Word word ∷ tokens) ≡ flags_from false (with_flag flags word) tokens
one_listed flags word tokens is = ap (option_and_then (λ more. flags_from false more tokens)) (counts flags word is)

one_bare : (flags : Flags) (word : List ℕ) (tokens : List Token) → is_atom (unslashed word) ≡ true
    → bare_from true flags (Word word ∷ tokens) ≡ bare_from false (with_flag flags word) tokens
one_bare flags word tokens is = ap (option_and_then (λ more. bare_from false more tokens)) (counts flags word is)

all_listed : (flags : Flags) (words : List (List ℕ)) (inside rest : List Token) → Spaced SpellsFlag words inside
    → flags_from true flags (inside ++ Close ∷ rest) ≡ Some (flags_of flags words, rest)
all_listed flags [] inside rest spaced = absurd spaced
all_listed flags (word ∷ []) inside rest one = ap (λ t. flags_from true flags (t ++ Close ∷ rest)) one.alone ∙ one_listed flags word (Close ∷ rest) one.is
all_listed flags (word ∷ next ∷ words) inside rest (first, others, whole, one, spaced) =
    ap (λ t. flags_from true flags (t ++ Close ∷ rest)) (whole ∙ ap (λ t. t ++ Space ∷ others) one.alone)
    ∙ one_listed flags word (Space ∷ others ++ Close ∷ rest) one.is
    ∙ all_listed (with_flag flags word) (next ∷ words) others rest spaced

all_bare : (flags : Flags) (words : List (List ℕ)) (tokens : List Token) → Spaced SpellsFlag words tokens → bare_from true flags tokens ≡ Some (flags_of flags words)
all_bare flags [] tokens spaced = absurd spaced
all_bare flags (word ∷ []) tokens one = ap (bare_from true flags) one.alone ∙ one_bare flags word [] one.is
all_bare flags (word ∷ next ∷ words) tokens (first, others, whole, one, spaced) =
    ap (bare_from true flags) (whole ∙ ap (λ t. t ++ Space ∷ others) one.alone)
    ∙ one_bare flags word (Space ∷ others) one.is
    ∙ all_bare (with_flag flags word) (next ∷ words) others spaced

-- spelled flags are read
pub read_bare : (tokens : List Token) (flags : Flags) → SpellsFlags flags tokens → bare_from true no_flags tokens ≡ Some flags
read_bare tokens flags (words, spaced, same) = all_bare no_flags words tokens spaced ∙ ap Some (sym same)

-- a list that does not close at once is read flag by flag
in_list : (words : List (List ℕ)) (inside rest : List Token) → Spaced SpellsFlag words inside → flags_in (inside ++ Close ∷ rest) ≡ flags_from true no_flags (inside ++ Close ∷ rest)
in_list [] inside rest spaced = absurd spaced
in_list (word ∷ []) inside rest one =
    ap (λ t. flags_in (t ++ Close ∷ rest)) one.alone ∙ ap (λ t. flags_from true no_flags (t ++ Close ∷ rest)) (sym one.alone)
in_list (word ∷ next ∷ words) inside rest (first, others, whole, one, spaced) =
    let is = whole ∙ ap (λ t. t ++ Space ∷ others) one.alone in
    ap (λ t. flags_in (t ++ Close ∷ rest)) is ∙ ap (λ t. flags_from true no_flags (t ++ Close ∷ rest)) (sym is)

pub read_listed : (tokens rest : List Token) (flags : Flags) → SpellsList flags rest tokens → flags_in tokens ≡ Some (flags, rest)
read_listed tokens rest flags (inside, whole, inl (none, same)) =
    ap flags_in (whole ∙ ap (λ t. t ++ Close ∷ rest) none) ∙ ap (λ f. Some (f, rest)) (sym same)
read_listed tokens rest flags (inside, whole, inr (words, spaced, same)) =
    ap flags_in whole ∙ in_list words inside rest spaced ∙ all_listed no_flags words inside rest spaced ∙ ap (λ f. Some (f, rest)) (sym same)

-- flags follow where one is wanted
abbrev pub Wants : Flags → List Token → Flags → Type 0
Wants flags tokens all = (words : List (List ℕ)) × Spaced SpellsFlag words tokens × (all ≡ flags_of flags words)

-- a flag, and what follows it
joined : (flags : Flags) (word : List ℕ) (rest : List Token) (all : Flags) → is_atom (unslashed word) ≡ true → Wants (with_flag flags word) rest all
    → Wants flags (Word word ∷ Space ∷ rest) all
joined flags word rest all is ([], spaced, same) = absurd spaced
joined flags word rest all is (next ∷ words, spaced, same) =
    (word ∷ next ∷ words, (Word word ∷ [], rest, refl, record { alone = refl; is = is }, spaced), same)

-- without a list
abbrev pub Bare : Bool → Flags → List Token → Flags → Type 0
Bare true flags tokens all = Wants flags tokens all
Bare false flags tokens all = ((tokens ≡ []) × (flags ≡ all)) ⊎ ((rest : List Token) × (tokens ≡ Space ∷ rest) × Wants flags rest all)

bare_goes : (flags : Flags) (word : List ℕ) (tokens : List Token) (all : Flags) → is_atom (unslashed word) ≡ true → Bare false (with_flag flags word) tokens all → Wants flags (Word word ∷ tokens) all
bare_goes flags word tokens all is (inl (none, same)) =
    (word ∷ [], record { alone = ap (λ t. Word word ∷ t) none; is = is }, sym same)
bare_goes flags word tokens all is (inr (rest, space, wants)) =
    subst (λ t. Wants flags (Word word ∷ t) all) (sym space) (joined flags word rest all is wants)

bare_by : (flags : Flags) (word : List ℕ) (tokens : List Token) (all : Flags) (t : Bool) → is_atom (unslashed word) ≡ t
    → ((f : Flags) → bare_from false f tokens ≡ Some all → Bare false f tokens all)
    → option_and_then (λ more. bare_from false more tokens) (cond (not t) None (Some (with_flag flags word))) ≡ Some all → Wants flags (Word word ∷ tokens) all
bare_by flags word tokens all false is more e = absurd (cc)
bare_by flags word tokens all true is more e = bare_goes flags word tokens all is (more (with_flag flags word) e)

bare_run : (tokens : List Token) (wanted : Bool) (flags all : Flags) → bare_from wanted flags tokens ≡ Some all → Bare wanted flags tokens all
bare_run [] true flags all e = absurd (cc)
bare_run [] false flags all e = inl (refl, same_Some flags all e)
bare_run (Word word ∷ tokens) true flags all e = bare_by flags word tokens all (is_atom (unslashed word)) refl (λ f g. bare_run tokens false f all g) e
bare_run (Space ∷ tokens) true flags all e = absurd (cc)
bare_run (Open ∷ tokens) true flags all e = absurd (cc)
bare_run (Close ∷ tokens) true flags all e = absurd (cc)
bare_run (Quoted text ∷ tokens) true flags all e = absurd (cc)
bare_run (Literal text ∷ tokens) true flags all e = absurd (cc)
bare_run (Space ∷ tokens) false flags all e = inr (tokens, refl, bare_run tokens true flags all e)
bare_run (Open ∷ tokens) false flags all e = absurd (cc)
bare_run (Close ∷ tokens) false flags all e = absurd (cc)
bare_run (Word text ∷ tokens) false flags all e = absurd (cc)
bare_run (Quoted text ∷ tokens) false flags all e = absurd (cc)
bare_run (Literal text ∷ tokens) false flags all e = absurd (cc)

-- read flags are spelled
pub bare : (tokens : List Token) (flags : Flags) → bare_from true no_flags tokens ≡ Some flags → SpellsFlags flags tokens
bare tokens flags e = bare_run tokens true no_flags flags e

-- in a list, up to the parenthesis that closes it
abbrev pub Lists : Flags → List Token → Flags → List Token → Type 0
Lists flags tokens all rest = (inside : List Token) × (tokens ≡ inside ++ Close ∷ rest) × Wants flags inside all

abbrev pub Listed : Bool → Flags → List Token → Flags → List Token → Type 0
Listed true flags tokens all rest = Lists flags tokens all rest
Listed false flags tokens all rest = ((tokens ≡ Close ∷ rest) × (flags ≡ all)) ⊎ ((more : List Token) × (tokens ≡ Space ∷ more) × Lists flags more all rest)

listed_goes : (flags : Flags) (word : List ℕ) (tokens : List Token) (all : Flags) (rest : List Token) → is_atom (unslashed word) ≡ true
    → Listed false (with_flag flags word) tokens all rest → Lists flags (Word word ∷ tokens) all rest
listed_goes flags word tokens all rest is (inl (close, same)) =
    (Word word ∷ [], ap (λ t. Word word ∷ t) close, (word ∷ [], record { alone = refl; is = is }, sym same))
listed_goes flags word tokens all rest is (inr (more, space, (inside, whole, wants))) =
    (Word word ∷ Space ∷ inside, ap (λ t. Word word ∷ t) (space ∙ ap (λ t. Space ∷ t) whole), joined flags word inside all is wants)

listed_by : (flags : Flags) (word : List ℕ) (tokens : List Token) (all : Flags) (rest : List Token) (t : Bool) → is_atom (unslashed word) ≡ t
    → ((f : Flags) → flags_from false f tokens ≡ Some (all, rest) → Listed false f tokens all rest)
    → option_and_then (λ more. flags_from false more tokens) (cond (not t) None (Some (with_flag flags word))) ≡ Some (all, rest) → Lists flags (Word word ∷ tokens) all rest
listed_by flags word tokens all rest false is more e = absurd (cc)
listed_by flags word tokens all rest true is more e = listed_goes flags word tokens all rest is (more (with_flag flags word) e)

closes : (flags : Flags) (tokens : List Token) (all : Flags) (rest : List Token) → ◌≡◌ {A = Option (Flags × List Token)} (Some (flags, tokens)) (Some (all, rest)) → (Close ∷ tokens ≡ Close ∷ rest) × (flags ≡ all)
closes flags tokens all rest e =
    let same = same_Some (flags, tokens) (all, rest) e in
    (ap (λ (p : Flags × List Token). Close ∷ p.1) same, ap (λ (p : Flags × List Token). p.0) same)

listed_run : (tokens : List Token) (wanted : Bool) (flags all : Flags) (rest : List Token) → flags_from wanted flags tokens ≡ Some (all, rest) → Listed wanted flags tokens all rest
listed_run [] wanted flags all rest e = absurd (cc)
listed_run (Word word ∷ tokens) true flags all rest e = listed_by flags word tokens all rest (is_atom (unslashed word)) refl (λ f g. listed_run tokens false f all rest g) e
listed_run (Space ∷ tokens) true flags all rest e = absurd (cc)
listed_run (Open ∷ tokens) true flags all rest e = absurd (cc)
listed_run (Close ∷ tokens) true flags all rest e = absurd (cc)
listed_run (Quoted text ∷ tokens) true flags all rest e = absurd (cc)
listed_run (Literal text ∷ tokens) true flags all rest e = absurd (cc)
listed_run (Close ∷ tokens) false flags all rest e = inl (closes flags tokens all rest e)
listed_run (Space ∷ tokens) false flags all rest e = inr (tokens, refl, listed_run tokens true flags all rest e)
listed_run (Open ∷ tokens) false flags all rest e = absurd (cc)
listed_run (Word text ∷ tokens) false flags all rest e = absurd (cc)
listed_run (Quoted text ∷ tokens) false flags all rest e = absurd (cc)
listed_run (Literal text ∷ tokens) false flags all rest e = absurd (cc)

in_words : (tokens rest : List Token) (flags : Flags) → flags_from true no_flags tokens ≡ Some (flags, rest) → SpellsList flags rest tokens
in_words tokens rest flags e = let l : Lists no_flags tokens flags rest = listed_run tokens true no_flags flags rest e in (l.0, l.1, inr l.2)

pub listed : (tokens rest : List Token) (flags : Flags) → flags_in tokens ≡ Some (flags, rest) → SpellsList flags rest tokens
listed [] rest flags e = absurd (cc)
listed (Close ∷ tokens) rest flags e = let c = closes no_flags tokens flags rest e in ([], c.0, inl (refl, sym c.1))
listed (Space ∷ tokens) rest flags e = in_words (Space ∷ tokens) rest flags e
listed (Open ∷ tokens) rest flags e = in_words (Open ∷ tokens) rest flags e
listed (Word text ∷ tokens) rest flags e = in_words (Word text ∷ tokens) rest flags e
listed (Quoted text ∷ tokens) rest flags e = in_words (Quoted text ∷ tokens) rest flags e
listed (Literal text ∷ tokens) rest flags e = in_words (Literal text ∷ tokens) rest flags e
