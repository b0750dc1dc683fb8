-- STATUS items, and what spells them.
use Rattle.std.proofs.Common.{◌≡◌, ℕ, Bool, true, false, cond, ◌==◌, List, [], ◌∷◌, ◌++◌, length, Option, None, Some, option_and_then, refl, ap, sym, ◌∙◌, subst, ◌⊎◌, inl, inr}
use Rattle.std.proofs.lemmas.List.{append_assoc, nil_from_length}
use Rattle.std.proofs.lemmas.Bool.{eqb-true}
use Rattle.std.proofs.lemmas.Option.{same_Some}
use Rattle.undo_base.specs.declared.asks.StatusAsk.{StatusAsk}
use Rattle.imap_lines.specs.Asks.{status_in, statuses_from}
use Rattle.imap_tokens.specs.Spelling.{Spaced}
use Rattle.imap_lines.specs.Lists.{SpellsItem, SpellsItems}
use Rattle.imap_tokens.specs.declared.tokens.Token.{Token}
use Rattle.imap_tokens.specs.declared.tokens.Token.TheVariants.{Space, Open, Close, Word, Quoted, Literal}

-- an item is read
one_read : (asks : List StatusAsk) (word : List ℕ) (ask : StatusAsk) (tokens : List Token) → status_in word ≡ Some ask
    → statuses_from true asks (Word word ∷ tokens) ≡ statuses_from false (asks ++ ask ∷ []) tokens
one_read asks word ask tokens e = ap (option_and_then (λ a. statuses_from false (asks ++ a ∷ []) tokens)) e

all_read : (asks more : List StatusAsk) (inside : List Token) → Spaced SpellsItem more inside → statuses_from true asks (inside ++ Close ∷ []) ≡ Some (asks ++ more)
all_read asks [] inside spaced = absurd spaced
all_read asks (ask ∷ []) inside one = ap (λ t. statuses_from true asks (t ++ Close ∷ [])) one.alone ∙ one_read asks one.word ask (Close ∷ []) one.is
all_read asks (ask ∷ next ∷ more) inside (first, rest, whole, one, spaced) =
    ap (λ t. statuses_from true asks (t ++ Close ∷ [])) (whole ∙ ap (λ t. t ++ Space ∷ rest) one.alone)
    ∙ one_read asks one.word ask (Space ∷ rest ++ Close ∷ []) one.is
    ∙ all_read (asks ++ ask ∷ []) (next ∷ more) rest spaced
    ∙ ap Some (append_assoc asks (ask ∷ []) (next ∷ more))

-- spelled items are read
pub read_items : (tokens : List Token) (asks : List StatusAsk) → SpellsItems asks tokens → statuses_from true [] tokens ≡ Some asks
read_items tokens asks (inside, whole, spaced) = ap (statuses_from true []) whole ∙ all_read [] asks inside spaced

-- what follows where an item is wanted
abbrev pub Wants : List StatusAsk → List Token → List StatusAsk → Type 0
Wants asks tokens all = (more : List StatusAsk) × SpellsItems more tokens × (all ≡ asks ++ more)

-- what follows where one is wanted, or where one has ended
abbrev pub Goes : Bool → List StatusAsk → List Token → List StatusAsk → Type 0
Goes true asks tokens all = Wants asks tokens all
Goes false asks tokens all = ((tokens ≡ Close ∷ []) × (asks ≡ all)) ⊎ ((rest : List Token) × (tokens ≡ Space ∷ rest) × Wants asks rest all)

joined : (asks : List StatusAsk) (word : List ℕ) (ask : StatusAsk) (tokens : List Token) (all : List StatusAsk) → status_in word ≡ Some ask
    → Goes false (asks ++ ask ∷ []) tokens all → Wants asks (Word word ∷ tokens) all
joined asks word ask tokens all is (inl (close, same)) =
    (ask ∷ [], (Word word ∷ [], ap (λ t. Word word ∷ t) close, record { word = word; alone = refl; is = is }), sym same)
joined asks word ask tokens all is (inr (rest, space, ([], spells, same))) = absurd spells.2
joined asks word ask tokens all is (inr (rest, space, (next ∷ more, (inside, whole, spaced), same))) = (
  ask ∷ next ∷ more,
  (
    Word word ∷ Space ∷ inside,
    ap (λ t. Word word ∷ t) (space ∙ ap (λ t. Space ∷ t) whole),
    (Word word ∷ [], inside, refl, record { word = word; alone = refl; is = is }, spaced),
  ),
  same ∙ append_assoc asks (ask ∷ []) (next ∷ more),
)

item_by : (asks : List StatusAsk) (word : List ℕ) (tokens : List Token) (all : List StatusAsk) (o : Option StatusAsk) → status_in word ≡ o
    → ((a : List StatusAsk) → statuses_from false a tokens ≡ Some all → Goes false a tokens all)
    → option_and_then (λ a. statuses_from false (asks ++ a ∷ []) tokens) o ≡ Some all → Wants asks (Word word ∷ tokens) all
item_by asks word tokens all None is more e = absurd (cc)
item_by asks word tokens all (Some ask) is more e = joined asks word ask tokens all is (more (asks ++ ask ∷ []) e)

closes_by : (asks : List StatusAsk) (tokens : List Token) (all : List StatusAsk) (t : Bool) → (length tokens == 0) ≡ t
    → cond {A = Option (List StatusAsk)} t (Some asks) None ≡ Some all → Goes false asks (Close ∷ tokens) all
closes_by asks tokens all true is e = inl (ap (λ t. Close ∷ t) (nil_from_length tokens (eqb-true (length tokens) 0 is)), same_Some asks all e)
closes_by asks tokens all false is e = absurd (cc)

closes : (asks : List StatusAsk) (tokens : List Token) (all : List StatusAsk) → statuses_from false asks (Close ∷ tokens) ≡ Some all → Goes false asks (Close ∷ tokens) all
closes asks tokens all e = closes_by asks tokens all (length tokens == 0) refl e

goes : (tokens : List Token) (wanted : Bool) (asks all : List StatusAsk) → statuses_from wanted asks tokens ≡ Some all → Goes wanted asks tokens all
goes [] wanted asks all e = absurd (cc)
goes (Word word ∷ tokens) true asks all e = item_by asks word tokens all (status_in word) refl (λ a f. goes tokens false a all f) e
goes (Space ∷ tokens) true asks all e = absurd (cc)
goes (Open ∷ tokens) true asks all e = absurd (cc)
goes (Close ∷ tokens) true asks all e = absurd (cc)
goes (Quoted text ∷ tokens) true asks all e = absurd (cc)
goes (Literal text ∷ tokens) true asks all e = absurd (cc)
goes (Space ∷ tokens) false asks all e = inr (tokens, refl, goes tokens true asks all e)
goes (Close ∷ tokens) false asks all e = closes asks tokens all e
goes (Open ∷ tokens) false asks all e = absurd (cc)
goes (Word text ∷ tokens) false asks all e = absurd (cc)
goes (Quoted text ∷ tokens) false asks all e = absurd (cc)
goes (Literal text ∷ tokens) false asks all e = absurd (cc)

-- read items are spelled
pub items : (tokens : List Token) (asks : List StatusAsk) → statuses_from true [] tokens ≡ Some asks → SpellsItems asks tokens
items tokens asks e = let g = goes tokens true [] asks e in subst (λ all. SpellsItems all tokens) (sym g.2) g.1
