-- What is a command, `clap` takes.
use Rattle.std.proofs.Common.{◌≡◌, ℕ, List, [], ◌∷◌, Bool, true, false, cond, ◌==◌, refl, codes, bytes_eq, Option, Some, None, is_some, option_map, Result, Ok, Err, sym, ap, subst, ◌∙◌}
use Rattle.std.specs.List.{list_all}
use Rattle.std.proofs.lemmas.Bool.{false≢true, true≢false, not-true, and_parts}
use Rattle.std.proofs.lemmas.Slice.Eq.{bytes_eq-Decides}
use Rattle.clap.specs.Words.{Text, takes}
use Rattle.command_words.specs.declared.commands.Command.{Command}
use Rattle.command_words.specs.declared.commands.Command.TheVariants.{Init, Script, Play, Grow, Check, Cut, Audit}
use Rattle.command_words.specs.declared.commands.WordsRefused.{WordsRefused}
use Rattle.command_words.specs.declared.commands.WordsRefused.TheVariants.{NoMemory}
use Rattle.command_words.specs.Numbers.{point_of, port_of, rounds_of}
use Rattle.command_words.specs.Program.{program}
use Rattle.command_words.specs.Usage.{is_word, alone, with_one, with_two, at_ports, with_ports, some_port, by_number, command_of}
use Rattle.command_words.proofs.Takes.{IsWord, takes-play, takes-init, takes-script, takes-check, takes-grow, takes-cut, takes-audit, takes-serve, takes-serve_pop}

abbrev Takes : List Text → Type 0
Takes words = takes program words ≡ true

-- ---- tests

-- a text that is found to be another
pub named : (name text : List ℕ) → bytes_eq name text ≡ true → text ≡ name
named name text e = sym ((bytes_eq-Decides name text).0 e)

-- a word that may stand
word : (a : List ℕ) → is_word a ≡ true → IsWord a
word [] h = absurd (false≢true h)
word (b ∷ t) h = not-true (b == 45) h

-- no command is some command
pub no_command : (P : Type 0) (c : Command) → None ≡ Some c → P
no_command P c e = absurd (false≢true (ap is_some e))

-- what follows where a test holds, and where it does not and the other is some command
one_of : (P : Type 0) (t : Bool) (x y : Option Command) (c : Command) → (t ≡ true → P) → (y ≡ Some c → P) → cond t x y ≡ Some c → P
one_of P true x y c f g e = f refl
one_of P false x y c f g e = g e

-- ---- words by their number

takes_alone : (name : List ℕ) (c : Command) → alone name ≡ Some c → Takes (name ∷ [])
takes_alone name c e =
    one_of (Takes (name ∷ [])) (bytes_eq name (codes "play")) (Some Play) None c
    (λ t. subst (λ n. Takes (n ∷ [])) (named name (codes "play") t) takes-play)
    (no_command _ c) e

takes_one : (name a : List ℕ) (c : Command) → IsWord a → with_one name a ≡ Some c → Takes (name ∷ a ∷ [])
takes_one name a c h e =
    let P : Type 0 = Takes (name ∷ a ∷ []) in
    let is : (text : List ℕ) → Takes (text ∷ a ∷ []) → bytes_eq name text ≡ true → P = λ text takes t. subst (λ n. Takes (n ∷ a ∷ [])) (named name text t) takes in
    let grown : Option Command = option_map (λ rounds. Grow rounds) (rounds_of a) in
    let fifth : Option Command = cond (bytes_eq name (codes "grow")) grown None in
    let fourth : Option Command = cond (bytes_eq name (codes "audit")) (Some Audit) fifth in
    let third : Option Command = cond (bytes_eq name (codes "check")) (Some Check) fourth in
    let other : Option Command = cond (bytes_eq name (codes "script")) (Some Script) third in
    one_of P (bytes_eq name (codes "init")) (Some Init) other c (is (codes "init") (takes-init a h))
    (one_of P (bytes_eq name (codes "script")) (Some Script) third c (is (codes "script") (takes-script a h))
    (one_of P (bytes_eq name (codes "check")) (Some Check) fourth c (is (codes "check") (takes-check a h))
    (one_of P (bytes_eq name (codes "audit")) (Some Audit) fifth c (is (codes "audit") (takes-audit a h))
    (one_of P (bytes_eq name (codes "grow")) grown None c (is (codes "grow") (takes-grow a h)) (no_command P c))))) e

takes_two : (name a b : List ℕ) (c : Command) → IsWord a → IsWord b → with_two name b ≡ Some c → Takes (name ∷ a ∷ b ∷ [])
takes_two name a b c h i e =
    one_of (Takes (name ∷ a ∷ b ∷ [])) (bytes_eq name (codes "cut")) (option_map (λ point. Cut point) (point_of b)) None c
    (λ t. subst (λ n. Takes (n ∷ a ∷ b ∷ [])) (named name (codes "cut") t) (takes-cut a b h i))
    (no_command _ c) e

takes_ports : (name smtp imap http : List ℕ) (behind : List Text) (pop : Option (Option ℕ)) (c : Command) → Takes (codes "serve" ∷ behind) → with_ports name smtp imap http pop ≡ Some c → Takes (name ∷ behind)
takes_ports name smtp imap http behind pop c takes e =
    one_of (Takes (name ∷ behind)) (bytes_eq name (codes "serve")) (at_ports (port_of smtp) (port_of imap) (port_of http) pop) None c
    (λ t. subst (λ n. Takes (n ∷ behind)) (named name (codes "serve") t) takes)
    (no_command _ c) e

takes_words : (words : List (List ℕ)) (c : Command) → list_all is_word words ≡ true → by_number words ≡ Some c → Takes words
takes_words [] c all e = no_command _ c e
takes_words (name ∷ []) c all e = takes_alone name c e
takes_words (name ∷ a ∷ []) c all e =
    let (p, q) = and_parts _ _ all in
    let (r, s) = and_parts _ _ q in
    takes_one name a c (word a r) e
takes_words (name ∷ a ∷ b ∷ []) c all e =
    let (p, q) = and_parts _ _ all in
    let (r, s) = and_parts _ _ q in
    let (t, u) = and_parts _ _ s in
    takes_two name a b c (word a r) (word b t) e
takes_words (name ∷ a ∷ b ∷ d ∷ []) c all e = no_command _ c e
takes_words (name ∷ store ∷ smtp ∷ imap ∷ http ∷ []) c all e =
    let (p, q) = and_parts _ _ all in
    let (r, s) = and_parts _ _ q in
    let (t, u) = and_parts _ _ s in
    let (v, w) = and_parts _ _ u in
    let (x, y) = and_parts _ _ w in
    takes_ports name smtp imap http (store ∷ smtp ∷ imap ∷ http ∷ []) (Some None) c (takes-serve store smtp imap http (word store r) (word smtp t) (word imap v) (word http x)) e
takes_words (name ∷ store ∷ smtp ∷ imap ∷ http ∷ pop ∷ []) c all e =
    let (p, q) = and_parts _ _ all in
    let (r, s) = and_parts _ _ q in
    let (t, u) = and_parts _ _ s in
    let (v, w) = and_parts _ _ u in
    let (x, y) = and_parts _ _ w in
    let (k, l) = and_parts _ _ y in
    takes_ports name smtp imap http (store ∷ smtp ∷ imap ∷ http ∷ pop ∷ []) (some_port pop) c
    (takes-serve_pop store smtp imap http pop (word store r) (word smtp t) (word imap v) (word http x) (word pop k)) e
takes_words (name ∷ a ∷ b ∷ d ∷ f ∷ g ∷ h ∷ rest) c all e = no_command _ c e

-- ---- any words

-- what is a command, `clap` takes
takes_commands : (words : List (List ℕ)) (c : Command) → command_of words ≡ Some c → Takes words
takes_commands words c = go (list_all is_word words) refl where
  go : (b : Bool) → list_all is_word words ≡ b → cond b (by_number words) None ≡ Some c → Takes words
  go true all e = takes_words words c all e
  go false all e = no_command _ c e

-- what `clap` does not take is no command
pub refused_is_none : (words : List (List ℕ)) → takes program words ≡ false → command_of words ≡ None
refused_is_none words h = go (command_of words) refl where
  go : (o : Option Command) → command_of words ≡ o → o ≡ None
  go None e = refl
  go (Some c) e = absurd (true≢false (sym (takes_commands words c e) ∙ h))

-- a refusal, whatever the other answer would be
pub same_refusal : {A B : Type 0} (e f : WordsRefused) → ◌≡◌ {A = Result A WordsRefused} (Err e) (Err f) → ◌≡◌ {A = Result B WordsRefused} (Err e) (Err f)
same_refusal {A = A} {B = B} e f h = ap other h where
  other : Result A WordsRefused → Result B WordsRefused
  other (Ok x) = Err NoMemory
  other (Err e) = Err e
