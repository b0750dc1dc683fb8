-- Words are a command exactly where they say it.
use Rattle.std.proofs.Common.{◌≡◌, ℕ, List, [], ◌∷◌, Bool, true, false, cond, refl, codes, bytes_eq, arith, Option, Some, None, IfSome, is_some, option_map, unwrap_or, sym, ap, subst}
use Rattle.std.specs.List.{list_all}
use Rattle.std.specs.Fmt.{decimal}
use Rattle.std.proofs.lemmas.Bool.{and_parts, false≢true}
use Rattle.command_words.specs.declared.commands.Command.{Command}
use Rattle.command_words.specs.declared.commands.Command.TheVariants.{Init, Serve, Script, Play, Grow, Check, Cut, Audit}
use Rattle.command_words.specs.Numbers.{point_of, port_of, rounds_of}
use Rattle.command_words.specs.Spelling.{SaysStore, IsPort, Says, words_of}
use Rattle.command_words.specs.Usage.{is_word, alone, with_one, with_two, at_ports, with_ports, some_port, by_number, command_of}
use Rattle.command_words.proofs.Readings.{named, no_command}
use Rattle.command_words.proofs.Written.{number_to, number_from, point_from, word_decimal, word_point}

-- ---- from what is read to what is said

-- some command is this one
same_command : (c d : Command) → Some c ≡ Some d → c ≡ d
same_command c d e = ap (λ o. unwrap_or o Play) e

-- what follows where a test holds, and where it does not
either : (P : Type 0) (t : Bool) (x y : Option Command) (c : Command) → (t ≡ true → x ≡ Some c → P) → (y ≡ Some c → P) → cond t x y ≡ Some c → P
either P true x y c f g e = f refl e
either P false x y c f g e = g e

says_alone : (name : List ℕ) (c : Command) → alone name ≡ Some c → Says (name ∷ []) c
says_alone name c e =
    either (Says (name ∷ []) c) (bytes_eq name (codes "play")) (Some Play) None c
    (λ t is. subst (Says (name ∷ [])) (same_command Play c is) (ap (λ n. n ∷ []) (sym (named name (codes "play") t))))
    (no_command _ c) e

says_rounds : (name a : List ℕ) (c : Command) (o : Option ℕ) → name ≡ codes "grow" → rounds_of a ≡ o → option_map (λ rounds. Grow rounds) o ≡ Some c → Says (name ∷ a ∷ []) c
says_rounds name a c None n r e = no_command _ c e
says_rounds name a c (Some rounds) n r e =
    let (low, high, text) = number_to 3 100000 rounds a (omega arith) r in
    subst (Says (name ∷ a ∷ [])) (same_command (Grow rounds) c e) (low, high, rw (n, text) refl)

says_one : (name a : List ℕ) (c : Command) → is_word a ≡ true → with_one name a ≡ Some c → Says (name ∷ a ∷ []) c
says_one name a c h e =
    let P : Type 0 = Says (name ∷ a ∷ []) c in
    let here : (text : List ℕ) → bytes_eq name text ≡ true → SaysStore (name ∷ a ∷ []) text = λ text t. (a, h, ap (λ n. n ∷ a ∷ []) (sym (named name text t))) in
    let grown : Option Command = option_map (λ rounds. Grow rounds) (rounds_of a) in
    let fifth : Option Command = cond (bytes_eq name (codes "grow")) grown None in
    let fourth : Option Command = cond (bytes_eq name (codes "audit")) (Some Audit) fifth in
    let third : Option Command = cond (bytes_eq name (codes "check")) (Some Check) fourth in
    let other : Option Command = cond (bytes_eq name (codes "script")) (Some Script) third in
    either P (bytes_eq name (codes "init")) (Some Init) other c (λ t is. subst (Says (name ∷ a ∷ [])) (same_command Init c is) (here (codes "init") t))
    (either P (bytes_eq name (codes "script")) (Some Script) third c (λ t is. subst (Says (name ∷ a ∷ [])) (same_command Script c is) (here (codes "script") t))
    (either P (bytes_eq name (codes "check")) (Some Check) fourth c (λ t is. subst (Says (name ∷ a ∷ [])) (same_command Check c is) (here (codes "check") t))
    (either P (bytes_eq name (codes "audit")) (Some Audit) fifth c (λ t is. subst (Says (name ∷ a ∷ [])) (same_command Audit c is) (here (codes "audit") t))
    (either P (bytes_eq name (codes "grow")) grown None c (λ t is. says_rounds name a c (rounds_of a) (sym (named name (codes "grow") t)) refl is) (no_command P c))))) e

says_point : (name store a : List ℕ) (c : Command) (o : Option ℕ) → is_word store ≡ true → name ≡ codes "cut" → point_of a ≡ o → option_map (λ point. Cut point) o ≡ Some c
    → Says (name ∷ store ∷ a ∷ []) c
says_point name store a c None w n r e = no_command _ c e
says_point name store a c (Some point) w n r e =
    let (low, high, text) = number_to 0 4294967295 point a (omega arith) r in
    subst (Says (name ∷ store ∷ a ∷ [])) (same_command (Cut point) c e) (store, w, high, rw (n, text) refl)

says_two : (name store a : List ℕ) (c : Command) → is_word store ≡ true → with_two name a ≡ Some c → Says (name ∷ store ∷ a ∷ []) c
says_two name store a c w e =
    either (Says (name ∷ store ∷ a ∷ []) c) (bytes_eq name (codes "cut")) (option_map (λ point. Cut point) (point_of a)) None c
    (λ t is. says_point name store a c (point_of a) w (sym (named name (codes "cut") t)) refl is)
    (no_command _ c) e

-- a port that is read
port_to : (n : ℕ) (text : List ℕ) → port_of text ≡ Some n → IsPort n × (text ≡ decimal n)
port_to n text e =
    let (low, high, is) = number_to 1 65535 n text (omega arith) e in
    ((low, high), is)

-- what a port of POP3 is that was told so, and how it is written
abbrev Told : List (List ℕ) → Option (Option ℕ) → Type 0
Told words pop = (p : Option ℕ) → pop ≡ Some p → IfSome p IsPort × (words ≡ words_of p)

-- some port is this one
same_port : (p q : Option ℕ) → Some p ≡ Some q → p ≡ q
same_port p q e = ap (λ o. unwrap_or o None) e

told_none : Told [] (Some None)
told_none p e = subst (λ q. IfSome q IsPort × ([] ≡ words_of q)) (same_port None p e) (tt, refl)

told_some : (word : List ℕ) → Told (word ∷ []) (some_port word)
told_some word = go (port_of word) refl where
  go : (o : Option ℕ) → port_of word ≡ o → Told (word ∷ []) (option_map (λ port. Some port) o)
  go None h p e = absurd (false≢true (ap is_some e))
  go (Some n) h p e =
      let (is, text) = port_to n word h in
      subst (λ q. IfSome q IsPort × (word ∷ [] ≡ words_of q)) (same_port (Some n) p e) (is, ap (λ w. w ∷ []) text)

says_ports : (name store smtp imap http : List ℕ) (rest : List (List ℕ)) (pop : Option (Option ℕ)) (c : Command) (s i h : Option ℕ) → is_word store ≡ true → name ≡ codes "serve"
    → Told rest pop → port_of smtp ≡ s → port_of imap ≡ i → port_of http ≡ h → at_ports s i h pop ≡ Some c → Says (name ∷ store ∷ smtp ∷ imap ∷ http ∷ rest) c
says_ports name store smtp imap http rest pop c None i h w n t p q r e = no_command _ c e
says_ports name store smtp imap http rest pop c (Some s) None h w n t p q r e = no_command _ c e
says_ports name store smtp imap http rest pop c (Some s) (Some i) None w n t p q r e = no_command _ c e
says_ports name store smtp imap http rest None c (Some s) (Some i) (Some h) w n t p q r e = no_command _ c e
says_ports name store smtp imap http rest (Some pop) c (Some s) (Some i) (Some h) w n t p q r e =
    let (ps, es) = port_to s smtp p in
    let (pi, ei) = port_to i imap q in
    let (ph, eh) = port_to h http r in
    let (pp, ep) = t pop refl in
    subst (Says (name ∷ store ∷ smtp ∷ imap ∷ http ∷ rest)) (same_command (Serve s i h pop) c e) (store, w, ps, pi, ph, pp, rw (n, es, ei, eh, ep) refl)

says_serve : (name store smtp imap http : List ℕ) (rest : List (List ℕ)) (pop : Option (Option ℕ)) (c : Command) → is_word store ≡ true → Told rest pop
    → with_ports name smtp imap http pop ≡ Some c → Says (name ∷ store ∷ smtp ∷ imap ∷ http ∷ rest) c
says_serve name store smtp imap http rest pop c w told e =
    either (Says (name ∷ store ∷ smtp ∷ imap ∷ http ∷ rest) c) (bytes_eq name (codes "serve")) (at_ports (port_of smtp) (port_of imap) (port_of http) pop) None c
    (λ t is. says_ports name store smtp imap http rest pop c (port_of smtp) (port_of imap) (port_of http) w (sym (named name (codes "serve") t)) told refl refl refl is)
    (no_command _ c) e

says_words : (words : List (List ℕ)) (c : Command) → list_all is_word words ≡ true → by_number words ≡ Some c → Says words c
says_words [] c all e = no_command _ c e
says_words (name ∷ []) c all e = says_alone name c e
says_words (name ∷ a ∷ []) c all e =
    let (p, q) = and_parts _ _ all in
    let (r, s) = and_parts _ _ q in
    says_one name a c r e
says_words (name ∷ a ∷ b ∷ []) c all e =
    let (p, q) = and_parts _ _ all in
    let (r, s) = and_parts _ _ q in
    says_two name a b c r e
says_words (name ∷ a ∷ b ∷ d ∷ []) c all e = no_command _ c e
says_words (name ∷ store ∷ smtp ∷ imap ∷ http ∷ []) c all e =
    let (p, q) = and_parts _ _ all in
    let (r, s) = and_parts _ _ q in
    says_serve name store smtp imap http [] (Some None) c r told_none e
says_words (name ∷ store ∷ smtp ∷ imap ∷ http ∷ pop ∷ []) c all e =
    let (p, q) = and_parts _ _ all in
    let (r, s) = and_parts _ _ q in
    says_serve name store smtp imap http (pop ∷ []) (some_port pop) c r (told_some pop) e
says_words (name ∷ a ∷ b ∷ d ∷ f ∷ g ∷ h ∷ rest) c all e = no_command _ c e

pub read_is_said : (words : List (List ℕ)) (c : Command) → command_of words ≡ Some c → Says words c
read_is_said words c = go (list_all is_word words) refl where
  go : (b : Bool) → list_all is_word words ≡ b → cond b (by_number words) None ≡ Some c → Says words c
  go true all e = says_words words c all e
  go false all e = no_command _ c e

-- ---- from what is said to what is read

abbrev Reads : List (List ℕ) → Command → Type 0
Reads words c = command_of words ≡ Some c

some_words : (a b c d : List ℕ) (rest : List (List ℕ)) → is_word a ≡ true → is_word b ≡ true → is_word c ≡ true → is_word d ≡ true → list_all is_word rest ≡ true
    → list_all is_word (codes "serve" ∷ a ∷ b ∷ c ∷ d ∷ rest) ≡ true
some_words a b c d rest h i j k l = rw (h, i, j, k, l) refl

-- a port that is written
word_port : (n : ℕ) → IsPort n → is_word (decimal n) ≡ true
word_port n p = word_decimal n p.0 (omega (arith, p.1))

port_from : (n : ℕ) → IsPort n → port_of (decimal n) ≡ Some n
port_from n p = number_from 1 65535 n p.0 (omega arith) p.0 p.1

pub said_is_read : (words : List (List ℕ)) (c : Command) → Says words c → command_of words ≡ Some c
said_is_read words Init (store, w, e) = subst (λ ws. Reads ws Init) (sym e) (rw w refl)
said_is_read words (Serve s i h None) (store, w, ps, pi, ph, pp, e) =
    subst (λ ws. Reads ws (Serve s i h None)) (sym e)
    (rw (some_words store (decimal s) (decimal i) (decimal h) [] w (word_port s ps) (word_port i pi) (word_port h ph) refl, port_from s ps, port_from i pi, port_from h ph) refl)
said_is_read words (Serve s i h (Some p)) (store, w, ps, pi, ph, pp, e) =
    subst (λ ws. Reads ws (Serve s i h (Some p))) (sym e)
    (rw (some_words store (decimal s) (decimal i) (decimal h) (decimal p ∷ []) w (word_port s ps) (word_port i pi) (word_port h ph) (rw (word_port p pp) refl), port_from s ps, port_from i pi, port_from h ph, port_from p pp) refl)
said_is_read words Script (store, w, e) = subst (λ ws. Reads ws Script) (sym e) (rw w refl)
said_is_read words Play e = subst (λ ws. Reads ws Play) (sym e) refl
said_is_read words (Grow n) (low, high, e) =
    subst (λ ws. Reads ws (Grow n)) (sym e) (rw (word_decimal n (omega (arith, low)) (omega (arith, high)), number_from 3 100000 n (omega (arith, low)) (omega arith) low high) refl)
said_is_read words Check (store, w, e) = subst (λ ws. Reads ws Check) (sym e) (rw w refl)
said_is_read words (Cut n) (store, w, high, e) =
    subst (λ ws. Reads ws (Cut n)) (sym e) (rw (w, word_point n high, point_from n high) refl)
said_is_read words Audit (store, w, e) = subst (λ ws. Reads ws Audit) (sym e) (rw w refl)
