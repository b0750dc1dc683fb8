-- What a line is read as is what the grammar says.
use Rattle.std.proofs.Common.{◌≡◌, ◌≢◌, ◌↔◌, ℕ, Bool, true, false, ◌==◌, List, [], ◌∷◌, refl, ap, subst, sym, ◌∙◌, inl, inr, codes}
use Rattle.std.proofs.lemmas.Bool.{eqb-true}
use Rattle.std.specs.Prelude.{Option, None, Some, IfSome, Ok, Err, if◌then◌else◌}
use Rattle.std.specs.List.{list_all, before_first, after_first}
use Rattle.smtp_lines.specs.declared.line.SmtpLine.{SmtpLine}
use Rattle.smtp_lines.specs.declared.word.Word.{Word}
use Rattle.smtp_lines.specs.declared.word.Word.TheVariants as word
use Rattle.smtp_lines.specs.declared.command.SmtpCommand.{SmtpCommand}
use Rattle.smtp_lines.specs.declared.command.SmtpCommand.TheVariants.{Helo, Ehlo, Mail, Rcpt, Data, Rset, Noop, Vrfy, Quit}
use Rattle.smtp_lines.specs.declared.command.SmtpRefused.TheVariants.{Long, Unknown, NotDone, Argument, Parameter, NoMemory}
use Rattle.smtp_lines.specs.Parts.{is_short, is_space, is_spelled, is_visible, trimmed}
use Rattle.smtp_lines.specs.Word.{word_of}
use Rattle.smtp_lines.specs.Path.{is_recipient, outside, path_at, path_of}
use Rattle.smtp_lines.specs.Command.{Reading, alone, command_of, greeting, if_recipient, if_word, is_client, is_too_long, mail_of, rcpt_of, recipient, refused_tail, spoken, unless, vrfy_of, with_path, words_of}
use Rattle.smtp_lines.specs.Grammar.{BeginsWithWord, HasParameter, HasPath, IsRead, IsReadShort, IsReading, Names, Speaks, Spells, is_done, name_of}
use Rattle.smtp_lines.proofs.Parting.{both, and_true, apart}
use Rattle.smtp_lines.proofs.Wording.{speaks_read, speaks_word, trim_is, trim_of, word_speaks, word_spelled}
use Rattle.smtp_lines.proofs.Routing.{path_found, path_sound}
use Rattle.smtp_lines.proofs.Recipients.{NamesCommand, named, names_recipient}

-- what a reading says of the bytes: no other command is looked at
abbrev Sound : List ℕ → Reading → Type 0
Sound core (Ok command) = Spells command core
Sound core (Err Unknown) = (done : Bool) → BeginsWithWord done core → ⊥
Sound core (Err NotDone) = BeginsWithWord false core
Sound core (Err Argument) = BeginsWithWord true core
Sound core (Err Parameter) = HasParameter core
Sound core (Err Long) = ⊥
Sound core (Err NoMemory) = ⊥

begins : (w : Word) (argument core : List ℕ) → Speaks (name_of w) argument core → BeginsWithWord (is_done w) core
begins w argument core s = record { known = w; argument = argument; speaks = s; is = refl }

-- what follows a path
module _ (core : List ℕ) (command : SmtpCommand) (P : List ℕ → Type 0) (spells : P [] → Spells command core)
    (more : (tail : List ℕ) → P (32 ∷ tail) → HasParameter core) (known : BeginsWithWord true core) where
  tail_at : (b : ℕ) (tail : List ℕ) (t : Bool) → (b == 32) ≡ t → P (b ∷ tail) → Sound core (unless (if t then Some Parameter else Some Argument) command)
  tail_at b tail true e p = more tail (subst (λ (c : ℕ). P (c ∷ tail)) (eqb-true b 32 e) p)
  tail_at b tail false e p = known

  tail_sound : (tail : List ℕ) → P tail → Sound core (unless (refused_tail tail) command)
  tail_sound [] p = spells p
  tail_sound (b ∷ tail) p = tail_at b tail (b == 32) refl p

module _ (core argument : List ℕ) (s : Speaks (codes "MAIL") argument core) where
  mail_tail : (path tail : List ℕ) → HasPath (codes "FROM:") path tail argument → Sound core (unless (refused_tail tail) (Mail path))
  mail_tail path tail h =
      tail_sound core (Mail path) (λ t. HasPath (codes "FROM:") path t argument) (λ p. record { argument = argument; speaks = s; path_ = p })
      (λ more p. inl (record { path = path; more = more; spells = record { argument = argument; speaks = s; path_ = p } })) (begins word.Mail argument core s) tail h

  mail_with : (o : Option (List ℕ)) (tail : List ℕ) → IfSome o (λ path. HasPath (codes "FROM:") path tail argument) → Sound core (with_path Mail o tail)
  mail_with None tail h = begins word.Mail argument core s
  mail_with (Some path) tail h = mail_tail path tail h

  mail_sound : Sound core (mail_of argument)
  mail_sound =
      let rest = path_at (codes "FROM:") argument in mail_with (path_of rest) (outside rest) (path_sound (codes "FROM:") argument)

module _ (core argument : List ℕ) (s : Speaks (codes "RCPT") argument core) where
  rcpt_tail : (path tail : List ℕ) (c : SmtpCommand) → NamesCommand path c → HasPath (codes "TO:") path tail argument → Sound core (unless (refused_tail tail) c)
  rcpt_tail path tail (Rcpt local domain) n h =
      tail_sound core (Rcpt local domain) (λ t. HasPath (codes "TO:") path t argument)
      (λ p. record { argument = argument; path = path; speaks = s; path_ = p; names = n })
      (λ more p. inr (record { local = local; domain = domain; more = more; spells = record { argument = argument; path = path; speaks = s; path_ = p; names = n } }))
      (begins word.Rcpt argument core s) tail h
  rcpt_tail path tail (Helo client) n h = absurd n
  rcpt_tail path tail (Ehlo client) n h = absurd n
  rcpt_tail path tail (Mail p) n h = absurd n
  rcpt_tail path tail Data n h = absurd n
  rcpt_tail path tail Rset n h = absurd n
  rcpt_tail path tail (Noop rest) n h = absurd n
  rcpt_tail path tail (Vrfy what) n h = absurd n
  rcpt_tail path tail Quit n h = absurd n

  rcpt_test : (path tail : List ℕ) (t : Bool) → is_recipient path ≡ t → HasPath (codes "TO:") path tail argument
      → Sound core (with_path recipient (if t then Some path else None) tail)
  rcpt_test path tail false e h = begins word.Rcpt argument core s
  rcpt_test path tail true e h = rcpt_tail path tail (recipient path) (named path e) h

  rcpt_with : (o : Option (List ℕ)) (tail : List ℕ) → IfSome o (λ path. HasPath (codes "TO:") path tail argument) → Sound core (with_path recipient (if_recipient o) tail)
  rcpt_with None tail h = begins word.Rcpt argument core s
  rcpt_with (Some path) tail h = rcpt_test path tail (is_recipient path) refl h

  rcpt_sound : Sound core (rcpt_of argument)
  rcpt_sound =
      let rest = path_at (codes "TO:") argument in rcpt_with (path_of rest) (outside rest) (path_sound (codes "TO:") argument)

alone_sound : (core : List ℕ) (command : SmtpCommand) (argument : List ℕ) → (argument ≡ [] → Spells command core) → BeginsWithWord true core → Sound core (alone command argument)
alone_sound core command [] f known = f refl
alone_sound core command (b ∷ argument) f known = known

-- a name of a client, by its test
greets : (core : List ℕ) (command : SmtpCommand) (client : List ℕ) (t : Bool) → is_client client ≡ t
    → (is_short client ≡ true → list_all is_visible client ≡ true → Spells command core) → BeginsWithWord true core → Sound core (if t then Ok command else Err Argument)
greets core command client true e f known = let h = both (is_short client) (list_all is_visible client) e in f h.0 h.1
greets core command client false e f known = known

vrfy_sound : (core argument : List ℕ) → Speaks (codes "VRFY") argument core → Sound core (vrfy_of argument)
vrfy_sound core [] s = begins word.Vrfy [] core s
vrfy_sound core (b ∷ argument) s = (s, λ e. let w : b ∷ argument ≡ [] = e in cc)

spoken_sound : (w : Word) (argument core : List ℕ) → Speaks (name_of w) argument core → Sound core (spoken w argument)
unfolding spoken
spoken_sound word.Helo argument core s =
    greets core (Helo argument) argument (is_client argument) refl (λ h v. record { speaks = s; short = h; visible = v }) (begins word.Helo argument core s)
spoken_sound word.Ehlo argument core s =
    greets core (Ehlo argument) argument (is_client argument) refl (λ h v. record { speaks = s; short = h; visible = v }) (begins word.Ehlo argument core s)
spoken_sound word.Mail argument core s = mail_sound core argument s
spoken_sound word.Rcpt argument core s = rcpt_sound core argument s
spoken_sound word.Data argument core s =
    alone_sound core Data argument (λ e. subst (λ (a : List ℕ). Speaks (codes "DATA") a core) e s) (begins word.Data argument core s)
spoken_sound word.Rset argument core s =
    alone_sound core Rset argument (λ e. subst (λ (a : List ℕ). Speaks (codes "RSET") a core) e s) (begins word.Rset argument core s)
spoken_sound word.Noop argument core s = s
spoken_sound word.Vrfy argument core s = vrfy_sound core argument s
spoken_sound word.Quit argument core s =
    alone_sound core Quit argument (λ e. subst (λ (a : List ℕ). Speaks (codes "QUIT") a core) e s) (begins word.Quit argument core s)
spoken_sound word.Expn argument core s = begins word.Expn argument core s
spoken_sound word.Help argument core s = begins word.Help argument core s

words_by : (core : List ℕ) (o : Option Word) → word_of (before_first is_space core) ≡ o → IfSome o (λ w. is_spelled (name_of w) (before_first is_space core) ≡ true)
    → Sound core (if_word o (after_first is_space core))
words_by core None e h =
    λ done b. let w : None ≡ Some b.known = sym e ∙ speaks_word b.known b.argument core b.speaks in cc
words_by core (Some w) e h = spoken_sound w (after_first is_space core) core (word_speaks (name_of w) core h)

words_sound : (core : List ℕ) → Sound core (words_of core)
words_sound core = words_by core (word_of (before_first is_space core)) refl (word_spelled (before_first is_space core))

-- the other way: what is spelled is read so
greeting_read : (command : List ℕ → SmtpCommand) (client : List ℕ) → is_short client ≡ true → list_all is_visible client ≡ true → greeting command client ≡ Ok (command client)
greeting_read command client e f =
    ap (λ (t : Bool). if t then Ok (command client) else Err Argument) (and_true (is_short client) (list_all is_visible client) e f)

mail_read : (argument path tail : List ℕ) → HasPath (codes "FROM:") path tail argument → mail_of argument ≡ unless (refused_tail tail) (Mail path)
mail_read argument path tail h =
    let rest = path_at (codes "FROM:") argument in
    let f = path_found (codes "FROM:") path tail argument h in
    ap (λ (o : Option (List ℕ)). with_path Mail o (outside rest)) f.path_ ∙ ap (λ (t : List ℕ). unless (refused_tail t) (Mail path)) f.tail_

rcpt_read : (argument path tail local : List ℕ) (domain : Option (List ℕ)) → HasPath (codes "TO:") path tail argument → Names path local domain
    → rcpt_of argument ≡ unless (refused_tail tail) (Rcpt local domain)
rcpt_read argument path tail local domain h n =
    let rest = path_at (codes "TO:") argument in
    let f = path_found (codes "TO:") path tail argument h in
    let r = names_recipient path local domain n in
    ap (λ (o : Option (List ℕ)). with_path recipient (if_recipient o) (outside rest)) f.path_
    ∙ ap (λ (t : Bool). with_path recipient (if t then Some path else None) (outside rest)) r.is
    ∙ ap (λ (t : List ℕ). unless (refused_tail t) (recipient path)) f.tail_
    ∙ ap (λ (c : SmtpCommand). unless (refused_tail tail) c) r.command

vrfy_read : (what : List ℕ) → what ≢ [] → vrfy_of what ≡ Ok (Vrfy what)
vrfy_read [] n = absurd (n refl)
vrfy_read (b ∷ what) n = refl

-- each word's reading
spoken_helo : (a : List ℕ) → spoken word.Helo a ≡ greeting Helo a
unfolding spoken
spoken_helo a = refl

spoken_ehlo : (a : List ℕ) → spoken word.Ehlo a ≡ greeting Ehlo a
unfolding spoken
spoken_ehlo a = refl

spoken_mail : (a : List ℕ) → spoken word.Mail a ≡ mail_of a
unfolding spoken
spoken_mail a = refl

spoken_rcpt : (a : List ℕ) → spoken word.Rcpt a ≡ rcpt_of a
unfolding spoken
spoken_rcpt a = refl

spoken_alone : (spoken word.Data [] ≡ Ok Data) × ((spoken word.Rset [] ≡ Ok Rset) × (spoken word.Quit [] ≡ Ok Quit))
unfolding spoken
spoken_alone = (refl, (refl, refl))

spoken_noop : (a : List ℕ) → spoken word.Noop a ≡ Ok (Noop a)
unfolding spoken
spoken_noop a = refl

spoken_vrfy : (a : List ℕ) → spoken word.Vrfy a ≡ vrfy_of a
unfolding spoken
spoken_vrfy a = refl

spoken_not_done : (w : Word) (a : List ℕ) → is_done w ≡ false → spoken w a ≡ Err NotDone
unfolding spoken
spoken_not_done word.Expn a e = refl
spoken_not_done word.Help a e = refl
spoken_not_done word.Helo a e = absurd (apart true refl e)
spoken_not_done word.Ehlo a e = absurd (apart true refl e)
spoken_not_done word.Mail a e = absurd (apart true refl e)
spoken_not_done word.Rcpt a e = absurd (apart true refl e)
spoken_not_done word.Data a e = absurd (apart true refl e)
spoken_not_done word.Rset a e = absurd (apart true refl e)
spoken_not_done word.Noop a e = absurd (apart true refl e)
spoken_not_done word.Vrfy a e = absurd (apart true refl e)
spoken_not_done word.Quit a e = absurd (apart true refl e)

command_read : (command : SmtpCommand) (core : List ℕ) → Spells command core → words_of core ≡ Ok command
command_read (Helo client) core s = speaks_read word.Helo client core s.speaks ∙ spoken_helo client ∙ greeting_read Helo client s.short s.visible
command_read (Ehlo client) core s = speaks_read word.Ehlo client core s.speaks ∙ spoken_ehlo client ∙ greeting_read Ehlo client s.short s.visible
command_read (Mail path) core s = speaks_read word.Mail s.argument core s.speaks ∙ spoken_mail s.argument ∙ mail_read s.argument path [] s.path_
command_read (Rcpt local domain) core s =
    speaks_read word.Rcpt s.argument core s.speaks ∙ spoken_rcpt s.argument ∙ rcpt_read s.argument s.path [] local domain s.path_ s.names
command_read Data core s = speaks_read word.Data [] core s ∙ spoken_alone.0
command_read Rset core s = speaks_read word.Rset [] core s ∙ spoken_alone.1.0
command_read (Noop rest) core s = speaks_read word.Noop rest core s ∙ spoken_noop rest
command_read (Vrfy what) core s = speaks_read word.Vrfy what core s.0 ∙ spoken_vrfy what ∙ vrfy_read what s.1
command_read Quit core s = speaks_read word.Quit [] core s ∙ spoken_alone.1.1

parameter_read : (core : List ℕ) → HasParameter core → words_of core ≡ Err Parameter
parameter_read core (inl m) =
    speaks_read word.Mail m.spells.argument core m.spells.speaks ∙ spoken_mail m.spells.argument ∙ mail_read m.spells.argument m.path (32 ∷ m.more) m.spells.path_
parameter_read core (inr r) =
    speaks_read word.Rcpt r.spells.argument core r.spells.speaks ∙ spoken_rcpt r.spells.argument
    ∙ rcpt_read r.spells.argument r.spells.path (32 ∷ r.more) r.local r.domain r.spells.path_ r.spells.names

not_done_read : (core : List ℕ) → BeginsWithWord false core → words_of core ≡ Err NotDone
not_done_read core b = speaks_read b.known b.argument core b.speaks ∙ spoken_not_done b.known b.argument b.is

-- a line has one word
one_word : (core : List ℕ) → BeginsWithWord true core → BeginsWithWord false core → ⊥
one_word core b c =
    let same : Some b.known ≡ Some c.known = sym (speaks_word b.known b.argument core b.speaks) ∙ speaks_word c.known c.argument core c.speaks in
    let known : b.known ≡ c.known = cc in
    apart (is_done b.known) b.is (ap is_done known ∙ c.is)

-- a command begins with a word that is done
command_begins : (command : SmtpCommand) (core : List ℕ) → Spells command core → BeginsWithWord true core
command_begins (Helo client) core s = begins word.Helo client core s.speaks
command_begins (Ehlo client) core s = begins word.Ehlo client core s.speaks
command_begins (Mail path) core s = begins word.Mail s.argument core s.speaks
command_begins (Rcpt local domain) core s = begins word.Rcpt s.argument core s.speaks
command_begins Data core s = begins word.Data [] core s
command_begins Rset core s = begins word.Rset [] core s
command_begins (Noop rest) core s = begins word.Noop rest core s
command_begins (Vrfy what) core s = begins word.Vrfy what core s.0
command_begins Quit core s = begins word.Quit [] core s

parameter_begins : (core : List ℕ) → HasParameter core → BeginsWithWord true core
parameter_begins core (inl m) = begins word.Mail m.spells.argument core m.spells.speaks
parameter_begins core (inr r) = begins word.Rcpt r.spells.argument core r.spells.speaks

-- a sound reading is the grammar's
read_by : (core : List ℕ) (r : Reading) → words_of core ≡ r → Sound core r → IsRead core r
read_by core (Ok command) e s = s
read_by core (Err Unknown) e s = s
read_by core (Err NotDone) e s = s
read_by core (Err Parameter) e s = s
read_by core (Err Long) e s = s
read_by core (Err NoMemory) e s = s
read_by core (Err Argument) e s = (
  s,
  (
    (λ command c. let w : Ok command ≡ Err Argument = sym (command_read command core c) ∙ e in cc),
    (λ p. let w : Err Parameter ≡ Err Argument = sym (parameter_read core p) ∙ e in cc),
  ),
)

is_read : (core : List ℕ) → IsRead core (words_of core)
is_read core = read_by core (words_of core) refl (words_sound core)

unknown_by : (core : List ℕ) (r : Reading) → Sound core r → ((done : Bool) → ¬ (BeginsWithWord done core)) → r ≡ Err Unknown
unknown_by core (Ok command) s n = absurd (n true (command_begins command core s))
unknown_by core (Err Unknown) s n = refl
unknown_by core (Err NotDone) s n = absurd (n false s)
unknown_by core (Err Argument) s n = absurd (n true s)
unknown_by core (Err Parameter) s n = absurd (n true (parameter_begins core s))
unknown_by core (Err Long) s n = absurd s
unknown_by core (Err NoMemory) s n = absurd s

argument_by : (core : List ℕ) (r : Reading) → Sound core r → IsRead core (Err Argument) → r ≡ Err Argument
argument_by core (Ok command) s a = absurd (a.1.0 command s)
argument_by core (Err Unknown) s a = absurd (s true a.0)
argument_by core (Err NotDone) s a = absurd (one_word core a.0 s)
argument_by core (Err Argument) s a = refl
argument_by core (Err Parameter) s a = absurd (a.1.1 s)
argument_by core (Err Long) s a = absurd s
argument_by core (Err NoMemory) s a = absurd s

-- the grammar's reading is the one
reads_so : (core : List ℕ) (r : Reading) → IsRead core r → words_of core ≡ r
reads_so core (Ok command) s = command_read command core s
reads_so core (Err Unknown) s = unknown_by core (words_of core) (words_sound core) s
reads_so core (Err NotDone) s = not_done_read core s
reads_so core (Err Argument) s = argument_by core (words_of core) (words_sound core) s
reads_so core (Err Parameter) s = parameter_read core s
reads_so core (Err Long) s = absurd s
reads_so core (Err NoMemory) s = absurd s

short_reading : (line : SmtpLine) (r : Reading) → is_too_long line ≡ false → IsRead (trimmed line.bytes) r → IsReading line r
short_reading line (Ok command) e s = record { core = trimmed line.bytes; fits = e; trimmed_ = trim_of line.bytes; reads = s }
short_reading line (Err Unknown) e s = record { core = trimmed line.bytes; fits = e; trimmed_ = trim_of line.bytes; reads = s }
short_reading line (Err NotDone) e s = record { core = trimmed line.bytes; fits = e; trimmed_ = trim_of line.bytes; reads = s }
short_reading line (Err Argument) e s = record { core = trimmed line.bytes; fits = e; trimmed_ = trim_of line.bytes; reads = s }
short_reading line (Err Parameter) e s = record { core = trimmed line.bytes; fits = e; trimmed_ = trim_of line.bytes; reads = s }
short_reading line (Err Long) e s = absurd s
short_reading line (Err NoMemory) e s = absurd s

reading_by : (line : SmtpLine) (t : Bool) → is_too_long line ≡ t → IsReading line (if t then Err Long else words_of (trimmed line.bytes))
reading_by line true e = e
reading_by line false e = short_reading line (words_of (trimmed line.bytes)) e (is_read (trimmed line.bytes))

-- what a line is read as is the grammar's
is_reading : (line : SmtpLine) → IsReading line (command_of line)
is_reading line = reading_by line (is_too_long line) refl

short_so : (line : SmtpLine) (r : Reading) → IsReadShort line r → command_of line ≡ r
short_so line r s =
    ap (λ (t : Bool). if t then Err Long else words_of (trimmed line.bytes)) s.fits ∙ ap words_of (trim_is line.bytes s.core s.trimmed_) ∙ reads_so s.core r s.reads

-- and nothing else is
reading_so : (line : SmtpLine) (r : Reading) → IsReading line r → command_of line ≡ r
reading_so line (Err Long) s = ap (λ (t : Bool). if t then Err Long else words_of (trimmed line.bytes)) s
reading_so line (Ok command) s = short_so line (Ok command) s
reading_so line (Err Unknown) s = short_so line (Err Unknown) s
reading_so line (Err NotDone) s = short_so line (Err NotDone) s
reading_so line (Err Argument) s = short_so line (Err Argument) s
reading_so line (Err Parameter) s = short_so line (Err Parameter) s
reading_so line (Err NoMemory) s = short_so line (Err NoMemory) s

pub reads_by_grammar : (line : SmtpLine) (reading : Reading) → (command_of line ≡ reading) ↔ IsReading line reading
reads_by_grammar line reading = (λ e. subst (λ (r : Reading). IsReading line r) e (is_reading line), λ s. reading_so line reading s)
