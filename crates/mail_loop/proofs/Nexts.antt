-- What is taken from a stream: the next line, or what comes next of an IMAP client's.
use Rattle.std.proofs.Common.{◌≡◌, ◌≢◌, ◌∙◌, ℕ, true, false, true≢false, List, [], ◌∷◌, ◌++◌, Option, None, Some, Result, Ok, Err, IfOk, OnErr, ap, refl, subst, sym}
use Rattle.undo_base.specs.declared.keys.User.{User}
use Rattle.undo_base.specs.declared.memory.NoMemory.{NoMemory as WantOfMemory}
use Rattle.smtp_lines.specs.declared.line.SmtpLine.{SmtpLine}
use Rattle.smtp_lines.specs.Line.{TakesLine, smtp_lines_of}
use Rattle.imap_stream.specs.Commands.{Heard, TakesNext, emptied}
use Rattle.imap_stream.specs.declared.next.Next.{Next}
use Rattle.imap_stream.specs.declared.next.Next.TheVariants.{Command, Ask as Mark, Bad, NotYet}
use Rattle.imap_session.specs.declared.dialog.Dialog.{Dialog}
use Rattle.store_kept.specs.Kept.{Kept}
use Rattle.mail_loop.specs.ImapTook.{is_not_yet}
use Rattle.mail_loop.specs.ImapTurn.{takes}
use Rattle.mail_loop.specs.Session.{Took}
use Rattle.mail_loop.specs.State.{Seat}
use Rattle.mail_loop.specs.Took.{ServesNone, TakesUnit}
use Rattle.mail_loop.specs.Turns.{imap_source, line_source}

-- the next line is taken, or none is there
pub line_taken : {D : Type 0} → (seat : List ℕ → D → Seat) (takes : List User → ℕ → Kept → D → SmtpLine → Took D) (old new : List ℕ) (result : Result (Option SmtpLine) WantOfMemory)
    → IfOk result (λ line. TakesLine old line new) → IfOk result (λ line. TakesUnit (line_source seat) takes old line new)
line_taken seat takes old new (Ok (Some line)) is = is
line_taken seat takes old new (Ok None) is = (subst (λ (lines : List SmtpLine). ServesNone takes lines) (sym is.0) tt, is.1 ∙ sym is.2)
line_taken seat takes old new (Err e) is = tt

-- no memory was found for a line that is there
pub line_wanted : (old new : List ℕ) (result : Result (Option SmtpLine) WantOfMemory) → OnErr result ((new ≡ old) × (smtp_lines_of old ≢ [])) → OnErr result (smtp_lines_of old ≢ [])
line_wanted old new (Ok line) is = tt
line_wanted old new (Err e) is = is.1

-- the next of an IMAP client's stream is taken
pub next_taken : (takes : List User → ℕ → Kept → Dialog → Next → Took Dialog) (old new : Heard) (next : Next) → TakesNext old next new → is_not_yet next ≡ false → TakesUnit imap_source takes old (Some next) new
next_taken takes old new (Command raw) is some = (ap (λ (h : Heard). h.said ++ NotYet ∷ []) is, ap emptied is)
next_taken takes old new (Mark length) is some = (ap (λ (h : Heard). h.said ++ NotYet ∷ []) is, ap emptied is)
next_taken takes old new (Bad line) is some = (ap (λ (h : Heard). h.said ++ NotYet ∷ []) is, ap emptied is)
next_taken takes old new NotYet is some = absurd (true≢false some)

-- nothing whole is there
pub none_taken : (old new : Heard) (next : Next) → TakesNext old next new → is_not_yet next ≡ true → TakesUnit imap_source (λ users at kept d next. takes kept d next) old None new
none_taken old new (Command raw) is none = absurd (true≢false (sym none))
none_taken old new (Mark length) is none = absurd (true≢false (sym none))
none_taken old new (Bad line) is none = absurd (true≢false (sym none))
none_taken old new NotYet is none = (
  subst (λ (said : List Next). ServesNone {D = Dialog} (λ users at kept d next. takes kept d next) (said ++ NotYet ∷ [])) (sym is.0) (λ users at kept d. refl),
  ap (λ (said : List Next). record old { said = said }) (sym is.0) ∙ sym is.1,
)

-- there is a last one
pub some_last : (nexts : List Next) → nexts ++ NotYet ∷ [] ≡ [] → ⊥
some_last [] e = let wrong = e in cc
some_last (next ∷ nexts) e = let wrong = e in cc

-- so no memory may be found for it
pub one_wanted : {A : Type 0} → (result : Result A WantOfMemory) (nexts : List Next) → OnErr result (nexts ++ NotYet ∷ [] ≢ [])
one_wanted (Ok x) nexts = tt
one_wanted (Err e) nexts = some_last nexts
