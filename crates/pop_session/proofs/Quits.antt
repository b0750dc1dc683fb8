-- When a QUIT is answered.
use Rattle.std.proofs.Common.{◌≡◌, Bool, true, false, ◌==◌, cond, List, [], ◌∷◌, Result, Ok, Err, is_ok, refl, sym, ap, ◌∙◌, true≢false}
use Rattle.undo_base.specs.declared.keys.Key.{Key}
use Rattle.undo_base.specs.declared.keys.User.{User}
use Rattle.verb_core.specs.declared.ask.Refused.{Refused}
use Rattle.verb_core.specs.declared.ask.Refused.TheVariants as why
use Rattle.verb_core.specs.declared.ask.SubmitFault.{SubmitFault}
use Rattle.verb_core.specs.declared.ask.SubmitFault.TheVariants.{Refused as WasRefused, Disk, Closed}
use Rattle.verb_core.specs.declared.item.Item.{Item}
use Rattle.pop_session.specs.declared.answer.Answer.TheVariants.{Closing}
use Rattle.pop_session.specs.declared.dialog.Awaits.{Awaits}
use Rattle.pop_session.specs.declared.dialog.Awaits.TheVariants.{Nothing, Text, Outcome}
use Rattle.pop_session.specs.declared.dialog.Dialog.{Dialog}
use Rattle.pop_session.specs.declared.dialog.Pending.TheVariants as on
use Rattle.pop_session.specs.declared.dialog.Stage.{Stage}
use Rattle.pop_session.specs.declared.dialog.Stage.TheVariants.{Transaction}
use Rattle.pop_session.specs.declared.maildrop.Maildrop.{Maildrop}
use Rattle.pop_session.specs.declared.out.PopOut.{PopOut}
use Rattle.pop_session.specs.declared.out.PopOut.TheVariants.{Say, Read, Submit, Bye}
use Rattle.pop_session.specs.Answer.{answer_text, ask_refused}
use Rattle.pop_session.specs.Dialog.{Took, awaits_login, awaits_update, ends, expunge_of, keys_left, leave, nameless, quit, says, settle, settle_in, store_of, undone_in}
use Rattle.pop_session.specs.Maildrop.{marked_keys}
use Rattle.pop_session.specs.Removal.{quit_outs}

-- a last answer that begins with `+`
abbrev is_yes : PopOut → Bool
is_yes (Bye []) = false
is_yes (Bye (b ∷ text)) = b == 43
is_yes (Say text) = false
is_yes (Read body) = false
is_yes (Submit asked) = false

no_yes : {X : Type 0} (out : PopOut) → is_yes out ≡ false → out ≡ Bye (answer_text Closing) → X
no_yes out other is = absurd (true≢false (sym (ap is_yes is) ∙ other))

-- ---- what is asked

outs_of : User → Maildrop → Item → Item → List Key → List PopOut
outs_of u drop marked removed keys =
    let first : Took = leave keys (record { stage = Transaction u drop; awaits = Nothing }) in
    let second : Took = settle first.dialog (Ok marked) in
    first.out ∷ second.out ∷ (settle second.dialog (Ok removed)).out ∷ []

pub asks_both : (u : User) (drop : Maildrop) (key : Key) (keys : List Key) (marked removed : Item) → marked_keys drop.messages ≡ key ∷ keys
    → quit_outs u drop marked removed ≡ Submit (store_of (key ∷ keys)) ∷ Submit (expunge_of (key ∷ keys)) ∷ Bye (answer_text Closing) ∷ []
unfolding outs_of
asks_both u drop key keys marked removed are = ap (outs_of u drop marked removed) are

none_left : (d : Dialog) (keys : List Key) → (leave keys d).out ≡ Bye (answer_text Closing) → keys ≡ []
none_left d [] is = refl
none_left d (key ∷ keys) is = no_yes _ refl is

pub none_at_once : (d : Dialog) → (quit d).out ≡ Bye (answer_text Closing) → keys_left d.stage ≡ []
none_at_once d is = none_left d (keys_left d.stage) is

-- ---- outcomes

-- a refusal is told with `-`
refused_no : (r : Refused) → is_yes (Bye (answer_text (ask_refused r))) ≡ false
refused_no why.Gone = refl
refused_no (why.TooMany asked) = refl
refused_no (why.Numbers next) = refl
refused_no why.NoMemory = refl
refused_no why.NoBox = refl
refused_no why.Exists = refl
refused_no why.HasInferiors = refl
refused_no why.Fixed = refl
refused_no why.NameShape = refl
refused_no why.TryCreate = refl
refused_no (why.TooLarge asked) = refl
refused_no why.BoxesFull = refl
refused_no why.UidWide = refl

undone_no : (stage : Stage) (awaits : Awaits) (fault : SubmitFault) → is_yes (undone_in awaits fault (record { stage = stage; awaits = Nothing })).out ≡ false
undone_no stage awaits Disk = refl
undone_no stage awaits Closed = refl
undone_no stage awaits (WasRefused r) = by_quit (awaits_update awaits)
  where
    d : Dialog
    d = record { stage = stage; awaits = Nothing }

    by_quit : (b : Bool) → is_yes (cond b (ends (ask_refused r)) (says (ask_refused r) (cond (awaits_login awaits) (nameless d) d))).out ≡ false
    by_quit true = refused_no r
    by_quit false = refl

late_in : (stage : Stage) (awaits : Awaits) (outcome : Result Item SubmitFault) → (settle_in awaits outcome (record { stage = stage; awaits = Nothing })).out ≡ Bye (answer_text Closing) → (awaits ≡ Outcome on.Remove) × (is_ok outcome ≡ true)
late_in stage Nothing (Ok item) is = no_yes _ refl is
late_in stage (Text wanted) (Ok item) is = no_yes _ refl is
late_in stage (Outcome (on.Enter u drop)) (Ok item) is = no_yes _ refl is
late_in stage (Outcome (on.Tell answer)) (Ok item) is = no_yes _ refl is
late_in stage (Outcome (on.Mark mailbox keys)) (Ok item) is = no_yes _ refl is
late_in stage (Outcome on.Remove) (Ok item) is = (refl, refl)
late_in stage awaits (Err fault) is = no_yes _ (undone_no stage awaits fault) is

pub not_before : (d : Dialog) (outcome : Result Item SubmitFault) → (settle d outcome).out ≡ Bye (answer_text Closing) → (d.awaits ≡ Outcome on.Remove) × (is_ok outcome ≡ true)
not_before d outcome is = late_in d.stage d.awaits outcome is
