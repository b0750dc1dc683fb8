-- What a client that joins leaves.
use Rattle.std.specs.Prelude.{IfOk}
use Rattle.std.proofs.Common.{◌≡◌, ℕ, Bool, true, false, List, [], ◌∷◌, Option, None, Some, is_some, Ok, Err, Result, refl, ap, subst, sym, ◌∙◌}
use Rattle.std.proofs.lemmas.Map.Views.{All-values-insert_entry}
use Rattle.std.specs.Ordering.{nat_cmp}
use Rattle.undo_base.specs.declared.memory.NoMemory.{NoMemory as WantOfMemory}
use Rattle.verb_core.specs.declared.conf.House.{House}
use Rattle.store_kept.specs.Kept.{Kept}
use Rattle.mail_loop.specs.TurnCounts.{none_counted}
use Rattle.undo_outside.specs.declared.event.Role.{Role}
use Rattle.undo_outside.specs.declared.event.Role.TheVariants as role
use Rattle.mail_loop.specs.State.{Seat, Seats, State}
use Rattle.mail_loop.specs.Roles.{row_of}
use Rattle.mail_loop.specs.ConsoleTurn.{no_consoles}
use Rattle.mail_loop.specs.Machine.{Answered, Reply, admits, admitted, joins, ungreeted, with_new_seat}
use Rattle.mail_loop.specs.Did.{Answers, Opens}
use Rattle.mail_loop.specs.Stands.{AreHome, IsHome}
use Rattle.mail_loop.specs.Took.{IsNone}

-- a seat more, and these replies
abbrev pub with_replies : Kept → Seats → ℕ → Seat → List Reply → Answered
with_replies kept es conn seat replies =
    record { state = record { kept = kept; seats = with_new_seat conn seat es }; replies = replies; unsealed = []; counts = none_counted; consoles = no_consoles }

-- a client was admitted, and this is said; or memory was wanted
pub opened_with : {T : Type 0} (a : Answered) (kept : Kept) (es es' : Seats) (conn : ℕ) (seat : Seat) (replies : List Reply) (view : T → List Reply) (result : Result T WantOfMemory)
    → a ≡ with_replies kept es conn seat replies → Opens conn seat replies es es' view result
    → Answers IsNone a kept es' view (λ _. false) result
opened_with a kept es es' conn seat replies view (Ok letters) is opens =
    subst (λ (x : Answered). Answers IsNone x kept es' view (λ _. false) (Ok letters)) (sym is) ((refl, opens.0, opens.1, refl), (refl, refl), tt)
opened_with {T} a kept es es' conn seat replies view (Err e) is opens =
    subst (λ (x : Answered). Answers IsNone x kept es' view (λ _. false) (Err e)) (sym is) ((refl, refl, refl), (refl, refl), tt)

-- memory was wanted for what is said
pub unopened : {T : Type 0} (a : Answered) (kept : Kept) (es : Seats) (conn : ℕ) (seat : Seat) (replies : List Reply) (view : T → List Reply) (e : WantOfMemory) (result : Result T WantOfMemory)
    → result ≡ Err e → a ≡ with_replies kept es conn seat replies → Answers IsNone a kept es view (λ _. false) result
unopened {T} a kept es conn seat replies view e result wants is =
    opened_with a kept es es conn seat replies view result is (subst (λ (r : Result T WantOfMemory). Opens conn seat replies es es view r) (sym wants) tt)

-- the replies, as they are
pub tells_as : {T : Type 0} (conn : ℕ) (seat : Seat) (said replies : List Reply) (es es' : Seats) (view : T → List Reply) (result : Result T WantOfMemory)
    → said ≡ replies → Opens conn seat said es es' view result → Opens conn seat replies es es' view result
tells_as conn seat said replies es es' view (Ok letters) tells opens = (opens.0, opens.1 ∙ tells)
tells_as conn seat said replies es es' view (Err e) tells opens = tt

-- each who is logged in is known still
pub home_opened : (house : House) (conn : ℕ) (seat : Seat) (es es' : Seats) → es' ≡ with_new_seat conn seat es → IsHome house seat → AreHome house es → AreHome house es'
home_opened house conn seat es es' entered home held =
    subst (λ (l : Seats). AreHome house l) (sym entered) (All-values-insert_entry nat_cmp conn seat (IsHome house) es held home)

-- at first nobody is logged in
pub fresh_home : (house : House) (role : Role) → IsHome house (row_of role).fresh
fresh_home house role.Smtp = tt
fresh_home house role.Imap = refl
fresh_home house role.Http = tt
fresh_home house role.Pop = refl

-- no memory was found for a greeting: it is left out, and the connection is to be closed
pub left_ungreeted : {T : Type 0} (a : Answered) (kept : Kept) (es : Seats) (conn : ℕ) (reply : Reply) (view : T → List Reply) (result : Result T WantOfMemory)
    → a ≡ ungreeted (record { kept = kept; seats = es }) conn → reply ≡ record { conn = conn; said = []; closes = true } → IfOk result (λ letters. view letters ≡ reply ∷ [])
    → Answers IsNone a kept es view (λ _. false) result
left_ungreeted a kept es conn reply view (Ok letters) is none one =
    subst (λ (x : Answered). Answers IsNone x kept es view (λ _. false) (Ok letters)) (sym is) ((refl, refl, one ∙ ap (λ (r : Reply). r ∷ []) none, refl), (refl, refl), tt)
left_ungreeted {T} a kept es conn reply view (Err e) is none one =
    subst (λ (x : Answered). Answers IsNone x kept es view (λ _. false) (Err e)) (sym is) ((refl, refl, refl), (refl, refl), tt)

-- of a role that greets
pub out_of_memory_greeting : (s : State) (conn : ℕ) (seat : Seat) (greeting : Option (List ℕ)) → is_some greeting ≡ true → admitted true s conn seat greeting ≡ ungreeted s conn
out_of_memory_greeting s conn seat (Some text) is = refl
out_of_memory_greeting s conn seat None wrong = absurd (let w : false ≡ true = wrong in cc)

-- on a connection that is open nothing is done
pub ignored_open : {T : Type 0} (seat : Option Seat) (role : Role) (kept : Kept) (es : Seats) (conn : ℕ) (view : T → List Reply) (letters : T) → is_some seat ≡ true → view letters ≡ []
    → Answers IsNone (joins seat false role (record { kept = kept; seats = es }) conn) kept es view (λ _. false) (Ok letters)
ignored_open None role kept es conn view letters wrong none = absurd (let w : false ≡ true = wrong in cc)
ignored_open (Some seat) role kept es conn view letters is none = ((refl, refl, none, refl), (refl, refl), tt)

-- where it is not open the client is admitted
pub admitted_shut : {T : Type 0} (seat : Option Seat) (no_memory : Bool) (role : Role) (kept : Kept) (es es' : Seats) (conn : ℕ) (view : T → List Reply) (result : Result T WantOfMemory) → is_some seat ≡ false
    → Answers IsNone (admits no_memory role (record { kept = kept; seats = es }) conn) kept es' view (λ _. false) result
    → Answers IsNone (joins seat no_memory role (record { kept = kept; seats = es }) conn) kept es' view (λ _. false) result
admitted_shut None no_memory role kept es es' conn view result is answers = answers
admitted_shut (Some seat) no_memory role kept es es' conn view result wrong answers = absurd (let w : true ≡ false = wrong in cc)
