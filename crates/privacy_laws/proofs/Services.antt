-- What the desk serves where two stores in use agree on a user: the same texts of that user's mail, and the same of what that user asks.
use Rattle.std.proofs.Common.{◌≡◌, ℕ, true, cond, List, Option, None, Some, Ok, Err, refl, ap}
use Rattle.std.specs.List.{list_all}
use Rattle.std.specs.Prelude.{IfSome}
use Rattle.undo_base.specs.declared.keys.User.{User}
use Rattle.seal_log.specs.declared.fault.ReadFault.{ReadFault}
use Rattle.seal_log.specs.declared.fault.ReadFault.TheVariants.{Disk, NoMemory}
use Rattle.verb_core.specs.declared.ask.Ask.{Ask}
use Rattle.verb_core.specs.declared.conf.House.{House}
use Rattle.verb_core.specs.declared.mailbox.Body.{Body}
use Rattle.verb_core.specs.Live.{is_users}
use Rattle.desk_journal.specs.Reading.{failed_once, none_read, wrong_once}
use Rattle.store_kept.specs.Kept.{Kept}
use Rattle.mail_loop.specs.Hindrance.{Clear, Halfway, Hindrance, Misled, Misread, Refused, Service, Textless, Unanswered, Unheard, Unread, UnreadRefused, UnreadUnheard, Unsealed, Unstored, Untold, Unwritten, UnwrittenUnheard, halfway, misread, row, service, stopped, unread_for, without_items, without_seals, without_texts, without_writes}
use Rattle.mail_loop.specs.Turn.{Turn, lost, unanswered}
use Rattle.privacy_laws.specs.Agreeing.{Agree, is_alike}
use Rattle.privacy_laws.specs.Told.{SameTurn}
use Rattle.privacy_laws.proofs.Asking.{SameAsked, same_does, same_fails, same_unwritten, same_wanting}
use Rattle.privacy_laws.proofs.Texts.{alike_memory, alike_some, alike_texts}

-- two desks serve the same to a user
pub record SameService (h : House) (u : User) (k l : Kept) (a b : Service) : Type 0 where
  pub texts : (bodies : List Body) → list_all (is_alike k l) bodies ≡ true → a.texts bodies ≡ b.texts bodies
  pub reads : (bodies : List Body) → list_all (is_alike k l) bodies ≡ true → a.reads bodies ≡ b.reads bodies
  pub asked : (ask : Ask) → is_users ask ≡ true → SameAsked h u k l (a.asked (Some u) ask) (b.asked (Some u) ask)
  pub at : a.at ≡ b.at
  pub further : a.further ≡ b.further

-- two turns are the same, and of the dialog after them this holds
pub record Alike {D : Type 0} (P : D → Type 0) (R : Kept → Kept → Type 0) (s t : Turn D) : Type 0 where
  pub same : SameTurn R s t
  pub mine : IfSome s.dialog P

-- what holds of each dialog
pub if_some : {D : Type 0} (P Q : D → Type 0) → ((d : D) → P d → Q d) → (o : Option D) → IfSome o P → IfSome o Q
if_some P Q to None mine = tt
if_some P Q to (Some d) mine = to d mine

pub if_both : {D : Type 0} (P Q : D → Type 0) (o : Option D) → IfSome o P → IfSome o Q → IfSome o (λ d. P d × Q d)
if_both P Q None one other = tt
if_both P Q (Some d) one other = (one, other)

module _ (h : House) (u : User) (k l : Kept) (a : Agree h u k l) where
  -- ---- each desk

  plain : (at : ℕ) → SameService h u k l (service at k) (service at l)
  plain at = record {
    texts = λ bodies all. ap Ok (alike_texts k l bodies all);
    reads = λ bodies all. refl;
    asked = λ ask users. same_does h u k l a at ask users;
    at = refl;
    further = refl;
  }

  textless : (x y : Service) → SameService h u k l x y → SameService h u k l (without_texts x) (without_texts y)
  textless x y s = record { texts = λ bodies all. refl; reads = s.reads; asked = s.asked; at = s.at; further = s.further }

  unread_alike : (why : ReadFault) (x y : Service) → SameService h u k l x y → SameService h u k l (unread_for why k x) (unread_for why l y)
  unread_alike why x y s = record {
    texts = λ bodies all. λ j. cond (alike_some k l bodies all j) (Err why) (s.texts bodies all j);
    reads = λ bodies all. λ j. cond (alike_some k l bodies all j) failed_once (s.reads bodies all j);
    asked = s.asked;
    at = s.at;
    further = s.further;
  }

  misread_alike : (texts : List (List ℕ)) (x y : Service) → SameService h u k l x y → SameService h u k l (misread k texts x) (misread l texts y)
  misread_alike texts x y s = record {
    texts = λ bodies all. λ j. Ok (cond (alike_some k l bodies all j) (alike_memory k l bodies texts all j) (alike_texts k l bodies all j));
    reads = λ bodies all. λ j. cond (alike_some k l bodies all j) wrong_once none_read;
    asked = s.asked;
    at = s.at;
    further = s.further;
  }

  itemless : (x y : Service) → SameService h u k l x y → SameService h u k l (without_items k x) (without_items l y)
  itemless x y s = record { texts = s.texts; reads = s.reads; asked = λ ask users. same_wanting h u k l a 0 ask users; at = s.at; further = s.further }

  writeless : (x y : Service) → SameService h u k l x y → SameService h u k l (without_writes k x) (without_writes l y)
  writeless x y s = record { texts = s.texts; reads = s.reads; asked = λ ask users. same_unwritten h u k l a 0 ask users; at = s.at; further = s.further }

  sealless : (at : ℕ) (x y : Service) → SameService h u k l x y → SameService h u k l (without_seals at k x) (without_seals at l y)
  sealless at x y s = record { texts = s.texts; reads = s.reads; asked = λ ask users. same_fails h u k l a at ask users; at = s.at; further = s.further }

  going_further : (i : Hindrance) (x y : Service) → SameService h u k l x y → SameService h u k l (halfway i x) (halfway i y)
  going_further i x y s = record { texts = s.texts; reads = s.reads; asked = s.asked; at = s.at; further = refl }

  stopping : (x y : Service) → SameService h u k l x y → SameService h u k l (stopped x) (stopped y)
  stopping x y s = record { texts = s.texts; reads = s.reads; asked = s.asked; at = s.at; further = refl }

  -- ---- each hindrance

  module _ {D : Type 0} (P : D → Type 0) where
    -- the connection closes
    pub same_lost : Alike P (Agree h u) (lost k) (lost l)
    same_lost = record { same = record { said = refl; dialog = refl; gone = refl; unsealed = refl; counts = refl; kept = a }; mine = tt }

    silent : (s t : Turn D) → Alike P (Agree h u) s t → Alike P (Agree h u) (unanswered s) (unanswered t)
    silent s t g = record { same = record { said = refl; dialog = refl; gone = g.same.gone; unsealed = g.same.unsealed; counts = g.same.counts; kept = g.same.kept }; mine = tt }

    -- a turn that is the same over desks that serve the same is the same, whatever hinders it
    pub same_row : (i : Hindrance) (at : ℕ) (told told' : Turn D) (turn turn' : Service → Turn D) → Alike P (Agree h u) told told' → ((x y : Service) → SameService h u k l x y → Alike P (Agree h u) (turn x) (turn' y))
        → Alike P (Agree h u) (row i at k told turn).follows (row i at l told' turn').follows
    same_row Clear at told told' turn turn' t f = f _ _ (plain at)
    same_row Refused at told told' turn turn' t f = t
    same_row Textless at told told' turn turn' t f = f _ _ (textless _ _ (plain at))
    same_row Unread at told told' turn turn' t f = f _ _ (unread_alike Disk _ _ (plain at))
    same_row UnreadRefused at told told' turn turn' t f = f _ _ (unread_alike NoMemory _ _ (plain at))
    same_row UnreadUnheard at told told' turn turn' t f = silent _ _ (f _ _ (stopping _ _ (unread_alike Disk _ _ (plain at))))
    same_row (Misread texts i) at told told' turn turn' t f =
        same_row i at (lost k) (lost l) (λ desk. turn (misread k texts desk)) (λ desk. turn' (misread l texts desk)) same_lost (λ x y s. f _ _ (misread_alike texts x y s))
    same_row (Misled said left) at told told' turn turn' t f = f _ _ (plain at)
    same_row Unstored at told told' turn turn' t f = f _ _ (itemless _ _ (plain at))
    same_row Unheard at told told' turn turn' t f = same_lost
    same_row Unanswered at told told' turn turn' t f = silent _ _ (f _ _ (stopping _ _ (plain at)))
    same_row Unsealed at told told' turn turn' t f = f _ _ (sealless at _ _ (plain at))
    same_row Untold at told told' turn turn' t f = silent _ _ (f _ _ (stopping _ _ (sealless at _ _ (plain at))))
    same_row Unwritten at told told' turn turn' t f = f _ _ (writeless _ _ (plain at))
    same_row UnwrittenUnheard at told told' turn turn' t f = silent _ _ (f _ _ (stopping _ _ (writeless _ _ (plain at))))
    same_row (Halfway i) at told told' turn turn' t f = f _ _ (going_further i _ _ (plain at))
