-- A turn of a session of a user, over two stores in use that agree on that user.
use Rattle.std.proofs.Common.{◌≡◌, ℕ, ◌+◌, ◌++◌, Bool, true, List, [], Option, Some, Result, refl, ap, ap₂, sym, subst, ◌∙◌}
use Rattle.std.specs.List.{list_all}
use Rattle.undo_base.specs.declared.keys.User.{User}
use Rattle.seal_log.specs.declared.fault.ReadFault.{ReadFault}
use Rattle.verb_core.specs.declared.ask.SubmitFault.{SubmitFault}
use Rattle.verb_core.specs.declared.conf.House.{House}
use Rattle.verb_core.specs.declared.item.Item.{Item}
use Rattle.verb_core.specs.declared.mailbox.Body.{Body}
use Rattle.verb_core.specs.declared.mailbox.BoxId.{BoxId}
use Rattle.verb_core.specs.Live.{is_users}
use Rattle.verb_bytes.specs.declared.journal.JournalRecord.{JournalRecord}
use Rattle.desk_journal.specs.Reading.{Reads}
use Rattle.store_kept.specs.Kept.{Kept, store_of}
use Rattle.mail_loop.specs.declared.out.Out.{Out}
use Rattle.mail_loop.specs.declared.out.Out.TheVariants.{Bye, Read, Say, Submit}
use Rattle.mail_loop.specs.Afterwards.{gone_between}
use Rattle.mail_loop.specs.Asked.{Asked}
use Rattle.mail_loop.specs.Hindrance.{Hindrance, Service, under}
use Rattle.mail_loop.specs.Session.{Speech, Took, behind, done, followed, pursued, pursued_as, settled, settled_as, submits}
use Rattle.mail_loop.specs.Turn.{Turn, ends, reading, says}
use Rattle.mail_loop.specs.TurnCounts.{wanting}
use Rattle.privacy_laws.specs.Agreeing.{Agree, is_alike}
use Rattle.privacy_laws.proofs.Asking.{SameAsked}
use Rattle.privacy_laws.proofs.Services.{Alike, SameService, same_lost, same_row}

-- what is asked is asked by a user, of whose dialog this holds
abbrev pub AsksOwn : {D : Type 0} → (D → Type 0) → Out → D → Type 0
AsksOwn Q (Say said) d = Unit {0}
AsksOwn Q (Read bodies) d = Unit {0}
AsksOwn Q (Submit asked) d = Q d × (is_users asked ≡ true)
AsksOwn Q (Bye said) d = Unit {0}

-- and what is to be read is alike
abbrev pub WantsOwn : {D : Type 0} → (D → Type 0) → (Body → Bool) → Out → D → Type 0
WantsOwn Q test (Say said) d = Unit {0}
WantsOwn Q test (Read bodies) d = Q d × (list_all test bodies ≡ true)
WantsOwn Q test (Submit asked) d = Q d × (is_users asked ≡ true)
WantsOwn Q test (Bye said) d = Unit {0}

-- A dialog of which Q holds is the user's. It is told the same of an outcome where stores in use agree on the user, and asks for the user alone. What
-- holds of the dialogs of the user's connections, P, holds of it then.
pub record OwnSpeech {D : Type 0} (speech : Speech D) (h : House) (u : User) (Q P : D → Type 0) : Type 0 where
  pub user : (d : D) → Q d → speech.user d ≡ Some u
  pub settles : (k l : Kept) → Agree h u k l → (d : D) → Q d → (outcome : Result Item SubmitFault) → speech.settle (store_of k) k.stamps d outcome ≡ speech.settle (store_of l) l.stamps d outcome
  pub further : (k : Kept) (d : D) → Q d → (outcome : Result Item SubmitFault) → AsksOwn Q (speech.settle (store_of k) k.stamps d outcome).out (speech.settle (store_of k) k.stamps d outcome).dialog
  pub left : (k : Kept) (d : D) → Q d → (outcome : Result Item SubmitFault) → P (speech.settle (store_of k) k.stamps d outcome).dialog
  pub hears : (d : D) → Q d → (texts : Result (List (List ℕ)) ReadFault) → AsksOwn Q (speech.heard d texts).out (speech.heard d texts).dialog
  pub left_heard : (d : D) → Q d → (texts : Result (List (List ℕ)) ReadFault) → P (speech.heard d texts).dialog

module _ {D : Type 0} (speech : Speech D) (h : House) (u : User) (Q P : D → Type 0) (own : OwnSpeech speech h u Q P) where
  same_says : (k l : Kept) → Agree h u k l → (said : List ℕ) (d : D) → P d → Alike P (Agree h u) (says said k d) (says said l d)
  same_says k l a said d mine = record { same = record { said = refl; dialog = refl; gone = refl; unsealed = refl; counts = refl; kept = a }; mine = mine }

  same_ends : (k l : Kept) → Agree h u k l → (said : List ℕ) → Alike P (Agree h u) (ends said k) (ends said l)
  same_ends k l a said = record { same = record { said = refl; dialog = refl; gone = refl; unsealed = refl; counts = refl; kept = a }; mine = tt }

  -- ---- an outcome

  as_settled : (out : Out) (k l : Kept) (x y : Asked) → SameAsked h u k l x y → (d : D) → P d
      → Alike P (Agree h u) (record (settled_as out x.kept d) { unsealed = x.unsealed; counts = wanting x.out_of_memory }) (record (settled_as out y.kept d) { unsealed = y.unsealed; counts = wanting y.out_of_memory })
  as_settled (Say said) k l x y s d mine = record { same = record { said = refl; dialog = refl; gone = refl; unsealed = s.unsealed; counts = ap wanting s.out_of_memory; kept = s.kept }; mine = mine }
  as_settled (Bye said) k l x y s d mine = record { same = record { said = refl; dialog = refl; gone = refl; unsealed = s.unsealed; counts = ap wanting s.out_of_memory; kept = s.kept }; mine = tt }
  as_settled (Read bodies) k l x y s d mine = record { same = record { said = refl; dialog = refl; gone = refl; unsealed = s.unsealed; counts = ap wanting s.out_of_memory; kept = s.kept }; mine = mine }
  as_settled (Submit asked) k l x y s d mine = record { same = record { said = refl; dialog = refl; gone = refl; unsealed = s.unsealed; counts = ap wanting s.out_of_memory; kept = s.kept }; mine = mine }

  settle_same : (k l : Kept) (d : D) → Q d → (x y : Asked) → SameAsked h u k l x y → speech.settle (store_of x.kept) x.kept.stamps d x.outcome ≡ speech.settle (store_of y.kept) y.kept.stamps d y.outcome
  settle_same k l d user x y s = own.settles x.kept y.kept s.kept d user x.outcome ∙ ap (λ (r : Result Item SubmitFault). speech.settle (store_of y.kept) y.kept.stamps d r) s.outcome

  same_settled : (k l : Kept) (d : D) → Q d → (x y : Asked) → SameAsked h u k l x y → Alike P (Agree h u) (settled speech d x) (settled speech d y)
  same_settled k l d user x y s =
      let t : Took D = speech.settle (store_of x.kept) x.kept.stamps d x.outcome in
      subst (λ (w : Took D). Alike P (Agree h u) (settled speech d x) (record (settled_as w.out y.kept w.dialog) { unsealed = y.unsealed; counts = wanting y.out_of_memory })) (settle_same k l d user x y s)
      (as_settled t.out k l x y s t.dialog (own.left x.kept d user x.outcome))

  same_done : (k l : Kept) (d : D) → Q d → (x y : Asked) → SameAsked h u k l x y → Alike P (Agree h u) (done speech k d x) (done speech l d y)
  same_done k l d user x y s =
      let g = same_settled k l d user x y s in
      record { same = record { said = g.same.said; dialog = g.same.dialog; gone = s.gone; unsealed = g.same.unsealed; counts = g.same.counts; kept = g.same.kept }; mine = g.mine }

  -- ---- a further ask

  same_behind : (k l : Kept) (x y : Asked) → SameAsked h u k l x y → (s t : Turn D) → Alike P (Agree h u) s t → Alike P (Agree h u) (behind (gone_between k x.kept) x.unsealed x.out_of_memory s) (behind (gone_between l y.kept) y.unsealed y.out_of_memory t)
  same_behind k l x y same s t g = record {
    same = record {
      said = g.same.said;
      dialog = g.same.dialog;
      gone = ap₂ (λ (r q : List BoxId). r ++ q) same.gone g.same.gone;
      unsealed = ap₂ (λ (r q : List JournalRecord). r ++ q) same.unsealed g.same.unsealed;
      counts = λ j. record { reads = (g.same.counts j).reads; out_of_memory = same.out_of_memory j + (g.same.counts j).out_of_memory };
      kept = g.same.kept;
    };
    mine = g.mine;
  }

  same_under : (k l : Kept) → Agree h u k l → (i g : Hindrance) → i ≡ g → (at at' : ℕ) → at ≡ at' → (turn turn' : Service → Turn D)
      → ((x y : Service) → SameService h u k l x y → Alike P (Agree h u) (turn x) (turn' y)) → Alike P (Agree h u) (under i at k turn) (under g at' l turn')
  same_under k l a i g same at at' moment turn turn' f =
      subst (λ (e : Hindrance). Alike P (Agree h u) (under i at k turn) (under e at' l turn')) same
      (subst (λ (n : ℕ). Alike P (Agree h u) (under i at k turn) (under i n l turn')) moment (same_row h u k l a P i at _ _ turn turn' (same_lost h u k l a P) f))

  same_pursued_as : (k l : Kept) (a b : Service) → a.at ≡ b.at → a.further ≡ b.further → (d : D) → Q d → (x y : Asked) → SameAsked h u k l x y
      → (out : Out) (e : D) → AsksOwn Q out e → Alike P (Agree h u) (pursued_as speech a k d x out e) (pursued_as speech b l d y out e)
  same_pursued_as k l a b at further d user x y s (Say said) e asks = same_done k l d user x y s
  same_pursued_as k l a b at further d user x y s (Read bodies) e asks = same_done k l d user x y s
  same_pursued_as k l a b at further d user x y s (Bye said) e asks = same_done k l d user x y s
  same_pursued_as k l a b at further d user x y s (Submit asked) e asks =
      same_behind k l x y s _ _ (same_under x.kept y.kept s.kept a.further b.further further a.at b.at at
      (λ later. done speech x.kept e (later.asked (speech.user e) asked)) (λ later. done speech y.kept e (later.asked (speech.user e) asked))
      (λ p q serves. same_done x.kept y.kept e asks.0 _ _ (asked_by p q serves)))
    where
      asked_by : (p q : Service) → SameService h u x.kept y.kept p q → SameAsked h u x.kept y.kept (p.asked (speech.user e) asked) (q.asked (speech.user e) asked)
      asked_by p q serves = subst (λ (o : Option User). SameAsked h u x.kept y.kept (p.asked o asked) (q.asked o asked)) (sym (own.user e asks.0)) (serves.asked asked asks.1)

  same_pursued : (k l : Kept) (a b : Service) → a.at ≡ b.at → a.further ≡ b.further → (d : D) → Q d → (x y : Asked) → SameAsked h u k l x y
      → Alike P (Agree h u) (pursued speech a k d x) (pursued speech b l d y)
  same_pursued k l a b at further d user x y s =
      let t : Took D = speech.settle (store_of x.kept) x.kept.stamps d x.outcome in
      subst (λ (w : Took D). Alike P (Agree h u) (pursued speech a k d x) (pursued_as speech b l d y w.out w.dialog)) (settle_same k l d user x y s)
      (same_pursued_as k l a b at further d user x y s t.out t.dialog (own.further x.kept d user x.outcome))

  -- ---- what a dialog gives

  same_submits : (k l : Kept) → Agree h u k l → (a b : Service) → SameService h u k l a b → (out : Out) (d : D) → P d → AsksOwn Q out d → Alike P (Agree h u) (submits speech a k out d) (submits speech b l out d)
  same_submits k l agree a b s (Say said) d mine asks = same_says k l agree said d mine
  same_submits k l agree a b s (Bye said) d mine asks = same_ends k l agree said
  same_submits k l agree a b s (Read bodies) d mine asks = same_says k l agree [] d mine
  same_submits k l agree a b s (Submit asked) d mine asks =
      same_pursued k l a b s.at s.further d asks.0 _ _ (subst (λ (o : Option User). SameAsked h u k l (a.asked o asked) (b.asked o asked)) (sym (own.user d asks.0)) (s.asked asked asks.1))

  same_reading : (r q : Reads) → r ≡ q → (s t : Turn D) → Alike P (Agree h u) s t → Alike P (Agree h u) (reading r s) (reading q t)
  same_reading r q same s t g = record {
    same = record {
      said = g.same.said;
      dialog = g.same.dialog;
      gone = g.same.gone;
      unsealed = g.same.unsealed;
      counts = λ j. record { reads = same j; out_of_memory = (g.same.counts j).out_of_memory };
      kept = g.same.kept;
    };
    mine = g.mine;
  }

  pub same_followed : (k l : Kept) → Agree h u k l → (a b : Service) → SameService h u k l a b → (out : Out) (d : D) → P d → WantsOwn Q (is_alike k l) out d
      → Alike P (Agree h u) (followed speech a k out d) (followed speech b l out d)
  same_followed k l agree a b s (Say said) d mine wants = same_says k l agree said d mine
  same_followed k l agree a b s (Bye said) d mine wants = same_ends k l agree said
  same_followed k l agree a b s (Submit asked) d mine wants =
      same_pursued k l a b s.at s.further d wants.0 _ _ (subst (λ (o : Option User). SameAsked h u k l (a.asked o asked) (b.asked o asked)) (sym (own.user d wants.0)) (s.asked asked wants.1))
  same_followed k l agree a b s (Read bodies) d mine wants =
      let t : Took D = speech.heard d (a.texts bodies) in
      same_reading (a.reads bodies) (b.reads bodies) (s.reads bodies wants.1) _ _
      (subst (λ (r : Result (List (List ℕ)) ReadFault). Alike P (Agree h u) (submits speech a k t.out t.dialog) (submits speech b l (speech.heard d r).out (speech.heard d r).dialog)) (s.texts bodies wants.1)
      (same_submits k l agree a b s t.out t.dialog (own.left_heard d wants.0 (a.texts bodies)) (own.hears d wants.0 (a.texts bodies))))
