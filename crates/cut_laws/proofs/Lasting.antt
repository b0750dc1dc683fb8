-- What lasts over a cut.
use Rattle.std.proofs.Common.{◌≡◌, ◌≢◌, ℕ, ◌==◌, Bool, true, false, cond, List, [], ◌∷◌, ◌++◌, drop, zero, suc, find, Option, Some, None, option_map, refl, sym, ap, ◌∙◌, subst, eqb-true, inl, inr, unwrap_or}
use Rattle.std.proofs.lemmas.List.{append-nil}
use Rattle.std.specs.Prelude.{◌⊎◌}
use Rattle.std.specs.Cmp.{first_so}
use Rattle.std.specs.List.{AllByRecursion, list_all}
use Rattle.std.specs.Ordering.{eq_by_cmp}
use Rattle.verb_core.specs.declared.item.Item.{Item}
use Rattle.verb_core.specs.declared.mailbox.Body.{Body}
use Rattle.verb_core.specs.declared.mailbox.BoxId.{BoxId}
use Rattle.verb_core.specs.declared.mailbox.Entry.{Entry}
use Rattle.verb_core.specs.declared.mailbox.Mailbox.{Mailbox}
use Rattle.verb_core.specs.Boxes.{row_at}
use Rattle.verb_core.specs.Items.{NumbersApart, text_of}
use Rattle.store_kept.specs.Founding.{names_body}
use Rattle.store_kept.specs.Kept.{Kept, body_cmp}
use Rattle.store_kept.specs.Texts.{items_behind, text_at_hand, text_before, text_kept}
use Rattle.store_kept.proofs.Bodies.{tied}
use Rattle.store_kept.proofs.Coming.{brings, comes_from, items_first, kept_at_hand, none_brings, text_found}
use Rattle.store_kept.proofs.Named.{all_of}
use Rattle.cycle_rules.specs.Cutting.{base_at, bodies_of, cut, texts_by, with_text_of}
use Rattle.mail_cycle.specs.Permanence.{UidsLast}
use Rattle.desk_journal.specs.Permanence.{IsSound, Message, entry_at, has_stamp, message_at, message_of}
use Rattle.time_desk.proofs.Messages.{found_among, row_has}
use Rattle.cut_laws.proofs.Cut.{found_put}

-- ---- messages

module _ (s : Kept) (place : ℕ) (alike : (body : Body) → names_body s.store.boxes body ≡ true → text_kept (cut s place) body ≡ text_kept s body) where
  same_message : (e : Entry) → names_body s.store.boxes e.body ≡ true → message_of (cut s place) e ≡ message_of s e
  same_message e there = λ j. record { key = e.key; text = alike e.body there j }

  -- the body of an entry that is found is named in the mailboxes
  named_here : (id : BoxId) (uid : ℕ) (box : Mailbox) (e : Entry) → row_at id s.store.boxes ≡ Some box → find (λ (x : Entry). x.uid == uid) box.entries ≡ Some e → names_body s.store.boxes e.body ≡ true
  named_here id uid box e here found =
      row_has (λ (r : BoxId × Mailbox). list_all (λ (x : Entry). names_body s.store.boxes x.body) r.1.entries)
      (λ (m : Mailbox). find (λ (x : Entry). x.uid == uid) m.entries ≡ Some e → names_body s.store.boxes e.body ≡ true)
      (λ r all at. found_among (λ (x : Entry). x.uid == uid) (λ (x : Entry). names_body s.store.boxes x.body) r.1.entries e all at)
      s.store.boxes id box (all_of (names_body s.store.boxes) s.store.boxes (λ body there. there)) here found

  same_under : (id : BoxId) (uid : ℕ) → option_map (message_of (cut s place)) (entry_at s id uid) ≡ option_map (message_of s) (entry_at s id uid)
  same_under id uid = by (row_at id s.store.boxes) refl
    where
      by_entry : (box : Mailbox) → row_at id s.store.boxes ≡ Some box → (o : Option Entry) → find (λ (e : Entry). e.uid == uid) box.entries ≡ o → option_map (message_of (cut s place)) o ≡ option_map (message_of s) o
      by_entry box here None found = refl
      by_entry box here (Some e) found = ap Some (same_message e (named_here id uid box e here found))

      by : (o : Option Mailbox) → row_at id s.store.boxes ≡ o
          → option_map (message_of (cut s place)) (find (λ (e : Entry). e.uid == uid) (unwrap_or (option_map (λ (b : Mailbox). b.entries) o) []))
          ≡ option_map (message_of s) (find (λ (e : Entry). e.uid == uid) (unwrap_or (option_map (λ (b : Mailbox). b.entries) o) []))
      by None here = refl
      by (Some box) here = by_entry box here (find (λ (e : Entry). e.uid == uid) box.entries) refl

  -- each stays under its UID, with its text
  pub messages_stay : (id : BoxId) (stamp uid : ℕ) → message_at (cut s place) id stamp uid ≡ message_at s id stamp uid
  messages_stay id stamp uid = ap (λ (o : Option Message). cond (has_stamp s id stamp) o None) (same_under id uid)

-- ---- texts

-- a text of items is theirs where one stands before them that has another number
behind_first : (i : Item) (t : List Item) (body : Body) (text : List ℕ) → AllByRecursion (λ (j : Item). i.number ≢ j.number) t → text_of t body ≡ Some text → text_of (i ∷ t) body ≡ Some text
behind_first i t body text apart e =
    elim (brings body i) as (λ b. brings body i ≡ b → text_found (cond b (Some i) (find (brings body) t)) ≡ Some text) [
      | true ↦ λ here.
          let number : i.number ≡ body.origin = eqb-true i.number body.origin (first_so _ _ (first_so _ _ here)) in
          let none : find (brings body) t ≡ None = none_brings body t (subst (λ (n : ℕ). AllByRecursion (λ (j : Item). n ≢ j.number) t) number apart) in
          absurd (let clash : None ≡ Some text = sym (ap text_found none) ∙ e in cc clash)
      | false ↦ λ other. e
    ] refl

later_text : (n : ℕ) (t : List Item) (body : Body) (text : List ℕ) → NumbersApart t → text_of (drop n t) body ≡ Some text → text_of t body ≡ Some text
later_text zero t body text apart e = e
later_text (suc n) [] body text apart e = e
later_text (suc n) (i ∷ t) body text apart e = behind_first i t body text apart.0 (later_text n t body text apart.1 e)

told_here : (told : Body → Option (List ℕ)) (body b : Body) (other text : List ℕ) (rest : Option (List ℕ)) → told b ≡ Some other → (rest ≡ Some text → told body ≡ Some text) → (t : Bool) → eq_by_cmp body_cmp body b ≡ t
    → cond t (Some other) rest ≡ Some text → told body ≡ Some text
told_here told body b other text rest own behind true e is = ap told (tied body b e) ∙ own ∙ is
told_here told body b other text rest own behind false e is = behind is

-- a text that bodies have is the one that was told
told_by : (told : Body → Option (List ℕ)) (bodies : List Body) (body : Body) (text : List ℕ) → text_before (texts_by told bodies) body ≡ Some text → told body ≡ Some text
told_by told [] body text is = absurd (cc is)
told_by told (b ∷ bodies) body text is = by (told_by told bodies body text) (told b) refl is
  where
    by : (text_before (texts_by told bodies) body ≡ Some text → told body ≡ Some text) → (o : Option (List ℕ)) → told b ≡ o → text_before (with_text_of b o (texts_by told bodies)) body ≡ Some text → told body ≡ Some text
    by rest None none is = rest is
    by rest (Some other) own is =
        told_here told body b other text (text_before (texts_by told bodies) body) own rest (eq_by_cmp body_cmp body b) refl (sym (found_put body b other (texts_by told bodies)) ∙ is)

-- a text that is at hand behind a cut was at hand before
text_lasts : (s : Kept) (place : ℕ) → IsSound s → (body : Body) (text : List ℕ) → text_at_hand (cut s place) body ≡ Some text → text_at_hand s body ≡ Some text
text_lasts s place sound body text e = of (comes_from (cut s place).texts (drop place s.timeline ++ []) body text e)
  where
    of : (text_of (drop place s.timeline ++ []) body ≡ Some text) ⊎ ((find (brings body) (drop place s.timeline ++ []) ≡ None) × (text_before (cut s place).texts body ≡ Some text)) → text_at_hand s body ≡ Some text
    of (inl own) =
        items_first s.texts s.timeline (items_behind s.undone) body text
        (later_text place s.timeline body text sound.timeline.apart (ap (λ (t : List Item). text_of t body) (sym (append-nil (drop place s.timeline))) ∙ own))
    of (inr before) = kept_at_hand s body text sound.undone (told_by (text_kept s) (bodies_of (base_at s place).boxes) body text before.1)

-- what a client knows by UID lasts
pub lasts_cut : (s : Kept) (place : ℕ) → IsSound s → UidsLast s s → UidsLast s (cut s place)
lasts_cut s place sound itself = record { next = itself.next; stamps = itself.stamps; texts = λ body text number rev e. text_lasts s place sound body text e }
