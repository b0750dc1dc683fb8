-- What a turn of others does to what is kept: it performs items, one behind the other, none of them the user's own, and takes none of the user's mailboxes.
use Rattle.std.proofs.Common.{◌≡◌, ◌⊎◌, inl, inr, ℕ, Bool, true, false, ◌||◌, cond, true≢false, bytes_eq, filter, List, [], ◌∷◌, ◌++◌, Option, None, Some, Result, Ok, Err, refl, ap, sym, subst, ◌∙◌, arith}
use Rattle.std.specs.Cmp.{first_so}
use Rattle.std.specs.List.{AllByRecursion}
use Rattle.undo_base.specs.declared.keys.User.{User}
use Rattle.seal_log.specs.declared.fault.ReadFault.{ReadFault}
use Rattle.verb_core.specs.declared.ask.Ask.{Ask}
use Rattle.verb_core.specs.declared.ask.Ask.TheVariants.{Deliver, Delete, Rename}
use Rattle.verb_core.specs.declared.ask.Refused.{Refused}
use Rattle.verb_core.specs.declared.ask.SubmitFault.{SubmitFault}
use Rattle.verb_core.specs.declared.conf.House.{House}
use Rattle.verb_core.specs.declared.item.Item.{Item}
use Rattle.verb_core.specs.declared.mailbox.BoxId.{BoxId}
use Rattle.verb_core.specs.Boxes.{is_at_or_below, same_user}
use Rattle.verb_core.specs.Items.{IsWellFormed, actor, is_own}
use Rattle.verb_core.specs.Live.{answered, asked_item, is_users, live}
use Rattle.verb_core.specs.Names.{inbox, is_empty, is_inferior}
use Rattle.verb_core.specs.Store.{is_known}
use Rattle.verb_core.proofs.Moves.{same_user-is}
use Rattle.store_kept.specs.Kept.{Kept, Marks, entered, performed, snapshotted, store_of}
use Rattle.mail_desk.specs.Desk.{IsDesk, submitted_as}
use Rattle.mail_loop.specs.declared.out.Out.{Out}
use Rattle.mail_loop.specs.declared.out.Out.TheVariants.{Bye, Read, Say, Submit}
use Rattle.mail_loop.specs.Afterwards.{gone_between}
use Rattle.mail_loop.specs.Asked.{Asked, does, unsealed_as}
use Rattle.mail_loop.specs.Hindrance.{Clear, Halfway, Hindrance, Misled, Misread, Refused as NoUnit, Service, Textless, Unanswered, Unheard, Unread, UnreadRefused, UnreadUnheard, Unsealed, Unstored, Untold, Unwritten, UnwrittenUnheard, halfway, misread, row, service, stopped, under, unread, unread_unsaid, without_items, without_seals, without_texts, without_writes}
use Rattle.mail_loop.specs.Session.{Speech, done, followed, pursued, pursued_as, settled_as, submits}
use Rattle.mail_loop.specs.Took.{all_boxes, taken_by, taken_of}
use Rattle.mail_loop.specs.Turn.{Turn, lost}
use Rattle.mail_loop.proofs.Taken.{none_gone_of, taken_if_done}
use Rattle.privacy_laws.specs.Others.{CanFollow, all_performed}
use Rattle.privacy_laws.specs.Senders.{Mail, delivery_of}
use Rattle.privacy_laws.specs.Steps.{AreFollowing, IsNotOf}
use Rattle.privacy_laws.proofs.Asking.{IsLive, below_last, is_live, item_formed, its_actor}
use Rattle.privacy_laws.proofs.Mails.{none_gone}
use Rattle.privacy_laws.proofs.Alongside.{snapped_desk}
use Rattle.privacy_laws.proofs.Steps.{goes_on}

-- ---- items, one behind the other

pub performed_behind : (k : Kept) (is js : List Item) → all_performed (all_performed k is) js ≡ all_performed k (is ++ js)
performed_behind k [] js = refl
performed_behind k (i ∷ is) js = performed_behind (performed k i) is js

-- the marks of snapshots are aside
pub marks_aside : (k : Kept) (m : Marks) (is : List Item) → all_performed (record k { marks = m }) is ≡ record (all_performed k is) { marks = (all_performed (record k { marks = m }) is).marks }
marks_aside k m [] = refl
marks_aside k m (i ∷ is) = marks_aside (performed k i) (entered 1 m) is

pub following_aside : (house : House) (k : Kept) (m : Marks) (is : List Item) → AreFollowing house (record k { marks = m }) is → AreFollowing house k is
following_aside house k m [] follow = tt
following_aside house k m (i ∷ is) follow = (record { formed = follow.0.formed; number = follow.0.number; left = follow.0.left }, following_aside house (performed k i) (entered 1 m) is follow.1)

pub following_behind : (house : House) (k : Kept) (is js : List Item) → AreFollowing house k is → AreFollowing house (all_performed k is) js → AreFollowing house k (is ++ js)
following_behind house k [] js one more = more
following_behind house k (i ∷ is) js one more = (one.0, following_behind house (performed k i) is js one.1 more)

pub all_behind : {A : Type 0} (P : A → Type 0) (xs ys : List A) → AllByRecursion P xs → AllByRecursion P ys → AllByRecursion P (xs ++ ys)
all_behind P [] ys one more = more
all_behind P (x ∷ xs) ys one more = (one.0, all_behind P xs ys one.1 more)

-- what a test finds
all_found : {A : Type 0} (P : A → Type 0) (test : A → Bool) → ((x : A) → test x ≡ true → P x) → (xs : List A) → AllByRecursion P (filter test xs)
all_found P test to [] = tt
all_found {A} P test to (x ∷ xs) = by_test (test x) refl (all_found P test to xs)
  where
    by_test : (b : Bool) → test x ≡ b → AllByRecursion P (filter test xs) → AllByRecursion P (cond b (x ∷ filter test xs) (filter test xs))
    by_test true is more = (to x is, more)
    by_test false is more = more

module _ (house : House) (u : User) where
  -- a mailbox is not the user's
  abbrev pub IsApart : BoxId → Type 0
  IsApart id = same_user u id.user ≡ false

  -- from one store in use to another some items were performed, and these mailboxes were taken away; the marks of snapshots may be others
  pub record Went (k l : Kept) (gone : List BoxId) : Type 0 where
    pub desk : IsDesk l
    pub house_is : l.house ≡ house
    pub items : List Item
    pub marks : Marks
    pub kept_is : l ≡ record (all_performed k items) { marks = marks }
    pub follow : AreFollowing house k items
    pub others : AllByRecursion (IsNotOf u) items
    pub apart : AllByRecursion IsApart gone

  -- a store in use
  pub record InUse (k : Kept) : Type 0 where
    pub desk : IsDesk k
    pub house_is : k.house ≡ house

  pub stays : (k : Kept) → InUse k → Went k k []
  stays k d = record { desk = d.desk; house_is = d.house_is; items = []; marks = k.marks; kept_is = refl; follow = tt; others = tt; apart = tt }

  pub left : (k l : Kept) (gone : List BoxId) → Went k l gone → InUse l
  left k l gone w = record { desk = w.desk; house_is = w.house_is }

  pub goes_behind : (k l m : Kept) (gone more : List BoxId) → Went k l gone → Went l m more → Went k m (gone ++ more)
  goes_behind k l m gone more a b = record {
    desk = b.desk;
    house_is = b.house_is;
    items = a.items ++ b.items;
    marks = b.marks;
    kept_is = b.kept_is ∙ ap (λ (x : Kept). record (all_performed x b.items) { marks = b.marks }) a.kept_is
        ∙ ap (λ (x : Kept). record x { marks = b.marks }) (marks_aside (all_performed k a.items) a.marks b.items)
        ∙ ap (λ (x : Kept). record x { marks = b.marks }) (performed_behind k a.items b.items);
    follow = following_behind house k a.items b.items a.follow (following_aside house (all_performed k a.items) a.marks b.items (subst (λ (x : Kept). AreFollowing house x b.items) a.kept_is b.follow));
    others = all_behind (IsNotOf u) a.items b.items a.others b.others;
    apart = all_behind IsApart gone more a.apart b.apart;
  }

  -- one item is performed
  pub goes_by : (k : Kept) (i : Item) (gone : List BoxId) → InUse k → CanFollow house k i → IsNotOf u i → AllByRecursion IsApart gone → Went k (performed k i) gone
  goes_by k i gone d can other apart = record {
    desk = goes_on k i d.desk (subst (λ (x : House). IsWellFormed x i) (sym d.house_is) can.formed) can.number can.left;
    house_is = d.house_is;
    items = i ∷ [];
    marks = (performed k i).marks;
    kept_is = refl;
    follow = (can, tt);
    others = (other, tt);
    apart = apart;
  }

  -- a snapshot is taken then
  pub with_mark : (k l : Kept) (gone : List BoxId) → Went k l gone → Went k (snapshotted l) gone
  with_mark k l gone w = record {
    desk = snapped_desk l w.desk;
    house_is = w.house_is;
    items = w.items;
    marks = (snapshotted l).marks;
    kept_is = ap (λ (x : Kept). record x { marks = (snapshotted l).marks }) w.kept_is;
    follow = w.follow;
    others = w.others;
    apart = w.apart;
  }

  -- ---- an ask

  -- what others ask of the desk: a user that is not this one for itself, or nobody, of a mail
  pub record IsUsersAsk (by : Option User) (ask : Ask) : Type 0 where
    pub who : User
    pub by_is : by ≡ Some who
    pub other : same_user u who ≡ false
    pub known : is_known house who ≡ true
    pub users : is_users ask ≡ true

  pub record IsMailAsk (by : Option User) (ask : Ask) : Type 0 where
    pub from : List ℕ
    pub to : List (List ℕ)
    pub text : List ℕ
    pub by_is : by ≡ None
    pub ask_is : ask ≡ Deliver from to text

  abbrev pub MayAsk : Option User → Ask → Type 0
  MayAsk by ask = IsUsersAsk by ask ⊎ IsMailAsk by ask

  abbrev HasAsked : Kept → Asked → Type 0
  HasAsked k x = Went k x.kept (gone_between k x.kept)

  none_done : (k : Kept) → InUse k → Went k k (gone_between k k)
  none_done k d = subst (Went k k) (sym (none_gone_of k)) (stays k d)

  module _ (v : User) (other : same_user u v ≡ false) where
    others_box : (id : BoxId) → same_user v id.user ≡ true → IsApart id
    others_box id is = ap (same_user u) (sym (same_user-is v id.user is)) ∙ other

    below_others : (name : List ℕ) (id : BoxId) → is_at_or_below v name id ≡ true → IsApart id
    below_others name id is = others_box id (first_so (same_user v id.user) (bytes_eq name id.name || is_inferior name id.name) is)

    renamed_apart : (b : Bool) (name : List ℕ) (boxes : List BoxId) → AllByRecursion IsApart (cond b [] (filter (is_at_or_below v name) boxes))
    renamed_apart true name boxes = tt
    renamed_apart false name boxes = all_found IsApart (is_at_or_below v name) (below_others name) boxes

    -- what it takes away is its asker's
    taken_apart : (ask : Ask) (boxes : List BoxId) → AllByRecursion IsApart (taken_of v ask boxes)
    taken_apart (Rename mailbox target) boxes = renamed_apart (bytes_eq mailbox inbox || is_empty target) mailbox boxes
    taken_apart (Delete mailbox) boxes = (other, tt)
    taken_apart _ boxes = tt

    module _ (k : Kept) (d : InUse k) (at : ℕ) (ask : Ask) (known : is_known house v ≡ true) (users : is_users ask ≡ true) (item : Item) (e : live (store_of k) k.next at (Some v) ask k.deep ≡ Ok item) where
      lives : IsLive (store_of k) k.next at (Some v) ask item
      lives = is_live (store_of k) k.next at (Some v) ask k.deep item e

      house_here : k.store.house ≡ house
      house_here = d.desk.house_is ∙ d.house_is

      formed_here : IsWellFormed k.store.house (answered (store_of k) (asked_item (store_of k) k.next at (Some v) ask))
      formed_here = item_formed (store_of k) k.next at v ask users (ap (λ (x : House). is_known x v) house_here ∙ known) lives.few

      follows_users : CanFollow house k item
      follows_users = record {
        formed = subst (λ (x : House). IsWellFormed x item) house_here (subst (IsWellFormed k.store.house) (sym lives.is) formed_here);
        number = ap (λ (x : Item). x.number) lives.is;
        left = below_last k.next d.desk.next lives.left;
      }

      acts_users : same_user u (actor item.by item.deed) ≡ false
      acts_users = ap (same_user u) (ap (λ (x : Item). actor x.by x.deed) lives.is ∙ its_actor (store_of k) k.next at (Some v) v ask users) ∙ other

      gone_users : gone_between k (performed k item) ≡ taken_by (Some v) ask (all_boxes k)
      gone_users = ap (λ (r : Result Item Refused). gone_between k (submitted_as k r).kept) (sym e) ∙ taken_if_done k at (Some v) ask item d.desk.valid users e

      pub users_done : Went k (performed k item) (gone_between k (performed k item))
      users_done = goes_by k item (gone_between k (performed k item)) d follows_users (λ own. acts_users) (subst (AllByRecursion IsApart) (sym gone_users) (taken_apart ask (all_boxes k)))

  module _ (k : Kept) (d : InUse k) (m : Mail) (item : Item) (e : live (store_of k) k.next m.at None (delivery_of m) k.deep ≡ Ok item) where
    mailed : IsLive (store_of k) k.next m.at None (delivery_of m) item
    mailed = is_live (store_of k) k.next m.at None (delivery_of m) k.deep item e

    abbrev delivered : Item
    delivered = answered (store_of k) (asked_item (store_of k) k.next m.at None (delivery_of m))

    follows_mail : CanFollow house k item
    follows_mail = record {
      formed = subst (IsWellFormed house) (sym mailed.is) (record { by = refl; users = refl; few = omega arith; form = refl });
      number = ap (λ (x : Item). x.number) mailed.is;
      left = below_last k.next d.desk.next mailed.left;
    }

    pub mail_done : Went k (performed k item) (gone_between k (performed k item))
    mail_done =
        goes_by k item (gone_between k (performed k item)) d follows_mail (λ own. absurd (true≢false (sym own ∙ ap (λ (x : Item). is_own x.deed) mailed.is)))
        (subst (AllByRecursion IsApart) (sym (ap (λ (r : Result Item Refused). gone_between k (submitted_as k r).kept) (sym e) ∙ none_gone k m)) tt)

  -- it is done, or refused
  users_does : (k : Kept) → InUse k → (at : ℕ) (v : User) (ask : Ask) → same_user u v ≡ false → is_known house v ≡ true → is_users ask ≡ true → (r : Result Item Refused) → live (store_of k) k.next at (Some v) ask k.deep ≡ r
      → Went k (submitted_as k r).kept (gone_between k (submitted_as k r).kept)
  users_does k d at v ask other known users (Ok item) e = users_done v other k d at ask known users item e
  users_does k d at v ask other known users (Err why) e = none_done k d

  mail_does : (k : Kept) → InUse k → (m : Mail) (r : Result Item Refused) → live (store_of k) k.next m.at None (delivery_of m) k.deep ≡ r → Went k (submitted_as k r).kept (gone_between k (submitted_as k r).kept)
  mail_does k d m (Ok item) e = mail_done k d m item e
  mail_does k d m (Err why) e = none_done k d

  asked_does : (k : Kept) → InUse k → (at : ℕ) (by : Option User) (ask : Ask) → MayAsk by ask → HasAsked k (does at k by ask)
  asked_does k d at by ask (inl may) =
      subst (λ (o : Option User). HasAsked k (does at k o ask)) (sym may.by_is) (users_does k d at may.who ask may.other may.known may.users (live (store_of k) k.next at (Some may.who) ask k.deep) refl)
  asked_does k d at by ask (inr may) =
      let m : Mail = record { at = at; from = may.from; to = may.to; text = may.text } in
      subst (λ (o : Option User). HasAsked k (does at k o ask)) (sym may.by_is)
      (subst (λ (a : Ask). HasAsked k (does at k None a)) (sym may.ask_is) (mail_does k d m (live (store_of k) k.next at None (delivery_of m) k.deep) refl))

  unsealed_does : (k : Kept) → InUse k → (r : Result Item Refused) → HasAsked k (unsealed_as k r)
  unsealed_does k d (Ok item) = none_done k d
  unsealed_does k d (Err why) = none_done k d

  -- ---- a desk that serves others

  pub record ServesOthers (k : Kept) (x : Service) : Type 0 where
    pub asked : (by : Option User) (ask : Ask) → MayAsk by ask → HasAsked k (x.asked by ask)

  module _ (k : Kept) (d : InUse k) where
    plain : (at : ℕ) → ServesOthers k (service at k)
    plain at = record { asked = asked_does k d at }

    itemless : (x : Service) → ServesOthers k (without_items k x)
    itemless x = record { asked = λ by ask may. none_done k d }

    writeless : (x : Service) → ServesOthers k (without_writes k x)
    writeless x = record { asked = λ by ask may. none_done k d }

    sealless : (at : ℕ) (x : Service) → ServesOthers k (without_seals at k x)
    sealless at x = record { asked = λ by ask may. unsealed_does k d (live (store_of k) k.next at by ask k.deep) }

    -- what a turn does
    abbrev pub Does : {D : Type 0} → Turn D → Type 0
    Does t = Went k t.kept t.gone

    -- a turn over each of these desks does it, whatever hinders it
    pub row_does : {D : Type 0} (i : Hindrance) (at : ℕ) (told : Turn D) (turn : Service → Turn D) → Does told → ((x : Service) → ServesOthers k x → Does (turn x)) → Does (row i at k told turn).follows
    row_does Clear at told turn t f = f (service at k) (plain at)
    row_does NoUnit at told turn t f = t
    row_does Textless at told turn t f = f (without_texts (service at k)) (record { asked = (plain at).asked })
    row_does Unread at told turn t f = f (unread k (service at k)) (record { asked = (plain at).asked })
    row_does UnreadRefused at told turn t f = f (unread_unsaid k (service at k)) (record { asked = (plain at).asked })
    row_does UnreadUnheard at told turn t f = f (stopped (unread k (service at k))) (record { asked = (plain at).asked })
    row_does (Misread texts i) at told turn t f = row_does i at (lost k) (λ desk. turn (misread k texts desk)) (stays k d) (λ x s. f (misread k texts x) (record { asked = s.asked }))
    row_does (Misled said new) at told turn t f = f (service at k) (plain at)
    row_does Unstored at told turn t f = f (without_items k (service at k)) (itemless (service at k))
    row_does Unheard at told turn t f = stays k d
    row_does Unanswered at told turn t f = f (stopped (service at k)) (record { asked = (plain at).asked })
    row_does Unsealed at told turn t f = f (without_seals at k (service at k)) (sealless at (service at k))
    row_does Untold at told turn t f = f (stopped (without_seals at k (service at k))) (record { asked = (sealless at (service at k)).asked })
    row_does Unwritten at told turn t f = f (without_writes k (service at k)) (writeless (service at k))
    row_does UnwrittenUnheard at told turn t f = f (stopped (without_writes k (service at k))) (record { asked = (writeless (service at k)).asked })
    row_does (Halfway i) at told turn t f = f (halfway i (service at k)) (record { asked = (plain at).asked })

  -- ---- a dialog

  -- what a dialog gives asks for others, by dialogs of which Q holds
  abbrev pub AsksFor : {D : Type 0} → (D → Option User) → (D → Type 0) → Out → D → Type 0
  AsksFor user Q (Say said) d = Unit {0}
  AsksFor user Q (Read bodies) d = Unit {0}
  AsksFor user Q (Submit asked) d = Q d × MayAsk (user d) asked
  AsksFor user Q (Bye said) d = Unit {0}

  -- or texts are read for such a dialog
  abbrev pub WantsFor : {D : Type 0} → (D → Option User) → (D → Type 0) → Out → D → Type 0
  WantsFor user Q (Say said) d = Unit {0}
  WantsFor user Q (Read bodies) d = Q d
  WantsFor user Q (Submit asked) d = Q d × MayAsk (user d) asked
  WantsFor user Q (Bye said) d = Unit {0}

  -- a session that asks for others alone
  pub record SpeaksFor {D : Type 0} (speech : Speech D) (Q : D → Type 0) : Type 0 where
    pub further : (k : Kept) (d : D) → Q d → (outcome : Result Item SubmitFault) → AsksFor speech.user Q (speech.settle (store_of k) k.stamps d outcome).out (speech.settle (store_of k) k.stamps d outcome).dialog
    pub hears : (d : D) → Q d → (texts : Result (List (List ℕ)) ReadFault) → AsksFor speech.user Q (speech.heard d texts).out (speech.heard d texts).dialog

  module _ {D : Type 0} (speech : Speech D) (Q : D → Type 0) (speaks : SpeaksFor speech Q) where
    settled_does : (k : Kept) (a : Asked) → HasAsked k a → (out : Out) (e : D) → Went k (settled_as out a.kept e).kept (gone_between k a.kept)
    settled_does k a w (Say said) e = w
    settled_does k a w (Read bodies) e = w
    settled_does k a w (Submit asked) e = w
    settled_does k a w (Bye said) e = w

    done_does : (k : Kept) (d : D) (a : Asked) → HasAsked k a → Went k (done speech k d a).kept (done speech k d a).gone
    done_does k d a w = let t = speech.settle (store_of a.kept) a.kept.stamps d a.outcome in settled_does k a w t.out t.dialog

    pursued_does : (k : Kept) (x : Service) (d : D) (a : Asked) → HasAsked k a → (out : Out) (e : D) → AsksFor speech.user Q out e → Went k (pursued_as speech x k d a out e).kept (pursued_as speech x k d a out e).gone
    pursued_does k x d a w (Say said) e asks = done_does k d a w
    pursued_does k x d a w (Read bodies) e asks = done_does k d a w
    pursued_does k x d a w (Bye said) e asks = done_does k d a w
    pursued_does k x d a w (Submit asked) e asks =
        let turn : Service → Turn D = λ later. done speech a.kept e (later.asked (speech.user e) asked) in
        let t : Turn D = under x.further x.at a.kept turn in
        goes_behind k a.kept t.kept (gone_between k a.kept) t.gone w
        (row_does a.kept (left k a.kept (gone_between k a.kept) w) x.further x.at (lost a.kept) turn (stays a.kept (left k a.kept (gone_between k a.kept) w))
        (λ later s. done_does a.kept e (later.asked (speech.user e) asked) (s.asked (speech.user e) asked asks.1)))

    asked_by : (k : Kept) (x : Service) → ServesOthers k x → (d : D) (asked : Ask) → Q d → MayAsk (speech.user d) asked
        → Went k (pursued speech x k d (x.asked (speech.user d) asked)).kept (pursued speech x k d (x.asked (speech.user d) asked)).gone
    asked_by k x s d asked is may =
        let a : Asked = x.asked (speech.user d) asked in
        let t = speech.settle (store_of a.kept) a.kept.stamps d a.outcome in
        pursued_does k x d a (s.asked (speech.user d) asked may) t.out t.dialog (speaks.further a.kept d is a.outcome)

    submits_does : (k : Kept) → InUse k → (x : Service) → ServesOthers k x → (out : Out) (d : D) → AsksFor speech.user Q out d → Went k (submits speech x k out d).kept (submits speech x k out d).gone
    submits_does k u x s (Say said) d asks = stays k u
    submits_does k u x s (Read bodies) d asks = stays k u
    submits_does k u x s (Submit asked) d asks = asked_by k x s d asked asks.0 asks.1
    submits_does k u x s (Bye said) d asks = stays k u

    pub followed_does : (k : Kept) → InUse k → (x : Service) → ServesOthers k x → (out : Out) (d : D) → WantsFor speech.user Q out d → Went k (followed speech x k out d).kept (followed speech x k out d).gone
    followed_does k u x s (Say said) d wants = stays k u
    followed_does k u x s (Read bodies) d wants = let t = speech.heard d (x.texts bodies) in submits_does k u x s t.out t.dialog (speaks.hears d wants (x.texts bodies))
    followed_does k u x s (Submit asked) d wants = asked_by k x s d asked wants.0 wants.1
    followed_does k u x s (Bye said) d wants = stays k u
