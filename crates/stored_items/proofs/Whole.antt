-- What is let go of a deed, and given to it again.
use Rattle.std.proofs.Common.{◌≡◌, ℕ, Bool, true, false, List, [], ◌∷◌, refl, sym, ap, ◌∙◌, true≢false}
use Rattle.verb_core.specs.declared.item.Deed.{Deed}
use Rattle.verb_core.specs.declared.item.Deed.TheVariants.{Deliver, Append, Fetch, Store, Copy, List as Names, Status, Select, Expunge, Close, Create, Rename, Delete, Act as Acts, Notice}
use Rattle.verb_core.specs.declared.item.Act.TheVariants.{SetAlias, DropAlias, SetFilter, DropFilter, Remove, Give}
use Rattle.verb_core.specs.declared.item.Item.{Item}
use Rattle.verb_core.specs.Deeds.{is_notice, with_text}
use Rattle.stored_items.specs.Stored.{stored, stored_deed, whole}

-- one that is no notice is kept without its text
pub text_let_go : (d : Deed) → is_notice d ≡ false → with_text [] d ≡ stored_deed d
unfolding is_notice
text_let_go (Deliver from to text) fails = refl
text_let_go (Append mailbox flags moment text) fails = refl
text_let_go (Fetch mailbox keys sets_seen shows_body) fails = refl
text_let_go (Store mailbox keys how flags) fails = refl
text_let_go (Copy mailbox keys target) fails = refl
text_let_go (Names pattern) fails = refl
text_let_go (Status mailbox) fails = refl
text_let_go (Select mailbox) fails = refl
text_let_go (Expunge mailbox keys) fails = refl
text_let_go (Close mailbox keys) fails = refl
text_let_go (Create mailbox) fails = refl
text_let_go (Rename mailbox target) fails = refl
text_let_go (Delete mailbox keys) fails = refl
text_let_go (Acts act) fails = refl
text_let_go (Notice user text) fails = absurd (true≢false fails)

-- a notice is kept as it is
pub notice_kept : (d : Deed) → is_notice d ≡ true → d ≡ stored_deed d
unfolding is_notice
notice_kept (Notice user text) is = refl
notice_kept _ is = absurd (true≢false (sym is))

-- of two texts that are given in turn, the last stands
pub text_anew : (old new : List ℕ) (d : Deed) → with_text new (with_text old d) ≡ with_text new d
text_anew old new (Deliver from to text) = refl
text_anew old new (Append mailbox flags moment text) = refl
text_anew old new (Fetch mailbox keys sets_seen shows_body) = refl
text_anew old new (Store mailbox keys how flags) = refl
text_anew old new (Copy mailbox keys target) = refl
text_anew old new (Names pattern) = refl
text_anew old new (Status mailbox) = refl
text_anew old new (Select mailbox) = refl
text_anew old new (Expunge mailbox keys) = refl
text_anew old new (Close mailbox keys) = refl
text_anew old new (Create mailbox) = refl
text_anew old new (Rename mailbox target) = refl
text_anew old new (Delete mailbox keys) = refl
text_anew old new (Acts (SetAlias local users)) = refl
text_anew old new (Acts (DropAlias local)) = refl
text_anew old new (Acts (SetFilter filter)) = refl
text_anew old new (Acts (DropFilter id)) = refl
text_anew old new (Acts (Remove u mailbox key)) = refl
text_anew old new (Acts (Give u mailbox text)) = refl
text_anew old new (Notice user text) = refl

-- which text one that is no notice had does not matter to how it is kept
kept_alike : (old new : List ℕ) (d : Deed) → is_notice (with_text old d) ≡ false → stored_deed (with_text old d) ≡ stored_deed (with_text new d)
unfolding is_notice
kept_alike old new (Deliver from to text) fails = refl
kept_alike old new (Append mailbox flags moment text) fails = refl
kept_alike old new (Fetch mailbox keys sets_seen shows_body) fails = refl
kept_alike old new (Store mailbox keys how flags) fails = refl
kept_alike old new (Copy mailbox keys target) fails = refl
kept_alike old new (Names pattern) fails = refl
kept_alike old new (Status mailbox) fails = refl
kept_alike old new (Select mailbox) fails = refl
kept_alike old new (Expunge mailbox keys) fails = refl
kept_alike old new (Close mailbox keys) fails = refl
kept_alike old new (Create mailbox) fails = refl
kept_alike old new (Rename mailbox target) fails = refl
kept_alike old new (Delete mailbox keys) fails = refl
kept_alike old new (Acts (SetAlias local users)) fails = refl
kept_alike old new (Acts (DropAlias local)) fails = refl
kept_alike old new (Acts (SetFilter filter)) fails = refl
kept_alike old new (Acts (DropFilter id)) fails = refl
kept_alike old new (Acts (Remove u mailbox key)) fails = refl
kept_alike old new (Acts (Give u mailbox text)) fails = refl
kept_alike old new (Notice user text) fails = absurd (true≢false fails)

-- an item that is kept without its text is so under another one
pub heard_anew : (i : Item) (old new : List ℕ) → i ≡ stored (whole i old) → is_notice (with_text old i.deed) ≡ false → i ≡ stored (whole i new)
heard_anew i old new is fails = is ∙ ap (λ (d : Deed). record i { deed = d }) (kept_alike old new i.deed fails)

-- and under another rev
pub replaced_anew : (i : Item) (old new : List ℕ) (rev : ℕ) → i ≡ stored (whole i old) → is_notice (with_text old i.deed) ≡ false → record i { rev = rev } ≡ stored (whole (record i { rev = rev }) new)
replaced_anew i old new rev is fails = ap (λ (j : Item). record j { rev = rev }) (heard_anew i old new is fails)

-- a notice is one with any text
pub still_notice : (text : List ℕ) (d : Deed) → is_notice d ≡ is_notice (with_text text d)
unfolding is_notice
still_notice text (Deliver from to old) = refl
still_notice text (Append mailbox flags moment old) = refl
still_notice text (Fetch mailbox keys sets_seen shows_body) = refl
still_notice text (Store mailbox keys how flags) = refl
still_notice text (Copy mailbox keys target) = refl
still_notice text (Names pattern) = refl
still_notice text (Status mailbox) = refl
still_notice text (Select mailbox) = refl
still_notice text (Expunge mailbox keys) = refl
still_notice text (Close mailbox keys) = refl
still_notice text (Create mailbox) = refl
still_notice text (Rename mailbox target) = refl
still_notice text (Delete mailbox keys) = refl
still_notice text (Acts (SetAlias local users)) = refl
still_notice text (Acts (DropAlias local)) = refl
still_notice text (Acts (SetFilter filter)) = refl
still_notice text (Acts (DropFilter id)) = refl
still_notice text (Acts (Remove u mailbox key)) = refl
still_notice text (Acts (Give u mailbox old)) = refl
still_notice text (Notice user old) = refl

-- a deed that is kept without its text has another text whole
given_kept : (text : List ℕ) (d : Deed) → with_text text (stored_deed d) ≡ with_text text d
given_kept text (Deliver from to old) = refl
given_kept text (Append mailbox flags moment old) = refl
given_kept text (Acts (Give u mailbox old)) = refl
given_kept text (Notice user old) = refl
given_kept text (Fetch mailbox keys sets_seen shows_body) = refl
given_kept text (Store mailbox keys how flags) = refl
given_kept text (Copy mailbox keys target) = refl
given_kept text (Names pattern) = refl
given_kept text (Status mailbox) = refl
given_kept text (Select mailbox) = refl
given_kept text (Expunge mailbox keys) = refl
given_kept text (Close mailbox keys) = refl
given_kept text (Create mailbox) = refl
given_kept text (Rename mailbox target) = refl
given_kept text (Delete mailbox keys) = refl
given_kept text (Acts (SetAlias local users)) = refl
given_kept text (Acts (DropAlias local)) = refl
given_kept text (Acts (SetFilter filter)) = refl
given_kept text (Acts (DropFilter id)) = refl
given_kept text (Acts (Remove u mailbox key)) = refl

-- an item that is kept without its text stands for the item with another text
pub lies_whole : (i : Item) (text : List ℕ) → whole (stored i) text ≡ whole i text
lies_whole i text = ap (λ (d : Deed). record i { deed = d }) (given_kept text i.deed)

-- and is that item as it is kept
kept_given : (text : List ℕ) (d : Deed) → is_notice d ≡ false → stored_deed d ≡ stored_deed (with_text text d)
kept_given text d fails =
    sym (text_let_go d fails) ∙ sym (text_anew text [] d) ∙ text_let_go (with_text text d) (sym (still_notice text d) ∙ fails)

pub lies_kept : (i : Item) (text : List ℕ) → is_notice i.deed ≡ false → stored i ≡ stored (whole i text)
lies_kept i text fails = ap (λ (d : Deed). record i { deed = d }) (kept_given text i.deed fails)

pub lying_is_kept : (i : Item) (text : List ℕ) → is_notice i.deed ≡ false → stored i ≡ stored (whole (stored i) text)
lying_is_kept i text fails = lies_kept i text fails ∙ ap stored (sym (lies_whole i text))
