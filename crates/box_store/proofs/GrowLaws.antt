-- Mailboxes that grow, and the spare lists that they need.
use Rattle.std.proofs.Common.{◌≡◌, ℕ, suc, ◌+◌, ◌<◌, ◌≤◌, ◌^◌, Bool, true, false, cond, List, [], ◌∷◌, map, Option, Some, None, option_map, unwrap_or, length, get_or, take, drop, arith, sym, ap, ap₂, ◌∙◌, subst, inl, inr}
use Rattle.std.proofs.lemmas.Bool.{cases_order}
use Rattle.std.proofs.lemmas.List.{drop_more, drop_all, length-append, get_or-take, get_or_default}
use Rattle.std.specs.Ordering.{eq_by_cmp}
use Rattle.verb_core.specs.declared.mailbox.BoxId.{BoxId}
use Rattle.verb_core.specs.declared.mailbox.Entry.{Entry}
use Rattle.verb_core.specs.declared.mailbox.Mailbox.{Mailbox}
use Rattle.verb_core.specs.Mailboxes.{put_all}
use Rattle.verb_core.specs.Boxes.{box_cmp, box_of, row_at, change_row, mail_at, next_at}
use Rattle.verb_core.proofs.BoxLaws.{row_at-change_row}
use Rattle.mail_rows.specs.declared.change.Put.{Put}
use Rattle.box_store.specs.Effects.{HasSpares, mail_in, put_each}
use Rattle.mail_rows.specs.Mail.{numbered}
use Rattle.mail_rows.proofs.MailLaws.{put_all-numbered, length-numbered}
use Rattle.box_store.proofs.SpareLaws.{HasRoom, spared}

entries_in : Option Mailbox → List Entry
entries_in o = unwrap_or (option_map (λ (m : Mailbox). m.entries) o) []

next_in : Option Mailbox → ℕ
next_in o = unwrap_or (option_map (λ (m : Mailbox). m.next) o) 0

length-put_all : (mail : List Entry) (m : Mailbox) → length (put_all mail m).entries ≡ length m.entries + length mail
length-put_all mail m =
    ap (λ (n : Mailbox). length n.entries) (put_all-numbered mail m) ∙ length-append m.entries (numbered m.next mail) ∙ ap (λ (k : ℕ). length m.entries + k) (length-numbered m.next mail)

next-put_all : (mail : List Entry) (m : Mailbox) → (put_all mail m).next ≡ m.next + length mail
next-put_all mail m = ap (λ (n : Mailbox). n.next) (put_all-numbered mail m)

grown : (b : Bool) (mail : List Entry) (o : Option Mailbox) → length (entries_in (cond b (option_map (put_all mail) o) o)) ≤ length (entries_in o) + length mail
unfolding entries_in
grown true mail None = omega arith
grown true mail (Some m) = omega (arith, length-put_all mail m)
grown false mail o = omega arith

raised : (b : Bool) (mail : List Entry) (o : Option Mailbox) → next_in (cond b (option_map (put_all mail) o) o) ≤ next_in o + length mail
unfolding next_in
raised true mail None = omega arith
raised true mail (Some m) = omega (arith, next-put_all mail m)
raised false mail o = omega arith

-- no mailbox grows by more than the mail that is put
mail_grown : (q id : BoxId) (mail : List Entry) (boxes : List (BoxId × Mailbox)) → length (mail_at q (change_row id (put_all mail) boxes)) ≤ length (mail_at q boxes) + length mail
unfolding entries_in
mail_grown q id mail boxes =
    subst (λ (o : Option Mailbox). length (entries_in o) ≤ length (entries_in (row_at q boxes)) + length mail) (sym (row_at-change_row q id (put_all mail) boxes)) (grown (eq_by_cmp box_cmp id q) mail (row_at q boxes))

next_raised : (q id : BoxId) (mail : List Entry) (boxes : List (BoxId × Mailbox)) → next_at q (change_row id (put_all mail) boxes) ≤ next_at q boxes + length mail
unfolding next_in
next_raised q id mail boxes =
    subst (λ (o : Option Mailbox). next_in o ≤ next_in (row_at q boxes) + length mail) (sym (row_at-change_row q id (put_all mail) boxes)) (raised (eq_by_cmp box_cmp id q) mail (row_at q boxes))

-- after a put, the others still have their spare lists
pub spared_after : (puts : List Put) (spares : List ℕ) (id : BoxId) (mail : List Entry) (more : ℕ) (boxes : List (BoxId × Mailbox))
    → HasSpares (map (λ (p : Put). (p.mailbox, length mail + more)) puts) spares boxes
    → HasSpares (map (λ (p : Put). (p.mailbox, more)) puts) spares (change_row id (put_all mail) boxes)
spared_after [] spares id mail more boxes has = tt
spared_after (p ∷ ps) [] id mail more boxes has = absurd has
spared_after (p ∷ ps) (s ∷ ss) id mail more boxes has =
    let room : length (mail_at p.mailbox boxes) + (length mail + more) ≤ s = has.0 in
    let uids : next_at p.mailbox boxes + (length mail + more) < 2 ^ 64 = has.1 in
    let grew : length (mail_at p.mailbox (change_row id (put_all mail) boxes)) ≤ length (mail_at p.mailbox boxes) + length mail = mail_grown p.mailbox id mail boxes in
    let rose : next_at p.mailbox (change_row id (put_all mail) boxes) ≤ next_at p.mailbox boxes + length mail = next_raised p.mailbox id mail boxes in
    (omega arith, omega arith, spared_after ps ss id mail more boxes has.2)

-- the first spare list is large enough for less, too
pub spared_less : (id : BoxId) (n k : ℕ) (gs : List (BoxId × ℕ)) (spares : List ℕ) (boxes : List (BoxId × Mailbox)) → k ≤ n → HasSpares ((id, n) ∷ gs) spares boxes → HasSpares ((id, k) ∷ []) spares boxes
spared_less id n k gs [] boxes le has = absurd has
spared_less id n k gs (s ∷ ss) boxes le has =
    let room : length (mail_at id boxes) + n ≤ s = has.0 in
    let uids : next_at id boxes + n < 2 ^ 64 = has.1 in
    (omega arith, omega arith, tt)

-- ---- puts, one after the other

abbrev pub Growing : List Put → List ℕ → List (BoxId × Mailbox) → Type 0
Growing puts spares boxes = HasSpares (map (λ (p : Put). (p.mailbox, mail_in puts)) puts) spares boxes

module _ (puts : List Put) (place : ℕ) (d : Put) (within : place < length puts) (spares : List ℕ) (boxes : List (BoxId × Mailbox)) (has : Growing (drop place puts) spares boxes) where
  more : Growing (get_or puts place d ∷ drop (place + 1) puts) spares boxes
  more = subst (λ (ps : List Put). Growing ps spares boxes) (drop_more puts place d within) has

  pub growing_first : HasSpares (((get_or puts place d).mailbox, length (get_or puts place d).mail) ∷ []) spares boxes
  growing_first = spared_less (get_or puts place d).mailbox (mail_in (get_or puts place d ∷ drop (place + 1) puts)) (length (get_or puts place d).mail) (map (λ (p : Put). (p.mailbox, mail_in (get_or puts place d ∷ drop (place + 1) puts))) (drop (place + 1) puts)) spares boxes (omega arith) more

pub put-step : (puts : List Put) (place : ℕ) (d : Put) (boxes : List (BoxId × Mailbox)) → place < length puts
    → put_each (drop (place + 1) puts) (change_row (get_or puts place d).mailbox (put_all (get_or puts place d).mail) boxes) ≡ put_each (drop place puts) boxes
put-step puts place d boxes within = ap (λ (ps : List Put). put_each ps boxes) (sym (drop_more puts place d within))

-- the others' spare lists, after one put
pub growing_next : (puts : List Put) (place : ℕ) (d : Put) (spares lists : List ℕ) (boxes : List (BoxId × Mailbox)) → place < length puts → Growing (drop place puts) (drop place spares) boxes
    → drop (place + 1) lists ≡ drop (place + 1) spares
    → Growing (drop (place + 1) puts) (drop (place + 1) lists) (change_row (get_or puts place d).mailbox (put_all (get_or puts place d).mail) boxes)
growing_next puts place d spares lists boxes within has same =
    let first : Growing (get_or puts place d ∷ drop (place + 1) puts) (drop place spares) boxes = subst (λ (ps : List Put). Growing ps (drop place spares) boxes) (drop_more puts place d within) has in
    let parts = spared ((get_or puts place d).mailbox, mail_in (get_or puts place d ∷ drop (place + 1) puts)) (map (λ (p : Put). (p.mailbox, mail_in (get_or puts place d ∷ drop (place + 1) puts))) (drop (place + 1) puts)) place spares boxes first in
    subst (λ (ss : List ℕ). Growing (drop (place + 1) puts) ss (change_row (get_or puts place d).mailbox (put_all (get_or puts place d).mail) boxes)) (sym same)
    (spared_after (drop (place + 1) puts) (drop (place + 1) spares) (get_or puts place d).mailbox (get_or puts place d).mail (mail_in (drop (place + 1) puts)) boxes parts.later)

-- the rows after the put that was read
pub put_read : (puts : List Put) (place : ℕ) (put : Put) (name : List ℕ) (mail : List Entry) (boxes new : List (BoxId × Mailbox)) → put ≡ get_or puts place put → name ≡ put.mailbox.name → mail ≡ put.mail
    → new ≡ change_row (box_of put.mailbox.user name) (put_all mail) boxes → new ≡ change_row (get_or puts place put).mailbox (put_all (get_or puts place put).mail) boxes
put_read puts place put name mail boxes new read e f is =
    is ∙ ap₂ (λ (n : List ℕ) (es : List Entry). change_row (box_of put.mailbox.user n) (put_all es) boxes) e f
    ∙ (λ j. change_row (read j).mailbox (put_all (read j).mail) boxes)

-- ---- spare lists made ready, one after the other

-- the first of the spare lists fit the first of the puts
abbrev pub ReadyBelow : List Put → ℕ → List ℕ → List (BoxId × Mailbox) → ℕ → Type 0
ReadyBelow puts count spares boxes n = (k : ℕ) (d : Put) → k < n → HasRoom ((get_or puts k d).mailbox, count) (get_or spares k 0) boxes

pub ready_all : (puts : List Put) (count : ℕ) (spares : List ℕ) (boxes : List (BoxId × Mailbox)) → length puts ≤ length spares → ReadyBelow puts count spares boxes (length puts) → HasSpares (map (λ (p : Put). (p.mailbox, count)) puts) spares boxes
ready_all [] count spares boxes long ready = tt
ready_all (p ∷ ps) count [] boxes long ready = absurd (omega arith)
ready_all (p ∷ ps) count (s ∷ ss) boxes long ready =
    let first : HasRoom (p.mailbox, count) s boxes = ready 0 p (omega arith) in
    (first.room, first.uids, ready_all ps count ss boxes (omega arith) (λ k d lt. ready (suc k) d (omega arith)))

same_earlier : (n k : ℕ) (new old : List ℕ) → take n new ≡ take n old → k < n → get_or new k 0 ≡ get_or old k 0
same_earlier n k new old same lt = sym (get_or-take n new k 0 lt) ∙ ap (λ (xs : List ℕ). get_or xs k 0) same ∙ get_or-take n old k 0 lt

-- one more spare list is ready
pub ready_more : (puts : List Put) (count place : ℕ) (put : Put) (old new : List ℕ) (boxes : List (BoxId × Mailbox)) → place < length puts → put ≡ get_or puts place put → take place new ≡ take place old
    → HasSpares ((put.mailbox, count) ∷ []) (drop place new) boxes → ReadyBelow puts count old boxes place → ReadyBelow puts count new boxes (place + 1)
ready_more puts count place put old new boxes within read same here ready k d lt =
    elim (cases_order k place) [
      | inr (inl less) ↦ subst (λ (n : ℕ). HasRoom ((get_or puts k d).mailbox, count) n boxes) (sym (same_earlier place k new old same less)) (ready k d less)
      | inl at ↦
          let is : get_or puts k d ≡ put = ap (λ (n : ℕ). get_or puts n d) at ∙ get_or_default puts place d put within ∙ sym read in
          let room : HasRoom (put.mailbox, count) (get_or new place 0) boxes = (spared (put.mailbox, count) [] place new boxes here).here in
          subst (λ (p : Put). HasRoom (p.mailbox, count) (get_or new k 0) boxes) (sym is) (subst (λ (n : ℕ). HasRoom (put.mailbox, count) (get_or new n 0) boxes) (sym at) room)
      | inr (inr more) ↦ absurd (omega arith)
    ]

-- mail that is counted, entry by entry
pub count-step : (puts : List Put) (i count : ℕ) (d : Put) → i < length puts → (count + length (get_or puts i d).mail) + mail_in (drop (i + 1) puts) ≡ count + mail_in (drop i puts)
count-step puts i count d within =
    let e : mail_in (drop i puts) ≡ length (get_or puts i d).mail + mail_in (drop (i + 1) puts) = ap mail_in (drop_more puts i d within) in
    omega arith

pub count-all : (puts : List Put) (i count : ℕ) → length puts ≤ i → count + mail_in (drop i puts) ≡ mail_in puts → count ≡ mail_in puts
count-all puts i count past is =
    let e : mail_in (drop i puts) ≡ 0 = ap mail_in (drop_all i puts past) in
    omega arith
