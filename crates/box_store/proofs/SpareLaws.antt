-- Spare lists.
use Rattle.std.proofs.Common.{◌≡◌, ℕ, zero, suc, ◌+◌, ◌<◌, ◌≤◌, ◌^◌, List, [], ◌∷◌, ◌++◌, map, length, get_or, set, take, drop, arith, refl, ap, ◌∙◌, Option, Some, None, option_map, unwrap_or}
use Rattle.std.specs.List.{AllByRecursion}
use Rattle.std.proofs.lemmas.List.{map-set, map-append, drop-set-lt, take-set-le, take-append-le, get_or-set_same}
use Rattle.verb_core.specs.declared.mailbox.BoxId.{BoxId}
use Rattle.verb_core.specs.declared.mailbox.Mailbox.{Mailbox}
use Rattle.verb_core.specs.Boxes.{row_at, mail_at, next_at}
use Rattle.box_store.specs.Effects.{HasSpares}

-- a fact of each element, where one is another
pub all_set : {X : Type 0} (P : X → Type 0) (xs : List X) (i : ℕ) (x : X) → P x → AllByRecursion P xs → AllByRecursion P (set xs i x)
all_set P [] i x p all = tt
all_set P (y ∷ ys) zero x p all = (p, all.1)
all_set P (y ∷ ys) (suc i) x p all = (all.0, all_set P ys i x p all.1)

pub all_push : {X : Type 0} (P : X → Type 0) (xs : List X) (x : X) → P x → AllByRecursion P xs → AllByRecursion P (xs ++ x ∷ [])
all_push P [] x p all = (p, tt)
all_push P (y ∷ ys) x p all = (all.0, all_push P ys x p all.1)

pub all_at : {X : Type 0} (P : X → Type 0) (xs : List X) (i : ℕ) (d : X) → i < length xs → AllByRecursion P xs → P (get_or xs i d)
all_at P [] i d within all = absurd (omega arith)
all_at P (y ∷ ys) zero d within all = all.0
all_at P (y ∷ ys) (suc i) d within all = all_at P ys i d (omega arith) all.1

pub map-at : {X : Type 0} (f : X → ℕ) (xs : List X) (i : ℕ) (d : X) (e : ℕ) → i < length xs → f (get_or xs i d) ≡ get_or (map f xs) i e
map-at f [] i d e within = absurd (omega arith)
map-at f (y ∷ ys) zero d e within = refl
map-at f (y ∷ ys) (suc i) d e within = map-at f ys i d e (omega arith)

-- another element at a place, seen by a number of each
module _ {X : Type 0} (f : X → ℕ) (xs : List X) (i : ℕ) (x : X) where
  pub set_later : (now : List ℕ) → map f xs ≡ now → drop (i + 1) (map f (set xs i x)) ≡ drop (i + 1) now
  set_later now is = ap (drop (i + 1)) (map-set f xs i x) ∙ drop-set-lt (i + 1) (map f xs) i (f x) (omega arith) ∙ ap (drop (i + 1)) is

  pub set_earlier : (now : List ℕ) → map f xs ≡ now → take i (map f (set xs i x)) ≡ take i now
  set_earlier now is = ap (take i) (map-set f xs i x) ∙ take-set-le i (map f xs) i (f x) (omega arith) ∙ ap (take i) is

  pub set_here : (now : List ℕ) (n : ℕ) → map f xs ≡ now → i < length now → n ≤ f x → n ≤ get_or (map f (set xs i x)) i 0
  set_here now n is within le =
      let long : length (map f xs) ≡ length now = ap length is in
      let at : get_or (map f (set xs i x)) i 0 ≡ f x = ap (λ (ys : List ℕ). get_or ys i 0) (map-set f xs i x) ∙ get_or-set_same (map f xs) i (f x) 0 (omega arith) in
      omega (arith, at)

  pub push_earlier : (now : List ℕ) → map f xs ≡ now → i ≤ length now → take i (map f (xs ++ x ∷ [])) ≡ take i now
  push_earlier now is within =
      ap (take i) (map-append f xs (x ∷ []) ∙ ap (λ (ys : List ℕ). ys ++ f x ∷ []) is) ∙ take-append-le i now (f x ∷ []) within

-- ---- the room that mailboxes need

pub record HasRoom (g : BoxId × ℕ) (spare : ℕ) (boxes : List (BoxId × Mailbox)) : Type 0 where
  pub room : length (mail_at g.0 boxes) + g.1 ≤ spare
  pub uids : next_at g.0 boxes + g.1 < 2 ^ 64

pub record Spared (g : BoxId × ℕ) (gs : List (BoxId × ℕ)) (place : ℕ) (spares : List ℕ) (boxes : List (BoxId × Mailbox)) : Type 0 where
  pub within : place < length spares
  pub here : HasRoom g (get_or spares place 0) boxes
  pub later : HasSpares gs (drop (place + 1) spares) boxes

-- the spare list at a place
pub spared : (g : BoxId × ℕ) (gs : List (BoxId × ℕ)) (place : ℕ) (spares : List ℕ) (boxes : List (BoxId × Mailbox)) → HasSpares (g ∷ gs) (drop place spares) boxes → Spared g gs place spares boxes
spared g gs zero [] boxes has = absurd has
spared g gs zero (s ∷ ss) boxes has = record { within = omega arith; here = record { room = has.0; uids = has.1 }; later = has.2 }
spared g gs (suc place) [] boxes has = absurd has
spared g gs (suc place) (s ∷ ss) boxes has =
    let rest : Spared g gs place ss boxes = spared g gs place ss boxes has in
    let n : suc place + 1 ≡ suc (place + 1) = omega arith in
    record { within = (let w : place < length ss = rest.within in omega arith); here = rest.here; later = subst_later n rest.later }
  where
    subst_later : {m : ℕ} → m ≡ suc (place + 1) → HasSpares gs (drop (place + 1) ss) boxes → HasSpares gs (drop m (s ∷ ss)) boxes
    subst_later {m} e h = rw e h

-- ---- what the row that was read and the list that was lent have

module _ (id : BoxId) (n place : ℕ) (spares : List ℕ) (boxes : List (BoxId × Mailbox)) (m : Mailbox) (has : HasSpares ((id, n) ∷ []) (drop place spares) boxes) (is : row_at id boxes ≡ Some m) where
  pub room_there : (cap : ℕ) → cap ≡ get_or spares place 0 → length m.entries + n ≤ cap
  room_there cap lent =
      let s : HasRoom (id, n) (get_or spares place 0) boxes = (spared (id, n) [] place spares boxes has).here in
      let count : length (mail_at id boxes) ≡ length m.entries = ap (λ (o : Option Mailbox). length (unwrap_or (option_map (λ (k : Mailbox). k.entries) o) [])) is in
      let room : length (mail_at id boxes) + n ≤ get_or spares place 0 = s.room in
      omega arith

  pub uids_there : m.next + n < 2 ^ 64
  uids_there =
      let s : HasRoom (id, n) (get_or spares place 0) boxes = (spared (id, n) [] place spares boxes has).here in
      let same : next_at id boxes ≡ m.next = ap (λ (o : Option Mailbox). unwrap_or (option_map (λ (k : Mailbox). k.next) o) 0) is in
      let uids : next_at id boxes + n < 2 ^ 64 = s.uids in
      omega arith

-- a list that is large enough
pub spared_now : (id : BoxId) (n place : ℕ) (spares : List ℕ) (boxes : List (BoxId × Mailbox)) → place < length spares → length (mail_at id boxes) + n ≤ get_or spares place 0 → next_at id boxes + n < 2 ^ 64 → HasSpares ((id, n) ∷ []) (drop place spares) boxes
spared_now id n place [] boxes within room uids = absurd (omega arith)
spared_now id n zero (s ∷ ss) boxes within room uids = (room, uids, tt)
spared_now id n (suc place) (s ∷ ss) boxes within room uids = spared_now id n place ss boxes (omega arith) room uids

pub spared_for : (id : BoxId) (n place : ℕ) (spares : List ℕ) (boxes : List (BoxId × Mailbox)) (m : Mailbox) → row_at id boxes ≡ Some m → place < length spares → length m.entries + n ≤ get_or spares place 0 → m.next + n < 2 ^ 64 → HasSpares ((id, n) ∷ []) (drop place spares) boxes
spared_for id n place spares boxes m is within room uids =
    let count : length (mail_at id boxes) ≡ length m.entries = ap (λ (o : Option Mailbox). length (unwrap_or (option_map (λ (k : Mailbox). k.entries) o) [])) is in
    let same : next_at id boxes ≡ m.next = ap (λ (o : Option Mailbox). unwrap_or (option_map (λ (k : Mailbox). k.next) o) 0) is in
    spared_now id n place spares boxes within (omega arith) (omega arith)

pub spared_none : (id : BoxId) (n place : ℕ) (spares : List ℕ) (boxes : List (BoxId × Mailbox)) → row_at id boxes ≡ None → place < length spares → n ≤ get_or spares place 0 → n < 2 ^ 32 → HasSpares ((id, n) ∷ []) (drop place spares) boxes
spared_none id n place spares boxes is within room small =
    let count : length (mail_at id boxes) ≡ 0 = ap (λ (o : Option Mailbox). length (unwrap_or (option_map (λ (k : Mailbox). k.entries) o) [])) is in
    let same : next_at id boxes ≡ 0 = ap (λ (o : Option Mailbox). unwrap_or (option_map (λ (k : Mailbox). k.next) o) 0) is in
    spared_now id n place spares boxes within (omega arith) (omega arith)
