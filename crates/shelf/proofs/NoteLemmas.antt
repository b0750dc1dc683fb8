-- What a list of notes says of a body, and what an edit of the list does to it.
use Rattle.std.proofs.Common.{◌≡◌, ℕ, zero, suc, ◌<◌, Bool, true, false, List, [], ◌∷◌, length, get_or, set, if◌then◌else◌, cond, Some, None, refl, sym, ap, ◌∙◌, arith}
use Rattle.std.specs.List.{insert}
use Rattle.verb_core.specs.declared.mailbox.Body.{Body}
use Rattle.shelf.specs.declared.note.Note.{Note}
use Rattle.shelf.specs.Notes.{same_body, note_of, NotesOnly}
use Rattle.shelf.proofs.OrderLemmas.{same_if_tested, tested_itself}

-- no row before a place has the body
abbrev pub NoneBefore : List (Body × Note) → Body → ℕ → Type 0
NoneBefore rows body i = (j : ℕ) (d : Body × Note) → j < i → same_body (get_or rows j d).0 body ≡ false

none_in_rest : (row : Body × Note) (rows : List (Body × Note)) (body : Body) (i : ℕ) → NoneBefore (row ∷ rows) body (suc i) → NoneBefore rows body i
none_in_rest row rows body i none j d lt = none (suc j) d (omega arith)

-- a body that no row has
pub note_none : (rows : List (Body × Note)) (body : Body) → NoneBefore rows body (length rows) → note_of rows body ≡ None
note_none [] body none = refl
note_none (row ∷ rows) body none =
    ap (λ t. if t then Some row.1 else note_of rows body) (none 0 row (omega arith))
    ∙ note_none rows body (none_in_rest row rows body (length rows) none)

-- the first row that has the body
pub note_there : (rows : List (Body × Note)) (body : Body) (i : ℕ) (d : Body × Note) → i < length rows → same_body (get_or rows i d).0 body ≡ true → NoneBefore rows body i → note_of rows body ≡ Some (get_or rows i d).1
note_there [] body i d within same none = absurd (omega arith)
note_there (row ∷ rows) body zero d within same none = ap (λ t. if t then Some row.1 else note_of rows body) same
note_there (row ∷ rows) body (suc i) d within same none =
    ap (λ t. if t then Some row.1 else note_of rows body) (none 0 d (omega arith))
    ∙ note_there rows body i d (omega arith) same (none_in_rest row rows body i none)

shadowed : {A : Type 0} (t u : Bool) (x y z : A) → u ≡ t → cond t x z ≡ cond t x (cond u y z)
shadowed true u x y z e = refl
shadowed false u x y z e = ap (λ b. cond b y z) (sym e)

swapped : {A : Type 0} (s t : Bool) (x y z : A) → (s ≡ true → t ≡ true → ⊥) → cond s x (cond t y z) ≡ cond t y (cond s x z)
swapped true true x y z apart = absurd (apart refl refl)
swapped true false x y z apart = refl
swapped false t x y z apart = refl

-- two bodies that are not the same are not both a third
not_both : (a b other : Body) → same_body a b ≡ false → same_body a other ≡ true → same_body b other ≡ true → ⊥
not_both a b other apart first second =
    let one : a ≡ b = same_if_tested a other first ∙ sym (same_if_tested b other second) in
    let itself : same_body a b ≡ true = ap (λ (c : Body). same_body a c) (sym one) ∙ tested_itself a in
    cc

-- a row that does not have the body stays before what the rest becomes
later : (row : Body × Note) (old new : List (Body × Note)) (body : Body) (note : Note) → same_body row.0 body ≡ false → NotesOnly old new body note → NotesOnly (row ∷ old) (row ∷ new) body note
later row old new body note apart only other =
    ap (λ o. cond (same_body row.0 other) (Some row.1) o) (only other)
    ∙ swapped (same_body row.0 other) (same_body body other) (Some row.1) (Some note) (note_of old other) (not_both row.0 body other apart)

-- writing over the first row that has the body
pub notes_set : (rows : List (Body × Note)) (body : Body) (note : Note) (i : ℕ) (d : Body × Note) → i < length rows → same_body (get_or rows i d).0 body ≡ true → NoneBefore rows body i → NotesOnly rows (set rows i (body, note)) body note
notes_set [] body note i d within same none = absurd (omega arith)
notes_set (row ∷ rows) body note zero d within same none = λ other.
    shadowed (same_body body other) (same_body row.0 other) (Some note) (Some row.1) (note_of rows other) (ap (λ (b : Body). same_body b other) (same_if_tested row.0 body same))
notes_set (row ∷ rows) body note (suc i) d within same none =
    later row rows (set rows i (body, note)) body note (none 0 d (omega arith)) (notes_set rows body note i d (omega arith) same (none_in_rest row rows body i none))

-- a new row before any that has the body
pub notes_insert : (rows : List (Body × Note)) (body : Body) (note : Note) (i : ℕ) → NoneBefore rows body i → NotesOnly rows (insert rows i (body, note)) body note
notes_insert rows body note zero none = λ other. refl
notes_insert [] body note (suc i) none = λ other. refl
notes_insert (row ∷ rows) body note (suc i) none =
    later row rows (insert rows i (body, note)) body note (none 0 row (omega arith)) (notes_insert rows body note i (none_in_rest row rows body i none))
