-- Copies of a journal's file that are made while its server writes: what a program gets that reads it from front to back, in pieces, and what of that
-- stands.
use Rattle.std.specs.Prelude.{◌≡◌, ◌⊎◌, ℕ, ◌+◌, ◌≤◌, List, [], ◌∷◌, ◌++◌, length, take, drop}
use Rattle.undo_outside.specs.Disk.{IsOverwritten}
use Rattle.seal_log.specs.Journal.{sealed, StandsFor}
use Rattle.seal_log.specs.Loading.{IsDamagedAt}

-- ---- reading

-- one read of a program: the file as it is seen then, and how many bytes are asked for
pub record Look : Type 0 where
  pub view : List ℕ
  pub most : ℕ

-- what a read gets behind so many bytes: as many as are asked for, or all that are there
abbrev pub got : ℕ → Look → List ℕ
got from look = take look.most (drop from look.view)

-- what reads get behind so many bytes, each of them where the one before it ended
abbrev pub read_from : ℕ → List Look → List ℕ
read_from from [] = []
read_from from (look ∷ looks) = got from look ++ read_from (from + length (got from look)) looks

-- A copy: what reads get from the beginning of the file on. A program that looks for the length first begins with a read that asks for no byte.
abbrev pub copy_of : List Look → List ℕ
copy_of looks = read_from 0 looks

-- the last read comes to the end of the file, as it is then
abbrev pub ComesToEnd : ℕ → List Look → Type 0
ComesToEnd from [] = ⊥
ComesToEnd from (look ∷ []) = length look.view ≤ from + look.most
ComesToEnd from (look ∷ next ∷ looks) = ComesToEnd (from + length (got from look)) (next ∷ looks)

-- A program reads on until it finds the end, as cp, cat and dd do.
abbrev pub IsToEnd : List Look → Type 0
IsToEnd looks = ComesToEnd 0 looks

-- A program gets as many bytes as the file has at its first read, as tar and rsync do, or more.
abbrev pub IsOfLength : Look → List Look → Type 0
IsOfLength look looks = length look.view ≤ length (copy_of (look ∷ looks))

-- ---- a journal that goes on

-- a view stands for some payloads
abbrev pub IsJournal : Look → Type 0
IsJournal look = (payloads : List (List ℕ)) × StandsFor look.view payloads

-- what is sealed in one view stands in a later one, in the same place: nothing before the last gate changes
abbrev pub Keeps : List ℕ → List ℕ → Type 0
Keeps earlier later = (payloads : List (List ℕ)) → StandsFor earlier payloads → (rest : List ℕ) × (later ≡ sealed payloads ++ rest)

-- no read goes back behind the one before it
abbrev pub GoForward : List Look → Type 0
GoForward [] = Unit {0}
GoForward (look ∷ []) = Unit {0}
GoForward (look ∷ next ∷ looks) = Keeps look.view next.view × GoForward (next ∷ looks)

-- ---- what a copy stands for

-- one of the views stands for these payloads
abbrev pub IsOfOne : List Look → List (List ℕ) → Type 0
IsOfOne [] payloads = ⊥
IsOfOne (look ∷ looks) payloads = StandsFor look.view payloads ⊎ IsOfOne looks payloads

-- The bytes stand for these payloads and maybe more, just those for which one of the views stands.
pub record IsOfAMoment (looks : List Look) (first : List (List ℕ)) (bytes : List ℕ) : Type 0 where
  pub more : List (List ℕ)
  pub stands : StandsFor bytes (first ++ more)
  pub seen : IsOfOne looks (first ++ more)

-- Of these payloads the bytes have a front: at a place behind it a gate is open, and its frame or the next gate is not in the bytes. With one closed gate
-- in that place they stand for this front.
pub record IsCut (payloads : List (List ℕ)) (bytes : List ℕ) : Type 0 where
  pub some : List (List ℕ)
  pub left : List (List ℕ)
  pub all : payloads ≡ some ++ left
  pub place : ℕ
  pub damaged : IsDamagedAt bytes place
  pub mended : (new : List ℕ) → IsOverwritten bytes place (0 ∷ []) new → StandsFor new some

-- The bytes are damaged at a place: a gate there is open, and its frame or the next gate is not in them. With one closed gate in that place they stand
-- for these payloads and maybe more, which one of the views has, maybe with more.
pub record IsCutShort (looks : List Look) (first : List (List ℕ)) (bytes : List ℕ) : Type 0 where
  pub more : List (List ℕ)
  pub left : List (List ℕ)
  pub seen : IsOfOne looks (first ++ (more ++ left))
  pub place : ℕ
  pub damaged : IsDamagedAt bytes place
  pub mended : (new : List ℕ) → IsOverwritten bytes place (0 ∷ []) new → StandsFor new (first ++ more)
