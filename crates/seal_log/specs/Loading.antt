-- What is found in an image.
use Rattle.std.specs.Prelude.{◌≡◌, ◌≢◌, ◌⊎◌, ◌+◌, ◌<◌, ℕ, Bool, true, false, List, [], ◌∷◌, ◌++◌, length, take, Result, Ok, Err}
use Rattle.std.specs.List.{AllByRecursion}
use Rattle.std.specs.Int.{w32, from_be_bytes}
use Rattle.seal_log.specs.declared.fault.LoadFault.{LoadFault}
use Rattle.seal_log.specs.declared.fault.LoadFault.TheVariants.{NotFormatted, Damaged, Disk, NoMemory}
use Rattle.seal_log.specs.declared.place.Place.{Place}
use Rattle.seal_log.specs.declared.seen.Found.{Found}
use Rattle.seal_log.specs.declared.seen.Found.TheVariants.{Frame, Closed, Cut}
use Rattle.seal_log.specs.declared.seen.Survey.{Survey}
use Rattle.seal_log.specs.Journal.{frame, sealed, BeginsClosed, IsPayload}
use Rattle.seal_log.specs.Log.{end_gate, is_cut}

-- an open gate stands first, and its frame and the next gate are not within the bytes
abbrev pub BeginsCut : List ℕ → Type 0
BeginsCut [] = ⊥
BeginsCut (gate ∷ rest) = (gate ≡ 85) × (length rest < 5 + from_be_bytes w32 (take 4 rest))

-- an open gate stands first, and its frame and the next gate are within the bytes
pub record BeginsWhole (bytes : List ℕ) (count : ℕ) : Type 0 where
  pub payload : List ℕ
  pub rest : List ℕ
  pub split : bytes ≡ 85 ∷ (frame payload ++ rest)
  pub count_is : count ≡ length payload
  pub fits : IsPayload payload
  pub more : 0 < length rest

-- what stands at a gate
abbrev pub FindsFrame : List ℕ → Found → Type 0
FindsFrame bytes (Frame count) = BeginsWhole bytes count
FindsFrame bytes Closed = BeginsClosed bytes
FindsFrame bytes Cut = BeginsCut bytes

-- the gate behind a frame is before the end
abbrev pub IsFollowed : ℕ → ℕ → Found → Type 0
IsFollowed gate end (Frame count) = gate + 5 + count < end
IsFollowed gate end Closed = Unit {0}
IsFollowed gate end Cut = Unit {0}

-- the places of these payloads, the first of which has its gate here
abbrev pub places_from : ℕ → List (List ℕ) → List Place
places_from gate [] = []
places_from gate (payload ∷ payloads) = record { gate = gate; length = length payload } ∷ places_from (gate + 5 + length payload) payloads

-- a frame that is cut stands first, or a gate that is not open
abbrev pub BeginsCutOrClosed : Bool → List ℕ → Type 0
BeginsCutOrClosed true bytes = BeginsCut bytes
BeginsCutOrClosed false bytes = BeginsClosed bytes

-- the image begins with payloads with these places, up to this gate, whose frame is cut or that is not open
pub record FindsPayloads (image : List ℕ) (gate : ℕ) (places : List Place) (is_cut : Bool) : Type 0 where
  pub payloads : List (List ℕ)
  pub rest : List ℕ
  pub split : image ≡ sealed payloads ++ rest
  pub ends : BeginsCutOrClosed is_cut rest
  pub gate_is : gate ≡ length (sealed payloads)
  pub places_are : places ≡ places_from 0 payloads
  pub short : AllByRecursion IsPayload payloads

-- one reading goes on from another: behind the payloads of the first stand more, and then the rest of the second
pub record GoesOn (a : List (List ℕ)) (r : List ℕ) (b : List (List ℕ)) (s : List ℕ) : Type 0 where
  pub more : List (List ℕ)
  pub payloads : b ≡ a ++ more
  pub rest : r ≡ sealed more ++ s

-- behind some payloads stands an open gate whose frame and next gate are not within the image
pub record IsDamagedAt (image : List ℕ) (place : ℕ) : Type 0 where
  pub payloads : List (List ℕ)
  pub rest : List ℕ
  pub split : image ≡ sealed payloads ++ rest
  pub cut : BeginsCut rest
  pub place_is : place ≡ length (sealed payloads)
  pub short : AllByRecursion IsPayload payloads

-- nothing, or a first gate that is not open
abbrev pub IsNotFormatted : List ℕ → Type 0
IsNotFormatted [] = Unit {0}
IsNotFormatted (gate ∷ rest) = gate ≢ 85

-- the same of an image that may be no journal: where there is one, something stands there, whole or cut
abbrev pub FindsJournal : List ℕ → Result Survey LoadFault → Type 0
FindsJournal image (Ok seen) = FindsPayloads image (end_gate seen.end) seen.places (is_cut seen.end) × ((is_cut seen.end ≡ true) ⊎ (0 < length seen.places))
FindsJournal image (Err NotFormatted) = IsNotFormatted image
FindsJournal image (Err (Damaged place)) = ⊥
FindsJournal image (Err Disk) = Unit {0}
FindsJournal image (Err NoMemory) = Unit {0}
