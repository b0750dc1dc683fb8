-- What loading a journal gives.
use Rattle.std.specs.Prelude.{◌≡◌, ◌<◌, ℕ, Bool, true, false, List, ◌++◌, length, Result, Ok, Err}
use Rattle.std.specs.List.{AllByRecursion}
use Rattle.undo_outside.specs.Disk.{DiskTold}
use Rattle.seal_log.specs.declared.fault.LoadFault.{LoadFault}
use Rattle.seal_log.specs.declared.fault.LoadFault.TheVariants.{NotFormatted, Damaged, Disk, NoMemory}
use Rattle.seal_log.specs.declared.log.Log.{Log}
use Rattle.seal_log.specs.declared.place.Place.{Place}
use Rattle.seal_log.specs.declared.seen.Survey.{Survey}
use Rattle.seal_log.specs.Journal.{sealed, BeginsClosed, IsPayload, StandsFor}
use Rattle.seal_log.specs.Loading.{BeginsCut, IsDamagedAt, IsNotFormatted, places_from}
use Rattle.seal_log.specs.Log.{end_gate, is_cut, last_gate}
use Rattle.seal_log.specs.Settled.{Holds, IsSettled}

-- Behind the payloads an open gate stands whose frame and next gate are not within the image. Or a gate stands there that is not
-- open, behind one payload at least, and the disk is settled there.
abbrev pub EndsJournal : Bool → DiskTold → ℕ → List (List ℕ) → List ℕ → Type 0
EndsJournal true disk gate payloads rest = BeginsCut rest
EndsJournal false disk gate payloads rest = BeginsClosed rest × (0 < length payloads) × IsSettled disk gate payloads

-- The image begins with payloads, these are their places, each image of the disk begins with them, and so they end.
pub record IsSurveyed (image : List ℕ) (disk : DiskTold) (gate : ℕ) (places : List Place) (is_cut : Bool) : Type 0 where
  pub payloads : List (List ℕ)
  pub rest : List ℕ
  pub split : image ≡ sealed payloads ++ rest
  pub short : AllByRecursion IsPayload payloads
  pub gate_is : gate ≡ length (sealed payloads)
  pub places_are : places ≡ places_from 0 payloads
  pub held : Holds disk payloads
  pub ends : EndsJournal is_cut disk gate payloads rest

-- what a survey says of the image that was there, and of the disk that is left
abbrev pub Surveys : List ℕ → DiskTold → Result Survey LoadFault → Type 0
Surveys image disk (Ok seen) = IsSurveyed image disk (end_gate seen.end) seen.places (is_cut seen.end)
Surveys image disk (Err NotFormatted) = IsNotFormatted image
Surveys image disk (Err (Damaged place)) = ⊥
Surveys image disk (Err Disk) = Unit {0}
Surveys image disk (Err NoMemory) = Unit {0}

-- The image stands for payloads, one at least, these are their places, and the disk is settled behind them.
pub record IsLoaded (image : List ℕ) (disk : DiskTold) (gate : ℕ) (places : List Place) : Type 0 where
  pub payloads : List (List ℕ)
  pub some : 0 < length payloads
  pub stands : StandsFor image payloads
  pub settled : IsSettled disk gate payloads
  pub places_are : places ≡ places_from 0 payloads

-- what the answer says of the image that was there, and of the disk that is left
abbrev pub Loads : List ℕ → DiskTold → Result (Log × List Place) LoadFault → Type 0
Loads image disk (Ok loaded) = IsLoaded image disk (last_gate loaded.0) loaded.1
Loads image disk (Err NotFormatted) = IsNotFormatted image
Loads image disk (Err (Damaged place)) = IsDamagedAt image place
Loads image disk (Err Disk) = Unit {0}
Loads image disk (Err NoMemory) = Unit {0}
