-- What a disk does to its file.
use Rattle.std.specs.Prelude.{◌≡◌, ◌==◌, ◌-◌, ℕ, Bool, if◌then◌else◌, List, [], ◌∷◌, length, take, drop, Option, Result, Ok, Err}
use Rattle.undo_outside.specs.Calls.{then_told}
use Rattle.host_outside.specs.declared.calls.FileCall.{FileCall}
use Rattle.host_outside.specs.declared.calls.FileCall.TheVariants.{Cut, Made, Read, Stood, Wrote, SyncedAll, SyncedBytes, SyncedFolder}
use Rattle.host_outside.specs.declared.file_disk.State.{State}
use Rattle.host_outside.specs.declared.file_disk.State.TheVariants.{Nothing, Missing, There}

-- a call was done and is told, or failed and is not
abbrev pub Does : {E : Type 0} → Option (List FileCall) → Option (List FileCall) → FileCall → Result (Unit {0}) E → Type 0
Does old new call (Ok x) = new ≡ then_told old (call ∷ [])
Does old new call (Err e) = new ≡ old

-- what a read does: one of no bytes asks nothing of a file that is missing
abbrev pub reads : State → ℕ → ℕ → List FileCall
reads There place count = Read place count ∷ []
reads Missing place count = []
reads Nothing place count = []

-- what stands before a write: the first one makes the file
abbrev pub makes : State → List FileCall
makes There = []
makes Missing = Made ∷ []
makes Nothing = []

-- A write of bytes behind the end: the file is found at its path, with the length that is told, and then they are written.
abbrev pub adds : ℕ → List ℕ → Option (List FileCall) → Option (List FileCall)
adds size bytes told = if length bytes == 0 then told else then_told (then_told told (Stood size ∷ [])) (Wrote size bytes ∷ [])

-- a write of bytes before the end
abbrev pub changes : ℕ → List ℕ → Option (List FileCall) → Option (List FileCall)
changes place bytes told = if length bytes == 0 then told else then_told told (Wrote place bytes ∷ [])

-- A write at a place of a file of this length: what lies behind the end is written first, and then what lies before it.
abbrev pub writes : State → ℕ → ℕ → List ℕ → Option (List FileCall) → Option (List FileCall)
writes state size place bytes told =
    changes place (take (size - place) bytes) (adds size (drop (size - place) bytes) (then_told told (makes state)))

-- A write for which no room was found: what it left behind the end is cut off again.
abbrev pub cuts : State → ℕ → Option (List FileCall) → Option (List FileCall)
cuts state size told = then_told (then_told (then_told told (makes state)) (Stood size ∷ [])) (Cut size ∷ [])

-- What a sync does. The length and the times are synced where the length may be another than at the last sync.
abbrev pub syncs : State → Bool → List FileCall
syncs There has_grown = (if has_grown then SyncedAll else SyncedBytes) ∷ []
syncs Missing has_grown = []
syncs Nothing has_grown = []

-- what follows it: the folder of a file that is new there is synced, so that the file is found after a crash
abbrev pub finds : State → Bool → List FileCall
finds There is_new = if is_new then SyncedFolder ∷ [] else []
finds Missing is_new = []
finds Nothing is_new = []
