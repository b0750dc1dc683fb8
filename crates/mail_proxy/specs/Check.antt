-- What the command `check` writes.
use Rattle.std.specs.Prelude.{◌≡◌, ◌≢◌, ◌⊎◌, ℕ, List, ◌∷◌, ◌++◌, length, codes, decimal}
use Rattle.undo_outside.specs.Disk.{DiskTold}
use Rattle.undo_outside.specs.Moments.{LeavesOnly}
use Rattle.mail_desk.specs.declared.counts.Counts.{Counts}
use Rattle.mail_desk.specs.Counting.{counts_of}
use Rattle.store_kept.specs.Kept.{Kept, store_of}
use Rattle.store_digest.specs.Snapshots.{digest_of}
use Rattle.desk_journal.specs.Lasting.{Lasting}
use Rattle.mail_proxy.specs.Lines.{lf, no_memory}
use Rattle.mail_proxy.specs.Opening.{Opens}
use Rattle.mail_proxy.specs.Texts.{End}

-- a name and a number
abbrev pub count_line : List ℕ → ℕ → List ℕ
count_line name n = name ++ 32 ∷ decimal n ++ lf

-- the six lines of the counts
abbrev pub counts_text : Counts → List ℕ
counts_text counts =
    count_line (codes "cycles") counts.cycles ++ count_line (codes "items") counts.items ++ count_line (codes "messages") counts.messages
    ++ count_line (codes "next") counts.next ++ count_line (codes "notices") counts.notices ++ count_line (codes "users") counts.users

-- the counts, and the digest of the store in hexadecimal
abbrev pub check_text : Kept → List ℕ
check_text kept = counts_text (counts_of kept) ++ codes "digest " ++ digest_of (store_of kept) (length kept.timeline) ++ lf

-- this is told, or no memory is found for it
abbrev pub TellsText : List ℕ → ℕ → List ℕ → Type 0
TellsText text status output = ((status ≡ 0) × (output ≡ text)) ⊎ ((status ≡ 8) × (output ≡ no_memory))

-- the counts are told, or no memory is found for them
abbrev pub TellsCounts : Kept → ℕ → List ℕ → Type 0
TellsCounts kept status output = TellsText (check_text kept) status output

-- Nothing was written: the length is as it was, and a crash at any moment leaves what it could have left at first. What reads give is as before, or
-- after a fault of the disk one of that.
pub record IsOnlyRead (status : ℕ) (old new : DiskTold) : Type 0 where
  pub size : new.size ≡ old.size
  pub any_moment : LeavesOnly old new old.images
  pub reads : old.images new.content
  pub same : status ≢ 5 → new.content ≡ old.content

module _ {D : Type 0} (told : D → DiskTold) where
  -- of a store that was opened the counts are told, and the disk gets no call more
  abbrev pub Counted : Lasting D → End D → Type 0
  Counted desk end = TellsCounts desk.kept end.status end.output × (end.disk ≡ desk.disk)

  -- what `check` comes to
  abbrev pub Checks : D → End D → Type 0
  Checks disk end = Opens told disk Counted end × ((told disk).honest → IsOnlyRead end.status (told disk) (told end.disk))
