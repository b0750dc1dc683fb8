-- What opening a store leaves of its disk.
use Rattle.std.proofs.Common.{◌≡◌, ◌≢◌, ◌∙◌, List, ℕ, Result, Ok, Err}
use Rattle.undo_outside.proofs.Moments.{joined}
use Rattle.desk_journal.specs.Lasting.{Lasting}
use Rattle.desk_journal.specs.Reading.{IsStill}
use Rattle.std.specs.Prelude.{IsErrOf}
use Rattle.undo_outside.specs.Disk.{DiskTold, IsHonest}
use Rattle.store_kept.specs.Kept.{Kept}
use Rattle.time_desk.specs.declared.fault.StartFault.{StartFault}
use Rattle.time_desk.specs.declared.fault.StartFault.TheVariants as start
use Rattle.time_desk.specs.Opening.{Starts}
use Rattle.mail_proxy.specs.Check.{IsOnlyRead}
use Rattle.mail_proxy.specs.Opening.{start_status}

-- a store that was opened met no fault
pub opened_well : (x : Kept × ℕ) → IsErrOf {T = Kept × ℕ} (Ok x) start.Disk → ⊥
opened_well x e = let wrong : ◌≡◌ {A = Result (Kept × ℕ) StartFault} (Ok x) (Err start.Disk) = e in cc

-- a fault of the disk is status 5
pub no_disk_fault : (status : ℕ) (fault : StartFault) → status ≡ start_status fault → status ≢ 5 → IsErrOf {T = Kept × ℕ} (Err fault) start.Disk → ⊥
no_disk_fault status start.NotFormatted is other e = let wrong : ◌≡◌ {A = Result (Kept × ℕ) StartFault} (Err start.NotFormatted) (Err start.Disk) = e in cc
no_disk_fault status (start.Damaged place) is other e = let wrong : ◌≡◌ {A = Result (Kept × ℕ) StartFault} (Err (start.Damaged place)) (Err start.Disk) = e in cc
no_disk_fault status start.Disk is other e = other is
no_disk_fault status start.NoMemory is other e = let wrong : ◌≡◌ {A = Result (Kept × ℕ) StartFault} (Err start.NoMemory) (Err start.Disk) = e in cc

-- where a store was opened, or was not, nothing was written
pub only_read : {D : Type 0} (told : D → DiskTold) (truth : (d : D) → (told d).honest → IsHonest (told d)) (disk new : D) (r : Result (Kept × ℕ) StartFault) (status : ℕ)
    → Starts (told disk) (told new) r → (status ≢ 5 → IsErrOf r start.Disk → ⊥) → (told disk).honest → IsOnlyRead status (told disk) (told new)
only_read told truth disk new r status starts none honest =
    let moments = starts.any_moment honest in
    let now = truth new (starts.honest honest) in
    record {
      size = starts.size;
      any_moment = moments;
      reads = moments.each (told new).content (now.counts_now (told disk).moment (told new).content moments.later now.content_is_image);
      same = λ other. starts.content honest (none other);
    }

-- where a store was opened and then read, nothing was written
pub only_read_on : {D : Type 0} (told : D → DiskTold) (truth : (d : D) → (told d).honest → IsHonest (told d)) (disk : D) (first last : Lasting D) (status : ℕ)
    → Starts (told disk) (told first.disk) (Ok (first.kept, first.gate)) → IsStill told first last → (told disk).honest → IsOnlyRead status (told disk) (told last.disk)
only_read_on told truth disk first last status starts still honest =
    let reads = still.reads.reads in
    let opened = starts.honest honest in
    let moments = starts.any_moment honest in
    let now = truth first.disk opened in
    let since = reads.any_moment opened in
    let old = λ (c : List ℕ) (image : (told first.disk).images c). moments.each c (now.counts_now (told disk).moment c moments.later image) in
    let is_there = truth last.disk (reads.honest opened) in
    record {
      size = reads.size ∙ starts.size;
      any_moment = joined (told disk) (told first.disk) (told last.disk) (told disk).images (told first.disk).images (told disk).images moments since (λ c image. image) old;
      reads = old (told last.disk).content (reads.images opened (told last.disk).content is_there.content_is_image);
      same = λ other. reads.content opened ∙ starts.content honest (opened_well (first.kept, first.gate));
    }
