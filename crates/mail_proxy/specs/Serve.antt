-- What the command `serve` answers, and what it leaves of the link and of the disk.
use Rattle.std.specs.Prelude.{◌≡◌, ◌⊎◌, ℕ, ◌^◌, List, Result, Ok}
use Rattle.undo_outside.specs.declared.event.LinkNote.{LinkNote}
use Rattle.undo_outside.specs.Calls.{LinkTold}
use Rattle.undo_outside.specs.Disk.{DiskTold}
use Rattle.desk_journal.specs.Lasting.{Lasting}
use Rattle.time_desk.specs.Opening.{Starts}
use Rattle.mail_loop.specs.declared.serve.ServeFault.{ServeFault}
use Rattle.mail_loop.specs.Serving.{Step, ServedOver}
use Rattle.mail_proxy.specs.Opening.{OpensNone}
use Rattle.mail_proxy.specs.Promises.{HonestDisk, IsLasting, ServesDesk}
use Rattle.mail_proxy.specs.Script.{last_line, status_of}
use Rattle.mail_proxy.specs.Texts.{End}

-- How the events of a link were served over a desk. These are the machine's steps for those that came, what the link did, what is to be answered and
-- written, and what became of the desk.
pub record ServesLink {D : Type 0} (told : D → DiskTold) (link link' : LinkTold) (first last : Lasting D) (status : ℕ) (output : List ℕ) : Type 0 where
  pub outcome : Result (Unit {0}) ServeFault
  pub notes : List LinkNote
  pub steps : List Step
  pub over : ServedOver (2 ^ 40) steps notes link link' first.kept last.kept outcome
  pub status_is : status ≡ status_of outcome
  pub output_is : output ≡ last_line outcome
  pub desk : ServesDesk told steps outcome first last

module _ {D : Type 0} (told : D → DiskTold) where
  -- The events are served over the desk of a store that was opened, and then the disk gets no call more. On an honest disk this lasts.
  abbrev pub ServesOn : D → LinkTold → LinkTold → Lasting D → End D → Type 0
  ServesOn disk link link' first end =
      (last : Lasting D) × (run : ServesLink told link link' first last end.status end.output) × (end.disk ≡ last.disk)
      × (HonestDisk (told disk) → IsLasting told run.steps run.outcome first last run.desk (told disk) (told end.disk))

  -- what `serve` comes to: no store was opened, and the link got no call; or one was, and its events were served over it
  abbrev pub ServesStore : LinkTold → LinkTold → D → End D → Type 0
  ServesStore link link' disk end =
      (OpensNone told disk end × (link' ≡ link))
      ⊎ ((desk : Lasting D) × Starts (told disk) (told desk.disk) (Ok (desk.kept, desk.gate)) × ServesOn disk link link' desk end)
