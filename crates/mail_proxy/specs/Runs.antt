-- What the program does for its words.
use Rattle.std.specs.Prelude.{◌≡◌, ◌⊎◌, ℕ, List}
use Rattle.undo_outside.specs.Calls.{LinkTold, SinkTold, SourceTold}
use Rattle.undo_outside.specs.Disk.{DiskTold}
use Rattle.command_words.specs.Usage.{command_of}
use Rattle.mail_proxy.specs.Answers.{Answers}
use Rattle.mail_proxy.specs.Shows.{Shows}
use Rattle.mail_proxy.specs.Causes.{Comes, Outside}
use Rattle.mail_proxy.specs.Completing.{EndsInTime, NoneFailed}
use Rattle.mail_proxy.specs.Due.{IsDue, IsHindered}
use Rattle.mail_proxy.specs.Headline.{IsServed}
use Rattle.mail_proxy.specs.Promises.{HonestDisk}
use Rattle.mail_proxy.specs.Texts.{End}

-- The words came to this: what was done and written, the disk that is left, and what lasts where mail was served to the end. The status comes for
-- its cause and where it is due.
pub record Runs {D : Type 0} (told : D → DiskTold) (words : List (List ℕ)) (disk left : D) (old : Outside) (text' : SourceTold) (link' : LinkTold) (out' : SinkTold) (status : ℕ) : Type 0 where
  pub end : End D
  pub answers : Answers told words old.text text' old.link link' status old.out out' disk end
  pub shows : Shows end.status end.output status old.out out'
  pub left_is : left ≡ end.disk
  pub served : status ≡ 0 → HonestDisk (told disk) → IsServed (command_of words) old (record { text = text'; link = link'; disk = told left; out = out' })
  pub comes : Comes (command_of words) old (record { text = text'; link = link'; disk = told left; out = out' }) status
  pub due : (k : ℕ) → IsDue (command_of words) old k → (status ≡ k) ⊎ IsHindered status
  pub complete : (k : ℕ) → IsDue (command_of words) old k → NoneFailed old (record { text = text'; link = link'; disk = told left; out = out' })
      → EndsInTime (command_of words) old (record { text = text'; link = link'; disk = told left; out = out' }) → (status ≡ k) ⊎ (status ≡ 8)
