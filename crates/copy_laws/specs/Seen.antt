-- What other programs see of a disk while calls on it go on.
use Rattle.std.specs.Prelude.{ℕ, List, [], ◌∷◌}
use Rattle.std.specs.List.{AllByRecursion}
use Rattle.undo_outside.specs.Disk.{DiskTold, IsOverwritten}
use Rattle.seal_log.specs.Journal.{StandsFor, StandsForFront}
use Rattle.seal_log.specs.Loading.{IsDamagedAt}
use Rattle.copy_laws.specs.Copies.{GoForward, Look}

-- What a read sees is what a crash at some moment since this one may have left, but maybe for what lies behind the last gate.
pub record IsSeen (disk : DiskTold) (moment : ℕ) (look : Look) : Type 0 where
  pub image : List ℕ
  pub left : disk.since moment image
  pub same : (payloads : List (List ℕ)) → StandsFor image payloads → StandsFor look.view payloads

-- The premise on the system, of reads that a program makes since a moment while calls on the disk go on. Each of them sees what a crash might have left.
-- None goes back behind the one before it: no gate, one byte, that was seen open is seen closed later (`reads_go_forward`). A call that the system
-- answers in pieces, as page by page, is several reads.
pub record AreReads (disk : DiskTold) (moment : ℕ) (looks : List Look) : Type 0 where
  pub seen : AllByRecursion (IsSeen disk moment) looks
  pub forward : GoForward looks

-- The bytes are damaged at a place, and with one closed gate there they stand for the first payloads and some of those that were being sealed, in order.
pub record IsMended (first sealing : List (List ℕ)) (bytes : List ℕ) : Type 0 where
  pub place : ℕ
  pub damaged : IsDamagedAt bytes place
  pub mended : (new : List ℕ) → IsOverwritten bytes place (0 ∷ []) new → StandsForFront first sealing new
