-- Commands as a plain client writes them, byte for byte.
use Rattle.std.proofs.Common.{◌≡◌, true, false, [], ◌∷◌, ◌++◌, codes, None, Some, refl}
use Rattle.std.specs.Fmt.{digits}
use Rattle.undo_base.specs.declared.asks.How.TheVariants.{Add}
use Rattle.undo_base.specs.declared.asks.Section.TheVariants.{Header, Fields}
use Rattle.imap_lines.specs.PlainCommands.{write}
use Rattle.imap_lines.specs.declared.asks.FetchAsk.TheVariants as ask
use Rattle.imap_lines.specs.declared.command.ImapWhat.TheVariants as what

-- a quotation mark has a \ before it, and what no quoted string may have is a literal
pub login : write (record { tag = codes "a"; what = what.Login (codes "fred") (codes "x " ++ 34 ∷ []) }) ≡ record { lines = (codes "a LOGIN fred " ++ 34 ∷ codes "x " ++ 92 ∷ 34 ∷ 34 ∷ []) ∷ []; literals = [] }
unfolding write digits
login = refl

pub select : write (record { tag = codes "b"; what = what.Select (13 ∷ []) }) ≡ record { lines = codes "b SELECT " ∷ [] ∷ []; literals = (13 ∷ []) ∷ [] }
unfolding write digits
select = refl

pub fetch : write (record {
  tag = codes "c";
  what = what.Fetch (record { from = Some 2; to = None } ∷ record { from = Some 9; to = Some 9 } ∷ [])
      (ask.Flags ∷ ask.Body (record { what = Fields (codes "To" ∷ codes "Cc" ∷ []); part = Some (0, 10) }) true ∷ ask.Body (record { what = Header; part = None }) false ∷ []) true;
}) ≡ record { lines = codes "c UID FETCH 2:*,9:9 (FLAGS BODY.PEEK[HEADER.FIELDS (To Cc)]<0.10> BODY[HEADER])" ∷ []; literals = [] }
unfolding write digits
fetch = refl

pub store : write (record {
  tag = codes "d";
  what = what.Store (record { from = Some 1; to = Some 3 } ∷ []) Add true (record { answered = false; flagged = false; deleted = true; seen = true; draft = false }) false;
}) ≡ record { lines = (codes "d STORE 1:3 +FLAGS.SILENT (" ++ 92 ∷ codes "Deleted " ++ 92 ∷ codes "Seen)") ∷ []; literals = [] }
unfolding write digits
store = refl
