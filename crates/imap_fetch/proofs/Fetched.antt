-- What a FETCH tells, message by message.
use Rattle.std.proofs.Common.{◌≡◌, ℕ, ◌+◌, ◌<◌, ◌≤◌, List, ◌++◌, length, take, get_or, sym, ◌∙◌, ap}
use Rattle.std.specs.List.{flat_map, enumerate_from}
use Rattle.imap_fetch.specs.declared.messages.Message.{Message}
use Rattle.imap_fetch.specs.declared.lines.FetchForm.{FetchForm}
use Rattle.imap_fetch.specs.Told.{fetch_lines, fetched_line, beside_line, text_beside}
use Rattle.imap_fetch.proofs.Places.{placed_step, placed_end}

-- one message more
pub fetch_more : (form : FetchForm) (texts : List (List ℕ)) (rows : List Message) (i : ℕ) (d : Message) (out next text : List ℕ) → i < length rows → out ≡ flat_map (beside_line form texts) (enumerate_from 0 (take i rows)) → text ≡ text_beside texts i → next ≡ out ++ fetched_line form (get_or rows i d) text → next ≡ flat_map (beside_line form texts) (enumerate_from 0 (take (i + 1) rows))
fetch_more form texts rows i d out next text h before is more =
    placed_step (beside_line form texts) rows i d out next h before (more ∙ ap (λ t. out ++ fetched_line form (get_or rows i d) t) is)

-- no message is left
pub fetch_end : (form : FetchForm) (texts all_texts : List (List ℕ)) (rows all_rows : List Message) (i : ℕ) (out : List ℕ) → length rows ≤ i → out ≡ flat_map (beside_line form texts) (enumerate_from 0 (take i rows)) → rows ≡ all_rows → texts ≡ all_texts → out ≡ fetch_lines form all_rows all_texts
unfolding fetch_lines
fetch_end form texts all_texts rows all_rows i out h before rows_are texts_are =
    rw (sym rows_are, sym texts_are) (placed_end (beside_line form texts) rows i out h before)
