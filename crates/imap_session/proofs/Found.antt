-- The messages that a SEARCH finds, one by one.
use Rattle.std.proofs.Common.{◌≡◌, ℕ, suc, ◌+◌, ◌-◌, ◌<◌, ◌≤◌, List, [], ◌∷◌, ◌++◌, length, drop, get_or, ap, sym, ◌∙◌, arith, append_assoc}
use Rattle.std.proofs.lemmas.Grind.{common_steps}
use Rattle.std.proofs.lemmas.List.{append-nil}
use Rattle.std.specs.List.{range_with_len}
use Rattle.imap_fetch.specs.declared.messages.Message.{Message}
use Rattle.imap_session.specs.Searching.{kept, found_from}
use Rattle.imap_session.specs.declared.dialog.Searching.{Searching}

-- one message more
pub found_step : (q : Searching) (texts : List (List ℕ)) (rows : List Message) (i : ℕ) (d : Message) (found next whole : List Message) → i < length rows → found ++ found_from q texts i (drop i rows) ≡ whole
    → next ≡ found ++ kept q texts i (get_or rows i d) → next ++ found_from q texts (i + 1) (drop (i + 1) rows) ≡ whole
unfolding found_from
found_step q texts rows i d found next whole h before more =
    let cut : drop i rows ≡ get_or rows i d ∷ drop (i + 1) rows = grind (arith, common_steps) in
    rw (more, append_assoc found (kept q texts i (get_or rows i d)) (found_from q texts (i + 1) (drop (i + 1) rows))) (rw cut at before)

-- no message more
pub found_end : (q : Searching) (texts : List (List ℕ)) (rows : List Message) (i : ℕ) (found whole : List Message) → length rows ≤ i → found ++ found_from q texts i (drop i rows) ≡ whole → found ≡ whole
unfolding found_from
found_end q texts rows i found whole h before =
    let none : drop i rows ≡ [] = grind (arith, common_steps) in
    sym (append-nil found) ∙ rw none at before

-- one place more
pub place_step : (places next whole : List ℕ) (place count : ℕ) → place < count → places ++ range_with_len place (count - place) ≡ whole → next ≡ places ++ place ∷ []
    → next ++ range_with_len (place + 1) (count - (place + 1)) ≡ whole
place_step places next whole place count h before more =
    let left : count - place ≡ suc (count - (place + 1)) = omega (arith, h) in
    ap (λ l. l ++ range_with_len (place + 1) (count - (place + 1))) more
    ∙ append_assoc places (place ∷ []) (range_with_len (place + 1) (count - (place + 1)))
    ∙ ap (λ n. places ++ range_with_len place n) (sym left) ∙ before

-- no place more
pub place_end : (places whole : List ℕ) (place count : ℕ) → count ≤ place → places ++ range_with_len place (count - place) ≡ whole → places ≡ whole
place_end places whole place count h before =
    let none : count - place ≡ 0 = omega (arith, h) in
    sym (append-nil places) ∙ ap (λ n. places ++ range_with_len place n) (sym none) ∙ before
