-- The lines of messages that go, one by one.
use Rattle.std.proofs.Common.{◌≡◌, ℕ, zero, suc, ◌+◌, ◌-◌, ◌<◌, ◌≤◌, rules, List, [], ◌∷◌, ◌++◌, codes, length, drop, get_or, refl, sym, ◌∙◌, ap, arith, append_assoc, decimal}
use Rattle.std.proofs.lemmas.Grind.{common_steps}
use Rattle.std.proofs.lemmas.List.{append-nil}
use Rattle.imap_text.specs.Words.{line}
use Rattle.imap_text.specs.Answers.{expunge_from}

-- one message more
pub expunge_step : (ns : List ℕ) (i d : ℕ) (out next whole : List ℕ) → i < length ns → out ++ expunge_from i (drop i ns) ≡ whole → next ≡ out ++ line (decimal (get_or ns i d - i) ++ codes " EXPUNGE") → next ++ expunge_from (i + 1) (drop (i + 1) ns) ≡ whole
unfolding expunge_from
expunge_step ns i d out next whole h before more =
    let cut : drop i ns ≡ get_or ns i d ∷ drop (i + 1) ns = grind (arith, common_steps) in
    rw (more, append_assoc out (line (decimal (get_or ns i d - i) ++ codes " EXPUNGE")) (expunge_from (i + 1) (drop (i + 1) ns))) (rw cut at before)

-- no message more
pub expunge_end : (ns : List ℕ) (i : ℕ) (out whole : List ℕ) → length ns ≤ i → out ++ expunge_from i (drop i ns) ≡ whole → out ≡ whole
unfolding expunge_from
expunge_end ns i out whole h before =
    let none : drop i ns ≡ [] = grind (arith, common_steps) in
    sym (append-nil out) ∙ rw none at before
