-- Answers to STATUS and SELECT do not look at what they were not asked.
use Rattle.std.proofs.Common.{◌≡◌, ℕ, Bool, true, ◌+◌, ◌++◌, ◌∙◌, List, [], ◌∷◌, map, length, codes, decimal, refl, ap, ap₂, Option, None, option_map, position, count_by}
use Rattle.std.specs.Prelude.{if◌then◌else◌}
use Rattle.undo_base.specs.declared.asks.StatusAsk.{StatusAsk}
use Rattle.undo_base.specs.declared.asks.StatusAsk.TheVariants.{Messages, Recent, UidNext, UidValidity, Unseen}
use Rattle.imap_text.specs.declared.facts.BoxFacts.{BoxFacts}
use Rattle.imap_text.specs.Answers.{select_lines, status_line, status_text}
use Rattle.imap_text.specs.Words.{line, listed, quoted}
use Rattle.verb_core.specs.declared.mailbox.Entry.{Entry}
use Rattle.imap_view.specs.Facts.{asks_unseen}
use Rattle.imap_view.specs.Views.{facts_of, is_unseen}

-- a STATUS looks at how many messages are unseen only where that is asked, and never at the first of them
items_same : (facts : BoxFacts) (n : ℕ) (first : Option ℕ) (asked : List StatusAsk) → (asks_unseen asked ≡ true → n ≡ facts.unseen)
    → map (status_text (record facts { unseen = n; first_unseen = first })) asked ≡ map (status_text facts) asked
items_same facts n first [] h = refl
items_same facts n first (Messages ∷ asked) h = ap (λ (rest : List (List ℕ)). status_text facts Messages ∷ rest) (items_same facts n first asked h)
items_same facts n first (Recent ∷ asked) h = ap (λ (rest : List (List ℕ)). status_text facts Recent ∷ rest) (items_same facts n first asked h)
items_same facts n first (UidNext ∷ asked) h = ap (λ (rest : List (List ℕ)). status_text facts UidNext ∷ rest) (items_same facts n first asked h)
items_same facts n first (UidValidity ∷ asked) h = ap (λ (rest : List (List ℕ)). status_text facts UidValidity ∷ rest) (items_same facts n first asked h)
items_same facts n first (Unseen ∷ asked) h =
    ap₂ (λ (m : ℕ) (rest : List (List ℕ)). (codes "UNSEEN" ++ codes " " ++ decimal m) ∷ rest) (h refl) (items_same facts n first asked (λ _. h refl))

-- how many are unseen is counted only where it is asked
counted : (b : Bool) (n : ℕ) → b ≡ true → (if b then n else 0) ≡ n
counted b n e = ap (λ (t : Bool). if t then n else 0) e

pub status_same : (name : List ℕ) (asked : List StatusAsk) (facts : BoxFacts)
    → status_line name asked (record facts { unseen = if asks_unseen asked then facts.unseen else 0; first_unseen = None }) ≡ status_line name asked facts
unfolding status_line
status_same name asked facts =
    ap (λ (texts : List (List ℕ)). line (codes "STATUS " ++ quoted name ++ codes " " ++ listed texts))
    (items_same facts (if asks_unseen asked then facts.unseen else 0) None asked (counted (asks_unseen asked) facts.unseen))

-- a SELECT does not look at how many messages are unseen
pub select_same : (facts : BoxFacts) (n : ℕ) (writes : Bool) → select_lines (record facts { unseen = n }) writes ≡ select_lines facts writes
unfolding select_lines
select_same facts n writes = refl

-- what is told of a mailbox where STATUS asks
pub status_told : (name : List ℕ) (asks asked : List StatusAsk) (entries mail : List Entry) (messages next stamp unseen n s : ℕ) → asks ≡ asked → entries ≡ mail → messages ≡ length entries → next ≡ n → stamp ≡ s
    → unseen ≡ (if asks_unseen asks then count_by is_unseen entries else 0)
    → status_line name asked (record { messages = messages; next = next; stamp = stamp; unseen = unseen; first_unseen = None }) ≡ status_line name asked (facts_of mail n s)
status_told name asks asked entries mail messages next stamp unseen n s same is count next_is stamp_is unseen_is =
    let number : messages ≡ length mail = count ∙ ap (λ (es : List Entry). length es) is in
    let how_many : unseen ≡ (if asks_unseen asked then count_by is_unseen mail else 0) =
    unseen_is ∙ ap₂ (λ (rows : List StatusAsk) (es : List Entry). if asks_unseen rows then count_by is_unseen es else 0) same is in
    ap (λ (facts : BoxFacts). status_line name asked facts) (λ i. record { messages = number i; next = next_is i; stamp = stamp_is i; unseen = how_many i; first_unseen = None })
    ∙ status_same name asked (facts_of mail n s)

-- what is told of a mailbox where it is selected
pub select_told : (writes : Bool) (entries mail : List Entry) (messages next stamp n s : ℕ) (first : Option ℕ) → entries ≡ mail → messages ≡ length entries → next ≡ n → stamp ≡ s
    → first ≡ option_map (λ place. place + 1) (position is_unseen entries)
    → select_lines (record { messages = messages; next = next; stamp = stamp; unseen = 0; first_unseen = first }) writes ≡ select_lines (facts_of mail n s) writes
select_told writes entries mail messages next stamp n s first is count next_is stamp_is first_is =
    let number : messages ≡ length mail = count ∙ ap (λ (es : List Entry). length es) is in
    let which : first ≡ option_map (λ place. place + 1) (position is_unseen mail) =
    first_is ∙ ap (λ (es : List Entry). option_map (λ place. place + 1) (position is_unseen es)) is in
    ap (λ (facts : BoxFacts). select_lines facts writes) (λ i. record { messages = number i; next = next_is i; stamp = stamp_is i; unseen = 0; first_unseen = which i })
    ∙ select_same (facts_of mail n s) 0 writes
