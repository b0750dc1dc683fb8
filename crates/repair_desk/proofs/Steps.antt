-- Steps of passes over what is asked.
use Rattle.std.proofs.Common.{◌≡◌, ◌+◌, ◌<◌, ◌∷◌, ◌++◌, ℕ, not, arith, sym, ◌∙◌, ap, ap₂, List, [], take, length, get_or, map, append_assoc, length-take-le}
use Rattle.std.proofs.lemmas.List.{take_more}
use Rattle.std.proofs.lemmas.List.Elements.{filter_agree}
use Rattle.verb_core.specs.declared.item.Act.{Act}
use Rattle.verb_core.specs.declared.item.Item.{Item}
use Rattle.verb_bytes.specs.declared.journal.CycleAsk.{CycleAsk}
use Rattle.verb_core.specs.Deeds.{act_item}
use Rattle.repair_desk.specs.Repairs.{dropped, inserted, is_among, missing, numbers_of, replaced, unmatched}

-- ---- acts that come in

one_more : (number at m : ℕ) (acts : List Act) (act : Act) → m ≡ number + length acts → inserted number at (acts ++ act ∷ []) ≡ inserted number at acts ++ act_item (m + 1) at act ∷ []
one_more number at m [] act e = let same : number ≡ m = omega arith in ap (λ n. act_item (n + 1) at act ∷ []) same
one_more number at m (a ∷ acts) act e = ap (λ (t : List Item). act_item (number + 1) at a ∷ t) (one_more (number + 1) at m acts act (omega arith))

pub comes_in : (number at m i : ℕ) (acts : List Act) (act : Act) (start now then : List Item) (item : Item) → i < length acts → act ≡ get_or acts i act → m ≡ number + i
    → now ≡ start ++ inserted number at (take i acts) → item ≡ act_item (m + 1) at act → then ≡ now ++ item ∷ [] → then ≡ start ++ inserted number at (take (i + 1) acts)
comes_in number at m i acts act start now then item lt is count before made pushed =
    let few : length (take i acts) ≡ i = length-take-le i acts (omega arith) in
    let place : m ≡ number + length (take i acts) = omega arith in
    pushed ∙ ap₂ (λ (a : List Item) (b : Item). a ++ b ∷ []) before made ∙ append_assoc start (inserted number at (take i acts)) (act_item (m + 1) at act ∷ [])
    ∙ ap (λ (t : List Item). start ++ t) (
    sym (one_more number at m (take i acts) act place)
    ∙ ap (inserted number at) (sym (take_more acts i act lt ∙ ap (λ (y : Act). take i acts ++ y ∷ []) (sym is)))
    )

-- ---- numbers that none has

same_missing : (a b : List ℕ) → ((n : ℕ) → is_among a n ≡ is_among b n) → (numbers : List ℕ) → missing a numbers ≡ missing b numbers
same_missing a b same numbers = filter_agree (λ n. not (is_among a n)) (λ n. not (is_among b n)) (λ n. ap not (same n)) numbers

pub all_missing : (ask asked : CycleAsk) (later : List Item) (gone changed none first all : List ℕ) (drops : List ℕ) (replaces : List (ℕ × List ℕ)) → asked ≡ ask
    → ((n : ℕ) → is_among gone n ≡ is_among (numbers_of (dropped asked later)) n) → ((n : ℕ) → is_among changed n ≡ is_among (numbers_of (replaced asked later)) n)
    → drops ≡ ask.drops → replaces ≡ ask.replaces → none ≡ [] → first ≡ none ++ missing gone drops → all ≡ first ++ missing changed (map (λ (r : ℕ × List ℕ). r.0) replaces) → all ≡ unmatched ask later
all_missing ask asked later gone changed none first all drops replaces is went got d r n f a =
    a ∙ ap₂ (λ (x y : List ℕ). x ++ y)
    (f ∙ ap (λ (x : List ℕ). x ++ missing gone drops) n ∙ same_missing gone _ went drops ∙ ap₂ (λ (k : CycleAsk) (xs : List ℕ). missing (numbers_of (dropped k later)) xs) is d)
    (same_missing changed _ got (map (λ (p : ℕ × List ℕ). p.0) replaces) ∙ ap₂ (λ (k : CycleAsk) (ps : List (ℕ × List ℕ)). missing (numbers_of (replaced k later)) (map (λ (p : ℕ × List ℕ). p.0) ps)) is r)
