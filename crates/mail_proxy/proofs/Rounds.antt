-- The events of `grow`, one after the other, and how many there are.
use Rattle.std.proofs.Common.{◌≡◌, ◌≢◌, ◌≤◌, ◌↔◌, ℕ, ◌+◌, ◌*◌, ◌^◌, zero, suc, List, [], ◌∷◌, ◌++◌, length, Option, None, Some, Result, Err, refl, ap, subst, sym, ◌∙◌, arith}
use Rattle.std.specs.List.{flat_map}
use Rattle.std.proofs.lemmas.List.{append-nil, append_assoc, length-append, length-map}
use Rattle.std.proofs.lemmas.Grind.{flat_map-append}
use Rattle.undo_outside.specs.declared.event.Event.{Event}
use Rattle.undo_outside.specs.declared.event.LinkNote.{LinkNote}
use Rattle.undo_outside.specs.Coming.{with_end}
use Rattle.store_kept.specs.Kept.{Kept}
use Rattle.mail_loop.specs.declared.serve.ServeFault.{ServeFault}
use Rattle.mail_loop.specs.declared.serve.ServeFault.TheVariants.{NoMemory, Turns}
use Rattle.mail_loop.specs.Serving.{Served, Step, events_of, left_out_in}
use Rattle.command_words.specs.declared.commands.Command.{Command}
use Rattle.command_words.specs.declared.commands.Command.TheVariants.{Init, Serve, Script, Play, Grow, Check, Cut, Audit}
use Rattle.command_words.specs.Spelling.{Says}
use Rattle.command_words.specs.Usage.{command_of}
use Rattle.mail_proxy.specs.Generated.{generated, greeting, reading_of, repair_of, round_of, up_to}
use Rattle.mail_proxy.specs.Script.{Played}
use Rattle.mail_proxy.proofs.LeftOut.{ended_as}

-- an event, and then more
pub followed : (a b c : List Event) (x : Event) (xs : List Event) → b ≡ a ++ x ∷ [] → c ≡ b ++ xs → c ≡ a ++ x ∷ xs
followed a b c x xs e f = f ∙ ap (λ (l : List Event). l ++ xs) e ∙ append_assoc a (x ∷ []) xs

-- the rounds before, and then one more
pub one_round : (a b c : List Event) (done : ℕ) → b ≡ a ++ flat_map round_of (up_to done) → c ≡ b ++ round_of (done + 1) → c ≡ a ++ flat_map round_of (up_to (done + 1))
one_round a b c done e =
    let same : suc done ≡ done + 1 = omega arith in
    subst (λ (n : ℕ). c ≡ b ++ round_of n → c ≡ a ++ flat_map round_of (up_to n)) same
    (λ f.
    f ∙ ap (λ (l : List Event). l ++ round_of (suc done)) e
    ∙ append_assoc a (flat_map round_of (up_to done)) (round_of (suc done))
    ∙ ap (λ (l : List Event). a ++ l)
    (sym (flat_map-append round_of (up_to done) (suc done ∷ []) ∙ ap (λ (l : List Event). flat_map round_of (up_to done) ++ l) (append-nil (round_of (suc done))))))

-- ---- how many there are

-- seven a round
length-rounds : (n : ℕ) → length (flat_map round_of (up_to n)) ≡ 7 * n
length-rounds zero = refl
length-rounds (suc n) =
    let more : length (flat_map round_of (up_to (suc n))) ≡ length (flat_map round_of (up_to n)) + 7 =
    ap length (flat_map-append round_of (up_to n) (suc n ∷ [])) ∙ length-append (flat_map round_of (up_to n)) (flat_map round_of (suc n ∷ [])) in
    omega (arith, more, length-rounds n)

-- and eight around them
length-generated : (n : ℕ) → length (generated n) ≡ 7 * n + 8
length-generated n =
    let mail : length (greeting ++ flat_map round_of (up_to n)) ≡ 2 + 7 * n = length-append greeting (flat_map round_of (up_to n)) ∙ ap (λ (m : ℕ). 2 + m) (length-rounds n) in
    let read : length (greeting ++ flat_map round_of (up_to n) ++ reading_of n) ≡ 2 + 7 * n + 4 =
    length-append (greeting ++ flat_map round_of (up_to n)) (reading_of n) ∙ ap (λ (m : ℕ). m + 4) mail in
    let all : length (generated n) ≡ 2 + 7 * n + 4 + 2 =
    length-append (greeting ++ flat_map round_of (up_to n) ++ reading_of n) (repair_of n) ∙ ap (λ (m : ℕ). m + 2) read in
    omega (arith, all)

length-with_end : (at : ℕ) (events : List Event) → length (with_end at events) ≡ length events + 1
length-with_end at [] = refl
length-with_end at (e ∷ events) = omega (arith, length-with_end e.at events)

no_want : ◌≢◌ {A = ServeFault} Turns NoMemory
no_want e = cc

-- fewer than are served at most
pub few_events : (rounds : ℕ) (first : Kept) (notes : List LinkNote) (steps : List Step) (last : Kept) → rounds ≤ 100000
    → Played first (generated rounds) (Err Turns) notes steps last → ⊥
few_events rounds first notes steps last few played =
    let (rest, all) = played.events_are in
    let ended : played.ended ≡ Err Turns = ended_as (left_out_in steps) played.ended Turns no_want played.outcome_is in
    let served : Served (2 ^ 40) played.wants steps first notes last (Err Turns) = subst (λ (r : Result (Unit {0}) ServeFault). Served (2 ^ 40) played.wants steps first notes last r) ended played.served in
    let many : length steps ≡ 1099511627776 = served.2 in
    let whole : length (with_end 0 (generated rounds)) ≡ length steps + length rest =
    ap length all ∙ length-append (events_of steps) rest ∙ ap (λ (n : ℕ). n + length rest) (length-map steps (λ (step : Step). step.event)) in
    omega (arith, few, many, whole, length-with_end 0 (generated rounds), length-generated rounds)

-- ---- how many rounds a command has

abbrev pub HasFewRounds : Option Command → Type 0
HasFewRounds None = Unit {0}
HasFewRounds (Some Init) = Unit {0}
HasFewRounds (Some (Serve smtp imap http pop)) = Unit {0}
HasFewRounds (Some Script) = Unit {0}
HasFewRounds (Some Play) = Unit {0}
HasFewRounds (Some (Grow rounds)) = rounds ≤ 100000
HasFewRounds (Some Check) = Unit {0}
HasFewRounds (Some (Cut point)) = Unit {0}
HasFewRounds (Some Audit) = Unit {0}

-- words say no more than 100,000
pub few_rounds : (law : (words : List (List ℕ)) (command : Command) → (command_of words ≡ Some command) ↔ Says words command) (words : List (List ℕ)) → HasFewRounds (command_of words)
few_rounds law words = by_command (command_of words) refl
  where
    by_command : (o : Option Command) → command_of words ≡ o → HasFewRounds o
    by_command None e = tt
    by_command (Some Init) e = tt
    by_command (Some (Serve smtp imap http pop)) e = tt
    by_command (Some Script) e = tt
    by_command (Some Play) e = tt
    by_command (Some (Grow rounds)) e = ((law words (Grow rounds)).0 e).1
    by_command (Some Check) e = tt
    by_command (Some (Cut point)) e = tt
    by_command (Some Audit) e = tt
