-- `clap` takes the words of each shape.
use Rattle.std.proofs.Common.{◌≡◌, ℕ, List, [], ◌∷◌, true, false, refl, codes, Some, None, Bool, ◌&&◌, sym, ap, subst, ◌∙◌}
use Rattle.std.specs.Bool.{◌==◌}
use Rattle.clap.specs.Words.{Text, Row, Shape, takes}
use Rattle.clap.specs.Walk.{Walk, walked, walk, finished, walk_from, nothing_held, idle, reading_by}
use Rattle.clap.specs.Takes.{turn_passes, walk_passes, settle_passes, default_passes, is_valid, level_passes}
use Rattle.std.specs.List.{list_all}
use Rattle.clap.specs.Simple.{built_leaf, inherited, on_top, with_leaf_noted, marked_built}
use Rattle.clap.specs.declared.parser.matches.ValueSource.TheVariants.{CommandLine}
use Rattle.clap.proofs.OnLiterals.{clap_on_literals}
use Rattle.command_words.specs.Program.{program, serve_shape, word_rule}

-- a word that is not empty and begins with no hyphen
abbrev pub IsWord : Text → Type 0
IsWord [] = ⊥
IsWord (b ∷ t) = (b == 45) ≡ false

-- ---- the commands of one word or two are taken

pub takes-play : takes program (codes "play" ∷ []) ≡ true
unfolding clap_on_literals
takes-play = refl

pub takes-init : (a : Text) → IsWord a → takes program (codes "init" ∷ a ∷ []) ≡ true
unfolding clap_on_literals
takes-init [] h = absurd h
takes-init (b ∷ t) h = simp h

pub takes-script : (a : Text) → IsWord a → takes program (codes "script" ∷ a ∷ []) ≡ true
unfolding clap_on_literals
takes-script [] h = absurd h
takes-script (b ∷ t) h = simp h

pub takes-grow : (a : Text) → IsWord a → takes program (codes "grow" ∷ a ∷ []) ≡ true
unfolding clap_on_literals
takes-grow [] h = absurd h
takes-grow (b ∷ t) h = simp h

pub takes-check : (a : Text) → IsWord a → takes program (codes "check" ∷ a ∷ []) ≡ true
unfolding clap_on_literals
takes-check [] h = absurd h
takes-check (b ∷ t) h = simp h

pub takes-audit : (a : Text) → IsWord a → takes program (codes "audit" ∷ a ∷ []) ≡ true
unfolding clap_on_literals
takes-audit [] h = absurd h
takes-audit (b ∷ t) h = simp h

pub takes-cut : (a b : Text) → IsWord a → IsWord b → takes program (codes "cut" ∷ a ∷ b ∷ []) ≡ true
unfolding clap_on_literals
takes-cut [] b h i = absurd h
takes-cut (c ∷ a) [] h i = absurd i
takes-cut (c ∷ a) (d ∷ b) h i = simp (h, i)

-- ---- `serve`, which takes four words or five: one step of the walk after the other

-- the command `serve` as it is built
abbrev leaf : Shape
leaf = built_leaf (inherited (on_top with_leaf_noted (on_top marked_built program)).top serve_shape)

abbrev given : Text → Text → Row
given id word = record { id = id; values = word ∷ []; count = None; source = Some CommandLine; reading = reading_by (word_rule id) }

-- the walk that has read some words, and holds one more
abbrev at : ℕ → List Row → Text → Text → Walk
at n rows id word = record {
  held = record { rows = rows; pending = Some (id, word ∷ []); skip = 0 };
  waiting = idle;
  position = n;
  is_trailing = false;
  stopped = None;
}

abbrev w1 : Text → Walk
w1 a = at 2 [] (codes "STORE") a

abbrev w2 : Text → Text → Walk
w2 a b = at 3 (given (codes "STORE") a ∷ []) (codes "SMTP") b

abbrev w3 : Text → Text → Text → Walk
w3 a b c = at 4 (given (codes "STORE") a ∷ given (codes "SMTP") b ∷ []) (codes "IMAP") c

abbrev w4 : Text → Text → Text → Text → Walk
w4 a b c d = at 5 (given (codes "STORE") a ∷ given (codes "SMTP") b ∷ given (codes "IMAP") c ∷ []) (codes "HTTP") d

abbrev w5 : Text → Text → Text → Text → Text → Walk
w5 a b c d e = at 6 (given (codes "STORE") a ∷ given (codes "SMTP") b ∷ given (codes "IMAP") c ∷ given (codes "HTTP") d ∷ []) (codes "POP") e

-- a word, and the walk after it
step-1 : (a : Text) → IsWord a → walked leaf.rules [] (walk_from nothing_held) a ≡ w1 a
unfolding clap_on_literals
step-1 [] h = absurd h
step-1 (w ∷ a) h = simp h

step-2 : (a b : Text) → IsWord b → walked leaf.rules [] (w1 a) b ≡ w2 a b
unfolding clap_on_literals
step-2 a [] h = absurd h
step-2 a (w ∷ b) h = simp h

step-3 : (a b c : Text) → IsWord c → walked leaf.rules [] (w2 a b) c ≡ w3 a b c
unfolding clap_on_literals
step-3 a b [] h = absurd h
step-3 a b (w ∷ c) h = simp h

step-4 : (a b c d : Text) → IsWord d → walked leaf.rules [] (w3 a b c) d ≡ w4 a b c d
unfolding clap_on_literals
step-4 a b c [] h = absurd h
step-4 a b c (w ∷ d) h = simp h

step-5 : (a b c d e : Text) → IsWord e → walked leaf.rules [] (w4 a b c d) e ≡ w5 a b c d e
unfolding clap_on_literals
step-5 a b c d [] h = absurd h
step-5 a b c d (w ∷ e) h = simp h

-- each of the words passes
turn-1 : (a : Text) → IsWord a → turn_passes leaf [] (walk_from nothing_held) a ≡ true
unfolding clap_on_literals
turn-1 [] h = absurd h
turn-1 (w ∷ a) h = simp h

turn-2 : (a b : Text) → IsWord b → turn_passes leaf [] (w1 a) b ≡ true
unfolding clap_on_literals
turn-2 a [] h = absurd h
turn-2 a (w ∷ b) h = simp h

turn-3 : (a b c : Text) → IsWord c → turn_passes leaf [] (w2 a b) c ≡ true
unfolding clap_on_literals
turn-3 a b [] h = absurd h
turn-3 a b (w ∷ c) h = simp h

turn-4 : (a b c d : Text) → IsWord d → turn_passes leaf [] (w3 a b c) d ≡ true
unfolding clap_on_literals
turn-4 a b c [] h = absurd h
turn-4 a b c (w ∷ d) h = simp h

turn-5 : (a b c d e : Text) → IsWord e → turn_passes leaf [] (w4 a b c d) e ≡ true
unfolding clap_on_literals
turn-5 a b c d [] h = absurd h
turn-5 a b c d (w ∷ e) h = simp h

both : (p q : Bool) → p ≡ true → q ≡ true → (p && q) ≡ true
both p q e f = rw (e, f) refl

-- the leaf passes words from a walk on
abbrev Passes : List Text → Walk → Type 0
Passes words w = walk_passes leaf [] w words ≡ true

passes_four : (a b c d : Text) (rest : List Text) → IsWord a → IsWord b → IsWord c → IsWord d → Passes rest (w4 a b c d) → Passes (a ∷ b ∷ c ∷ d ∷ rest) (walk_from nothing_held)
unfolding walk_passes
passes_four a b c d rest h i j k ok =
    both _ _ (turn-1 a h) (subst (Passes (b ∷ c ∷ d ∷ rest)) (sym (step-1 a h))
    (both _ _ (turn-2 a b i) (subst (Passes (c ∷ d ∷ rest)) (sym (step-2 a b i))
    (both _ _ (turn-3 a b c j) (subst (Passes (d ∷ rest)) (sym (step-3 a b c j))
    (both _ _ (turn-4 a b c d k) (subst (Passes rest) (sym (step-4 a b c d k)) ok)))))))

passes_last : (a b c d e : Text) → IsWord e → Passes (e ∷ []) (w4 a b c d)
unfolding walk_passes
passes_last a b c d e h = both _ _ (turn-5 a b c d e h) (subst (Passes []) (sym (step-5 a b c d e h)) refl)

passes_none : (w : Walk) → Passes [] w
unfolding walk_passes
passes_none w = refl

-- where the walk ends
abbrev next : Text → Walk → Walk
next t w = walked leaf.rules [] w t

ends : (a b c d : Text) → IsWord a → IsWord b → IsWord c → IsWord d → walk leaf.rules [] nothing_held (a ∷ b ∷ c ∷ d ∷ []) ≡ w4 a b c d
ends a b c d h i j k =
    ap (λ w. next d (next c (next b w))) (step-1 a h) ∙ (ap (λ w. next d (next c w)) (step-2 a b i) ∙ (ap (λ w. next d w) (step-3 a b c j) ∙ step-4 a b c d k))

ends_later : (a b c d e : Text) → IsWord a → IsWord b → IsWord c → IsWord d → IsWord e → walk leaf.rules [] nothing_held (a ∷ b ∷ c ∷ d ∷ e ∷ []) ≡ w5 a b c d e
ends_later a b c d e h i j k l = ap (λ w. next e w) (ends a b c d h i j k) ∙ step-5 a b c d e l

abbrev EndsWell : Walk → Type 0
EndsWell end = (settle_passes leaf.rules leaf.args_override_self end.held && (list_all default_passes leaf.rules && is_valid leaf (finished leaf.rules end.held) false)) ≡ true

end_well : (a b c d : Text) → EndsWell (w4 a b c d)
end_well a b c d = refl

end_well_later : (a b c d e : Text) → EndsWell (w5 a b c d e)
end_well_later a b c d e = refl

level : (a b c d : Text) → IsWord a → IsWord b → IsWord c → IsWord d → level_passes leaf [] nothing_held (a ∷ b ∷ c ∷ d ∷ []) false ≡ true
level a b c d h i j k = both _ _ (passes_four a b c d [] h i j k (passes_none (w4 a b c d))) (subst EndsWell (sym (ends a b c d h i j k)) (end_well a b c d))

level_later : (a b c d e : Text) → IsWord a → IsWord b → IsWord c → IsWord d → IsWord e → level_passes leaf [] nothing_held (a ∷ b ∷ c ∷ d ∷ e ∷ []) false ≡ true
level_later a b c d e h i j k l =
    both _ _ (passes_four a b c d (e ∷ []) h i j k (passes_last a b c d e l)) (subst EndsWell (sym (ends_later a b c d e h i j k l)) (end_well_later a b c d e))

-- `serve` with four words is taken
pub takes-serve : (a b c d : Text) → IsWord a → IsWord b → IsWord c → IsWord d → takes program (codes "serve" ∷ a ∷ b ∷ c ∷ d ∷ []) ≡ true
unfolding clap_on_literals
takes-serve a b c d h i j k = both _ _ (level a b c d h i j k) refl

-- and with five
pub takes-serve_pop : (a b c d e : Text) → IsWord a → IsWord b → IsWord c → IsWord d → IsWord e → takes program (codes "serve" ∷ a ∷ b ∷ c ∷ d ∷ e ∷ []) ≡ true
unfolding clap_on_literals
takes-serve_pop a b c d e h i j k l = both _ _ (level_later a b c d e h i j k l) refl
