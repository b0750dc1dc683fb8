-- How the record and the history of a disk in memory go together.
use Rattle.std.proofs.Common.{◌≡◌, ◌⊎◌, inl, inr, ℕ, zero, suc, ◌+◌, ◌<◌, Bool, true, false, List, [], ◌∷◌, ◌++◌, length, set, get_or, refl, sym, ◌∙◌, ap, subst, arith, append_assoc, take, drop, take-append-drop, cond}
use Rattle.std.proofs.lemmas.List.{take_more}
use Rattle.undo_outside.specs.declared.mem_disk.Write.{Write}
use Rattle.undo_outside.specs.Disk.{AddsTorn, Elapses, Only}
use Rattle.undo_outside.specs.History.{Change, Wrote, Synced, IsMarked, overwritten, content_after, image_after, image_since, image_counts, content_is_image, torn_part}
use Rattle.undo_outside.specs.MemDisk.{marks, changes_of, onto, history, content_with, torn_after}

-- one write more
pub onto-push : (older : List Change) (ws : List Write) (w : Write) → onto older (ws ++ w ∷ []) ≡ changes_of w ++ onto older ws
onto-push older [] w = refl
onto-push older (v ∷ ws) w = onto-push (changes_of v ++ older) ws w

marked_change : (synced : Bool) (place : ℕ) (bytes : List ℕ) (done : Bool) (older : List Change) → IsMarked (marks synced (Wrote place bytes done) ++ older) (Synced ∷ Wrote place bytes done ∷ older)
marked_change true place bytes done older = refl
marked_change false place bytes done older = refl

-- the last write, marked
pub marked_last : (older : List Change) (ws : List Write) (i : ℕ) (w v : Write) → length ws ≡ suc i → w ≡ get_or ws i w → changes_of v ≡ Synced ∷ Wrote w.place w.bytes.items w.done ∷ []
    → IsMarked (onto older ws) (onto older (set ws i v))
marked_last older [] i w v long at is = absurd (omega arith)
marked_last older (x ∷ []) zero w v long at is =
    subst (λ (u : Write). IsMarked (changes_of u ++ older) (changes_of v ++ older)) at
    (subst (λ (l : List Change). IsMarked (changes_of w ++ older) (l ++ older)) (sym is) (marked_change w.synced w.place w.bytes.items w.done older))
marked_last older (x ∷ []) (suc i) w v long at is = absurd (omega arith)
marked_last older (x ∷ y ∷ ws) zero w v long at is = absurd (omega arith)
marked_last older (x ∷ y ∷ ws) (suc i) w v long at is = marked_last (changes_of x ++ older) (y ∷ ws) i w v (omega arith) at is

pub adds_torn : (start : List ℕ) (old new : List Change) (place size : ℕ) (bytes : List ℕ) (done : Bool) → new ≡ Wrote place bytes done ∷ old → size ≡ length (content_after start old)
    → AddsTorn place (length bytes) size (image_after start old) (image_after start new)
adds_torn start old new place size bytes done is long =
    subst (λ (h : List Change). AddsTorn place (length bytes) size (image_after start old) (image_after start h)) (sym is)
    (subst (λ (n : ℕ). AddsTorn place (length bytes) n (image_after start old) (image_after start (Wrote place bytes done ∷ old))) (sym long)
    (λ c. (λ left. left, λ left. left)))

-- the moments between two histories
abbrev HistoryTime : List ℕ → List Change → List Change → Type 0
HistoryTime start old new = Elapses (length old) (length new) (image_since start old) (image_since start new) (λ c. image_after start old c ⊎ image_after start new c)

time_more : (start : List ℕ) (old : List Change) (e : Change) → HistoryTime start old (e ∷ old)
time_more start old e = record {
  later = omega arith;
  added = λ t c le left. elim left [ inl now ↦ inr (inr now) | inr early ↦ inl early.1 ];
  kept = λ t c le left. inr (le, left);
}

pub time_of : (start : List ℕ) (old new : List Change) (e : Change) → new ≡ e ∷ old
    → HistoryTime start old new
time_of start old new e is =
    subst (λ (h : List Change). HistoryTime start old h) (sym is) (time_more start old e)

pub time_same : (start : List ℕ) (old new : List Change) → new ≡ old
    → HistoryTime start old new
time_same start old new is =
    subst (λ (h : List Change). HistoryTime start old h) (sym is)
    (record { later = omega arith; added = λ t c le left. inl left; kept = λ t c le left. left })

pub content_marked : (start : List ℕ) (old new : List Change) → IsMarked old new → content_after start new ≡ content_after start old
content_marked start [] new is = ap (content_after start) is
content_marked start (Synced ∷ older) new is = ap (content_after start) is
content_marked start (Wrote place bytes done ∷ older) new is = ap (content_after start) is

pub only_marked : (start : List ℕ) (old new : List Change) → IsMarked old new → Only (content_after start old) (image_after start new)
only_marked start [] new is = subst (λ (h : List Change). Only start (image_after start h)) (sym is) (λ c left. left)
only_marked start (Synced ∷ older) new is = subst (λ (h : List Change). Only (content_after start older) (image_after start h)) (sym is) (λ c left. left)
only_marked start (Wrote place bytes done ∷ older) new is =
    subst (λ (h : List Change). Only (content_after start (Wrote place bytes done ∷ older)) (image_after start h)) (sym is) (λ c left. left)

-- a sync adds no image
pub images_marked : (start : List ℕ) (old new : List Change) → IsMarked old new → (c : List ℕ) → image_after start new c → image_after start old c
images_marked start old new is c left = subst (image_after start old) (sym (only_marked start old new is c left)) (content_is_image start old)

pub time_marked : (start : List ℕ) (old new : List Change) → IsMarked old new
    → HistoryTime start old new
time_marked start [] new is = time_same start [] new is
time_marked start (Synced ∷ older) new is = time_same start (Synced ∷ older) new is
time_marked start (Wrote place bytes done ∷ older) new is = time_of start (Wrote place bytes done ∷ older) new Synced is

content_marks : (start : List ℕ) (older : List Change) (synced done : Bool) (place : ℕ) (bytes : List ℕ)
    → content_after start (marks synced (Wrote place bytes done) ++ older) ≡ cond done (overwritten (content_after start older) place bytes) (content_after start older)
content_marks start older true true place bytes = refl
content_marks start older true false place bytes = refl
content_marks start older false true place bytes = refl
content_marks start older false false place bytes = refl

-- what reads give after one write more of the record
pub content_more : (start : List ℕ) (ws : List Write) (i : ℕ) (w : Write) (bytes new : List ℕ) → i < length ws → w ≡ get_or ws i w → bytes ≡ content_after start (history (take i ws)) → new ≡ content_with bytes w
    → new ≡ content_after start (history (take (i + 1) ws))
content_more start ws i w bytes new within at was is =
    is
    ∙ ap (λ (l : List ℕ). content_with l w) was
    ∙ sym (content_marks start (history (take i ws)) w.synced w.done w.place w.bytes.items)
    ∙ sym (ap (content_after start) (onto-push [] (take i ws) w))
    ∙ ap (λ (l : List Write). content_after start (history l)) (ap (λ (v : Write). take i ws ++ v ∷ []) at ∙ sym (take_more ws i w within))

-- what came later than an older history
since_later : (start : List ℕ) (newer older : List Change) (c : List ℕ) → image_after start older c → image_since start (newer ++ older) 0 c
since_later start [] older c was = image_counts start older 0 c was
since_later start (e ∷ newer) older c was = inr (omega arith, since_later start newer older c was)

later : (older : List Change) (ws : List Write) → (newer : List Change) × (onto older ws ≡ newer ++ older)
later older [] = ([], refl)
later older (w ∷ ws) =
    let rest = later (changes_of w ++ older) ws in
    (rest.0 ++ changes_of w, rest.1 ∙ sym (append_assoc rest.0 (changes_of w) older))

onto-append : (older : List Change) (vs ws : List Write) → onto older (vs ++ ws) ≡ onto (onto older vs) ws
onto-append older [] ws = refl
onto-append older (v ∷ vs) ws = onto-append (changes_of v ++ older) vs ws

-- what reads gave after the first writes may have been left by a crash
pub image_was : (start : List ℕ) (ws : List Write) (count : ℕ) → image_since start (history ws) 0 (content_after start (history (take count ws)))
image_was start ws count =
    let older = history (take count ws) in
    let rest = later older (drop count ws) in
    let split : history ws ≡ rest.0 ++ older = ap history (sym (take-append-drop count ws)) ∙ onto-append [] (take count ws) (drop count ws) ∙ rest.1 in
    subst (λ (h : List Change). image_since start h 0 (content_after start older)) (sym split) (since_later start rest.0 older (content_after start older) (content_is_image start older))

later_mark : (synced : Bool) (e : Change) (older : List Change) → (newer : List Change) × (marks synced e ++ older ≡ newer ++ e ∷ older)
later_mark true e older = (Synced ∷ [], refl)
later_mark false e older = ([], refl)

torn_split : (start : List ℕ) (vs us : List Write) (kept : ℕ) → image_since start (onto (history vs) us) 0 (torn_after (content_after start (history vs)) kept us)
torn_split start vs [] kept = image_counts start (history vs) 0 (content_after start (history vs)) (content_is_image start (history vs))
torn_split start vs (w ∷ us) kept =
    let older = history vs in
    let e = Wrote w.place w.bytes.items w.done in
    let torn = overwritten (content_after start older) w.place (take kept w.bytes.items) in
    let mark = later_mark w.synced e older in
    let rest = later (changes_of w ++ older) us in
    let split : onto (changes_of w ++ older) us ≡ rest.0 ++ (mark.0 ++ e ∷ older) = rest.1 ∙ ap (λ (l : List Change). rest.0 ++ l) mark.1 in
    subst (λ (h : List Change). image_since start h 0 torn) (sym (split ∙ sym (append_assoc rest.0 mark.0 (e ∷ older))))
    (since_later start (rest.0 ++ mark.0) (e ∷ older) torn (inr (content_after start older, content_is_image start older, torn_part (content_after start older) w.bytes.items w.place kept)))

-- the first bytes of a write, on the disk with all that was written before it, may have been left by a crash
pub torn_was : (start : List ℕ) (ws : List Write) (count kept : ℕ) → image_since start (history ws) 0 (torn_after (content_after start (history (take count ws))) kept (drop count ws))
torn_was start ws count kept =
    subst (λ (h : List Change). image_since start h 0 (torn_after (content_after start (history (take count ws))) kept (drop count ws)))
    (sym (onto-append [] (take count ws) (drop count ws)) ∙ ap history (take-append-drop count ws))
    (torn_split start (take count ws) (drop count ws) kept)
