-- What was done to a disk, the newest first, and what that leaves.
use Rattle.std.specs.Prelude.{◌≡◌, ◌⊎◌, ◌+◌, ◌<◌, ◌≤◌, ℕ, Bool, true, false, List, [], ◌∷◌, ◌++◌, length, take, drop, slice_index}
use Rattle.std.proofs.Common.{inl, inr, refl, arith}
use Rattle.std.proofs.lemmas.Grind.{common_steps}
use Rattle.undo_outside.specs.Disk.{IsTorn}

-- a write, done or failed, or a sync that succeeded
pub data Change : Type 0 where
  Wrote : (place : ℕ) (bytes : List ℕ) (done : Bool) → Change
  Synced : Change

-- the bytes, written over what is there
abbrev pub overwritten : List ℕ → ℕ → List ℕ → List ℕ
overwritten old place bytes = take place old ++ bytes ++ drop (place + length bytes) old

-- what reads give
abbrev pub content_after : List ℕ → List Change → List ℕ
content_after start [] = start
content_after start (Wrote place bytes true ∷ older) = overwritten (content_after start older) place bytes
content_after start (Wrote place bytes false ∷ older) = content_after start older
content_after start (Synced ∷ older) = content_after start older

-- what a crash now may leave
abbrev pub image_after : List ℕ → List Change → List ℕ → Type 0
image_after start [] c = c ≡ start
image_after start (Wrote place bytes done ∷ older) c =
    image_after start older c ⊎ ((d : List ℕ) × image_after start older d × IsTorn place (length bytes) (length (content_after start older)) d c)
image_after start (Synced ∷ older) c = c ≡ content_after start older

-- what a crash may have left since so many of the changes had been
abbrev pub image_since : List ℕ → List Change → ℕ → List ℕ → Type 0
image_since start [] t c = image_after start [] c
image_since start (e ∷ older) t c = image_after start (e ∷ older) c ⊎ ((t ≤ length older) × image_since start older t c)

torn_same : (old bytes : List ℕ) (place i : ℕ) → i < length old → (i < place) ⊎ (place + length bytes ≤ i) → slice_index (overwritten old place bytes) i ≡ slice_index old i
torn_same old bytes place i within (inl below) = grind (arith, common_steps)
torn_same old bytes place i within (inr above) = grind (arith, common_steps)

pub torn_overwritten : (old bytes : List ℕ) (place : ℕ) → IsTorn place (length bytes) (length old) old (overwritten old place bytes)
torn_overwritten old bytes place = record {
  same = torn_same old bytes place;
  no_shorter = grind (arith, common_steps);
  no_longer = grind (arith, common_steps);
}

part_same : (old bytes : List ℕ) (place kept i : ℕ) → i < length old → (i < place) ⊎ (place + length bytes ≤ i) → slice_index (overwritten old place (take kept bytes)) i ≡ slice_index old i
part_same old bytes place kept i within (inl below) = grind (arith, common_steps)
part_same old bytes place kept i within (inr above) = grind (arith, common_steps)

-- the first bytes of a write are what it may leave
pub torn_part : (old bytes : List ℕ) (place kept : ℕ) → IsTorn place (length bytes) (length old) old (overwritten old place (take kept bytes))
torn_part old bytes place kept = record {
  same = part_same old bytes place kept;
  no_shorter = grind (arith, common_steps);
  no_longer = grind (arith, common_steps);
}

-- what reads give is one of the images
pub content_is_image : (start : List ℕ) (changes : List Change) → image_after start changes (content_after start changes)
content_is_image start [] = refl
content_is_image start (Wrote place bytes true ∷ older) =
    inr (content_after start older, content_is_image start older, torn_overwritten (content_after start older) bytes place)
content_is_image start (Wrote place bytes false ∷ older) = inl (content_is_image start older)
content_is_image start (Synced ∷ older) = refl

pub image_counts : (start : List ℕ) (changes : List Change) (t : ℕ) (c : List ℕ) → image_after start changes c → image_since start changes t c
image_counts start [] t c now = now
image_counts start (e ∷ older) t c now = inl now

pub image_is_now : (start : List ℕ) (changes : List Change) (t : ℕ) (c : List ℕ) → t ≡ length changes → image_since start changes t c → image_after start changes c
image_is_now start [] t c now left = left
image_is_now start (e ∷ older) t c now (inl left) = left
image_is_now start (e ∷ older) t c now (inr (early, left)) = absurd (omega arith)

-- The history after a sync: it has one event more, or ended with a sync or was empty and is as it was.
abbrev pub IsMarked : List Change → List Change → Type 0
IsMarked [] new = new ≡ []
IsMarked (Synced ∷ older) new = new ≡ Synced ∷ older
IsMarked (Wrote place bytes done ∷ older) new = new ≡ Synced ∷ Wrote place bytes done ∷ older
