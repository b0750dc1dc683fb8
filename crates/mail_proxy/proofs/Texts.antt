-- What becomes of a text that was read, or was not.
use Rattle.std.proofs.Common.{◌≡◌, ◌⊎◌, ◌<◌, ◌≤◌, ℕ, true, false, nat_lt, List, ◌++◌, length, MatchBool, None, Some, Option, Err, ap, subst, sym, ◌∙◌, refl, inl, inr, arith}
use Rattle.std.proofs.lemmas.Bool.Decides.{nat_tests}
use Rattle.std.proofs.lemmas.List.{append-nil, length-append}
use Rattle.undo_outside.specs.Calls.{SourceTold, first_told, IsAtEnd}
use Rattle.mail_proxy.specs.declared.reading.ReadRefused.{ReadRefused}
use Rattle.mail_proxy.specs.declared.reading.ReadRefused.TheVariants.{Failed, TooLong, NoMemory}
use Rattle.mail_proxy.specs.Lines.{too_long, no_memory}
use Rattle.mail_proxy.specs.Plans.{refused_line, refused_status}
use Rattle.mail_proxy.specs.Reading.{Gave, ReadsText}
use Rattle.mail_proxy.specs.Texts.{End, ending, FromText, IsText}

-- a text that was read to its end
whole_text : (old new : SourceTold) (text : List ℕ) → Gave old new text → IsAtEnd new.left → IsText old.left text
whole_text old new text gave end = by_left new.left old.left gave.left end
  where
    by_left : (left told : Option (List ℕ)) → told ≡ first_told text left → IsAtEnd left → IsText told text
    by_left None told e end = subst (λ o. IsText o text) (sym e) tt
    by_left (Some xs) told e end = subst (λ o. IsText o text) (sym (e ∙ ap (λ l. Some (text ++ l)) end ∙ ap Some (append-nil text))) refl

-- a text that is too long
long_text : (old new : SourceTold) (front : List ℕ) → Gave old new front → 67108864 < length front
    → (text : List ℕ) × IsText old.left text × (67108864 < length text)
long_text old new front gave long = by_left new.left old.left gave.left
  where
    by_left : (left told : Option (List ℕ)) → told ≡ first_told front left → (text : List ℕ) × IsText told text × (67108864 < length text)
    by_left None told e = (front, subst (λ o. IsText o front) (sym e) tt, long)
    by_left (Some xs) told e = (front ++ xs, subst (λ o. IsText o (front ++ xs)) (sym e) refl, simp length-append (omega arith))

module _ {D : Type 0} (disk : D) (Follows : List ℕ → End D → Type 0) (old new : SourceTold) (end : End D) where
  -- the text was read, and this follows, or no memory is found for it
  pub from_read : (text : List ℕ) → Gave old new text × IsAtEnd new.left × (length text ≤ 67108864) → Follows text end ⊎ (end ≡ ending 8 no_memory disk)
      → FromText old new disk Follows end
  from_read text (gave, done, short) (inl follows) =
      let test : nat_lt 67108864 (length text) ≡ false = grind (arith, nat_tests) in
      inl (text, (whole_text old new text gave done, gave.faults), subst (λ b. MatchBool b (end ≡ ending 2 too_long disk) (Follows text end)) (sym test) follows)
  from_read text (gave, done, short) (inr out_of_memory) = inr (inr (out_of_memory, gave.faults))

  -- the text was not read
  pub from_unread : (refused : ReadRefused) → ReadsText old new (Err refused) → end ≡ ending (refused_status refused) (refused_line refused) disk
      → FromText old new disk Follows end
  from_unread Failed fails e = inr (inl (e, fails))
  from_unread TooLong (front, gave, long) e =
      let all = long_text old new front gave long in
      let test : nat_lt 67108864 (length all.0) ≡ true = grind (arith, nat_tests) in
      inl (all.0, (all.1, gave.faults), subst (λ b. MatchBool b (end ≡ ending 2 too_long disk) (Follows all.0 end)) (sym test) e)
  from_unread NoMemory (front, gave) e = inr (inr (e, gave.faults))

-- a status and an output are those of an end
pub same_end : {D : Type 0} {disk : D} {s t : ℕ} {a b : List ℕ} → s ≡ t → a ≡ b → ending s a disk ≡ ending t b disk
same_end {D} {disk} {s} {t} {a} {b} e f = ap (λ (n : ℕ). ending n a disk) e ∙ ap (λ (l : List ℕ). ending t l disk) f
