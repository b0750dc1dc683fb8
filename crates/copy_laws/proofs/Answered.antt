-- Records in copies.
use Rattle.std.proofs.Common.{◌≡◌, ◌⊎◌, inl, inr, ℕ, ◌+◌, ◌≤◌, List, [], ◌∷◌, ◌++◌, length, take, drop, refl, sym, ◌∙◌, ap, subst, ⊎_elim}
use Rattle.std.proofs.lemmas.List.{length-map, map-append, take-map}
use Rattle.std.specs.List.{AllByRecursion}
use Rattle.undo_outside.specs.Disk.{DiskTold}
use Rattle.seal_log.specs.Journal.{IsPayload, sealed, StandsFor, StandsForFront}
use Rattle.verb_bytes.specs.declared.journal.JournalRecord.{JournalRecord}
use Rattle.verb_bytes.specs.Spelling.{record_bytes}
use Rattle.store_kept.specs.Kept.{Kept}
use Rattle.desk_journal.specs.Crashing.{LeavesFront}
use Rattle.desk_journal.specs.Records.{payloads_of}
use Rattle.time_desk.specs.Opening.{IsDamaged}
use Rattle.mail_loop.specs.Acknowledged.{Lasts}
use Rattle.copy_laws.specs.Copies.{GoForward, IsCutShort, IsJournal, IsOfAMoment, IsOfLength, IsOfOne, IsToEnd, Look, copy_of}
use Rattle.copy_laws.specs.Seen.{AreReads, IsMended, IsSeen}
use Rattle.copy_laws.specs.Answered.{HasAnswered, IsMendedTo, IsMendedWith}
use Rattle.copy_laws.proofs.Cutting.{mended_at}
use Rattle.copy_laws.proofs.Forward.{OneReading}
use Rattle.copy_laws.proofs.Fronts.{journals, mended, seen_fronts}

-- records and the first of others, as payloads
pub payloads_front : (records others : List JournalRecord) (count : ℕ) → payloads_of records ++ take count (payloads_of others) ≡ payloads_of (records ++ take count others)
payloads_front records others count = ap (λ (l : List (List ℕ)). payloads_of records ++ l) (take-map record_bytes count others) ∙ sym (map-append record_bytes records (take count others))

module _ (records others : List JournalRecord) where
  pub front_payloads : (image : List ℕ) → LeavesFront records others image → StandsForFront (payloads_of records) (payloads_of others) image
  front_payloads image leaves = record {
    count = leaves.count;
    few = subst (λ (n : ℕ). leaves.count ≤ n) (sym (length-map others record_bytes)) leaves.few;
    stands = subst (StandsFor image) (sym (payloads_front records others leaves.count)) leaves.stands;
  }

  -- mended, in the words of payloads and of records
  pub mended_to : (bytes : List ℕ) → ((image : List ℕ) → StandsForFront (payloads_of records) (payloads_of others) image → LeavesFront records others image)
      → IsMended (payloads_of records) (payloads_of others) bytes → IsMendedTo records others bytes
  mended_to bytes leaving it = record { place = it.place; damaged = it.damaged; mended = λ new written. leaving new (it.mended new written) }

  pub mended_with : (bytes : List ℕ) → IsMended (payloads_of records) (payloads_of others) bytes → IsMendedWith records bytes
  mended_with bytes it = record {
    place = it.place;
    damaged = it.damaged;
    mended = λ new written.
        let front = it.mended new written in
        (take front.count others, subst (StandsFor new) (payloads_front records others front.count) front.stands);
  }

  -- what is to be mended opens as damaged, at that place
  pub damaged : OneReading → (bytes : List ℕ) → (it : IsMendedTo records others bytes) → IsDamaged bytes it.place
  damaged one bytes it =
      let those = it.damaged in
      let new = take it.place bytes ++ (0 ∷ []) ++ drop (it.place + 1) bytes in
      let leaves = it.mended new refl in
      let all = records ++ take leaves.count others in
      let is : those.payloads ≡ payloads_of all =
      one new those.payloads (payloads_of all) (mended_at those.payloads bytes those.rest new it.place those.short those.split those.place_is refl) leaves.stands in
      inr (inr (record {
        records = all;
        rest = those.rest;
        split = those.split ∙ ap (λ (l : List (List ℕ)). sealed l ++ those.rest) is;
        short = subst (AllByRecursion IsPayload) is those.short;
        kept = leaves.kept;
        state_is = leaves.state_is;
        place_is = those.place_is ∙ ap (λ (l : List (List ℕ)). length (sealed l)) is;
        bad = inl those.cut;
      }))

  -- what the views leave
  abbrev LeavesView : Look → Type 0
  LeavesView look = LeavesFront records others look.view

  views : (disk : DiskTold) (moment : ℕ) → ((image : List ℕ) → disk.since moment image → LeavesFront records others image) → (looks : List Look) → AllByRecursion (IsSeen disk moment) looks
      → AllByRecursion LeavesView looks
  views disk moment each [] seen = tt
  views disk moment each (look ∷ looks) (seen, rest) =
      let leaves = each seen.image seen.left in (
        record {
          count = leaves.count;
          few = leaves.few;
          stands = seen.same (payloads_of (records ++ take leaves.count others)) leaves.stands;
          kept = leaves.kept;
          state_is = leaves.state_is;
        },
        views disk moment each looks rest,
      )

  -- bytes that stand for what one of the views stands for
  found : OneReading → (looks : List Look) (payloads : List (List ℕ)) (bytes : List ℕ) → AllByRecursion LeavesView looks → IsOfOne looks payloads → StandsFor bytes payloads → LeavesFront records others bytes
  found one [] payloads bytes views seen stands = absurd seen
  found one (look ∷ looks) payloads bytes (leaves, rest) (inl here) stands = record {
    count = leaves.count;
    few = leaves.few;
    stands = subst (StandsFor bytes) (one look.view payloads (payloads_of (records ++ take leaves.count others)) here leaves.stands) stands;
    kept = leaves.kept;
    state_is = leaves.state_is;
  }
  found one (look ∷ looks) payloads bytes (leaves, rest) (inr seen) stands = found one looks payloads bytes rest seen stands

-- what the laws of copies say
abbrev pub Whole : Type 0
Whole = (look : Look) (looks : List Look) (first : List (List ℕ)) → StandsFor look.view first → AllByRecursion IsJournal looks → GoForward (look ∷ looks) → IsToEnd (look ∷ looks)
    → IsOfAMoment (look ∷ looks) first (copy_of (look ∷ looks))

abbrev pub Cut : Type 0
Cut = (look : Look) (looks : List Look) (first : List (List ℕ)) → StandsFor look.view first → AllByRecursion IsJournal looks → GoForward (look ∷ looks) → IsOfLength look looks
    → IsOfAMoment (look ∷ looks) first (copy_of (look ∷ looks)) ⊎ IsCutShort (look ∷ looks) first (copy_of (look ∷ looks))

module _ (one : OneReading) (records : List JournalRecord) (kept : Kept) (disk : DiskTold) (moment : ℕ) (lasts : Lasts records kept disk moment) (look : Look) (looks : List Look)
    (reads : AreReads disk moment (look ∷ looks)) where
  fronts : AllByRecursion (λ (l : Look). StandsForFront (payloads_of records) (payloads_of lasts.more) l.view) (look ∷ looks)
  fronts = seen_fronts (payloads_of records) (payloads_of lasts.more) disk moment (λ image since. front_payloads records lasts.more image (lasts.each image since)) (look ∷ looks) reads.seen

  has : (payloads : List (List ℕ)) → IsOfAMoment (look ∷ looks) payloads (copy_of (look ∷ looks)) → HasAnswered records kept (copy_of (look ∷ looks))
  has payloads it = record {
    state_is = lasts.state_is;
    more = lasts.more;
    leaves = found records lasts.more one (look ∷ looks) (payloads ++ it.more) (copy_of (look ∷ looks)) (views records lasts.more disk moment lasts.each (look ∷ looks) reads.seen) it.seen it.stands;
  }

  pub answered_whole : Whole → IsToEnd (look ∷ looks) → HasAnswered records kept (copy_of (look ∷ looks))
  answered_whole whole ends =
      let first = payloads_of records ++ take fronts.0.count (payloads_of lasts.more) in
      has first (whole look looks first fronts.0.stands (journals (payloads_of records) (payloads_of lasts.more) looks fronts.1) reads.forward ends)

  pub answered_cut : Cut → IsOfLength look looks → HasAnswered records kept (copy_of (look ∷ looks)) ⊎ IsMendedWith records (copy_of (look ∷ looks))
  answered_cut cut long =
      let first = payloads_of records ++ take fronts.0.count (payloads_of lasts.more) in
      ⊎_elim (λ it. inl (has first it))
      (λ it. inr (mended_with records lasts.more (copy_of (look ∷ looks))
      (mended (payloads_of records) (payloads_of lasts.more) one (look ∷ looks) (take fronts.0.count (payloads_of lasts.more)) (copy_of (look ∷ looks)) fronts it)))
      (cut look looks first fronts.0.stands (journals (payloads_of records) (payloads_of lasts.more) looks fronts.1) reads.forward long)
