use Rattle.std.proofs.Common.{inl, inr, ◌∷◌, ◌++◌, ◌∙◌, ◌≡◌, ◌+◌, [], List, ℕ, length, refl, sym, ap, subst, arith}
use Rattle.std.specs.Prelude.{IsErrOf}
use Rattle.std.proofs.lemmas.List.{append-nil, drop_all}
use Rattle.std.proofs.lemmas.Result.{err_from_is_err_and}
use Rattle.undo_outside.specs.declared.fault.Fault.TheVariants.{NoMemory}
use Rattle.undo_outside.specs.Disk.{DiskTold, IsOverwritten, IsTorn, Only}
use Rattle.undo_outside.specs.Moments.{IsTornOf}
use Rattle.seal_log.specs.Journal.{frame, StandsFor}
use Rattle.seal_log.specs.Loading.{IsNotFormatted}
use Rattle.seal_log.proofs.Frames.{length-sealed-push}
use Rattle.seal_log.proofs.Steps.{IsStaged, opened}
use Rattle.seal_log.proofs.Torn.{torn_first, written_byte}
use Rattle.seal_log.proofs.log.put_first.Goals as goal

-- what is written to nothing is all there is
written_first : (old bytes new : List ℕ) → length old ≡ 0 → IsOverwritten old 0 bytes new → new ≡ bytes
written_first old bytes new none written =
    written ∙ ap (λ (l : List ℕ). bytes ++ l) (drop_all (0 + length bytes) old (omega arith)) ∙ append-nil bytes

pub returns-clause-settled : goal.returns-clause-settled
returns-clause-settled g c honest =
    let head = c.args.head.now in
    let old = (g.D.Disk.told c.args.disk.now).content in
    let mid = (g.D.Disk.told c.write_synced.new.disk).content in
    let new = (g.D.Disk.told c.write_synced-2.new.disk).content in
    let kept = c.write_synced.ensures.honest honest in
    let none : length old ≡ 0 = sym (g.met.D.Disk.tells_truth c.args.disk.now honest).size_of_content ∙ c.requires.empty in
    let staged : IsStaged mid [] head = record {
      gate = 0;
      rest = [];
      split = written_first old c.deref.result.now mid none (c.in_ok-write_synced.ensures.written honest) ∙ (c.deref.ensures.value ∙ c.in_ok-bytes.ensures);
      shut = λ same. absurd (omega arith);
      short = tt;
    } in
    record {
      honest = c.write_synced-2.ensures.honest kept;
      gate_is = sym (length-sealed-push [] head);
      images = λ f now. subst (λ (l : List ℕ). StandsFor l (head ∷ [])) (sym (c.in_ok-write_synced-2.ensures.durable kept f now))
          (opened [] 0 refl head mid new c.requires.short staged (c.in_ok-write_synced-2.ensures.written kept));
    }

pub returns-clause-written : goal.returns-clause-written
returns-clause-written g c honest =
    let head = c.args.head.now in
    let old = (g.D.Disk.told c.args.disk.now).content in
    let mid = (g.D.Disk.told c.write_synced.new.disk).content in
    let new = (g.D.Disk.told c.write_synced-2.new.disk).content in
    let none : length old ≡ 0 = sym (g.met.D.Disk.tells_truth c.args.disk.now honest).size_of_content ∙ c.requires.empty in
    let first : mid ≡ 0 ∷ (frame head ++ 0 ∷ []) = written_first old c.deref.result.now mid none (c.in_ok-write_synced.ensures.written honest) ∙ (c.deref.ensures.value ∙ c.in_ok-bytes.ensures) in
    written_byte [] (frame head ++ 0 ∷ []) 0 refl 0 85 new (subst (λ (l : List ℕ). IsOverwritten l 0 (85 ∷ []) new) first (c.in_ok-write_synced-2.ensures.written (c.write_synced.ensures.honest honest)))

-- what a crash leaves while the first gate is written
gate_torn : (disk : DiskTold) (rest c : List ℕ) → disk.size ≡ length disk.content → disk.content ≡ 0 ∷ rest → Only disk.content disk.images → IsTornOf 0 1 disk.size disk.images c → (gate : ℕ) × (c ≡ gate ∷ rest)
gate_torn disk rest c size is only (inl was) = (0, only c was ∙ is)
gate_torn disk rest c size is only (inr (d, was, torn)) =
    torn_first rest 0 disk.size c (size ∙ ap length is) (subst (λ (l : List ℕ). IsTorn 0 1 disk.size l c) (only d was ∙ is) torn)

pub returns-clause-frame_first : goal.returns-clause-frame_first
returns-clause-frame_first g c honest =
    let head = c.args.head.now in
    let rest = frame head ++ 0 ∷ [] in
    let old = (g.D.Disk.told c.args.disk.now).content in
    let mid = g.D.Disk.told c.write_synced.new.disk in
    let new = g.D.Disk.told c.write_synced-2.new.disk in
    let kept = c.write_synced.ensures.honest honest in
    let truth = g.met.D.Disk.tells_truth c.write_synced.new.disk kept in
    let none : length old ≡ 0 = sym (g.met.D.Disk.tells_truth c.args.disk.now honest).size_of_content ∙ c.requires.empty in
    let first : mid.content ≡ 0 ∷ rest = written_first old c.deref.result.now mid.content none (c.in_ok-write_synced.ensures.written honest) ∙ (c.deref.ensures.value ∙ c.in_ok-bytes.ensures) in
    let torn = (c.write_synced-2.ensures.any_moment kept).each in
    record {
      moment = mid.moment;
      later = (c.write_synced.ensures.any_moment honest).later;
      shut = subst (new.since mid.moment) first (c.write_synced-2.ensures.kept kept mid.content truth.content_is_image);
      behind = λ f left. gate_torn mid rest f truth.size_of_content first (c.in_ok-write_synced.ensures.durable honest) (torn f left);
    }

-- the gate before the frame was never opened
pub returns-in_err-write_synced-2-clause-no_journal : goal.returns-in_err-write_synced-2-clause-no_journal
returns-in_err-write_synced-2-clause-no_journal g c honest refused = λ f now.
    let rest = frame c.args.head.now ++ 0 ∷ [] in
    let old = (g.D.Disk.told c.args.disk.now).content in
    let mid = g.D.Disk.told c.write_synced.new.disk in
    let none : length old ≡ 0 = sym (g.met.D.Disk.tells_truth c.args.disk.now honest).size_of_content ∙ c.requires.empty in
    let first : mid.content ≡ 0 ∷ rest = written_first old c.deref.result.now mid.content none (c.in_ok-write_synced.ensures.written honest) ∙ (c.deref.ensures.value ∙ c.in_ok-bytes.ensures) in
    let told = err_from_is_err_and c.from_residual-in_err-write_synced-2.result c.from_residual-in_err-write_synced-2.ensures.1 in
    let no_memory : IsErrOf c.write_synced-2.result NoMemory = cc (told.1, told.2, refused, c.in_err-write_synced-2.was) in
    let was = c.write_synced-2.ensures.no_memory (c.write_synced.ensures.honest honest) no_memory f now in
    let shut : IsNotFormatted (0 ∷ rest) = λ same. absurd (omega arith) in
    inr (subst IsNotFormatted (sym (c.in_ok-write_synced.ensures.durable honest f was ∙ first)) shut)
