-- Which status is due comes, unless a call failed or memory was wanted.
use Rattle.std.proofs.Common.{◌≡◌, ◌≢◌, ◌⊎◌, ℕ, Bool, is_some, if◌then◌else◌, true, false, List, length, MatchBool, Option, None, Some, Result, Ok, Err, refl, ap, subst, sym, ◌∙◌, inl, inr, arith, nat_lt}
use Rattle.std.specs.Prelude.{IsErrOf}
use Rattle.undo_outside.specs.declared.event.Event.{Event}
use Rattle.undo_outside.specs.declared.event.LinkNote.{LinkNote}
use Rattle.undo_outside.specs.declared.fault.Fault.{Fault}
use Rattle.undo_outside.specs.declared.fault.Fault.TheVariants.{Failed, NoMemory as SinkOutOfMemory}
use Rattle.undo_outside.specs.Calls.{LinkTold, SourceTold, SinkTold}
use Rattle.undo_outside.specs.Disk.{DiskTold}
use Rattle.verb_bytes.specs.declared.journal.JournalRecord.{JournalRecord}
use Rattle.verb_core.specs.declared.conf.Conf.{Conf}
use Rattle.verb_core.specs.declared.conf.House.{House}
use Rattle.store_kept.specs.Kept.{Kept}
use Rattle.mail_loop.specs.declared.serve.ServeFault.{ServeFault}
use Rattle.mail_loop.specs.declared.serve.ServeFault.TheVariants as serve
use Rattle.mail_loop.specs.Serving.{Step}
use Rattle.script_link.specs.Script.{script_of}
use Rattle.desk_journal.specs.declared.fault.MakeFault.{MakeFault}
use Rattle.desk_journal.specs.declared.fault.MakeFault.TheVariants as make
use Rattle.time_desk.specs.declared.fault.StartFault.{StartFault}
use Rattle.time_desk.specs.declared.fault.StartFault.TheVariants as start
use Rattle.desk_journal.specs.Making.{Makes}
use Rattle.time_desk.specs.Opening.{OpensAs, Starts}
use Rattle.command_words.specs.declared.commands.Command.{Command}
use Rattle.command_words.specs.declared.commands.Command.TheVariants.{Init, Serve, Script, Play, Grow, Check, Cut, Audit}
use Rattle.command_words.specs.Usage.{command_of}
use Rattle.mail_proxy.specs.Answers.{Answers, Does}
use Rattle.mail_proxy.specs.Shows.{Shows, first_fault, status_after}
use Rattle.mail_proxy.specs.Causes.{IsBadText, IsBadFor, IsBadScript}
use Rattle.mail_proxy.specs.Profiles.{uses_text}
use Rattle.mail_proxy.specs.Due.{IsDue, IsDueFor, IsDueInit, IsDueStore, IsHindered, due_of}
use Rattle.mail_proxy.specs.Growing.{GrowsBy, TellsGrown}
use Rattle.mail_proxy.specs.Init.{Configures, Inits, made_status}
use Rattle.mail_proxy.specs.Lines.{too_long, usage}
use Rattle.mail_proxy.specs.Opening.{OpensNone}
use Rattle.mail_proxy.specs.Check.{Checks, TellsCounts}
use Rattle.mail_proxy.specs.Cutting.{Cuts, CutsAt}
use Rattle.mail_proxy.specs.Auditing.{Audits, AuditsAt, IsAudited, TellsTruth, WereOpened}
use Rattle.repair_desk.specs.Repairs.{position}
use Rattle.desk_journal.specs.Records.{are_true}
use Rattle.time_desk.specs.Auditing.{false_record}
use Rattle.mail_proxy.specs.Script.{Played, Plays, PlaysScript, PlaysText, RunsScript, Scripts, TellsOutcome, status_of}
use Rattle.mail_proxy.specs.Serve.{ServesStore}
use Rattle.mail_proxy.specs.Texts.{End, ending, FromText, IsText}
use Rattle.mail_proxy.proofs.Causes.{TruthIsSettled, fault_stays, opened_as, opened_some}

-- a text that is told is that text
the_text : (told : Option (List ℕ)) (known text : List ℕ) → told ≡ Some known → IsText told text → text ≡ known
the_text None known text e is = cc
the_text (Some x) known text e is = cc

-- a disk without a byte is not damaged
undamaged : (old new : DiskTold) (place : ℕ) → Starts old new (Err (start.Damaged place)) → old.size ≡ 0 → ⊥
undamaged old new place starts empty = by_fault (starts.empty empty)
  where
    by_fault : IsErrOf {T = Kept × ℕ} (Err (start.Damaged place)) start.NotFormatted ⊎ IsErrOf {T = Kept × ℕ} (Err (start.Damaged place)) start.Disk → ⊥
    by_fault (inl e) = let wrong : ◌≡◌ {A = Result (Kept × ℕ) StartFault} (Err (start.Damaged place)) (Err start.NotFormatted) = e in cc
    by_fault (inr e) = let wrong : ◌≡◌ {A = Result (Kept × ℕ) StartFault} (Err (start.Damaged place)) (Err start.Disk) = e in cc

by_disk : {s : ℕ} → s ≡ 5 → IsHindered s
by_disk e = inl e

by_read : {s : ℕ} → s ≡ 6 → IsHindered s
by_read e = inr (inl e)

by_events : {s : ℕ} → s ≡ 7 → IsHindered s
by_events e = inr (inr (inl e))

by_memory : {s : ℕ} → s ≡ 8 → IsHindered s
by_memory e = inr (inr (inr (inl e)))

by_write : {s : ℕ} → s ≡ 9 → IsHindered s
by_write e = inr (inr (inr (inr (inl e))))

by_link : {s : ℕ} → s ≡ 4 → IsHindered s
by_link e = inr (inr (inr (inr (inr e))))

module _ (truth : TruthIsSettled) {D : Type 0} (told : D → DiskTold) (disk : D) (end : End D) (text text' : SourceTold) (link link' : LinkTold) (out out' : SinkTold) (s : ℕ) (shows : Shows end.status end.output s out out') (k : ℕ) where
  -- nothing is wrong, and that is due
  well : end.status ≡ 0 → k ≡ 0 → (s ≡ k) ⊎ IsHindered s
  well zero due = by_wrote shows.0 shows.2
    where
      by_wrote : (wrote : Result (Unit {0}) Fault) → s ≡ status_after end.status wrote → (s ≡ k) ⊎ IsHindered s
      by_wrote (Ok x) e = inl (e ∙ zero ∙ sym due)
      by_wrote (Err Failed) e = inr (by_write (e ∙ ap (λ p. first_fault p 9) zero))
      by_wrote (Err SinkOutOfMemory) e = inr (by_memory (e ∙ ap (λ p. first_fault p 8) zero))

  -- a fault is planned
  stays : (j : ℕ) → end.status ≡ j → j ≢ 0 → s ≡ j
  stays j is some = shows.2 ∙ fault_stays end.status shows.0 (λ zero. some (sym is ∙ zero)) ∙ is

  status_of_end : (status : ℕ) (output : List ℕ) (d : D) → end ≡ ending status output d → end.status ≡ status
  status_of_end status output d e = ap (λ (x : End D). x.status) e

  out_of_memory : end.status ≡ 8 → (s ≡ k) ⊎ IsHindered s
  out_of_memory eight = inr (by_memory (stays 8 eight (λ e. omega arith)))

  -- what is due for a text that is told
  for_text : (Follows : List ℕ → End D → Type 0) (known : List ℕ) → text.left ≡ Some known → (nat_lt 67108864 (length known) ≡ true → k ≡ 2)
      → (nat_lt 67108864 (length known) ≡ false → Follows known end → (s ≡ k) ⊎ IsHindered s) → FromText text text' disk Follows end → (s ≡ k) ⊎ IsHindered s
  for_text Follows known is long short (inl (t, (is_text, clean), read)) =
      by_length (nat_lt 67108864 (length known)) refl
      (subst (λ (x : List ℕ). MatchBool (nat_lt 67108864 (length x)) (end ≡ ending 2 too_long disk) (Follows x end)) (the_text text.left known t is is_text) read)
    where
      by_length : (b : Bool) → nat_lt 67108864 (length known) ≡ b → MatchBool b (end ≡ ending 2 too_long disk) (Follows known end) → (s ≡ k) ⊎ IsHindered s
      by_length true e ends = inl (stays 2 (status_of_end 2 too_long disk ends) (λ z. omega arith) ∙ sym (long e))
      by_length false e follows = short e follows
  for_text Follows known is long short (inr (inl (e, fails))) = inr (by_read (stays 6 (ap (λ (x : End D). x.status) e) (λ z. omega arith)))
  for_text Follows known is long short (inr (inr (e, clean))) = out_of_memory (ap (λ (x : End D). x.status) e)

  -- ---- a bad text

  -- the text is bad as far as it is short
  bad_short : (command : Option Command) (known line : List ℕ) → IsBadText command known line → nat_lt 67108864 (length known) ≡ false → IsBadFor command known line
  bad_short command known line is_bad short = subst (λ b. MatchBool b ((uses_text command ≡ true) × (line ≡ too_long)) (IsBadFor command known line)) short is_bad

  bad_init : (known line : List ℕ) → text.left ≡ Some known → IsBadText (Some Init) known line → k ≡ 2 → Inits told text text' disk end → (s ≡ k) ⊎ IsHindered s
  bad_init known line is is_bad two inits =
      for_text (Configures told disk) known is (λ long. two) (λ short follows. by_config (bad_short (Some Init) known line is_bad short) follows) inits
    where
      by_config : IsBadFor (Some Init) known line → Configures told disk known end → (s ≡ k) ⊎ IsHindered s
      by_config bad (inl (none, e)) = inl (stays 2 (ap (λ (x : End D). x.status) e) (λ z. omega arith) ∙ sym two)
      by_config bad (inr (house, conf, (utf8, configures), formats)) =
          absurd (let wrong : ◌≡◌ {A = Option (House × Conf)} (Some (house, conf)) None = sym configures ∙ bad.0 utf8 in cc)

  bad_script : (known line : List ℕ) → text.left ≡ Some known → IsBadText (Some Script) known line → k ≡ 2 → Scripts told text text' disk end → (s ≡ k) ⊎ IsHindered s
  bad_script known line is is_bad two scripts =
      for_text (λ t. RunsScript told disk (script_of t)) known is (λ long. two) (λ short follows. by_script (script_of known) (bad_short (Some Script) known line is_bad short) follows) scripts
    where
      by_script : (script : Result (List Event) ℕ) → IsBadScript script line → RunsScript told disk script end → (s ≡ k) ⊎ IsHindered s
      by_script (Ok events) bad runs = absurd bad
      by_script (Err n) bad e = inl (stays 2 (ap (λ (x : End D). x.status) e) (λ z. omega arith) ∙ sym two)

  bad_play : (known line : List ℕ) → text.left ≡ Some known → IsBadText (Some Play) known line → k ≡ 2 → Plays text text' disk end → (s ≡ k) ⊎ IsHindered s
  bad_play known line is is_bad two plays =
      for_text (PlaysText disk) known is (λ long. two) (λ short follows. by_script (script_of known) (bad_short (Some Play) known line is_bad short) follows.0) plays
    where
      by_script : (script : Result (List Event) ℕ) → IsBadScript script line → PlaysScript script end.status end.output → (s ≡ k) ⊎ IsHindered s
      by_script (Ok events) bad plays = absurd bad
      by_script (Err n) bad (planned, line_is) = inl (stays 2 planned (λ z. omega arith) ∙ sym two)

  -- no text is bad for a command that reads none
  bad_none : (command : Option Command) (known line : List ℕ) → uses_text command ≡ false → ((t : List ℕ) → IsBadFor command t line → ⊥) → IsBadText command known line → ⊥
  bad_none command known line unused none is_bad = by_length (nat_lt 67108864 (length known)) is_bad
    where
      by_length : (b : Bool) → MatchBool b ((uses_text command ≡ true) × (line ≡ too_long)) (IsBadFor command known line) → ⊥
      by_length true (used, e) = let wrong : true ≡ false = sym used ∙ unused in cc
      by_length false bad = none known bad

  -- ---- a text in its grammar

  due_init : (known : List ℕ) → text.left ≡ Some known → nat_lt 67108864 (length known) ≡ false → IsDueFor (Some Init) known (told disk) k → Inits told text text' disk end
      → (s ≡ k) ⊎ IsHindered s
  due_init known is short (house, conf, (utf8, configures), due) inits =
      for_text (Configures told disk) known is (λ long. absurd (let wrong : true ≡ false = sym long ∙ short in cc)) (λ e follows. by_config follows) inits
    where
      by_made : (h : House) (c : Conf) (made : Result (Kept × ℕ) MakeFault) → Makes h c (told disk) (told end.disk) made → end.status ≡ made_status made → IsDueInit (told disk) k
          → (s ≡ k) ⊎ IsHindered s
      by_made h c (Ok x) makes zero (inl (empty, due)) = well zero due
      by_made h c (Ok x) makes zero (inr (some, due)) = absurd (some makes.empty)
      by_made h c (Err make.NotEmpty) makes three (inl (empty, due)) = absurd (makes.0 empty)
      by_made h c (Err make.NotEmpty) makes three (inr (some, due)) = inl (stays 3 three (λ z. omega arith) ∙ sym due)
      by_made h c (Err make.Disk) makes five due = inr (by_disk (stays 5 five (λ z. omega arith)))
      by_made h c (Err make.NoMemory) makes eight due = out_of_memory eight

      by_config : Configures told disk known end → (s ≡ k) ⊎ IsHindered s
      by_config (inl (none, e)) = absurd (let wrong : ◌≡◌ {A = Option (House × Conf)} (Some (house, conf)) None = sym configures ∙ none utf8 in cc)
      by_config (inr (h, c, config, (made, makes, status_is, output_is))) = by_made h c made makes status_is due

  -- the script was served
  served : (outcome : Result (Unit {0}) ServeFault) (first : Kept) (events : List Event) (notes : List LinkNote) (steps : List Step) (last : Kept)
      → Played first events outcome notes steps last → TellsOutcome outcome notes end.status end.output → k ≡ 0 → (s ≡ k) ⊎ IsHindered s
  served (Ok x) first events notes steps last played (inl (zero, is)) due = well zero due
  served (Ok x) first events notes steps last played (inr (eight, is)) due = out_of_memory eight
  served (Err serve.Link) first events notes steps last played tells due = absurd (played.no_link_fault refl)
  served (Err serve.Disk) first events notes steps last played (inl (five, is)) due = inr (by_disk (stays 5 five (λ z. omega arith)))
  served (Err serve.Disk) first events notes steps last played (inr (five, is)) due = inr (by_disk (stays 5 five (λ z. omega arith)))
  served (Err serve.Turns) first events notes steps last played (inl (seven, is)) due = inr (by_events (stays 7 seven (λ z. omega arith)))
  served (Err serve.Turns) first events notes steps last played (inr (seven, is)) due = inr (by_events (stays 7 seven (λ z. omega arith)))
  served (Err serve.NoMemory) first events notes steps last played (inl (eight, is)) due = out_of_memory eight
  served (Err serve.NoMemory) first events notes steps last played (inr (eight, is)) due = out_of_memory eight

  due_grow : (rounds : ℕ) → GrowsBy rounds disk end → k ≡ 0 → (s ≡ k) ⊎ IsHindered s
  due_grow rounds ((outcome, notes, steps, last, played, no_fault, none_read, keeps, tells), disk_is) due = by_outcome outcome refl tells
    where
      by_outcome : (o : Result (Unit {0}) ServeFault) → outcome ≡ o → TellsGrown rounds o last end.status end.output → (s ≡ k) ⊎ IsHindered s
      by_outcome (Ok x) e (inl (zero, is)) = well zero due
      by_outcome (Ok x) e (inr (eight, is)) = out_of_memory eight
      by_outcome (Err serve.Link) e tells = absurd (played.no_link_fault e)
      by_outcome (Err serve.Disk) e tells = absurd (no_fault e)
      by_outcome (Err serve.Turns) e (seven, is) = inr (by_events (stays 7 seven (λ z. omega arith)))
      by_outcome (Err serve.NoMemory) e (eight, is) = out_of_memory eight

  due_play : (known : List ℕ) → text.left ≡ Some known → nat_lt 67108864 (length known) ≡ false → IsDueFor (Some Play) known (told disk) k → Plays text text' disk end
      → (s ≡ k) ⊎ IsHindered s
  due_play known is short (events, script, due) plays =
      for_text (PlaysText disk) known is (λ long. absurd (let wrong : true ≡ false = sym long ∙ short in cc)) (λ e follows. by_script (script_of known) script follows.0) plays
    where
      by_script : (r : Result (List Event) ℕ) → r ≡ Ok events → PlaysScript r end.status end.output → (s ≡ k) ⊎ IsHindered s
      by_script (Err n) e plays = absurd (let wrong : ◌≡◌ {A = Result (List Event) ℕ} (Err n) (Ok events) = e in cc)
      by_script (Ok all) e (outcome, notes, steps, last, played, no_fault, none_read, keeps, tells) = served outcome _ all notes steps last played tells due

  module _ (one_opening : (image : List ℕ) (one two : Result Kept StartFault) → OpensAs image one → OpensAs image two → one ≡ two) where
    the_kept : (kept other : Kept) → ◌≡◌ {A = Result Kept StartFault} (Ok kept) (Ok other) → other ≡ kept
    the_kept kept other e = cc

    -- a store that opened was to open, and that is due which its records come to
    due_opened : (command : Option Command) (kept : Kept) (gate : ℕ) (new : DiskTold) → Starts (told disk) new (Ok (kept, gate)) → IsDueStore command (told disk) k
        → (told disk).honest × (leaves : OpensAs (told disk).content (Ok kept)) × (k ≡ due_of command leaves.records kept)
    due_opened command kept gate new starts (inl (empty, three)) = absurd (opened_some (told disk) new (kept, gate) starts empty)
    due_opened command kept gate new starts (inr (honest, inl (other, leaves, due))) =
        let same : other ≡ kept = the_kept kept other (one_opening (told disk).content (Ok kept) (Ok other) (opened_as (told disk) new kept gate starts honest) leaves) in
        (honest, record { records = leaves.records; stands = leaves.stands; state_is = leaves.state_is ∙ ap (λ (x : Kept). Some x) same }, due ∙ ap (due_of command leaves.records) same)
    due_opened command kept gate new starts (inr (honest, inr (inl (not, due)))) =
        absurd (let wrong : ◌≡◌ {A = Result Kept StartFault} (Ok kept) (Err start.NotFormatted) = one_opening (told disk).content (Ok kept) (Err start.NotFormatted) (opened_as (told disk) new kept gate starts honest) not in cc)
    due_opened command kept gate new starts (inr (honest, inr (inr (place, damaged, due)))) =
        absurd (let wrong : ◌≡◌ {A = Result Kept StartFault} (Ok kept) (Err (start.Damaged place)) = one_opening (told disk).content (Ok kept) (Err (start.Damaged place)) (opened_as (told disk) new kept gate starts honest) damaged in cc)

    -- one that was not opened was not to open
    due_unopened : (command : Option Command) → OpensNone told disk end → IsDueStore command (told disk) k → (s ≡ k) ⊎ IsHindered s
    due_unopened command (start.NotFormatted, starts, three, is) (inl (empty, due)) = inl (stays 3 three (λ z. omega arith) ∙ sym due)
    due_unopened command (start.NotFormatted, starts, three, is) (inr (honest, inl (kept, leaves, due))) =
        absurd (let wrong : ◌≡◌ {A = Result Kept StartFault} (Err start.NotFormatted) (Ok kept) = one_opening (told disk).content (Err start.NotFormatted) (Ok kept) (starts.found honest) leaves in cc)
    due_unopened command (start.NotFormatted, starts, three, is) (inr (honest, inr (inl (not, due)))) = inl (stays 3 three (λ z. omega arith) ∙ sym due)
    due_unopened command (start.NotFormatted, starts, three, is) (inr (honest, inr (inr (place, damaged, due)))) =
        absurd (let wrong : ◌≡◌ {A = Result Kept StartFault} (Err start.NotFormatted) (Err (start.Damaged place)) =
        one_opening (told disk).content (Err start.NotFormatted) (Err (start.Damaged place)) (starts.found honest) damaged in cc)
    due_unopened command (start.Damaged p, starts, ten, is) (inl (empty, due)) = absurd (undamaged (told disk) (told end.disk) p starts empty)
    due_unopened command (start.Damaged p, starts, ten, is) (inr (honest, inl (kept, leaves, due))) =
        absurd (let wrong : ◌≡◌ {A = Result Kept StartFault} (Err (start.Damaged p)) (Ok kept) = one_opening (told disk).content (Err (start.Damaged p)) (Ok kept) (starts.found honest) leaves in cc)
    due_unopened command (start.Damaged p, starts, ten, is) (inr (honest, inr (inl (not, due)))) =
        absurd (let wrong : ◌≡◌ {A = Result Kept StartFault} (Err (start.Damaged p)) (Err start.NotFormatted) =
        one_opening (told disk).content (Err (start.Damaged p)) (Err start.NotFormatted) (starts.found honest) not in cc)
    due_unopened command (start.Damaged p, starts, ten, is) (inr (honest, inr (inr (place, damaged, due)))) = inl (stays 10 ten (λ z. omega arith) ∙ sym due)
    due_unopened command (start.Disk, starts, five, is) due = inr (by_disk (stays 5 five (λ z. omega arith)))
    due_unopened command (start.NoMemory, starts, eight, is) due = out_of_memory eight

    due_script : (known : List ℕ) → text.left ≡ Some known → nat_lt 67108864 (length known) ≡ false → IsDueFor (Some Script) known (told disk) k → Scripts told text text' disk end
        → (s ≡ k) ⊎ IsHindered s
    due_script known is short (events, script, due) scripts =
        for_text (λ t. RunsScript told disk (script_of t)) known is (λ long. absurd (let wrong : true ≡ false = sym long ∙ short in cc)) (λ e follows. by_script (script_of known) script follows) scripts
      where
        by_script : (r : Result (List Event) ℕ) → r ≡ Ok events → RunsScript told disk r end → (s ≡ k) ⊎ IsHindered s
        by_script (Err n) e runs = absurd (let wrong : ◌≡◌ {A = Result (List Event) ℕ} (Err n) (Ok events) = e in cc)
        by_script (Ok all) e (inl none) = due_unopened (Some Script) none due
        by_script (Ok all) e (inr (desk, starts, (last, run, disk_is, journals))) =
            served run.outcome desk.kept all run.notes run.steps last.kept run.played run.tells (due_opened (Some Script) desk.kept desk.gate (told desk.disk) starts due).2

    due_check : Checks told disk end → IsDueStore (Some Check) (told disk) k → (s ≡ k) ⊎ IsHindered s
    due_check (inl none, kept) due = due_unopened (Some Check) none due
    due_check (inr (desk, starts, counted), kept) due = by_told counted.0
      where
        by_told : TellsCounts desk.kept end.status end.output → (s ≡ k) ⊎ IsHindered s
        by_told (inl (nought, is)) = well nought (due_opened (Some Check) desk.kept desk.gate (told desk.disk) starts due).2
        by_told (inr (eight, is)) = out_of_memory eight

    -- a fault of the disk
    by_fault : end.status ≡ 5 → (s ≡ k) ⊎ IsHindered s
    by_fault five = inr (by_disk (stays 5 five (λ z. omega arith)))

    -- what is due of a cut, by the point
    at_point : (p : Option ℕ) (kept : Kept) (point : ℕ) → position kept.timeline point ≡ p → k ≡ (if is_some (position kept.timeline point) then 0 else 11) → k ≡ (if is_some p then 0 else 11)
    at_point p kept point is due = due ∙ ap (λ (o : Option ℕ). if is_some o then 0 else 11) is

    due_cut : (point : ℕ) → Cuts told disk point s out out' end → IsDueStore (Some (Cut point)) (told disk) k → (s ≡ k) ⊎ IsHindered s
    due_cut point (inl none, kept) due = due_unopened (Some (Cut point)) none due
    due_cut point (inr (desk, starts, (last, still, disk_is, cuts)), kept) due = by_cut (due_opened (Some (Cut point)) desk.kept desk.gate (told desk.disk) starts due).2 cuts
      where
        by_cut : k ≡ (if is_some (position desk.kept.timeline point) then 0 else 11) → CutsAt told (told disk).honest point desk last end.status end.output s out out' → (s ≡ k) ⊎ IsHindered s
        by_cut is (inl (reads, inl (none, eleven, line))) = inl (stays 11 eleven (λ z. omega arith) ∙ sym (at_point None desk.kept point none is))
        by_cut is (inl (reads, inr (inl (payloads, of, nought, line, writes)))) = well nought (at_point (Some of.place) desk.kept point of.place_is is)
        by_cut is (inl (reads, inr (inr (eight, line)))) = out_of_memory eight
        by_cut is (inr (inl (some, failed, (five, line)))) = by_fault five
        by_cut is (inr (inr (rose, (payloads, of, five, short, took)))) = by_fault five

    due_audit : Audits told disk end → IsDueStore (Some Audit) (told disk) k → (s ≡ k) ⊎ IsHindered s
    due_audit (inl none, kept) due = due_unopened (Some Audit) none due
    due_audit (inr (desk, starts, (last, still, disk_is, audits)), kept) due = by_audit (due_opened (Some Audit) desk.kept desk.gate (told desk.disk) starts due) audits
      where
        Due : Type 0
        Due = (told disk).honest × (leaves : OpensAs (told disk).content (Ok desk.kept)) × (k ≡ due_of (Some Audit) leaves.records desk.kept)

        by_found : (d : Due) (audited : IsAudited (WereOpened told disk desk.kept) end.status end.output) → (found : Option ℕ) → audited.found ≡ found → (t : Bool) → are_true d.1.records ≡ t → TellsTruth found end.status end.output
            → (s ≡ k) ⊎ IsHindered s
        by_found d audited None is true are (nought, line) = well nought (d.2 ∙ ap (λ (b : Bool). if b then 0 else 12) are)
        by_found d audited None is false are (nought, line) =
            let none = sym (audited.exact d.1.records (record { honest = d.0; stands = d.1.stands; state_is = d.1.state_is })) ∙ is in
            absurd (let wrong : true ≡ false = sym ((truth d.1.records desk.kept d.1.state_is).0 none) ∙ are in cc)
        by_found d audited (Some place) is true are (twelve, line) =
            let none = (truth d.1.records desk.kept d.1.state_is).1 are in
            absurd (let wrong : ◌≡◌ {A = Option ℕ} (Some place) None = sym is ∙ audited.exact d.1.records (record { honest = d.0; stands = d.1.stands; state_is = d.1.state_is }) ∙ none in cc)
        by_found d audited (Some place) is false are (twelve, line) = inl (stays 12 twelve (λ z. omega arith) ∙ sym (d.2 ∙ ap (λ (b : Bool). if b then 0 else 12) are))

        by_audit : Due → AuditsAt told (WereOpened told disk desk.kept) desk last end.status end.output → (s ≡ k) ⊎ IsHindered s
        by_audit d (inl (reads, inl audited)) = by_found d audited audited.found refl (are_true d.1.records) refl audited.tells
        by_audit d (inl (reads, inr (eight, line))) = out_of_memory eight
        by_audit d (inr (rose, (five, line))) = by_fault five

    due_serve : (command : Option Command) → ((records : List JournalRecord) (kept : Kept) → due_of command records kept ≡ 0) → ServesStore told link link' disk end → IsDueStore command (told disk) k
        → (s ≡ k) ⊎ IsHindered s
    due_serve command zero (inl (none, still)) due = due_unopened command none due
    due_serve command zero (inr (desk, starts, (last, run, disk_is, journals))) due =
        let is = due_opened command desk.kept desk.gate (told desk.disk) starts due in
        by_outcome run.outcome run.status_is (is.2 ∙ zero is.1.records desk.kept)
      where
        by_outcome : (outcome : Result (Unit {0}) ServeFault) → end.status ≡ status_of outcome → k ≡ 0 → (s ≡ k) ⊎ IsHindered s
        by_outcome (Ok x) status zero = well status zero
        by_outcome (Err serve.Link) status zero = inr (by_link (stays 4 status (λ z. omega arith)))
        by_outcome (Err serve.Disk) status zero = inr (by_disk (stays 5 status (λ z. omega arith)))
        by_outcome (Err serve.Turns) status zero = inr (by_events (stays 7 status (λ z. omega arith)))
        by_outcome (Err serve.NoMemory) status zero = out_of_memory status

    -- ---- all commands

    -- words of no stated shape, a bad text, or a text and a disk
    by_command : (command : Option Command) → IsDue command (record { text = text; link = link; disk = told disk; out = out }) k → Does told command text text' link link' s out out' disk end → (s ≡ k) ⊎ IsHindered s
    by_command None (inl (not_built, one)) (same, e) = inl (stays 1 (status_of_end 1 usage disk e) (λ z. omega arith) ∙ sym one)
    by_command None (inr (inl (t, line, is, bad, two))) does = absurd (bad_none None t line refl (λ u e. e) bad)
    by_command None (inr (inr (inl (t, is, short, due)))) does = absurd due
    by_command None (inr (inr (inr due))) does = absurd due
    by_command (Some Init) (inl (not_built, one)) does = absurd (let wrong : true ≡ false = not_built in cc)
    by_command (Some Init) (inr (inl (t, line, is, bad, two))) does = bad_init t line is bad two does
    by_command (Some Init) (inr (inr (inl (t, is, short, due)))) does = due_init t is short due does
    by_command (Some Init) (inr (inr (inr due))) does = absurd due
    by_command (Some (Serve a b c d)) (inl (not_built, one)) does = absurd (let wrong : true ≡ false = not_built in cc)
    by_command (Some (Serve a b c d)) (inr (inl (t, line, is, bad, two))) does = absurd (bad_none (Some (Serve a b c d)) t line refl (λ u e. e) bad)
    by_command (Some (Serve a b c d)) (inr (inr (inl (t, is, short, due)))) does = absurd due
    by_command (Some (Serve a b c d)) (inr (inr (inr due))) (same, serves) = due_serve (Some (Serve a b c d)) (λ records kept. refl) serves due
    by_command (Some Script) (inl (not_built, one)) does = absurd (let wrong : true ≡ false = not_built in cc)
    by_command (Some Script) (inr (inl (t, line, is, bad, two))) does = bad_script t line is bad two does
    by_command (Some Script) (inr (inr (inl (t, is, short, due)))) does = due_script t is short due does
    by_command (Some Script) (inr (inr (inr due))) does = absurd due
    by_command (Some Play) (inl (not_built, one)) does = absurd (let wrong : true ≡ false = not_built in cc)
    by_command (Some Play) (inr (inl (t, line, is, bad, two))) does = bad_play t line is bad two does
    by_command (Some Play) (inr (inr (inl (t, is, short, due)))) does = due_play t is short due does
    by_command (Some Play) (inr (inr (inr due))) does = absurd due
    by_command (Some (Grow n)) (inl (not_built, one)) does = absurd (let wrong : true ≡ false = not_built in cc)
    by_command (Some (Grow n)) (inr (inl (t, line, is, bad, two))) does = absurd (bad_none (Some (Grow n)) t line refl (λ u e. e) bad)
    by_command (Some (Grow n)) (inr (inr (inl (t, is, short, due)))) does = absurd due
    by_command (Some (Grow n)) (inr (inr (inr due))) (same, grows) = due_grow n grows due
    by_command (Some Check) (inl (not_built, one)) does = absurd (let wrong : true ≡ false = not_built in cc)
    by_command (Some Check) (inr (inl (t, line, is, bad, two))) does = absurd (bad_none (Some Check) t line refl (λ u e. e) bad)
    by_command (Some Check) (inr (inr (inl (t, is, short, due)))) does = absurd due
    by_command (Some Check) (inr (inr (inr due))) (same, checks) = due_check checks due
    by_command (Some (Cut point)) (inl (not_built, one)) does = absurd (let wrong : true ≡ false = not_built in cc)
    by_command (Some (Cut point)) (inr (inl (t, line, is, bad, two))) does = absurd (bad_none (Some (Cut point)) t line refl (λ u e. e) bad)
    by_command (Some (Cut point)) (inr (inr (inl (t, is, short, due)))) does = absurd due
    by_command (Some (Cut point)) (inr (inr (inr due))) (same, cuts) = due_cut point cuts due
    by_command (Some Audit) (inl (not_built, one)) does = absurd (let wrong : true ≡ false = not_built in cc)
    by_command (Some Audit) (inr (inl (t, line, is, bad, two))) does = absurd (bad_none (Some Audit) t line refl (λ u e. e) bad)
    by_command (Some Audit) (inr (inr (inl (t, is, short, due)))) does = absurd due
    by_command (Some Audit) (inr (inr (inr due))) (same, audits) = due_audit audits due

    -- the status that is due comes, unless the run was hindered
    pub due : (words : List (List ℕ)) → Answers told words text text' link link' s out out' disk end → IsDue (command_of words) (record { text = text; link = link; disk = told disk; out = out }) k → (s ≡ k) ⊎ IsHindered s
    due words (inl does) is = by_command (command_of words) is does
    due words (inr (kept, (same, e))) is = out_of_memory (ap (λ (x : End D). x.status) e)
