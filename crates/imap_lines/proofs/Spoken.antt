-- What lines and literals are read as is what the grammar says.
use Rattle.std.proofs.Common.{◌≡◌, ◌↔◌, ℕ, Bool, true, false, ◌&&◌, List, [], ◌∷◌, Option, None, Some, Ok, Err, refl, ap, sym, ◌∙◌, subst}
use Rattle.std.specs.List.{after_first}
use Rattle.imap_stream.specs.LiteralMarks.{tag_of}
use Rattle.imap_stream.specs.declared.next.RawCommand.{RawCommand}
use Rattle.imap_tokens.specs.Parts.{is_space, line_before}
use Rattle.imap_lines.specs.Command.{Reading, heading_of, spoken, if_asked, if_headed, tagged, if_tagged, of_lines, command_in, command_of}
use Rattle.imap_lines.specs.Grammar.{Heads, HasTag, IsCommand, IsRead, IsReadBy, IsReading, verb_of, speaks_of_uids, has_uid_form}
use Rattle.imap_lines.specs.declared.verbs.Verb.{Verb}
use Rattle.imap_lines.specs.declared.command.ImapWhat.{ImapWhat}
use Rattle.imap_lines.specs.declared.command.ImapCommand.{ImapCommand}
use Rattle.imap_lines.specs.declared.command.ImapRefused.TheVariants.{NoTag, Unknown, Argument, NoMemory}
use Rattle.imap_lines.proofs.Headed.{tag_sound, tag_complete, head_sound, head_complete}
use Rattle.imap_lines.proofs.SpelledArguments.{TokenLaws}
use Rattle.imap_lines.proofs.SpelledWhat.{spoken_sound, spoken_complete}

uid_is : (v : Verb) (by_uid : Bool) (rest line : List ℕ) → Heads v by_uid rest line → (has_uid_form v && by_uid) ≡ by_uid
uid_is v true rest line h = ap (λ t. t && true) h.has_form
uid_is v false rest line h = and_none (has_uid_form v)
  where
    and_none : (t : Bool) → (t && false) ≡ false
    and_none true = refl
    and_none false = refl

module _ (laws : TokenLaws) (line : List ℕ) (lines literals : List (List ℕ)) where
  command_read : (command : ImapCommand) → IsCommand command line lines literals → of_lines line lines literals ≡ Ok command
  command_read command c =
      let t = tag_complete line command.tag c.behind c.tagged in
      let h = head_complete (verb_of command.what) (speaks_of_uids command.what) c.arguments c.behind c.headed in
      ap (λ o. if_tagged o line lines literals) t.0 ∙ ap (λ b. tagged command.tag b lines literals) t.1
      ∙ ap (λ o. if_headed command.tag o lines literals) h ∙ ap (if_asked command.tag) (spoken_complete laws command.what c.arguments lines literals c.asks)

  by_asks : (tag : List ℕ) (h : Verb × Bool × List ℕ) (o : Option ImapWhat) → HasTag tag (after_first is_space line) line → Heads h.0 h.1 h.2 (after_first is_space line)
      → spoken h.0 h.1 h.2 lines literals ≡ o → of_lines line lines literals ≡ if_asked tag o → IsRead line lines literals (if_asked tag o)
  by_asks tag h None tagged headed is whole = record {
    behind = after_first is_space line;
    known = h.0;
    by_uid = h.1;
    arguments = h.2;
    tagged = tagged;
    headed = headed;
    none = λ command c. absurd (let wrong : Err (Argument tag) ≡ Ok command = sym whole ∙ command_read command c in cc);
  }
  by_asks tag h (Some asked) tagged headed is whole =
      let s = spoken_sound laws h.0 h.1 h.2 lines literals asked is in
      let uid : speaks_of_uids asked ≡ h.1 = s.is_uid ∙ uid_is h.0 h.1 h.2 (after_first is_space line) headed in
      record {
        behind = after_first is_space line;
        arguments = h.2;
        tagged = tagged;
        headed = subst (λ v. Heads v (speaks_of_uids asked) h.2 (after_first is_space line)) (sym s.is_verb) (subst (λ u. Heads h.0 u h.2 (after_first is_space line)) (sym uid) headed);
        asks = s.asks;
      }

  by_head : (tag : List ℕ) (o : Option (Verb × Bool × List ℕ)) → HasTag tag (after_first is_space line) line → heading_of (after_first is_space line) ≡ o
      → of_lines line lines literals ≡ if_headed tag o lines literals → IsRead line lines literals (if_headed tag o lines literals)
  by_head tag None tagged is whole = record {
    behind = after_first is_space line;
    tagged = tagged;
    none = λ v by_uid rest h. absurd (let wrong : None ≡ Some (v, by_uid, rest) = sym is ∙ head_complete v by_uid rest (after_first is_space line) h in cc);
  }
  by_head tag (Some h) tagged is whole = by_asks tag h (spoken h.0 h.1 h.2 lines literals) tagged (head_sound (after_first is_space line) h is) refl whole

  by_tag : (o : Option (List ℕ)) → tag_of line ≡ o → IsRead line lines literals (if_tagged o line lines literals)
  by_tag None is = λ tag rest h. absurd (let wrong : None ≡ Some tag = sym is ∙ (tag_complete line tag rest h).0 in cc)
  by_tag (Some tag) is =
      by_head tag (heading_of (after_first is_space line)) (tag_sound line tag is) refl (ap (λ o. if_tagged o line lines literals) is)

  pub read_sound : IsRead line lines literals (of_lines line lines literals)
  read_sound = by_tag (tag_of line) refl

  by_spoken : (tag : List ℕ) (o : Option ImapWhat) → of_lines line lines literals ≡ if_asked tag o → ((command : ImapCommand) → IsCommand command line lines literals → ⊥)
      → of_lines line lines literals ≡ Err (Argument tag)
  by_spoken tag None whole none = whole
  by_spoken tag (Some asked) whole none = absurd (none (record { tag = tag; what = asked }) (subst (IsRead line lines literals) whole read_sound))

  pub read_only : (reading : Reading) → IsRead line lines literals reading → of_lines line lines literals ≡ reading
  read_only (Ok command) c = command_read command c
  read_only (Err NoTag) none = by_none (tag_of line) refl
    where
      by_none : (o : Option (List ℕ)) → tag_of line ≡ o → of_lines line lines literals ≡ Err NoTag
      by_none None is = ap (λ o. if_tagged o line lines literals) is
      by_none (Some tag) is = absurd (none tag (after_first is_space line) (tag_sound line tag is))
  read_only (Err (Unknown tag)) u = by_none (heading_of u.behind) refl
    where
      by_none : (o : Option (Verb × Bool × List ℕ)) → heading_of u.behind ≡ o → of_lines line lines literals ≡ Err (Unknown tag)
      by_none None is =
          let t = tag_complete line tag u.behind u.tagged in
          ap (λ o. if_tagged o line lines literals) t.0 ∙ ap (λ b. tagged tag b lines literals) t.1 ∙ ap (λ o. if_headed tag o lines literals) is
      by_none (Some h) is = absurd (u.none h.0 h.1 h.2 (head_sound u.behind h is))
  read_only (Err (Argument tag)) a =
      let t = tag_complete line tag a.behind a.tagged in
      let h = head_complete a.known a.by_uid a.arguments a.behind a.headed in
      by_spoken tag (spoken a.known a.by_uid a.arguments lines literals)
      (ap (λ o. if_tagged o line lines literals) t.0 ∙ ap (λ b. tagged tag b lines literals) t.1 ∙ ap (λ o. if_headed tag o lines literals) h) a.none
  read_only (Err NoMemory) wrong = absurd wrong

by_lines : (laws : TokenLaws) (lines literals : List (List ℕ)) (reading : Reading) → (command_in lines literals ≡ reading) ↔ IsReadBy lines literals reading
by_lines laws [] literals reading = (λ e. sym e, λ e. sym e)
by_lines laws (line ∷ lines) literals reading =
    (λ e. subst (IsRead (line_before line lines) lines literals) e (read_sound laws (line_before line lines) lines literals), λ r. read_only laws (line_before line lines) lines literals reading r)

pub one_command : (laws : TokenLaws) (raw : RawCommand) (reading : Reading) → (command_of raw ≡ reading) ↔ IsReading raw reading
one_command laws raw reading = by_lines laws raw.lines raw.literals reading
