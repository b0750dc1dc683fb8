use Rattle.imap_lines.proofs.Spoken.{one_command}
use Rattle.imap_lines.proofs.laws.one_command.Goals as goal

pub returns : goal.returns
returns c =
    one_command (record {
      lines_sound = c.arguments_are_spelled.ensures.spells;
      lines_complete = c.arguments_are_spelled.ensures.only;
      set_sound = c.sets_are_spelled.ensures.spells;
      set_complete = c.sets_are_spelled.ensures.only;
      bare_sound = c.flags_are_spelled.ensures.bare;
      bare_complete = c.flags_are_spelled.ensures.only_bare;
      list_sound = λ tokens rest flags. c.flags_are_spelled.ensures.listed tokens rest flags;
      list_complete = λ tokens rest flags. c.flags_are_spelled.ensures.only_listed tokens rest flags;
      search_sound = λ tokens s e. (c.searches_are_spelled.ensures tokens s).0 e;
      search_complete = λ tokens s spells. (c.searches_are_spelled.ensures tokens s).1 spells;
    })
