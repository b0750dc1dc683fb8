use Rattle.std.proofs.Common.{◌++◌, take}
use Rattle.store_kept.specs.Kept.{Kept}
use Rattle.journal_laws.specs.Keeping.{IsLeftBy}
use Rattle.journal_laws.proofs.Came.{all_came, named_came}
use Rattle.journal_laws.proofs.Lasting.{Stands, either_leads, one_message}
use Rattle.journal_laws.proofs.laws.runs_keep_mail.Goals as goal

pub returns : goal.returns
returns c = λ records added first r.
    let stands : (kept : Kept) → IsLeftBy records added kept → Stands kept = λ kept left. record {
      sound = c.states_are_sound.ensures.sound (records ++ take left.0 added) kept left.1;
      revs = c.states_are_sound.ensures.revs (records ++ take left.0 added) kept left.1;
      back = c.states_are_sound.ensures.back (records ++ take left.0 added) kept left.1;
    } in
    record {
      one = λ a b here there.
          one_message c.records_let_uids_last.ensures.lasts c.uids_name_one_message.ensures.kept a b (stands a here) (stands b there) (either_leads records added first a b r here there);
      accurate = λ kept left. record {
        texts = λ id stamp uid m. c.uids_name_one_message.ensures.text (records ++ take left.0 added) kept id stamp uid m left.1;
        given = λ before later i u key. c.each_message_has_one_fate.ensures (records ++ take left.0 added) kept before later i u key left.1;
        based = λ u key. c.messages_of_a_base_have_one_fate.ensures (records ++ take left.0 added) kept u key left.1;
        came = all_came kept (stands kept left).sound;
        named = named_came kept (stands kept left).sound;
      };
    }
