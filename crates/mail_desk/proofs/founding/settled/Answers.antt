use Rattle.std.proofs.Common.{◌≡◌, [], ◌++◌, None, length, option_map, refl, subst, sym, true, ◌∙◌}
use Rattle.std.proofs.lemmas.List.{append-nil}
use Rattle.store_kept.specs.Founding.{is_whole}
use Rattle.store_kept.specs.Kept.{Origin, kept_from}
use Rattle.store_kept.specs.Texts.{text_with}
use Rattle.mail_desk.specs.Desk.{IsDesk}
use Rattle.mail_desk.specs.Founding.{Founded}
use Rattle.mail_desk.specs.Held.{marks_kept}
use Rattle.mail_desk.specs.contracts.founding.Founding.{the_view}
use Rattle.mail_desk.proofs.Foundings.{founded_desk}
use Rattle.mail_desk.proofs.founding.settled.Goals as goal

pub invariant_of-result : goal.invariant_of-result
invariant_of-result c =
    let d = c.founding.inside in
    let f : Founded = the_view d in
    let whole : is_whole f.house f.based ≡ true = subst (λ (g : Founded). is_whole g.house g.based ≡ true) (sym c.founding.view_is) c.requires in
    record {
      desk = subst (λ (o : Origin). IsDesk (kept_from o d.store.store d.timeline.items d.stamps d.past.next d.reports.items (marks_kept 0 0 d.shelf.marks) d.deep None)) (sym c.behind.ensures)
          (founded_desk c.rows_make_valid_stores.ensures.valid c.mail_is_kept.ensures c.steps_keep_validity.ensures.step f d.past.texts d.numbers.items d.store.store d.shelf.marks c.founding.invariant refl whole);
      sizes = λ body. c.founding.invariant.sizes body ∙ sym (λ j. option_map length (text_with (c.behind.ensures j).texts (append-nil d.timeline.items j) body));
    }
