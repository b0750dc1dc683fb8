use Rattle.std.proofs.Common.{ap, sym, ◌∙◌}
use Rattle.shelf.specs.Notes.{size_of}
use Rattle.imap_session.specs.Searching.{is_of_texts}
use Rattle.imap_session.proofs.Bare.{search_is_bare}
use Rattle.imap_session.proofs.search.search.Goals as goal

pub returns-then-not-is_of_texts-clause-ok : goal.returns-then-not-is_of_texts-clause-ok
returns-then-not-is_of_texts-clause-ok c =
    search_is_bare c.args.store.now.store (size_of c.args.sizes.now.notes) c.args.tag.now c.args.dialog.now c.args.charset.now c.args.key.now c.args.by_uid c.in-Some.selected c.in-Some.is
    (sym c.is_known_charset.ensures ∙ c.if-not-is_known_charset.false)
    (sym (ap is_of_texts c.looks.ensures) ∙ sym c.is_of_texts.ensures ∙ c.if-not-is_of_texts.true)
    ∙ sym c.in_ok-found.ensures ∙ c.submit_found.ensures
