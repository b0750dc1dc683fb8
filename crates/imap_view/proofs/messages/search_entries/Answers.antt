use Rattle.std.proofs.Common.{rules}
use Rattle.std.proofs.lemmas.List.Sorted.{answers_always}
use Rattle.verb_core.specs.declared.mailbox.Entry.{Entry}
use Rattle.imap_view.proofs.messages.search_entries.Goals as goal

-- the closure gives an entry's UID
pub returns-clause-place : goal.returns-clause-place
returns-clause-place c = c.binary_search_by_key.ensures.position (λ (e : Entry). e.uid) (answers_always _ _ _ (λ f a r g called. search rules))
