use Rattle.std.proofs.Common.{ℕ, List, arith}
use Rattle.imap_fetch.specs.declared.messages.Message.{Message}
use Rattle.imap_view.specs.Named.{untold}
use Rattle.imap_session.specs.Searching.{bare_found, bare_kept, number_of}
use Rattle.imap_session.proofs.Bare.{one_more}
use Rattle.imap_session.proofs.search.matching_bare.Goals as goal

pub loop-place-preserved : goal.loop-place-preserved
loop-place-preserved c =
    let kept : ℕ → List Message = bare_kept untold c.args.searching.now c.args.entries.now c.args.view.now in
    let whole : List Message = bare_found untold c.args.searching.now c.args.entries.now c.args.view.now in
    record {
      keys = one_more (λ (m : Message). m.entry.key) kept c.loop-place.found.keys _ whole c.loop-place.place _ (omega arith) c.loop-place.invariant.keys c.in_ok-keep_bare.ensures.keys;
      numbers = one_more (number_of c.args.searching.now.by_uid) kept c.loop-place.found.numbers _ whole c.loop-place.place _ (omega arith) c.loop-place.invariant.numbers c.in_ok-keep_bare.ensures.numbers;
    }
