use Rattle.std.proofs.Common.{◌≡◌, ℕ, ◌+◌, ◌≤◌, arith, sym, ap, subst, ◌∙◌, drop, length, Option, None, List, []}
use Rattle.imap_stream.specs.Commands.{heard, before, end_of, last_byte, awaited}
use Rattle.imap_stream.specs.declared.begun.Awaits.TheVariants.{End}
use Rattle.imap_stream.specs.declared.reader.Reader.{Reader}
use Rattle.imap_stream.specs.Reading.{Waits, seen}
use Rattle.imap_stream.proofs.Hearing.{skip_all}
use Rattle.imap_stream.proofs.Readings.{skip_same}
use Rattle.imap_stream.proofs.Settled.{last_few, settled_end}
use Rattle.imap_stream.proofs.Wanting.{last_searched}
use Rattle.imap_stream.proofs.reader.wait.Goals as goal

end_line : (r : Reader) (bytes : List ℕ) (start : ℕ) (tag : Option (List ℕ)) → r.awaits ≡ End tag → start ≡ r.given + awaited r.awaits → drop start bytes ≡ drop r.given bytes
end_line r bytes start tag is e = ap (λ n. drop n bytes) (e ∙ ap (λ a. r.given + awaited a) is ∙ (let z : r.given + 0 ≡ r.given = omega arith in z))

none_in_end : (r : Reader) (bytes : List ℕ) (start : ℕ) (tag : Option (List ℕ)) → r.awaits ≡ End tag → Waits r bytes start → (seen r bytes).said ≡ []
none_in_end r bytes start tag is w =
    let none : end_of (drop r.given bytes) ≡ None = ap end_of (sym (end_line r bytes start tag is w.begins)) ∙ w.open_line in
    ap (λ a. (heard (before r.begun a) (drop r.given bytes)).said) is ∙ ap (λ h. h.said) (skip_all r.begun tag (drop r.given bytes) none)

same_in_end : (r : Reader) (bytes : List ℕ) (start given : ℕ) (tag : Option (List ℕ)) → r.awaits ≡ End tag → Waits r bytes start → drop given bytes ≡ last_byte (drop start bytes)
    → heard (before r.begun r.awaits) (drop given bytes) ≡ seen r bytes
same_in_end r bytes start given tag is w e =
    let line = end_line r bytes start tag is w.begins in
    let none : end_of (drop r.given bytes) ≡ None = ap end_of (sym line) ∙ w.open_line in
    ap (λ a. heard (before r.begun a) (drop given bytes)) is ∙ ap (heard (before r.begun (End tag))) (e ∙ ap last_byte line)
    ∙ skip_same r.begun tag (drop r.given bytes) none ∙ sym (ap (λ a. heard (before r.begun a) (drop r.given bytes)) is)

pub returns-in-End-clause-none : goal.returns-in-End-clause-none
returns-in-End-clause-none c = none_in_end c.args.reader.now c.args.bytes.now c.args.start c.in-End.tag c.in-End.is c.requires

pub returns-in-End-clause-same : goal.returns-in-End-clause-same
returns-in-End-clause-same c = same_in_end c.args.reader.now c.args.bytes.now c.args.start c.skipped-reader.result c.in-End.tag c.in-End.is c.requires c.skipped-reader.ensures.rest

pub returns-in-End-clause-searched : goal.returns-in-End-clause-searched
returns-in-End-clause-searched c =
    rw c.in-End.is (last_searched (drop c.skipped-reader.result c.args.bytes.now) (drop c.args.start c.args.bytes.now) c.skipped-reader.ensures.rest)

pub returns-in-End-clause-settled : goal.returns-in-End-clause-settled
returns-in-End-clause-settled c =
    let few : length (drop c.skipped-reader.result c.args.bytes.now) ≤ 1 = subst (λ l. length l ≤ 1) (sym c.skipped-reader.ensures.rest) (last_few (drop c.args.start c.args.bytes.now)) in
    settled_end _ c.args.bytes.now c.in-End.tag c.requires.sound.begun c.requires.sound.limits c.in-End.is few
