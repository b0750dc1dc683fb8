use Rattle.std.proofs.Common.{rules, ◌≡◌, ◌++◌, length, take, drop, sym, subst}
use Rattle.std.specs.Io.KnownBytes.{Consumes, prepend_known}
use Rattle.host_outside.proofs.Known.{told_of_copied}
use Rattle.host_outside.proofs.connection.Connection.take_kept.Goals as goal

pub returns-clause-given : goal.returns-clause-given
returns-clause-given g c u =
    let kept = c.args.self.now.kept in
    let count = c.min-count.result in
    let told = c.tell-told.result in
    let copied = c.copy_from_slice.new.self in
    let behind = drop count c.args.buf.now in
    let is_rest : c.sent.new.self ≡ drop told kept = search rules in
    let is_copied : copied ≡ take count kept = search rules in
    let is_long : length copied ≡ count = search rules in (
      c.tell-told.ensures.told.0,
      search rules,
      subst (λ rest. Consumes (prepend_known kept u) (prepend_known rest u) (take told (copied ++ behind)))
          (sym is_rest) (told_of_copied kept copied behind count told is_copied c.tell-told.ensures.told.1 is_long u),
    )
