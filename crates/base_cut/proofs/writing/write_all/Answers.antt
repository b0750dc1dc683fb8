use Rattle.std.proofs.Common.{◌≡◌, ◌<◌, ◌++◌, List, ℕ, subst, sym, arith}
use Rattle.base_cut.proofs.Streams.{wrote_more}
use Rattle.base_cut.proofs.writing.write_all.Goals as goal

pub loop-rest-preserved : goal.loop-rest-preserved
loop-rest-preserved g c =
    let told = g.W.Sink.told in
    let i = c.loop-rest.invariant in
    let some : 0 < c.in-Ok.count = omega arith in
    let more = wrote_more (told c.args.out.now) (told c.loop-rest.out) (told c.write.new.self) c.args.bytes.now i.0 c.loop-rest.rest.now c.in-Ok.count i.1 i.2 some c.in-Ok.ensures in
    (more.0, subst (λ (r : List ℕ). c.args.bytes.now ≡ more.0 ++ r) (sym c.after_first-rest.ensures) more.1, more.2)
