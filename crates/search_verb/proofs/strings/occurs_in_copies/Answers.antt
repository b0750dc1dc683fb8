use Rattle.std.proofs.Common.{◌≡◌, ◌∙◌, ℕ, List, subst}
use Rattle.std.specs.Str.{str_to_ascii_lowercase}
use Rattle.memchr.specs.Find.{FindsNeedle}
use Rattle.search_verb.proofs.Lowering.{found_lower}
use Rattle.search_verb.proofs.strings.occurs_in_copies.Goals as goal

pub returns : goal.returns
returns c =
    let string = c.args.string.now in
    let bytes = c.args.bytes.now in
    let r = c.find.result in
    let hay : c.as_slice.result.now ≡ str_to_ascii_lowercase bytes = c.as_slice.ensures.value ∙ c.in_ok-bytes.ensures.ok in
    let needle : c.as_slice-2.result.now ≡ str_to_ascii_lowercase string = c.as_slice-2.ensures.value ∙ c.in_ok-string.ensures.ok in
    let found = subst (λ (n : List ℕ). FindsNeedle c.as_slice.result.now n 0 r) needle c.find.ensures in
    c.is_some.ensures ∙ found_lower string bytes r (subst (λ (h : List ℕ). FindsNeedle h (str_to_ascii_lowercase string) 0 r) hay found)
