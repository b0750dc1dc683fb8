use Rattle.std.proofs.Common.{ℕ, ◌==◌, ap, sym, ◌∙◌}
use Rattle.std.specs.List.{list_any}
use Rattle.std.proofs.lemmas.List.Sorted.{list_any-IsPermutation}
use Rattle.store_kept.specs.Founding.{entries_of}
use Rattle.mail_desk.proofs.Foundings.{any_number}
use Rattle.mail_desk.proofs.founding.numbers_of.Goals as goal

pub returns-clause-named : goal.returns-clause-named
returns-clause-named c = λ number.
    sym (list_any-IsPermutation (λ (n : ℕ). n == number) c.in_ok-numbers.numbers.items c.sort_numbers.new.numbers.items c.sort_numbers.ensures.same)
    ∙ ap (list_any (λ (n : ℕ). n == number)) c.in_ok-numbers.ensures ∙ any_number number (entries_of c.args.rows.now)
