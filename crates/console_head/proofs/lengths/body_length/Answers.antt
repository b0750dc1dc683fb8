use Rattle.std.proofs.Common.{ℕ, false, true, min, Option, Some, sym, ap, ◌∙◌}
use Rattle.std.specs.Prelude.{option_map}
use Rattle.httparse.specs.Spans.{header_bytes}
use Rattle.console_head.proofs.Fusion.{with_coding, without_length, with_length, first_is_digits}
use Rattle.console_head.proofs.lengths.body_length.Goals as goal

abbrev capped : Option ℕ → Option ℕ
capped o = option_map (λ n. min n 4194305) o

pub returns-then-has_coding : goal.returns-then-has_coding
returns-then-has_coding c =
    sym (ap capped (with_coding (header_bytes c.args.text.now) c.args.headers.now (sym c.if-has_coding.ensures)))

pub returns-in_default : goal.returns-in_default
returns-in_default c =
    sym (ap capped (without_length (header_bytes c.args.text.now) c.args.headers.now (sym c.if-has_coding.ensures) (sym c.in_default.ensures)))

pub returns-then-not-all_agree : goal.returns-then-not-all_agree
returns-then-not-all_agree c =
    sym (ap capped (with_length (header_bytes c.args.text.now) c.args.headers.now c.in-Some.first.now false (sym c.if-has_coding.ensures) (sym c.in-Some.ensures) c.if-not-all_agree.ensures))

pub number_in-requires : goal.number_in-requires
number_in-requires c = first_is_digits (header_bytes c.args.text.now) c.args.headers.now c.in-Some.first.now (sym c.in-Some.ensures) (sym c.if-not-all_agree.ensures)

pub returns : goal.returns
returns c =
    ap (λ (n : ℕ). Some n) c.number_in.ensures
    ∙ sym (ap capped (with_length (header_bytes c.args.text.now) c.args.headers.now c.in-Some.first.now true (sym c.if-has_coding.ensures) (sym c.in-Some.ensures) c.if-not-all_agree.ensures))
