use Rattle.std.proofs.Common.{◌≡◌, arith, ◌∙◌, ◌+◌, sym, ap, option_map, drop, Some}
use Rattle.std.proofs.lemmas.List.{length-drop, take_rest}
use Rattle.imap_stream.specs.Commands.{end_of}
use Rattle.imap_stream.proofs.Lines.{end_of-after, end_of-here, end_of-next, end_of-short, plus_next}
use Rattle.imap_stream.proofs.reader.line_end.Goals as goal

pub loop-rest-init : goal.loop-rest-init
loop-rest-init c = record {
  value = rw take_rest (end_of-after c.args.scanned c.args.bytes.now c.requires.within c.requires.scanned);
  length = rw take_rest (simp length-drop (omega arith));
}

pub loop-rest-preserved : goal.loop-rest-preserved
loop-rest-preserved c =
    let rest = c.loop-rest.rest.now in
    let passed = c.loop-rest.passed in
    let two = c.in-len2-up.len_at_least in
    let inv = c.loop-rest.invariant in
    let next = end_of-next rest two (sym c.is_line_end.ensures ∙ c.if-is_line_end.false) in
    record {
      value = rw (take_rest rest 1) (inv.value ∙ ap (option_map (λ n. passed + n)) next ∙ plus_next passed (end_of (drop 1 rest)));
      length = rw (take_rest rest 1) (simp length-drop (omega arith));
    }

pub returns-then-is_line_end-clause-value : goal.returns-then-is_line_end-clause-value
returns-then-is_line_end-clause-value c =
    let rest = c.loop-rest.rest.now in
    let passed = c.loop-rest.passed in
    let here = end_of-here rest c.in-len2-up.len_at_least (sym c.is_line_end.ensures ∙ c.if-is_line_end.true) in
    let same : passed + 0 ≡ passed = omega arith in
    sym (c.loop-rest.invariant.value ∙ ap (option_map (λ n. passed + n)) here ∙ ap Some same)

pub returns-clause-value : goal.returns-clause-value
returns-clause-value c =
    sym (c.loop-rest.invariant.value ∙ ap (option_map (λ n. c.loop-rest.passed + n)) (end_of-short c.loop-rest.rest.now c.in_default.len_below))
