use Rattle.std.proofs.Common.{string_bytes}
use Rattle.command_words.proofs.Counting.{five, six, between, above}
use Rattle.command_words.proofs.shapes.by_number.Goals as goal

pub returns-in-len5 : goal.returns-in-len5
returns-in-len5 c =
    let words = c.args.words.now in
    let is = five string_bytes words c.name-item-then-words-lt6.result c.smtp-item.result c.imap-item.result c.http-item.result
    c.in-len5.len_at_least c.in-len5.len_below c.name-item-then-words-lt6.is c.smtp-item.is c.imap-item.is c.http-item.is in
    rw (c.with_ports.ensures, c.deref-in-len5.ensures, c.deref-in-len5-2.ensures, c.deref-in-len5-3.ensures, c.deref-in-len5-4.ensures) is

pub returns-in-len6 : goal.returns-in-len6
returns-in-len6 c =
    let words = c.args.words.now in
    let is = six string_bytes words c.name-item-then-words-lt7.result c.smtp-item-then-words-lt7.result c.imap-item-then-words-lt7.result c.http-item-then-words-lt7.result c.pop-item.result
    c.in-len6.len_at_least c.in-len6.len_below c.name-item-then-words-lt7.is c.smtp-item-then-words-lt7.is c.imap-item-then-words-lt7.is c.http-item-then-words-lt7.is c.pop-item.is in
    rw (c.with_ports-in-len6.ensures, c.some_port.ensures, c.deref-in-len6.ensures, c.deref-in-len6-2.ensures, c.deref-in-len6-3.ensures, c.deref-in-len6-4.ensures, c.deref-in-len6-5.ensures) is

pub returns-in_default-2 : goal.returns-in_default-2
returns-in_default-2 c = between string_bytes c.args.words.now c.in_default.len_at_least c.in_default.len_below

pub returns-in_default-3 : goal.returns-in_default-3
returns-in_default-3 c = above string_bytes c.args.words.now c.in_default.len_at_least
