-- The words of commands (RFC 5321, 4.1.1), in any case (RFC 5321, 2.4).
use Rattle.std.specs.Prelude.{ℕ, List, codes, Option, None, Some, if◌then◌else◌}
use Rattle.smtp_lines.specs.declared.word.Word.{Word}
use Rattle.smtp_lines.specs.declared.word.Word.TheVariants.{Helo, Ehlo, Mail, Rcpt, Data, Rset, Noop, Vrfy, Quit, Expn, Help}
use Rattle.smtp_lines.specs.Parts.{is_spelled}

abbrev pub word_of : List ℕ → Option Word
word_of bytes =
    if is_spelled (codes "HELO") bytes then Some Helo
    else (if is_spelled (codes "EHLO") bytes then Some Ehlo
    else (if is_spelled (codes "MAIL") bytes then Some Mail
    else (if is_spelled (codes "RCPT") bytes then Some Rcpt
    else (if is_spelled (codes "DATA") bytes then Some Data
    else (if is_spelled (codes "RSET") bytes then Some Rset
    else (if is_spelled (codes "NOOP") bytes then Some Noop
    else (if is_spelled (codes "VRFY") bytes then Some Vrfy
    else (if is_spelled (codes "QUIT") bytes then Some Quit
    else (if is_spelled (codes "EXPN") bytes then Some Expn
    else (if is_spelled (codes "HELP") bytes then Some Help
    else None))))))))))
