-- Commands that are read part by part.
use Rattle.std.proofs.Common.{◌≡◌, ℕ, ◌∙◌, List, ap, subst}
use Rattle.std.specs.Prelude.{Option, None, Some, Ok}
use Rattle.std.specs.List.{before_first, after_first}
use Rattle.smtp_lines.specs.declared.word.Word.{Word}
use Rattle.smtp_lines.specs.declared.command.SmtpCommand.{SmtpCommand}
use Rattle.smtp_lines.specs.Parts.{is_space}
use Rattle.smtp_lines.specs.Word.{word_of}
use Rattle.smtp_lines.specs.Path.{outside}
use Rattle.smtp_lines.specs.Command.{Reading, ReadsCommand, spoken, if_word, words_of, with_path, unless, refused_tail}

-- a path with nothing behind it gives its command
pub path_read : (command : List ℕ → SmtpCommand) (find : List ℕ → Option (List ℕ)) (all rest path tail : List ℕ) (result : Reading)
    → rest ≡ all → Some path ≡ find rest → tail ≡ outside rest → None ≡ refused_tail tail → ReadsCommand (Ok (command path)) result
    → ReadsCommand (with_path command (find all) (outside all)) result
path_read command find all rest path tail result a b c d read =
    let P : Reading → Type 0 = λ r. ReadsCommand r result in
    subst P
    (ap (λ t. unless t (command path)) d ∙ ap (λ t. unless (refused_tail t) (command path)) c ∙ ap (λ p. with_path command p (outside rest)) b
    ∙ ap (λ r. with_path command (find r) (outside r)) a)
    read

-- a word that is known gives its command
pub word_read : (bytes first argument : List ℕ) (word : Word) (result : Reading)
    → first ≡ before_first is_space bytes → Some word ≡ word_of first → argument ≡ after_first is_space bytes → ReadsCommand (spoken word argument) result
    → ReadsCommand (words_of bytes) result
word_read bytes first argument word result a b c read =
    let P : Reading → Type 0 = λ r. ReadsCommand r result in
    subst P
    (ap (λ w. if_word w argument) b ∙ ap (λ f. if_word (word_of f) argument) a ∙ ap (λ x. if_word (word_of (before_first is_space bytes)) x) c)
    read
