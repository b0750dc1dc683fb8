-- The program as `clap` is told of it.
use Rattle.std.specs.Prelude.{List, [], ◌∷◌, true, Some, codes}
use Rattle.clap.specs.Words.{Text, Rule, App, Shape, new_rule, new_app, with_rule, with_subcommand}
use Rattle.clap.specs.Simple.{new_shape}
use Rattle.clap.specs.declared.builder.action.ArgAction.TheVariants.{Set}

-- a word that has to be there
abbrev pub word_rule : Text → Rule
word_rule id = record (new_rule id) { required = true; action = Some Set }

-- a word that may be left out
abbrev pub last_rule : Text → Rule
last_rule id = record (new_rule id) { action = Some Set }

-- a command that takes so many words
abbrev pub with_words : App → List Text → App
with_words a [] = a
with_words a (id ∷ ids) = with_words (with_rule a (word_rule id)) ids

-- such a command by its name
abbrev pub taking : Text → List Text → Shape
taking name ids = (with_words (new_app name) ids).top

-- the program, before its subcommands
abbrev pub bare_program : App
bare_program = record (new_app (codes "undomail")) {
  top = record (new_shape (codes "undomail")) {
    no_binary_name = true;
    disable_help_flag = true;
    disable_help_subcommand = true;
    subcommand_required = true;
  };
}

-- the command `serve`
abbrev pub serve_shape : Shape
serve_shape = (with_rule (with_words (new_app (codes "serve")) (codes "STORE" ∷ codes "SMTP" ∷ codes "IMAP" ∷ codes "HTTP" ∷ [])) (last_rule (codes "POP"))).top

-- the first three subcommands
abbrev pub first_half : App
first_half =
    with_subcommand (with_subcommand (with_subcommand bare_program
    (taking (codes "init") (codes "STORE" ∷ [])))
    serve_shape)
    (taking (codes "script") (codes "STORE" ∷ []))

-- a program with three more
abbrev pub second_half : App → App
second_half a =
    with_subcommand (with_subcommand (with_subcommand a
    (taking (codes "play") []))
    (taking (codes "grow") (codes "ROUNDS" ∷ [])))
    (taking (codes "check") (codes "STORE" ∷ []))

-- a program with the last two
abbrev pub last_two : App → App
last_two a =
    with_subcommand (with_subcommand a
    (taking (codes "cut") (codes "STORE" ∷ codes "POINT" ∷ [])))
    (taking (codes "audit") (codes "STORE" ∷ []))

-- all eight
abbrev pub program : App
program = last_two (second_half first_half)
