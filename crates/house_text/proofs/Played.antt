-- What the text of the house that plays configures.
use Rattle.std.proofs.Common.{◌≡◌, ℕ, true, List, [], ◌∷◌, None, Some, refl, sym, ap, ◌∙◌, true≢false}
use Rattle.std.specs.Prelude.{nat_lt}
use Rattle.std.specs.List.{list_all}
use Rattle.std.specs.Option.{is_some}
use Rattle.std.specs.Str.{IsUtf8, IsAscii}
use Rattle.std.proofs.lemmas.Bool.{and_parts, ltb-true}
use Rattle.std.proofs.lemmas.Str.{IsUtf8-from_ascii}
use Rattle.std.proofs.lemmas.Str.Ascii.{IsAscii-nil, IsAscii-cons}
use Rattle.toml.proofs.OnLiterals.{toml_on_literals}
use Rattle.house_text.specs.Configuration.{configured}
use Rattle.house_text.specs.Playing.{house_text, playing_house, playing_conf}

-- the text is computed as TOML, and its document as a house
pub house_is_played : configured house_text ≡ Some (playing_house, playing_conf)
unfolding toml_on_literals configured
house_is_played = refl

ascii_by_test : (bytes : List ℕ) → list_all (λ b. nat_lt b 128) bytes ≡ true → IsAscii bytes
ascii_by_test [] e = IsAscii-nil
ascii_by_test (b ∷ bytes) e =
    let (here, more) = and_parts (nat_lt b 128) (list_all (λ b. nat_lt b 128) bytes) e in
    IsAscii-cons b bytes (ltb-true b 128 here) (ascii_by_test bytes more)

pub house_is_utf8 : IsUtf8 house_text
house_is_utf8 = IsUtf8-from_ascii house_text (ascii_by_test house_text refl)

pub house_is_no_refusal : configured house_text ≡ None → ⊥
house_is_no_refusal none = true≢false (ap is_some (sym house_is_played ∙ none))
