use Rattle.std.specs.Prelude.{ℕ, zero, suc, Bool, true, false, ◌&&◌, not, List, [], ◌∷◌}
use Rattle.smtp_lines.specs.Lines.{is_end}

-- at so many first places of the bytes another byte follows, and no CRLF begins there
abbrev pub passes : ℕ → List ℕ → Bool
passes zero bytes = true
passes (suc n) [] = false
passes (suc n) (b ∷ []) = false
passes (suc n) (b ∷ c ∷ bytes) = not (is_end b c) && passes n (c ∷ bytes)
