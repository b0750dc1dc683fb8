-- The last lines.
use Rattle.std.proofs.Common.{◌≡◌, ◌<◌, ◌++◌, length, true, false, decimal, codes, arith}
use Rattle.std.proofs.lemmas.List.{length-append}
use Rattle.mail_proxy.specs.declared.plan.LastLine.{LastLine}
use Rattle.mail_proxy.specs.declared.plan.LastLine.TheVariants as last
use Rattle.mail_proxy.specs.Lines.{is_nothing, lf, line_text}

-- a last line that there is has some bytes
pub some_line : (l : LastLine) → is_nothing l ≡ false → 0 < length (line_text l)
some_line last.Nothing wrong = absurd (let w : true ≡ false = wrong in cc)
some_line last.Usage is = omega arith
some_line last.TooLong is = omega arith
some_line last.BadConfiguration is = omega arith
some_line (last.BadLine n) is = omega (arith, length-append (codes "undomail: bad script line ") (decimal n ++ lf))
some_line last.NotEmpty is = omega arith
some_line last.NotStore is = omega arith
some_line last.LinkFault is = omega arith
some_line last.DiskFault is = omega arith
some_line last.ReadFault is = omega arith
some_line last.TooMany is = omega arith
some_line last.NoMemory is = omega arith
some_line (last.Damaged place) is = omega (arith, length-append (codes "undomail: damaged at ") (decimal place ++ lf))
some_line last.NoPoint is = omega arith
some_line (last.FalseRecord place) is = omega (arith, length-append (codes "undomail: false record at ") (decimal place ++ lf))
