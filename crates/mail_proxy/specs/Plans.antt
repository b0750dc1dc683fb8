-- What is planned, as an end of a command.
use Rattle.std.specs.Prelude.{ℕ, List, ◌++◌}
use Rattle.mail_proxy.specs.declared.plan.Plan.{Plan}
use Rattle.mail_proxy.specs.declared.reading.ReadRefused.{ReadRefused}
use Rattle.mail_proxy.specs.declared.reading.ReadRefused.TheVariants.{Failed, TooLong, NoMemory}
use Rattle.mail_proxy.specs.Lines.{line_text, too_long, read_fault, no_memory}
use Rattle.mail_proxy.specs.Texts.{End}

-- the bytes that are planned
abbrev pub output_of : Plan → List ℕ
output_of plan = plan.body ++ line_text plan.last

-- a plan and the disk that is handed back
abbrev pub end_of : {D : Type 0} → Plan → D → End D
end_of plan disk = record { status = plan.status; output = output_of plan; disk = disk }

-- what is answered to a text that was not read
abbrev pub refused_status : ReadRefused → ℕ
refused_status Failed = 6
refused_status TooLong = 2
refused_status NoMemory = 8

abbrev pub refused_line : ReadRefused → List ℕ
refused_line Failed = read_fault
refused_line TooLong = too_long
refused_line NoMemory = no_memory
