-- The last lines of the program.
use Rattle.std.specs.Prelude.{ℕ, List, [], ◌∷◌, ◌++◌, codes, decimal, Bool, true, false}
use Rattle.mail_proxy.specs.declared.plan.LastLine.{LastLine}
use Rattle.mail_proxy.specs.declared.plan.LastLine.TheVariants as last

abbrev pub lf : List ℕ
lf = 10 ∷ []

abbrev pub usage : List ℕ
usage = codes "undomail: usage: undomail init STORE, serve STORE SMTP IMAP HTTP [POP], script STORE, play, grow ROUNDS, check STORE, cut STORE POINT, audit STORE" ++ lf

abbrev pub too_long : List ℕ
too_long = codes "undomail: text too long" ++ lf

abbrev pub bad_configuration : List ℕ
bad_configuration = codes "undomail: bad configuration" ++ lf

abbrev pub bad_line : ℕ → List ℕ
bad_line n = codes "undomail: bad script line " ++ decimal n ++ lf

abbrev pub not_empty : List ℕ
not_empty = codes "undomail: store is not empty" ++ lf

abbrev pub not_a_store : List ℕ
not_a_store = codes "undomail: not a store" ++ lf

abbrev pub link_fault : List ℕ
link_fault = codes "undomail: link fault" ++ lf

abbrev pub disk_fault : List ℕ
disk_fault = codes "undomail: disk fault" ++ lf

abbrev pub read_fault : List ℕ
read_fault = codes "undomail: read fault" ++ lf

abbrev pub too_many : List ℕ
too_many = codes "undomail: too many events" ++ lf

abbrev pub no_memory : List ℕ
no_memory = codes "undomail: no memory" ++ lf

abbrev pub damaged : ℕ → List ℕ
damaged place = codes "undomail: damaged at " ++ decimal place ++ lf

abbrev pub no_such_point : List ℕ
no_such_point = codes "undomail: no such point" ++ lf

abbrev pub false_record_at : ℕ → List ℕ
false_record_at place = codes "undomail: false record at " ++ decimal place ++ lf

-- the line that a program ends with
abbrev pub line_text : LastLine → List ℕ
line_text last.Nothing = []
line_text last.Usage = usage
line_text last.TooLong = too_long
line_text last.BadConfiguration = bad_configuration
line_text (last.BadLine n) = bad_line n
line_text last.NotEmpty = not_empty
line_text last.NotStore = not_a_store
line_text last.LinkFault = link_fault
line_text last.DiskFault = disk_fault
line_text last.ReadFault = read_fault
line_text last.TooMany = too_many
line_text last.NoMemory = no_memory
line_text (last.Damaged place) = damaged place
line_text last.NoPoint = no_such_point
line_text (last.FalseRecord place) = false_record_at place

-- whether there is no last line
abbrev pub is_nothing : LastLine → Bool
is_nothing last.Nothing = true
is_nothing last.Usage = false
is_nothing last.TooLong = false
is_nothing last.BadConfiguration = false
is_nothing (last.BadLine n) = false
is_nothing last.NotEmpty = false
is_nothing last.NotStore = false
is_nothing last.LinkFault = false
is_nothing last.DiskFault = false
is_nothing last.ReadFault = false
is_nothing last.TooMany = false
is_nothing last.NoMemory = false
is_nothing (last.Damaged place) = false
is_nothing last.NoPoint = false
is_nothing (last.FalseRecord place) = false
