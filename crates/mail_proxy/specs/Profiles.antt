-- What each command of the program uses: one table.
use Rattle.std.specs.Prelude.{Bool, true, false, Option, None, Some}
use Rattle.command_words.specs.declared.commands.Command.{Command}
use Rattle.command_words.specs.declared.commands.Command.TheVariants.{Init, Serve, Script, Play, Grow, Check, Cut, Audit}

-- what the text is to a command
pub data TextUse : Type 0 where
  NoText : TextUse
  Configuration : TextUse
  EventScript : TextUse

-- Where a command has its desk from: it has none; it formats the disk; the disk opens as one; or it begins with a house of the
-- program's own, in memory.
pub data DeskUse : Type 0 where
  NoDesk : DeskUse
  Formatted : DeskUse
  Opened : DeskUse
  Begun : DeskUse

-- What a command reads, where its desk comes from, and whether it serves events over the disk, and so writes to it. And whether it
-- uses the link, writes more than a last line, and reads what lies on the disk once the store is opened.
pub record Profile : Type 0 where
  pub text : TextUse
  pub desk : DeskUse
  pub serves : Bool
  pub link : Bool
  pub more : Bool
  pub reads : Bool

-- words of no stated shape are no command, and use nothing
abbrev pub profile_of : Option Command → Profile
profile_of None = record { text = NoText; desk = NoDesk; serves = false; link = false; more = false; reads = false }
profile_of (Some Init) = record { text = Configuration; desk = Formatted; serves = false; link = false; more = false; reads = false }
profile_of (Some (Serve smtp imap http pop)) = record { text = NoText; desk = Opened; serves = true; link = true; more = false; reads = false }
profile_of (Some Script) = record { text = EventScript; desk = Opened; serves = true; link = false; more = true; reads = false }
profile_of (Some Play) = record { text = EventScript; desk = Begun; serves = false; link = false; more = true; reads = false }
profile_of (Some (Grow rounds)) = record { text = NoText; desk = Begun; serves = false; link = false; more = true; reads = false }
profile_of (Some Check) = record { text = NoText; desk = Opened; serves = false; link = false; more = true; reads = false }
profile_of (Some (Cut point)) = record { text = NoText; desk = Opened; serves = false; link = false; more = true; reads = true }
profile_of (Some Audit) = record { text = NoText; desk = Opened; serves = false; link = false; more = true; reads = true }

-- ---- the columns

abbrev pub is_script : TextUse → Bool
is_script NoText = false
is_script Configuration = false
is_script EventScript = true

abbrev pub is_text : TextUse → Bool
is_text NoText = false
is_text Configuration = true
is_text EventScript = true

abbrev pub is_opened : DeskUse → Bool
is_opened NoDesk = false
is_opened Formatted = false
is_opened Opened = true
is_opened Begun = false

abbrev pub is_on_disk : DeskUse → Bool
is_on_disk NoDesk = false
is_on_disk Formatted = true
is_on_disk Opened = true
is_on_disk Begun = false

-- those that read a script
abbrev pub takes_script : Option Command → Bool
takes_script command = is_script (profile_of command).text

-- those that read a text
abbrev pub uses_text : Option Command → Bool
uses_text command = is_text (profile_of command).text

-- those that open a store
abbrev pub opens : Option Command → Bool
opens command = is_opened (profile_of command).desk

-- those that use the disk
abbrev pub uses_disk : Option Command → Bool
uses_disk command = is_on_disk (profile_of command).desk

-- those that serve events over the disk, and so write to it
abbrev pub serves : Option Command → Bool
serves command = (profile_of command).serves

-- those that use the link
abbrev pub uses_link : Option Command → Bool
uses_link command = (profile_of command).link

-- those that write more than a last line
abbrev pub writes_more : Option Command → Bool
writes_more command = (profile_of command).more

-- those that read what lies on the disk of a store that was opened
abbrev pub reads_on : Option Command → Bool
reads_on command = (profile_of command).reads
