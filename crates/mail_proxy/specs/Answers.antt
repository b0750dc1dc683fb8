-- What the program answers to its words.
use Rattle.std.specs.Prelude.{◌≡◌, ◌⊎◌, ℕ, List, Option, None, Some}
use Rattle.undo_outside.specs.Calls.{LinkTold, SinkTold, SourceTold}
use Rattle.undo_outside.specs.Disk.{DiskTold}
use Rattle.command_words.specs.declared.commands.Command.{Command}
use Rattle.command_words.specs.declared.commands.Command.TheVariants.{Init, Serve, Script, Play, Grow, Check, Cut, Audit}
use Rattle.command_words.specs.Usage.{command_of}
use Rattle.mail_proxy.specs.Lines.{usage, no_memory}
use Rattle.mail_proxy.specs.Texts.{End, ending}
use Rattle.mail_proxy.specs.Init.{Inits}
use Rattle.mail_proxy.specs.Check.{Checks}
use Rattle.mail_proxy.specs.Cutting.{Cuts}
use Rattle.mail_proxy.specs.Auditing.{Audits}
use Rattle.mail_proxy.specs.Growing.{GrowsBy}
use Rattle.mail_proxy.specs.Script.{Plays, Scripts}
use Rattle.mail_proxy.specs.Serve.{ServesStore}

-- it ends so, and neither the text nor the disk got a call
abbrev pub Unused : {D : Type 0} → ℕ → List ℕ → SourceTold → SourceTold → D → End D → Type 0
Unused status output old new disk end = (new ≡ old) × (end ≡ ending status output disk)

module _ {D : Type 0} (told : D → DiskTold) where
  -- what a command comes to, where this is its status and what became of the sink
  abbrev pub Does : Option Command → SourceTold → SourceTold → LinkTold → LinkTold → ℕ → SinkTold → SinkTold → D → End D → Type 0
  Does None old new link link' shown out out' disk end = Unused 1 usage old new disk end
  Does (Some Init) old new link link' shown out out' disk end = Inits told old new disk end
  Does (Some (Serve smtp imap http pop)) old new link link' shown out out' disk end = (new ≡ old) × ServesStore told link link' disk end
  Does (Some Script) old new link link' shown out out' disk end = Scripts told old new disk end
  Does (Some Play) old new link link' shown out out' disk end = Plays old new disk end
  Does (Some (Grow rounds)) old new link link' shown out out' disk end = (new ≡ old) × GrowsBy rounds disk end
  Does (Some Check) old new link link' shown out out' disk end = (new ≡ old) × Checks told disk end
  Does (Some (Cut point)) old new link link' shown out out' disk end = (new ≡ old) × Cuts told disk point shown out out' end
  Does (Some Audit) old new link link' shown out out' disk end = (new ≡ old) × Audits told disk end

  -- what the words come to, unless no memory is found for reading them
  abbrev pub Answers : List (List ℕ) → SourceTold → SourceTold → LinkTold → LinkTold → ℕ → SinkTold → SinkTold → D → End D → Type 0
  Answers words old new link link' shown out out' disk end = Does (command_of words) old new link link' shown out out' disk end ⊎ ((link' ≡ link) × Unused 8 no_memory old new disk end)
