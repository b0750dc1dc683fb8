use Rattle.std.proofs.Common.{◌≡◌, take}
use Rattle.script_link.specs.Transcript.{transcript_of}
use Rattle.script_link.proofs.transcripts.transcript.Given as goal

abbrev pub invariant-loop-note : goal.invariant-loop-note
invariant-loop-note l = l.out ≡ transcript_of (take l.note-index l.log)
