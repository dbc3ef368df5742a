-- What is written of a verdict, and of a report.
use Rattle.std.specs.Prelude.{ℕ, List, ◌++◌, codes}
use Rattle.map_report.specs.Words.{lock_name, number_text}
use Rattle.record_flaws.specs.declared.verdict.Flaw.{Flaw}
use Rattle.record_flaws.specs.declared.verdict.Flaw.TheVariants.{History, Phase, Strand, Call, Finals, Ticket, Step}
use Rattle.record_flaws.specs.declared.verdict.Said.{Said}
use Rattle.record_flaws.specs.declared.verdict.Said.TheVariants.{Unread, Judged}
use Rattle.record_flaws.specs.declared.verdict.Verdict.{Verdict}
use Rattle.record_flaws.specs.declared.verdict.Verdict.TheVariants.{Yes, No}

-- the name of a flaw, with its place
abbrev pub flaw_text : Flaw → List ℕ
flaw_text (History lock index) = codes "history " ++ lock_name lock ++ number_text index
flaw_text (Phase phase) = codes "phase" ++ number_text phase
flaw_text (Strand index) = codes "strand" ++ number_text index
flaw_text (Call call) = codes "call" ++ number_text call
flaw_text Finals = codes "finals"
flaw_text (Ticket lock index) = codes "ticket " ++ lock_name lock ++ number_text index
flaw_text (Step ticket) = codes "step" ++ number_text ticket

-- the line of a verdict
abbrev pub verdict_text : Verdict → List ℕ
verdict_text Yes = codes "yes\n"
verdict_text (No flaw) = codes "bpfmap: no " ++ flaw_text flaw ++ codes "\n"

-- the line of what is said of a report: that of its record's verdict, or the number of its line at fault where no record has it
abbrev pub said_text : Said → List ℕ
said_text (Unread line) = codes "bpfmap: record line" ++ number_text line ++ codes "\n"
said_text (Judged verdict) = verdict_text verdict
