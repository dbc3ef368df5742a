use Rattle.std.proofs.Common.{Ok, Err, inl, inr, refl, ap, sym}
use Rattle.record_reading.specs.declared.refusal.RecordRefusal.TheVariants.{Fault, NoMemory}
use Rattle.record_reading.specs.ReadingLaws.{ReadsBack}
use Rattle.record_reading.proofs.ReadLaws.{text_back, text_right, text_fault}
use Rattle.record_reading.proofs.Suits.{readable_of, one_record}
use Rattle.record_reading.proofs.claims.reading_laws.Goals as goal

pub returns-clause-each : goal.returns-clause-each
returns-clause-each c script kept well = text_back script (readable_of script well) kept

pub returns-clause-right : goal.returns-clause-right
returns-clause-right c script text kept well = text_right script (readable_of script well) text kept

pub returns-clause-fault : goal.returns-clause-fault
returns-clause-fault c script text n well = text_fault script (readable_of script well) text n

pub returns-clause-one : goal.returns-clause-one
returns-clause-one c script kept other well = one_record script well kept other

pub returns-clause-back : goal.returns-clause-back
returns-clause-back c = back
  where
    back : ReadsBack
    back script kept (Ok found) well is = inl (ap Ok (sym (is.2 kept well refl)))
    back script kept (Err (Fault line)) well is = absurd (is.no_record kept well refl)
    back script kept (Err NoMemory) well is = inr refl
