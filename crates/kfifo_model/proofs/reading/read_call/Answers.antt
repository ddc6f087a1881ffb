use Rattle.kfifo_model.proofs.RecordLemmas.{valid_result}
use Rattle.kfifo_model.proofs.reading.read_call.Goals as goal

pub returns-in-Some-clause-valid : goal.returns-in-Some-clause-valid
returns-in-Some-clause-valid c = valid_result c.in-Some.entry c.call_of_entry.result c.in-Some.ensures.fits
    c.call_of_entry.ensures
