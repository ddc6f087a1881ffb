use Rattle.csv.specs.Records.{fields_of}
use Rattle.kfifo_import.proofs.Header.{IsFound}
use Rattle.kfifo_import.proofs.table.place_of.Given as goal

abbrev pub invariant-loop-place : goal.invariant-loop-place
invariant-loop-place l = IsFound (fields_of l.header) l.name l.place l.found
