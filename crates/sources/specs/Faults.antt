-- The refusals of making a source, each with its number and its words.
use Rattle.std.specs.Prelude.{ℕ, List, codes}
use Rattle.sources.specs.declared.fault.RowFault.{RowFault}
use Rattle.sources.specs.declared.fault.RowFault.TheVariants.{Identifier, Period, PayloadCount, Payload, Burst, Hold}

abbrev pub fault_number : RowFault → ℕ
fault_number Identifier = 11
fault_number Period = 12
fault_number PayloadCount = 13
fault_number Payload = 14
fault_number Burst = 15
fault_number Hold = 16

abbrev pub fault_word : RowFault → List ℕ
fault_word Identifier = codes "the identifier is above the highest of the format"
fault_word Period = codes "the period is out of range"
fault_word PayloadCount = codes "there are too few payloads or too many"
fault_word Payload = codes "a payload has more than eight bytes"
fault_word Burst = codes "size, spacing and period of the burst do not go together"
fault_word Hold = codes "the hold is above 1,000,000"
