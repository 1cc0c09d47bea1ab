-- The refusals of the register and of its host, each with its number and its words.
use Rattle.std.specs.Prelude.{ℕ, List, codes}
use Rattle.sources.specs.Faults as row
use Rattle.register.specs.declared.uses.RegisterFault.{RegisterFault}
use Rattle.register.specs.declared.uses.RegisterFault.TheVariants.{Row, Deadline, Jitter, Taken, Full, Absent, Unsettled}
use Rattle.register.specs.declared.uses.HostFault.{HostFault}
use Rattle.register.specs.declared.uses.HostFault.TheVariants.{ShortList}

abbrev pub fault_number : RegisterFault → ℕ
fault_number (Row fault) = row.fault_number fault
fault_number Deadline = 21
fault_number Jitter = 22
fault_number Taken = 23
fault_number Full = 24
fault_number Absent = 25
fault_number Unsettled = 26

abbrev pub host_number : HostFault → ℕ
host_number ShortList = 32

abbrev pub fault_word : RegisterFault → List ℕ
fault_word (Row fault) = row.fault_word fault
fault_word Deadline = codes "the deadline is not 1 to 1,000,000"
fault_word Jitter = codes "the jitter is above 1,000,000"
fault_word Taken = codes "the identifier is taken"
fault_word Full = codes "there are 256 rows, or as many as the memory has places"
fault_word Absent = codes "there is no such row"
fault_word Unsettled = codes "the row is unsettled"

abbrev pub host_word : HostFault → List ℕ
host_word ShortList = codes "the list is shorter than the row count"
