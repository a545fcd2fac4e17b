-- How the error of a disk becomes the error of a journal.
use Rattle.acc_ports.specs.declared.error.PortError.{PortError}
use Rattle.acc_ports.specs.declared.error.PortError.TheVariants as error
use Rattle.acc_journal.specs.declared.error.JournalError.{JournalError}
use Rattle.acc_journal.specs.declared.error.JournalError.TheVariants as errors

abbrev pub journal_error : PortError → JournalError
journal_error error.Failed = errors.DiskFault
journal_error error.OutOfMemory = errors.OutOfMemory

-- the other way round: what is no fault of the disk counts as want of memory
abbrev pub port_error : JournalError → PortError
port_error errors.DiskFault = error.Failed
port_error (errors.BadVersion version) = error.OutOfMemory
port_error (errors.BadRecord place) = error.OutOfMemory
port_error errors.OutOfMemory = error.OutOfMemory
