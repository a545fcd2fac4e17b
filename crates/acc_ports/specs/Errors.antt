-- How the error of a port becomes the error of reading all.
use Rattle.acc_ports.specs.declared.error.PortError.{PortError}
use Rattle.acc_ports.specs.declared.error.PortError.TheVariants as error
use Rattle.acc_ports.specs.declared.error.ReadError.{ReadError}
use Rattle.acc_ports.specs.declared.error.ReadError.TheVariants as reading

abbrev pub read_error : PortError → ReadError
read_error error.Failed = reading.Failed
read_error error.OutOfMemory = reading.OutOfMemory
