-- A text's fault, from its tree's.
use Rattle.ejson_codec.specs.declared.fault.ReadFault.{ReadFault}
use Rattle.ejson_codec.specs.declared.fault.ReadFault.TheVariants as read_fault
use Rattle.ejson_codec.specs.declared.fault.ParseFault.{ParseFault}
use Rattle.ejson_codec.specs.declared.fault.ParseFault.TheVariants.{Ejson, Memory}

abbrev pub parse_fault_of : ReadFault → ParseFault
parse_fault_of (read_fault.Ejson e) = Ejson e
parse_fault_of read_fault.Memory = Memory
