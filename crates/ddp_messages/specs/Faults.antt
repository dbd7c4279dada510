-- A field's fault, from that of its value.
use Rattle.ejson_codec.specs.declared.fault.ReadFault.{ReadFault}
use Rattle.ejson_codec.specs.declared.fault.ReadFault.TheVariants as read_fault
use Rattle.ddp_messages.specs.declared.fault.FieldFault.{FieldFault}
use Rattle.ddp_messages.specs.declared.fault.FieldFault.TheVariants.{Malformed, Memory}

abbrev pub field_fault_of : ReadFault → FieldFault
field_fault_of (read_fault.Ejson e) = Malformed
field_fault_of read_fault.Memory = Memory
