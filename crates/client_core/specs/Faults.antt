-- What a view's refusal of a message is for its client.
use Rattle.minimongo.specs.declared.fault.ViewFault.{ViewFault}
use Rattle.minimongo.specs.declared.fault.ViewFault.TheVariants as view
use Rattle.client_core.specs.declared.fault.TakeFault.{TakeFault}
use Rattle.client_core.specs.declared.fault.TakeFault.TheVariants.{ServerSent, Memory}

abbrev pub take_fault : ViewFault → TakeFault
take_fault (view.Wrong n) = ServerSent n
take_fault view.Memory = Memory
