-- The faults of networks.
use Rattle.std.specs.Prelude.{Bool, true, false}
use Rattle.duct.specs.declared.network.NetFault.{NetFault}
use Rattle.duct.specs.declared.network.NetFault.TheVariants.{Failed}

abbrev pub network_failed : NetFault → Bool
network_failed Failed = true
network_failed _ = false
