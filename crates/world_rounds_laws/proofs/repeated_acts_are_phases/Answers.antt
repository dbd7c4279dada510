use Rattle.world_rounds_laws.specs.LoopsLaws.{ups_are, recvs_are, handles_are, sends_are, takes_are}
use Rattle.world_rounds_laws.proofs.repeated_acts_are_phases.Goals as goal

pub returns : goal.returns
returns c = record { ups = ups_are; recvs = recvs_are; handles = handles_are; sends = sends_are; takes = takes_are }
