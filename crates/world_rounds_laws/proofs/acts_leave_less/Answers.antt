use Rattle.world_rounds_laws.specs.LoopsLaws.{ups_lower, recvs_lower, handles_lower, sends_lower, takes_lower}
use Rattle.world_rounds_laws.proofs.acts_leave_less.Goals as goal

pub returns : goal.returns
returns c = record { ups = ups_lower; recvs = recvs_lower; handles = handles_lower; sends = sends_lower; takes = takes_lower }
