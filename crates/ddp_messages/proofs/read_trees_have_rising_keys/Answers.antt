use Rattle.ddp_messages.specs.ReadTreeLaws.{read_rises}
use Rattle.ddp_messages.proofs.read_trees_have_rising_keys.Goals as goal

pub returns : goal.returns
returns c = read_rises
