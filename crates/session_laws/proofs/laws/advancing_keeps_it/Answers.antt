use Rattle.session_laws.specs.Showing.{advanced_keeps}
use Rattle.session_laws.proofs.laws.advancing_keeps_it.Goals as goal

pub returns : goal.returns
returns c = λ sub start count changes old new can a. advanced_keeps sub start count changes old new can a
