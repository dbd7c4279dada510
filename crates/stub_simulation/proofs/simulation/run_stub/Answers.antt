use Rattle.ejson_value.specs.View.{view}
use Rattle.stub_simulation.proofs.Meaning.{if_ok_weaker}
use Rattle.stub_simulation.proofs.simulation.run_stub.Goals as goal

pub returns : goal.returns
returns c = if_ok_weaker c.drafted.result (λ draft left. left (view c.args.seed.now) c.in_ok-run.ensures) c.drafted.ensures
