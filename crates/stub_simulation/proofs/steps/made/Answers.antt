use Rattle.stub_simulation.proofs.Meaning.{if_ok_both}
use Rattle.stub_simulation.proofs.steps.made.Goals as goal

pub returns : goal.returns
returns c = if_ok_both c.made_over.result (λ effect does told. record { window = c.in_ok-window.window; looks = c.in_ok-window.ensures; left = does.0; does = does.1; told = told }) c.made_over.ensures.does c.made_over.ensures.told
