use Rattle.std.proofs.Common.{List, ℕ, append_assoc, ap, ◌∙◌}
use Rattle.value_model.specs.Val.{text}
use Rattle.session_core.proofs.asked.made_seed.Goals as goal

pub returns : goal.returns
returns c = ap (λ (t : List ℕ). text t) (c.in_ok-from_string.ensures ∙ simp append_assoc c.in_ok-format.ensures.ok)
