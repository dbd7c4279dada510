use Rattle.std.proofs.Common.{List, [], Option, Some, sym, ap, ◌∙◌}
use Rattle.value_model.specs.Val.{Val}
use Rattle.value_model.specs.ValLaws.{list_of-vals_of}
use Rattle.ddp_messages.specs.Places.{list_there}
use Rattle.ddp_messages.specs.Plain.{or_default_in, values_in}
use Rattle.ddp_messages.proofs.plain.values_told.Goals as goal

pub returns-in_ok-copy-in-Some : goal.returns-in_ok-copy-in-Some
returns-in_ok-copy-in-Some c =
    ap (λ (o : Option (List Val)). or_default_in [] values_in (list_there o)) c.in-Some.is
    ∙ ap (λ (vs : List Val). Some vs) (list_of-vals_of c.in-Some.items ∙ sym c.in_ok-copy-in-Some.ensures)
