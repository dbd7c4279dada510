use Rattle.store_machine.proofs.laws.runs_are_told_of_at_each_place.Goals as goal

pub returns : goal.returns
returns c = λ app history lives place session k a fits. a.places place fits (session, k)
