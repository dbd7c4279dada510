-- Lemmas of the paths of changes, and of changes made one after another.
use Rattle.std.proofs.Common.{◌≡◌, List, ◌∷◌, [], Err, refl}
use Rattle.modifier_apply.specs.declared.fault.ApplyFault.{ApplyFault}
use Rattle.modifier_apply.specs.Change.{Change}
use Rattle.modifier_apply.specs.Modified.{all_made}

pub all_made-fails : (cs : List Change) (e : ApplyFault) → all_made cs (Err e) ≡ Err e
all_made-fails [] e = refl
all_made-fails (c ∷ cs) e = refl
