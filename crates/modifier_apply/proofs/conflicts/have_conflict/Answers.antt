use Rattle.std.proofs.Common.{◌≡◌, ◌<◌, false, List, [], ◌∷◌, length, refl, arith}
use Rattle.modifier_apply.specs.declared.modifier.Update.{Update}
use Rattle.modifier_apply.specs.View.{changes_view}
use Rattle.modifier_apply.specs.Modified.{paths_of, conflicts}
use Rattle.modifier_apply.proofs.conflicts.have_conflict.Goals as goal

-- one change meets no other
alone : (us : List Update) → length us < 2 → false ≡ conflicts (paths_of (changes_view us))
alone [] less = refl
alone (u ∷ []) less = refl
alone (u ∷ v ∷ us) less = absurd (omega (arith, less))

pub returns-in-len1 : goal.returns-in-len1
returns-in-len1 c = alone c.args.updates.now (omega (arith, c.in-len1.len_below))
