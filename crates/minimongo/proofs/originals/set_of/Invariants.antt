use Rattle.std.proofs.Common.{◌≡◌, ℕ, ◌||◌, drop, nat_cmp}
use Rattle.std.specs.BTreeSet.{contains}
use Rattle.view_model.specs.Pending.{is_among}
use Rattle.minimongo.proofs.originals.set_of.Given as goal

abbrev pub invariant-loop-number : goal.invariant-loop-number
invariant-loop-number l = (n : ℕ) → (is_among (drop l.number-index l.numbers) n || contains nat_cmp l.set n) ≡ is_among l.numbers n
