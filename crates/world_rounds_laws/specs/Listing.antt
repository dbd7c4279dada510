-- Acts that a phase lists though none of them can be made: steps where no call goes on, and advances of a subscription that shows the end of the history.
use Rattle.std.specs.Prelude.{ℕ, ◌-◌, nat_lt, List, [], ◌∷◌, ◌++◌, Option, Some, None, if◌then◌else◌}
use Rattle.world_invariant_laws.specs.session_model.Subscriptions.{Live}
use Rattle.world_invariant_laws.specs.world_model.declared.events.Act.{Act}
use Rattle.world_invariant_laws.specs.world_model.declared.events.Act.TheVariants as act
use Rattle.world_invariant_laws.specs.world_model.Settle.{advances}

-- ---- advances

-- those of a subscription that shows less than so many entries
abbrev pub behind_by : ℕ → ℕ → Option ℕ → List Act
behind_by entries sub None = []
behind_by entries sub (Some cursor) = if nat_lt cursor entries then act.Advance sub (entries - cursor) ∷ [] else []

abbrev pub behind : ℕ → List Live → List Act
behind entries [] = []
behind entries (l ∷ ls) = behind_by entries l.sub l.cursor ++ behind entries ls
