-- A value that is lent to be written.
use Rattle.std.specs.Prelude.{◌≡◌, ℕ, List, Option}
use Rattle.std.specs.Borrow.{LendsSo, Fml, RattleType, MutBor}
use Rattle.lanes.specs.Lanes.{Named, IsWritten}

-- s has, once the borrow r ends, the last value that was written through r in the place of the one of this name; where r is `None` its values stay
abbrev pub LendsValue : (R T : RattleType) → (R.Denot → Named T.Denot) → MutBor R.Denot → List ℕ → Option (MutBor T.Denot) → Fml
LendsValue R T values s name r = LendsSo R T s r (λ n w. IsWritten (values s.now) name w (values n)) (λ n. values n ≡ values s.now)
