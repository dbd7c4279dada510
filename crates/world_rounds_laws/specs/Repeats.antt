-- Acts that are made again and again until they can't be made.
use Rattle.std.specs.Prelude.{◌≡◌, ℕ, ◌+◌, ◌-◌, ◌≤◌, replicate}
use Rattle.rounds_model.specs.Rounds.{made}

-- It was made so often since w, and is not to be made more often than there was something for it
pub record IsRepeated {W A : Type 0} (done : A → W → W) (count : W → ℕ) (a : A) (first now : W) : Type 0 where
  pub times : ℕ
  pub is : now ≡ made done (replicate times a) first
  pub left : times + count now ≤ count first
