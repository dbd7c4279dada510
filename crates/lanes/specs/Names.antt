-- Names in order.
use Rattle.std.specs.Prelude.{◌≡◌, ℕ, List, true, is_some, None}
use Rattle.std.specs.Ordering.{is_lt, is_le}
use Rattle.map_model.specs.Maps.{at}
use Rattle.value_model.specs.Order.{text_cmp}

abbrev pub TheNames : Type 0
TheNames = List (List ℕ × Unit {0})

-- none of them is this one or stands behind it
abbrev pub NoneFrom : List ℕ → TheNames → Type 0
NoneFrom from names = (q : List ℕ) → is_le (text_cmp from q) ≡ true → at text_cmp names q ≡ None

-- the name is the least of those that are
pub record IsLeastFrom (from : List ℕ) (names : TheNames) (name : List ℕ) : Type 0 where
  pub behind : is_le (text_cmp from name) ≡ true
  pub there : is_some (at text_cmp names name) ≡ true
  pub least : (q : List ℕ) → is_le (text_cmp from q) ≡ true → is_lt (text_cmp q name) ≡ true → at text_cmp names q ≡ None
