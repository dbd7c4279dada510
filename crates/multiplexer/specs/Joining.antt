-- News put into others, key by key.
use Rattle.std.specs.Prelude.{◌≡◌, ℕ, ◌≤◌, List, [], ◌∷◌, Option, Some, length, take, drop, slice_get}
use Rattle.std.specs.List.{AllByRecursion}
use Rattle.std.specs.declared.cmp.Ordering.TheVariants.{Less}
use Rattle.std.specs.Map.{keys_of}
use Rattle.map_model.specs.Maps.{set}
use Rattle.map_model.specs.Orders.{IsAbove}
use Rattle.ejson_value.specs.declared.key.Key.{Key}
use Rattle.ejson_value.specs.Key.{key_cmp}
use Rattle.multiplexer.specs.Leading.{News}

-- the key at this place
abbrev pub key_at : News → ℕ → Option Key
key_at news place = slice_get (keys_of news) place

-- each of the keys is behind this one
abbrev pub IsBelow : Key → List Key → Type 0
IsBelow key keys = AllByRecursion (λ q. key_cmp key q ≡ Less) keys

-- the key is not among them and would stand at this place
pub record IsGapFor (news : News) (key : Key) (place : ℕ) : Type 0 where
  pub within : place ≤ length news
  pub above : IsAbove key_cmp key (take place (keys_of news))
  pub below : IsBelow key (drop place (keys_of news))

-- with what is said of each key in the place of what was said before
abbrev pub put_news : News → News → News
put_news named [] = named
put_news named (one ∷ news) = put_news (set key_cmp named one.0 (Some one.1)) news

abbrev pub put_all : News → List News → News
put_all named [] = named
put_all named (one ∷ all) = put_all (put_news named one) all
