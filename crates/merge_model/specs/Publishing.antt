-- The calls by which subscriptions publish, and what each subscription shows after a list of them, the newest first.
use Rattle.std.specs.Prelude.{◌≡◌, ℕ, ◌≤◌, ◌-◌, ◌==◌, Bool, true, List, [], ◌∷◌, length, drop, Option, Some, None, is_some, if◌then◌else◌}
use Rattle.std.specs.Option.{option_or}
use Rattle.std.specs.declared.cmp.Ordering.{Ordering}
use Rattle.std.specs.Ordering.{eq_by_cmp}
use Rattle.map_model.specs.Maps.{set}
use Rattle.merge_model.specs.Merge.{since, field}

-- one call: a subscription's documents change at some keys, where None is no document; or the subscription ends
pub data Call (K D : Type 0) : Type 0 where
  apply : ℕ → List (K × Option D) → Call K D
  drop_sub : ℕ → Call K D

-- the subscription whose documents the call changes
abbrev pub sub_of : {K D : Type 0} → Call K D → ℕ
sub_of (apply r news) = r
sub_of (drop_sub r) = r

module _ {K D : Type 0} (R : K → K → Ordering) where
  -- the documents with the news put, one after another
  abbrev pub renewed : List (K × D) → List (K × Option D) → List (K × D)
  renewed m [] = m
  renewed m (e ∷ news) = renewed (set R m e.0 e.1) news

  -- what each subscription shows after the calls
  abbrev pub shown : List (Call K D) → ℕ → List (K × D)
  shown [] s = []
  shown (apply r news ∷ past) s = if s == r then renewed (shown past s) news else shown past s
  shown (drop_sub r ∷ past) s = if s == r then [] else shown past s

  -- what the news leave at a key; None where they say nothing of it
  abbrev pub last_news : List (K × Option D) → K → Option (Option D)
  last_news [] k = None
  last_news (e ∷ news) k = option_or (last_news news k) (if eq_by_cmp R k e.0 then Some e.1 else None)

  -- what a call leaves at a key of its subscription
  abbrev pub says : Call K D → K → Option (Option D)
  says (apply r news) k = last_news news k
  says (drop_sub r) k = Some None

-- since which call a subscription has published a field without a break; it speaks of a field that is published now
abbrev pub shown_since : {K N V : Type 0} → (K → K → Ordering) → (N → N → Ordering) → List (Call K (List (N × V))) → ℕ → K → N → ℕ
shown_since R S past s k f = since (λ earlier. is_some (field R S (shown R earlier s) k f)) past

-- the first t events
abbrev pub up_to : {C : Type 0} → ℕ → List C → List C
up_to t past = drop (length past - t) past

-- the fact holds at each moment from i on
abbrev pub HoldsFrom : {C : Type 0} → (List C → Bool) → ℕ → List C → Type 0
HoldsFrom holds i past = (t : ℕ) → i ≤ t → t ≤ length past → holds (up_to t past) ≡ true

-- i is the least number such that the fact holds at each moment from i on
pub record IsLeast {C : Type 0} (holds : List C → Bool) (i : ℕ) (past : List C) : Type 0 where
  pub from : HoldsFrom holds i past
  pub least : (j : ℕ) → HoldsFrom holds j past → i ≤ j
