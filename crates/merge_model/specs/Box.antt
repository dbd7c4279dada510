-- What a merge box keeps after a list of calls, as a function.
use Rattle.std.specs.Prelude.{ℕ, Bool, not, ◌==◌, List, [], ◌∷◌, filter, Option, Some, None, is_some, option_and_then, if◌then◌else◌}
use Rattle.std.specs.declared.cmp.Ordering.{Ordering}
use Rattle.std.specs.Map.{keys_of}
use Rattle.map_model.specs.Maps.{at, union, collect, filter_map_entries}
use Rattle.merge_model.specs.Publishing.{Call, apply, drop_sub, sub_of, says}
use Rattle.merge_model.specs.Kept.{Kept, has, is_empty, placed, claims_of, kept_at, merged}

-- the keys of a map, each with nothing
abbrev pub marked : {K X : Type 0} → List (K × X) → List (K × Unit {0})
marked m = filter_map_entries (λ k x. Some tt) m

-- the keys of both, in order
abbrev pub keys_of_both : {K X Y : Type 0} → (K → K → Ordering) → List (K × X) → List (K × Y) → List K
keys_of_both R a b = keys_of (union R (marked a) (marked b))

abbrev pub unless_empty : {X : Type 0} → List X → Option (List X)
unless_empty xs = if is_empty xs then None else Some xs

-- the publishers, where r publishes the document now or no longer
abbrev pub publishers_after : ℕ → Bool → List ℕ → List ℕ
publishers_after r now publishers = if now then (if has r publishers then publishers else r ∷ publishers) else filter (λ s. not (s == r)) publishers

-- the fields of a document, or none
abbrev pub fields_of : {N V : Type 0} → Option (List (N × V)) → List (N × V)
fields_of None = []
fields_of (Some d) = d

module _ {N V : Type 0} (S : N → N → Ordering) where
  -- what is kept of a document after the subscription r has said w of it
  abbrev pub kept_after : ℕ → Option (Option (List (N × V))) → Kept N V → Kept N V
  kept_after r None e = e
  kept_after r (Some d) e = record {
    publishers = publishers_after r (is_some d) e.publishers;
    fields = collect (λ f. unless_empty (placed r (option_and_then (λ doc. at S doc f) d) (claims_of S e f))) (keys_of_both S (fields_of d) e.fields);
  }

-- what a call hands in
abbrev pub news_of : {K D : Type 0} → Call K D → List (K × Option D)
news_of (apply r news) = news
news_of (drop_sub r) = []

abbrev pub unless_nothing : {N V : Type 0} → Kept N V → Option (Kept N V)
unless_nothing e = if is_empty e.publishers then (if is_empty e.fields then None else Some e) else Some e

module _ {K N V : Type 0} (R : K → K → Ordering) (S : N → N → Ordering) where
  -- the box after one call
  abbrev pub box_after : Call K (List (N × V)) → List (K × Kept N V) → List (K × Kept N V)
  box_after call box = collect (λ k. unless_nothing (kept_after S (sub_of call) (says R call k) (kept_at R box k))) (keys_of_both R (news_of call) box)

  -- the box after a list of calls, the newest first
  abbrev pub box_of : List (Call K (List (N × V))) → List (K × Kept N V)
  box_of [] = []
  box_of (call ∷ past) = box_after call (box_of past)

  -- what a client sees after a list of calls, the newest first
  abbrev pub merge_of : List (Call K (List (N × V))) → List (K × List (N × V))
  merge_of past = merged (box_of past)
