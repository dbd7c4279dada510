-- Which documents open simulations hold. A simulation is open from the call of its method until the server's `updated` for
-- it (Meteor's DDP.md, "Remote Procedure Calls"), and holds the documents that it touched.
use Rattle.std.specs.Prelude.{ℕ, Bool, not, List, [], ◌∷◌, filter, Option, Some, None, is_some, unwrap_or}
use Rattle.std.specs.List.{list_any, list_all}
use Rattle.std.specs.declared.cmp.Ordering.{Ordering}
use Rattle.std.specs.Ordering.{nat_cmp, eq_by_cmp}
use Rattle.std.specs.BTreeMap.{insert_entry}
use Rattle.std.specs.BTreeSet.{insert_key}
use Rattle.map_model.specs.Maps.{at, filter_map_entries}

-- by key, the numbers of the simulations that hold it, rising
abbrev pub Pending : Type 0 → Type 0
Pending K = List (K × List ℕ)

-- whether the number is one of these
abbrev pub is_among : List ℕ → ℕ → Bool
is_among ns n = list_any (eq_by_cmp nat_cmp n) ns

-- the numbers hs with n among them
abbrev pub with_number : List ℕ → ℕ → List ℕ
with_number hs n = insert_key nat_cmp hs n

-- the numbers hs that are not among ns
abbrev pub without_numbers : List ℕ → List ℕ → List ℕ
without_numbers ns hs = filter (λ h. not (is_among ns h)) hs

abbrev pub unless_none : List ℕ → Option (List ℕ)
unless_none [] = None
unless_none (h ∷ hs) = Some (h ∷ hs)

-- whether only numbers of ns are there
abbrev pub are_all_among : List ℕ → List ℕ → Bool
are_all_among ns hs = list_all (is_among ns) hs

module _ {K : Type 0} (R : K → K → Ordering) where
  abbrev pub holders : Pending K → K → List ℕ
  holders pending k = unwrap_or (at R pending k) []

  -- some open simulation holds the key
  abbrev pub is_held : Pending K → K → Bool
  is_held pending k = is_some (at R pending k)

  -- the simulation of this number holds these keys too
  abbrev pub held_by : ℕ → List K → Pending K → Pending K
  held_by n [] pending = pending
  held_by n (k ∷ ks) pending = held_by n ks (insert_entry R pending k (with_number (holders pending k) n))

-- the simulations of these numbers hold nothing any more
abbrev pub let_go : {K : Type 0} → List ℕ → Pending K → Pending K
let_go ns pending = filter_map_entries (λ k hs. unless_none (without_numbers ns hs)) pending
