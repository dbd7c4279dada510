-- Calls by the ids of their methods.
use Rattle.std.specs.Prelude.{◌≡◌, ℕ, List, length, Bool, false, not, Option, Some, None, is_none, if◌then◌else◌}
use Rattle.std.specs.Ordering.{nat_cmp}
use Rattle.std.specs.BTreeSet.{BTreeSet, contains}
use Rattle.view_model.specs.Pending.{is_among}
use Rattle.client_model.specs.Client.{Call}
use Rattle.client_model.specs.Taking.{number_of, numbers_of, call_at, awaits_update, updated_refusal}

abbrev pub awaits_result : Option Call → Bool
awaits_result None = false
awaits_result (Some call) = is_none call.outcome

-- the number, if the test holds of it
abbrev pub number_if : (ℕ → Bool) → Option ℕ → Option ℕ
number_if test None = None
number_if test (Some n) = if test n then Some n else None

-- the number of the call of this id, where the test holds of the call
abbrev pub number_where : (Option Call → Bool) → List Call → List ℕ → Option ℕ
number_where test calls id = number_if (λ n. test (call_at calls n)) (number_of (length calls) id)

-- and where it isn't among the given ones
abbrev pub new_number : List Call → List ℕ → List ℕ → Option ℕ
new_number calls numbers id = number_if (λ n. not (is_among numbers n)) (number_where awaits_update calls id)

-- the set has these numbers
abbrev pub AreSeen : BTreeSet ℕ → List ℕ → Type 0
AreSeen seen numbers = (n : ℕ) → contains nat_cmp seen n ≡ is_among numbers n

-- the numbers of the ids of an `updated`, where it isn't refused
abbrev pub AreUpdated : List Call → List (List ℕ) → Option (List ℕ) → Type 0
AreUpdated calls ids (Some numbers) = (updated_refusal calls ids ≡ None) × (numbers ≡ numbers_of (length calls) ids)
AreUpdated calls ids None = updated_refusal calls ids ≡ Some 9
