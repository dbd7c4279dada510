-- The result of a call.
use Rattle.std.specs.Prelude.{length, Option, Some, None, is_some, is_none, option_and_then}
use Rattle.std.proofs.Common.{◌≡◌, ℕ, Bool, true, false, cond, List, [], ◌∷◌, refl, sym, ap}
use Rattle.program_steps.specs.Runs.{Outcome}
use Rattle.client_model.specs.Client.{Call}
use Rattle.client_model.specs.Taking.{number_of, numbers_of, behind, call_at, call_of, result_refusal, number_changed, all_changed, with_outcome}
use Rattle.client_core.specs.Numbered.{number_if, awaits_result, number_where}

-- 8 refuses it otherwise
abbrev refused_unless : Bool → Option ℕ
refused_unless b = cond b None (Some 8)

-- it is refused where no call of its id awaits one
pub result_by : (calls : List Call) (id : List ℕ) → result_refusal (call_of calls id) ≡ refused_unless (is_some (number_where awaits_result calls id))
result_by calls id = by (number_of (length calls) id)
  where
    set : (n : ℕ) (o : Option Outcome) → result_refusal (Some (record { outcome = o; is_updated = true })) ≡ refused_unless (is_some (cond (is_none o) (Some n) None))
    set n None = refl
    set n (Some outcome) = refl

    called : (n : ℕ) (call : Option Call) → result_refusal call ≡ refused_unless (is_some (cond (awaits_result call) (Some n) None))
    called n None = refl
    called n (Some call) = set n call.outcome

    by : (o : Option ℕ) → result_refusal (option_and_then (call_at calls) o) ≡ refused_unless (is_some (number_if (λ n. awaits_result (call_at calls n)) o))
    by None = refl
    by (Some n) = called n (call_at calls n)

filtered_is : (test : ℕ → Bool) (o : Option ℕ) (n : ℕ) → number_if test o ≡ Some n → o ≡ Some n
filtered_is test None n e = e
filtered_is test (Some m) n e = kept (test m) e
  where
    kept : (b : Bool) → cond b (Some m) None ≡ Some n → Some m ≡ Some n
    kept true is = is
    kept false is = cc is

-- the call of this number is the one that its id names
pub finished_is : (calls : List Call) (id : List ℕ) (n : ℕ) (outcome : Outcome) → number_where awaits_result calls id ≡ Some n
    → number_changed n (with_outcome outcome) calls ≡ all_changed (numbers_of (length calls) (id ∷ [])) (with_outcome outcome) calls
finished_is calls id n outcome e =
    sym (ap (λ o. all_changed (behind o []) (with_outcome outcome) calls) (filtered_is (λ m. awaits_result (call_at calls m)) (number_of (length calls) id) n e))
