-- The numbers that methods' ids are.
use Rattle.std.specs.Prelude.{decimal, option_to_list, Option, Some, None, Result, Ok}
use Rattle.std.specs.Str.Parse.{ParsesUnsigned}
use Rattle.std.proofs.Common.{◌≡◌, ◌≢◌, ℕ, zero, suc, ◌<◌, ◌≤◌, ◌^◌, true, false, true≢false, cond, List, [], ◌∷◌, ◌++◌, refl, sym, ap, ◌∙◌, arith}
use Rattle.std.proofs.lemmas.Fmt.{decimal_injective, parse-decimal}
use Rattle.std.proofs.lemmas.Slice.Eq.{bytes_eq-Decides}
use Rattle.value_model.specs.Size.{is_name}
use Rattle.client_model.specs.Taking.{number_of, numbers_of, behind}

-- no two numbers are written alike
pub number_found : (count n : ℕ) (id : List ℕ) → count < 2 ^ 64 → 0 < n → n ≤ count → decimal n ≡ id → number_of count id ≡ Some n
number_found zero n id bound positive within e = absurd (omega arith)
number_found (suc k) n id bound positive within e =
    let rest : n ≤ k → number_of k id ≡ Some n = λ less. number_found k n id (omega arith) positive less e in
    elim (is_name id (decimal (suc k))) as (λ b. is_name id (decimal (suc k)) ≡ b → cond b (Some (suc k)) (number_of k id) ≡ Some n) [
      | true ↦ λ same. ap Some (decimal_injective (suc k) n (omega arith) (omega arith) (sym ((bytes_eq-Decides id (decimal (suc k))).0 same) ∙ sym e))
      | false ↦ λ other. rest (before other)
    ] refl
  where
    before : is_name id (decimal (suc k)) ≡ false → n ≤ k
    before other =
        let differs : n ≢ suc k = λ s. true≢false (sym ((bytes_eq-Decides id (decimal (suc k))).1 (sym e ∙ ap decimal s)) ∙ other) in
        omega arith

-- an id that no number up to the given one is written as has none
pub number_missing : (count : ℕ) (id : List ℕ) → ((n : ℕ) → 0 < n → n ≤ count → decimal n ≡ id → ⊥) → number_of count id ≡ None
number_missing zero id none = refl
number_missing (suc k) id none =
    let rest = number_missing k id (λ n positive within e. none n positive (omega arith) e) in
    elim (is_name id (decimal (suc k))) as (λ b. is_name id (decimal (suc k)) ≡ b → cond b (Some (suc k)) (number_of k id) ≡ None) [
      | true ↦ λ same. absurd (none (suc k) (omega arith) (omega arith) (sym ((bytes_eq-Decides id (decimal (suc k))).0 same)))
      | false ↦ λ other. rest
    ] refl

-- the number of an id is written so
pub number_written : (count n : ℕ) (id : List ℕ) → number_of count id ≡ Some n → decimal n ≡ id
number_written zero n id e = cc e
number_written (suc k) n id e =
    let rest = number_written k n id in
    elim (is_name id (decimal (suc k))) as (λ b. is_name id (decimal (suc k)) ≡ b → cond b (Some (suc k)) (number_of k id) ≡ Some n → decimal n ≡ id) [
      | true ↦ λ same is. let at : suc k ≡ n = cc is in ap decimal (sym at) ∙ sym ((bytes_eq-Decides id (decimal (suc k))).0 same)
      | false ↦ λ other is. rest is
    ] refl e

-- a text that is read as another number, or as none, is no number's
pub number_read : {E : Type 0} (count n : ℕ) (id : List ℕ) (r : Result ℕ E) → count < 2 ^ 32 → ParsesUnsigned 32 10 id r → n ≤ count → decimal n ≡ id → r ≡ Ok n
number_read count n id r few parses within e = parse-decimal 32 n id r (omega arith) (omega arith) (sym e) parses

-- what a text is read as decides
pub number_unread : {E : Type 0} (count : ℕ) (id : List ℕ) (r : Result ℕ E) → count < 2 ^ 32 → ParsesUnsigned 32 10 id r → ((n : ℕ) → r ≡ Ok n → 0 < n → n ≤ count → decimal n ≡ id → ⊥) → number_of count id ≡ None
number_unread count id r few parses none = number_missing count id (λ n positive within e. none n (number_read count n id r few parses within e) positive within e)

-- one id more
pub numbers_more : (count : ℕ) (ids : List (List ℕ)) (id : List ℕ) → numbers_of count (ids ++ id ∷ []) ≡ numbers_of count ids ++ option_to_list (number_of count id)
numbers_more count [] id = one (number_of count id)
  where
    one : (o : Option ℕ) → behind o [] ≡ option_to_list o
    one None = refl
    one (Some n) = refl
numbers_more count (x ∷ ids) id = ap (behind (number_of count x)) (numbers_more count ids id) ∙ put (number_of count x) (numbers_of count ids) (option_to_list (number_of count id))
  where
    put : (o : Option ℕ) (xs ys : List ℕ) → behind o (xs ++ ys) ≡ behind o xs ++ ys
    put None xs ys = refl
    put (Some n) xs ys = refl
