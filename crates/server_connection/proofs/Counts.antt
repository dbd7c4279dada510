-- Calls of a session in a history: those with small numbers, and those that were begun elsewhere.
use Rattle.std.specs.Prelude.{◌≡◌, ℕ, suc, ◌+◌, ◌<◌, ◌≤◌, ◌==◌, List, [], ◌∷◌, ◌++◌, Bool, true, false, ◌&&◌, ◌||◌, nat_lt, refl}
use Rattle.std.proofs.Common.{ap, sym, subst, ◌∙◌, arith}
use Rattle.std.proofs.lemmas.Bool.{ltb-true, lt-ltb, eq-eqb}
use Rattle.std.proofs.lemmas.List.{append_assoc, append-nil}
use Rattle.std.proofs.lemmas.List.Folds.{list_any-append}
use Rattle.std.specs.List.{list_any}
use mathlib.Core.List.{IsPrefix}
use Rattle.map_model.specs.MapLaws.{key_is}
use Rattle.value_model.specs.Val.{Val}
use Rattle.ejson_value.specs.declared.value.Value.{Value}
use Rattle.history_model.specs.declared.entry.Entry.{Entry}
use Rattle.history_model.specs.declared.entry.Entry.TheVariants as entry
use Rattle.history_model.specs.History.{RunKey, begins}
use Rattle.history_model.specs.HistoryLaws.{run_order}
use Rattle.shared_store.specs.Counting.{one, is_of, made_by}
use Rattle.shared_store.specs.Callers.{ACaller}
use Rattle.server_connection.specs.Looks.{is_below, begun_below, IsForeign}

pub prefix_same : {A : Type 0} (xs : List A) → IsPrefix xs xs
prefix_same xs = ([], append-nil xs)

pub prefix_is : {A : Type 0} (xs ys : List A) → ys ≡ xs → IsPrefix xs ys
prefix_is xs ys e = subst (λ zs. IsPrefix xs zs) (sym e) (prefix_same xs)

pub prefix_then : {A : Type 0} (xs ys zs : List A) → IsPrefix xs ys → IsPrefix ys zs → IsPrefix xs zs
prefix_then xs ys zs p q = (p.0 ++ q.0, sym (append_assoc xs p.0 q.0) ∙ (ap (λ ws. ws ++ q.0) p.1 ∙ q.1))

-- ---- calls below a number

below-append : (n m : ℕ) (xs ys : List Entry) → begun_below n m (xs ++ ys) ≡ begun_below n m xs + begun_below n m ys
below-append n m [] ys = omega arith
below-append n m (x ∷ xs) ys = omega (arith, below-append n m xs ys)

pub below_prefix : (n m : ℕ) (xs ys : List Entry) → IsPrefix xs ys → begun_below n m xs ≤ begun_below n m ys
below_prefix n m xs ys p = omega (arith, sym (ap (begun_below n m) p.1) ∙ below-append n m xs p.0)

one_and : (b x y : Bool) → (x ≡ true → y ≡ true) → one (b && x) ≤ one (b && y)
one_and false x y f = omega arith
one_and true false y f = omega arith
one_and true true y f = let e : one y ≡ 1 = ap one (f refl) in omega (arith, e)

one_part : (b x : Bool) → one (b && x) ≤ one b
one_part false x = omega arith
one_part true false = omega arith
one_part true true = omega arith

below_one : (n m m' : ℕ) (e : Entry) → m ≤ m' → one (is_below n m e) ≤ one (is_below n m' e)
below_one n m m' (entry.Begin session k method params seed) le =
    one_and ((session == n) && nat_lt 0 n) (nat_lt k m) (nat_lt k m') (λ is. lt-ltb k m' (let less = ltb-true k m is in omega (arith, less, le)))
below_one n m m' (entry.Step session k) le = omega arith
below_one n m m' (entry.Admin op) le = omega arith

pub below_more : (n m m' : ℕ) (es : List Entry) → m ≤ m' → begun_below n m es ≤ begun_below n m' es
below_more n m m' [] le = omega arith
below_more n m m' (e ∷ es) le = omega (arith, below_one n m m' e le, below_more n m m' es le)

-- a call with a small number that is begun
pub below_begun : (n m k : ℕ) (es : List Entry) (name : List ℕ) (params : List Val) (seed : Value) → 0 < n → k < m → begun_below n m (es ++ entry.Begin n k name params seed ∷ []) ≡ begun_below n m es + 1
below_begun n m k es name params seed some less =
    let here : is_below n m (entry.Begin n k name params seed) ≡ true =
    ap (λ b. (b && nat_lt 0 n) && nat_lt k m) (eq-eqb n n refl) ∙ (ap (λ b. b && nat_lt k m) (lt-ltb 0 n some) ∙ lt-ltb k m less) in
    let counts : one (is_below n m (entry.Begin n k name params seed)) ≡ 1 = ap one here in
    omega (arith, below-append n m es (entry.Begin n k name params seed ∷ []), counts)

-- ---- a call that was begun elsewhere

below_of : (n m : ℕ) (e : Entry) → one (is_below n m e) ≤ one (is_of n e)
below_of n m (entry.Begin session k method params seed) = one_part ((session == n) && nat_lt 0 n) (nat_lt k m)
below_of n m (entry.Step session k) = omega arith
below_of n m (entry.Admin op) = omega arith

pub below_made : (n m : ℕ) (es : List Entry) → begun_below n m es ≤ made_by n es
below_made n m [] = omega arith
below_made n m (e ∷ es) = omega (arith, below_of n m e, below_made n m es)

not_below : (k m : ℕ) → m ≤ k → nat_lt k m ≡ false
not_below k m le = elim (nat_lt k m) as (λ b. nat_lt k m ≡ b → b ≡ false) [ true ↦ λ is. (let less = ltb-true k m is in absurd (omega (arith, less, le))) | false ↦ λ is. refl ] refl

-- the entry begins the call `last`: it is the session's, and none with a small number
begins_of : (n m last : ℕ) (e : Entry) → 0 < n → m ≤ last → begins (n, last) e ≡ true → suc (one (is_below n m e)) ≤ one (is_of n e)
begins_of n m last (entry.Begin session k method params seed) some le is =
    let wanted : RunKey = (n, last) in
    let found : RunKey = (session, k) in
    let same : wanted ≡ found = key_is run_order wanted found is in
    let of_it : is_of n (entry.Begin session k method params seed) ≡ true =
    ap (λ b. b && nat_lt 0 n) (eq-eqb session n (sym (ap (λ (q : RunKey). q.0) same))) ∙ lt-ltb 0 n some in
    let far : nat_lt k m ≡ false = not_below k m (subst (λ j. m ≤ j) (ap (λ (q : RunKey). q.1) same) le) in
    let first : one (is_of n (entry.Begin session k method params seed)) ≡ 1 = ap one of_it in
    let second : one (is_below n m (entry.Begin session k method params seed)) ≡ 0 = ap (λ b. one (((session == n) && nat_lt 0 n) && b)) far ∙ none ((session == n) && nat_lt 0 n) in
    omega (arith, first, second)
  where
    none : (b : Bool) → one (b && false) ≡ 0
    none true = refl
    none false = refl
begins_of n m last (entry.Step session k) some le is = cc is
begins_of n m last (entry.Admin op) some le is = cc is

pub more_made : (n m last : ℕ) (es : List Entry) → 0 < n → m ≤ last → list_any (begins (n, last)) es ≡ true → begun_below n m es < made_by n es
more_made n m last [] some le is = cc is
more_made n m last (e ∷ es) some le is =
    elim (begins (n, last) e) as (λ b. begins (n, last) e ≡ b → (b || list_any (begins (n, last)) es) ≡ true → begun_below n m (e ∷ es) < made_by n (e ∷ es)) [
      | true ↦ λ here rest. (let first = begins_of n m last e some le here in omega (arith, first, below_made n m es))
      | false ↦ λ here rest. (let later = more_made n m last es some le rest in omega (arith, below_of n m e, later))
    ] refl is

any_prefix : (f : Entry → Bool) (xs ys : List Entry) → IsPrefix xs ys → list_any f xs ≡ true → list_any f ys ≡ true
any_prefix f xs ys p is = sym (ap (list_any f) p.1) ∙ (list_any-append f xs p.0 ∙ ap (λ b. b || list_any f p.0) is)

made-append : (n : ℕ) (xs ys : List Entry) → made_by n (xs ++ ys) ≡ made_by n xs + made_by n ys
made-append n [] ys = omega arith
made-append n (x ∷ xs) ys = omega (arith, made-append n xs ys)

-- it stays one of a longer list
pub foreign_longer : (last : ℕ) (caller : ACaller) (xs ys : List Entry) → IsPrefix xs ys → IsForeign last caller xs → IsForeign last caller ys
foreign_longer last caller xs ys p f = record {
  begun = any_prefix (begins (caller.number, last)) xs ys p f.begun;
  more = let split = sym (ap (made_by caller.number) p.1) ∙ made-append caller.number xs p.0 in omega (arith, f.more, split);
}
