-- The changes of entries, some behind others.
use Rattle.std.specs.Prelude.{◌≡◌, ℕ, zero, suc, ◌+◌, List, [], ◌∷◌, ◌++◌, take, drop, refl}
use Rattle.std.proofs.Common.{ap, sym, ◌∙◌, append_assoc, arith}
use Rattle.ejson_value.specs.declared.change.Change.{Change}
use Rattle.history_model.specs.declared.entry.Entry.{Entry}
use Rattle.history_model.specs.History.{Programs, Held, nothing, carried, held_from, held, held_at, changes_by, changes_from, changes_between}
use Rattle.history_model.specs.HistoryLaws.{held_from-append}

-- ---- lists

take_none : {A : Type 0} (n : ℕ) (xs : List A) → xs ≡ [] → take n xs ≡ []
take_none zero xs e = refl
take_none (suc n) [] e = refl
take_none (suc n) (x ∷ xs) e = absurd (cc e)

drop_none : {A : Type 0} (n : ℕ) (xs : List A) → xs ≡ [] → drop n xs ≡ []
drop_none zero xs e = e
drop_none (suc n) [] e = refl
drop_none (suc n) (x ∷ xs) e = absurd (cc e)

take_more : {A : Type 0} (p n : ℕ) (xs : List A) → take (p + n) xs ≡ take p xs ++ take n (drop p xs)
take_more zero n xs = let e : zero + n ≡ n = omega arith in ap (λ m. take m xs) e
take_more (suc p) n [] = take_none (suc p + n) [] refl ∙ sym (take_none n [] refl)
take_more (suc p) n (x ∷ xs) = let e : suc p + n ≡ suc (p + n) = omega arith in ap (λ m. take m (x ∷ xs)) e ∙ ap (λ ys. x ∷ ys) (take_more p n xs)

drop_further : {A : Type 0} (p n : ℕ) (xs : List A) → drop n (drop p xs) ≡ drop (p + n) xs
drop_further zero n xs = let e : n ≡ zero + n = omega arith in ap (λ m. drop m xs) e
drop_further (suc p) n [] = drop_none n [] refl ∙ sym (drop_none (suc p + n) [] refl)
drop_further (suc p) n (x ∷ xs) = let e : suc (p + n) ≡ suc p + n = omega arith in drop_further p n xs ∙ ap (λ m. drop m (x ∷ xs)) e

-- ---- changes

changes_more : (app : Programs) (h : Held) (es fs : List Entry) →
    changes_from app h (es ++ fs) ≡ changes_from app h es ++ changes_from app (held_from app h es) fs
changes_more app h [] fs = refl
changes_more app h (e ∷ es) fs =
    ap (λ (cs : List Change). changes_by app h e ++ cs) (changes_more app (carried app h e) es fs)
    ∙ sym (append_assoc (changes_by app h e) (changes_from app (carried app h e) es) (changes_from app (held_from app (carried app h e) es) fs))

-- those of some entries, and then of others behind them
pub between_more : (app : Programs) (history : List Entry) (place a b : ℕ) →
    changes_between app history place (a + b) ≡ changes_between app history place a ++ changes_between app history (place + a) b
between_more app history place a b =
    let some = take a (drop place history) in
    let rest = take b (drop (place + a) history) in
    let there : held_at app history (place + a) ≡ held_from app (held_at app history place) some = ap (held app) (take_more place a history)
    ∙ held_from-append app nothing (take place history) some in
    ap (changes_from app (held_at app history place))
    (take_more a b (drop place history) ∙ ap (λ (es : List Entry). some ++ take b es) (drop_further place a history))
    ∙ (changes_more app (held_at app history place) some rest ∙ ap (λ (h : Held). changes_between app history place a ++ changes_from app h rest) (sym there))

-- no entry changes anything
pub none_between : (app : Programs) (history : List Entry) (place : ℕ) → changes_between app history place 0 ≡ []
none_between app history place = refl
