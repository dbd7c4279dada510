use Rattle.std.proofs.Common.{◌≡◌, ◌<◌, ◌≤◌, ◌^◌, ℕ, List, true≢false, sym, ap, ◌∙◌, subst, arith}
use Rattle.std.specs.Prelude.{decimal, Result, Ok, None}
use Rattle.std.specs.Str.Parse.{ParsesUnsigned}
use Rattle.std.proofs.lemmas.Slice.Eq.{bytes_eq-Decides}
use Rattle.client_model.specs.Taking.{number_of}
use Rattle.client_core.proofs.Ids.{number_found, number_unread}
use Rattle.client_core.proofs.numbers.number_of.Goals.{then-number-eq0-via-then-number-eq0, then-number-eq0-via-else-number-eq0+then-number-count}
use Rattle.client_core.proofs.numbers.number_of.Goals as goal

-- a text that is read as no number of a call's is none's
unread : {E : Type 0} (count : ℕ) (id read : List ℕ) (r : Result ℕ E) → count < 2 ^ 32 → read ≡ id → ParsesUnsigned 32 10 read r → ((n : ℕ) → r ≡ Ok n → 0 < n → n ≤ count → decimal n ≡ id → ⊥) → None ≡ number_of count id
unread count id read r few same parses none = sym (number_unread count id r few (subst (λ t. ParsesUnsigned 32 10 t r) same parses) none)

same_number : {E : Type 0} (r : Result ℕ E) (a b : ℕ) → r ≡ Ok a → r ≡ Ok b → a ≡ b
same_number r a b p q = let e : Ok a ≡ Ok b = sym p ∙ q in cc e

pub returns-in_default : goal.returns-in_default
returns-in_default c =
    unread c.args.count c.args.id.now c.as_str.result.now c.parse.result (omega arith) c.as_str.ensures c.parse.ensures.value.0 (λ n e positive within written. c.in_default.not-Ok n e)

pub returns-then-number-eq0 : goal.returns-then-number-eq0
returns-then-number-eq0 c =
    elim c.then-number-eq0.branch [
      | then-number-eq0-via-then-number-eq0 w ↦
          unread c.args.count c.args.id.now c.as_str.result.now c.parse.result (omega arith) c.as_str.ensures c.parse.ensures.value.0
          (λ n e positive within written. let same = same_number c.parse.result c.in-Ok.number n c.in-Ok.is e in omega arith)
      | then-number-eq0-via-else-number-eq0+then-number-count w ↦
          unread c.args.count c.args.id.now c.as_str.result.now c.parse.result (omega arith) c.as_str.ensures c.parse.ensures.value.0
          (λ n e positive within written. let same = same_number c.parse.result c.in-Ok.number n c.in-Ok.is e in omega arith)
    ]

pub returns-then-eq : goal.returns-then-eq
returns-then-eq c =
    let same = (bytes_eq-Decides c.as_str-2.result.now c.as_str-3.result.now).0 (sym c.if-eq.ensures) in
    sym (number_found c.args.count c.in-Ok.number c.args.id.now (omega arith) (omega arith) (omega arith) (sym c.in_ok-id_of.ensures ∙ sym c.as_str-2.ensures ∙ same ∙ c.as_str-3.ensures))

pub returns-else-eq : goal.returns-else-eq
returns-else-eq c =
    unread c.args.count c.args.id.now c.as_str.result.now c.parse.result (omega arith) c.as_str.ensures c.parse.ensures.value.0
    (λ n e positive within written.
    let same = same_number c.parse.result c.in-Ok.number n c.in-Ok.is e in
    let is = c.as_str-2.ensures ∙ c.in_ok-id_of.ensures ∙ ap decimal same ∙ written ∙ sym c.as_str-3.ensures in
    true≢false (sym ((bytes_eq-Decides c.as_str-2.result.now c.as_str-3.result.now).1 is) ∙ sym c.if-eq.ensures))
