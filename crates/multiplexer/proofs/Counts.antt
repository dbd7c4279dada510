-- How often documents are looked at.
use Rattle.std.specs.Prelude.{◌≡◌, ℕ, ◌+◌, ◌-◌, ◌*◌, ◌≤◌, length, List, refl}
use Rattle.std.proofs.Common.{ap, subst, sym, ◌∙◌, arith, ⊎_elim}
use Rattle.std.proofs.lemmas.Bool.Decides.{leb_tells}
use Rattle.std.proofs.lemmas.List.{length-append}
use Rattle.ejson_value.specs.declared.change.Change.{Change}
use Rattle.history_model.specs.History.{changes_between}
use Rattle.store_machine.specs.State.{MachineState, programs}
use Rattle.multiplexer.specs.BetweenLaws.{between_more}
use Rattle.multiplexer.specs.Looks.{looks}

each_twice : (n x y : ℕ) → n * (2 * (x + y)) ≡ n * (2 * x) + n * (2 * y)
each_twice n x y = grind arith

none_twice : (n : ℕ) → n * (2 * 0) ≡ 0
none_twice n = grind arith

module _ (n : ℕ) (m : MachineState) where
  abbrev count : ℕ → ℕ → ℕ
  count place some = length (changes_between (programs m.app) m.history place some)

  count_more : (place a b : ℕ) → count place (a + b) ≡ count place a + count (place + a) b
  count_more place a b =
      ap length (between_more (programs m.app) m.history place a b) ∙ length-append (changes_between (programs m.app) m.history place a) (changes_between (programs m.app) m.history (place + a) b)

  -- so many entries on
  pub looks_at : (from some until : ℕ) → from + some ≡ until → looks n m from until ≡ n * (2 * length (changes_between (programs m.app) m.history from some))
  looks_at from some until is = let e : until - from ≡ some = omega (arith, is) in ap (λ k. n * (2 * count from k)) e

  -- up to one place and on from there
  pub looks_on : (p q r : ℕ) → p ≤ q → q ≤ r → looks n m p r ≡ looks n m p q + looks n m q r
  looks_on p q r pq qr =
      let a = q - p in
      let b = r - q in
      let whole : r - p ≡ a + b = omega (arith, pq, qr) in
      let there : p + a ≡ q = omega (arith, pq) in
      ap (λ k. n * (2 * count p k)) whole ∙ (ap (λ k. n * (2 * k)) (count_more p a b ∙ ap (λ s. count p a + count s b) there) ∙ each_twice n (count p a) (count q b))

  -- none where there is no entry between
  pub looks_none : (p q : ℕ) → q ≤ p → looks n m p q ≡ 0
  looks_none p q le = let e : q - p ≡ 0 = omega (arith, le) in ap (λ k. n * (2 * count p k)) e ∙ none_twice n

  -- fewer entries need no more
  pub looks_less : (p q r : ℕ) → p ≤ q → looks n m q r ≤ looks n m p r
  looks_less p q r pq =
      ⊎_elim (λ both. omega (arith, looks_on p q r pq both.1)) (λ both. omega (arith, looks_none q r (let le : r ≤ q = omega (arith, both.1) in le))) (leb_tells q r)

  pub looks_more : (p q r : ℕ) → q ≤ r → looks n m p q ≤ looks n m p r
  looks_more p q r qr =
      ⊎_elim (λ both. omega (arith, looks_on p q r both.1 qr)) (λ both. omega (arith, looks_none p q (let le : q ≤ p = omega (arith, both.1) in le))) (leb_tells p q)

  -- changes that were looked at
  pub told_looks : (from some before after : ℕ) (changes : List Change) → changes ≡ changes_between (programs m.app) m.history from some → after ≤ before + n * (2 * length changes) → after ≤ before + n * (2 * length (changes_between (programs m.app) m.history from some))
  told_looks from some before after changes is le = subst (λ (cs : List Change). after ≤ before + n * (2 * length cs)) is le

  -- one entry more
  pub filled_one : (p q first before after : ℕ) → p ≤ q → before ≤ first + looks n m p q → after ≤ before + looks n m q (q + 1) → after ≤ first + looks n m p (q + 1)
  filled_one p q first before after pq so_far more = omega (arith, so_far, more, looks_on p q (q + 1) pq (let le : q ≤ q + 1 = omega arith in le))

  -- up to a place that is no further than this one
  pub filled_all : (p q r first after : ℕ) → q ≤ r → after ≤ first + looks n m p q → after ≤ first + looks n m p r
  filled_all p q r first after qr le = omega (arith, le, looks_more p q r qr)

  -- from a place that is no earlier than this one
  pub filled_from : (p q r first after : ℕ) → p ≤ q → after ≤ first + looks n m q r → after ≤ first + looks n m p r
  filled_from p q r first after pq le = omega (arith, le, looks_less p q r pq)

  -- one entry
  pub told_one : (p before after : ℕ) (changes : List Change) → changes ≡ changes_between (programs m.app) m.history p 1 → after ≤ before + n * (2 * length changes) → after ≤ before + looks n m p (p + 1)
  told_one p before after changes is le = subst (λ k. after ≤ before + k) (sym (looks_at p 1 (p + 1) refl)) (told_looks p 1 before after changes is le)

  -- the entries that are told go no further than this place, or there are no more
  pub filled_most : (p q r first after : ℕ) → p ≤ q → q - p ≤ r - p → after ≤ first + looks n m p q → after ≤ first + looks n m p r
  filled_most p q r first after pq most le =
      ⊎_elim (λ both. filled_all p q r first after (let qr : q ≤ r = omega (arith, pq, most, both.1) in qr) le) (λ both. let none : q ≤ p = omega (arith, pq, most, both.1) in omega (arith, le, looks_none p q none)) (leb_tells p r)
