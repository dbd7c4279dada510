-- Each id that isn't empty has one wire form, and each text is the wire form of one id at most.
use Rattle.std.specs.Prelude.{◌≡◌, ℕ, suc, ◌==◌, ◌||◌, List, [], ◌∷◌, length, Bool, true, false, Some, None, if◌then◌else◌, refl}
use Rattle.std.proofs.Common.{sym, ap, ap₂, ◌∙◌, arith, inl, inr}
use Rattle.std.proofs.lemmas.Bool.{cases_Bool, eqb-true, ne_eqb}
use Rattle.ddp_messages.specs.Wire.{needs_dash, wire_of, IsWireOf, own_of}

-- the id behind a dash, if it needs one
unwrapped : (s id : List ℕ) (b : Bool) → needs_dash s ≡ b → (if b then Some s else None) ≡ Some id → IsWireOf id (45 ∷ s)
unwrapped [] id true e h = absurd (cc e)
unwrapped (x ∷ s) id true e h =
    let same : x ∷ s ≡ id = cc h in
    let form : wire_of (x ∷ s) ≡ 45 ∷ x ∷ s = ap (λ (c : Bool). if c then 45 ∷ x ∷ s else x ∷ s) e in
    (rw (← same) (omega arith), rw (← same) (sym form))
unwrapped s id false e h = absurd (cc h)

-- the id as it stands, if it needs no dash
plain : (x : ℕ) (s id : List ℕ) (b : Bool) → needs_dash (x ∷ s) ≡ b → (if b then None else Some (x ∷ s)) ≡ Some id → IsWireOf id (x ∷ s)
plain x s id true e h = absurd (cc h)
plain x s id false e h =
    let same : x ∷ s ≡ id = cc h in
    let form : wire_of (x ∷ s) ≡ x ∷ s = ap (λ (c : Bool). if c then 45 ∷ x ∷ s else x ∷ s) e in
    (rw (← same) (omega arith), rw (← same) (sym form))

own_ok_at : (x : ℕ) (s id : List ℕ) (dash : Bool) → (x == 45) ≡ dash
    → (if dash then (if needs_dash s then Some s else None) else (if needs_dash (x ∷ s) then None else Some (x ∷ s))) ≡ Some id → IsWireOf id (x ∷ s)
own_ok_at x s id true e h = let same : x ≡ 45 = eqb-true x 45 e in rw same (unwrapped s id (needs_dash s) refl h)
own_ok_at x s id false e h = plain x s id (needs_dash (x ∷ s)) refl h

pub own_ok : (wire id : List ℕ) → own_of wire ≡ Some id → IsWireOf id wire
own_ok [] id h = absurd (cc h)
own_ok (x ∷ s) id h = own_ok_at x s id (x == 45) refl h

-- an id that needs no dash doesn't begin with one
no_dash : (x : ℕ) (s : List ℕ) → needs_dash (x ∷ s) ≡ false → (x == 45) ≡ false
no_dash x s e = elim (cases_Bool (x == 45)) [
  | inl is ↦ absurd (cc (rw is at e))
  | inr is ↦ is
]

own_back : (x : ℕ) (s : List ℕ) (b : Bool) → needs_dash (x ∷ s) ≡ b → own_of (if b then 45 ∷ x ∷ s else x ∷ s) ≡ Some (x ∷ s)
own_back x s true e = ap (λ (c : Bool). if c then Some (x ∷ s) else None) e
own_back x s false e = ap₂ (λ (p q : Bool). if p then (if needs_dash s then Some s else None) else (if q then None else Some (x ∷ s))) (no_dash x s e) e

pub own_only : (wire id : List ℕ) → IsWireOf id wire → own_of wire ≡ Some id
own_only wire [] h = absurd (omega (arith, h.0))
own_only wire (x ∷ s) h = ap own_of h.1 ∙ own_back x s (needs_dash (x ∷ s)) refl

-- behind a dash, and as it stands
pub own_dash : (wire rest : List ℕ) → wire ≡ 45 ∷ rest → own_of wire ≡ (if needs_dash rest then Some rest else None)
own_dash wire rest e = ap own_of e

not_empty : (n : ℕ) → (suc n == 0) ≡ false
not_empty n = ne_eqb (suc n) 0 (λ e. absurd (omega (arith, e)))

pub own_plain : (wire : List ℕ) → ((rest : List ℕ) → wire ≡ 45 ∷ rest → ⊥) → own_of wire ≡ (if length wire == 0 || needs_dash wire then None else Some wire)
own_plain [] undashed = refl
own_plain (x ∷ s) undashed = elim (cases_Bool (x == 45)) [
  | inl is ↦ absurd (undashed s (ap (λ (y : ℕ). y ∷ s) (eqb-true x 45 is)))
  | inr is ↦
      ap (λ (p : Bool). if p then (if needs_dash s then Some s else None) else (if needs_dash (x ∷ s) then None else Some (x ∷ s))) is
      ∙ sym (ap (λ (p : Bool). if p || needs_dash (x ∷ s) then None else Some (x ∷ s)) (not_empty (length s)))
]
