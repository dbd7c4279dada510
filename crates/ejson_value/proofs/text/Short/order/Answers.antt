use Rattle.std.proofs.Common.{Ordering, nat_cmp, ◌∙◌, sym, ap, ap₂, arith}
use Rattle.std.specs.Ordering.{ordering_then}
use Rattle.std.specs.Cmp.Lexicographic.{slice_cmp}
use Rattle.ejson_value.proofs.Words.{filled_up, tied_first, decided_first}
use Rattle.ejson_value.proofs.text.Short.order.Goals as goal

pub returns-then-is_eq : goal.returns-then-is_eq
returns-then-is_eq c =
    let one = c.self.inside in
    let two = c.other.inside in
    let whole = filled_up one.len two.len one.bytes two.bytes (omega arith) (omega (arith, c.self.invariant.0)) (omega (arith, c.other.invariant.0)) c.self.invariant.2 c.other.invariant.2 in
    let first = tied_first _ c.cmp.result (sym c.is_eq.ensures ∙ c.if-is_eq.true) in
    first ∙ ap₂ ordering_then c.order-bytes.ensures c.cmp.ensures ∙ sym whole ∙ ap₂ (slice_cmp nat_cmp) c.self.view_is c.other.view_is

pub returns : goal.returns
returns c =
    let one = c.self.inside in
    let two = c.other.inside in
    let whole = filled_up one.len two.len one.bytes two.bytes (omega arith) (omega (arith, c.self.invariant.0)) (omega (arith, c.other.invariant.0)) c.self.invariant.2 c.other.invariant.2 in
    let first = decided_first _ (nat_cmp one.len two.len) (sym c.is_eq.ensures ∙ c.if-is_eq.false) in
    first ∙ ap (λ (r : Ordering). ordering_then r (nat_cmp one.len two.len)) c.order-bytes.ensures ∙ sym whole ∙ ap₂ (slice_cmp nat_cmp) c.self.view_is c.other.view_is
