use Rattle.std.proofs.Common.{◌≤◌, sym, subst, ◌∙◌, arith}
use Rattle.std.proofs.lemmas.List.{length-map}
use Rattle.multiplexer.specs.Bounds.{max_bytes, IsSmall}
use Rattle.multiplexer.specs.Inside.{seen_entry}
use Rattle.multiplexer.proofs.Weights.{counted_same, bytes_same}
use Rattle.multiplexer.proofs.source.Source.teach.Goals as goal

pub invariant_of-self : goal.invariant_of-self
invariant_of-self c = record {
  numbered = omega (arith, c.teach.ensures.many, c.self.invariant.numbered);
  few = omega (arith, c.teach.ensures.many, c.self.invariant.few);
  counted = c.self.invariant.counted ∙ sym (counted_same c.teach.new.all.items c.self.inside.ones.items c.teach.ensures.same);
}

pub returns-then-has-clause-small : goal.returns-then-has-clause-small
returns-then-has-clause-small c = λ small.
    let was = subst IsSmall (sym c.self.view_is) small in
    record {
      few = omega (arith, c.teach.ensures.many, length-map c.teach.new.all.items seen_entry, length-map c.self.inside.ones.items seen_entry, was.few);
      light = subst (λ n. n ≤ max_bytes) (sym (bytes_same c.teach.new.all.items c.self.inside.ones.items c.teach.ensures.same)) was.light;
    }
