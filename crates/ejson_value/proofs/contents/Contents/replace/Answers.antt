use Rattle.std.proofs.Common.{ap, ◌∙◌}
use Rattle.ejson_value.proofs.PutAll.{written, nothing, AreRows-written}
use Rattle.ejson_value.proofs.contents.Contents.replace.Goals.{in-Some, in_default}
use Rattle.ejson_value.proofs.contents.Contents.replace.Goals as goal

pub invariant_of-self : goal.invariant_of-self
invariant_of-self c =
    let there = rw (← c.self.view_is) at c.requires in
    elim c.match-get_mut.branch [
      | in-Some w ↦
          let holds = c.get_mut.follows.holds c.args.doc in
          let put = written c.self.inside.docs.entries (c.get_mut.follows.lender c.args.doc).entries c.args.key.now c.args.doc c.self.invariant.by_key holds.4 (holds.3 there).0 in
          AreRows-written c.self.inside.docs.entries c.match-get_mut.self-inside.docs.entries c.args.key.now c.args.doc (ap (λ s. s.docs.entries) w.self-inside-is ∙ put) c.self.invariant c.known.ensures
      | in_default w ↦ absurd (nothing _ w.in_default.ensures.value there)
    ]

pub returns : goal.returns
returns c =
    let there = rw (← c.self.view_is) at c.requires in
    elim c.match-get_mut.branch [
      | in-Some w ↦
          let holds = c.get_mut.follows.holds c.args.doc in
          let put = written c.self.inside.docs.entries (c.get_mut.follows.lender c.args.doc).entries c.args.key.now c.args.doc c.self.invariant.by_key holds.4 (holds.3 there).0 in
          rw (← c.self.view_is) (ap (λ s. s.docs.entries) w.self-inside-is ∙ put)
      | in_default w ↦ absurd (nothing _ w.in_default.ensures.value there)
    ]
