use Rattle.std.proofs.Common.{refl, ap, subst, ◌∙◌}
use Rattle.std.specs.Prelude.{IsSome}
use Rattle.client_model.specs.Taking.{turned}
use Rattle.client_core.proofs.Turning.{put_is, turned_is, turned_none}
use Rattle.client_core.proofs.subs.Subs.turn.Goals.{in-Some, in_default+in-Refused-1, in_default+in-Waiting-1}
use Rattle.client_core.proofs.subs.Subs.turn.Goals as goal

pub returns : goal.returns
returns c =
    elim c.match-get_mut.branch [
      | in-Some w ↦
          let after = w.turn.new.self in
          let holds = c.get_mut.follows.holds after in
          let there = subst IsSome w.in-Some.ensures.value refl in
          let put = put_is c.self.inside.subs.entries (c.get_mut.follows.lender after).entries c.args.id.now after c.self.invariant holds.4 (holds.3 there).0 in
          ap (λ s. s.subs.entries) w.self-inside-is
          ∙ turned_is c.self.inside.subs.entries (c.get_mut.follows.lender after).entries c.args.id.now c.args.state w.in-Some.sub.now after w.in-Some.ensures.value w.turn.ensures put
          ∙ ap (turned c.args.state c.args.id.now) c.self.view_is
      | in_default+in-Refused-1 w ↦
          ap (λ s. s.subs.entries) w.self-inside-is
          ∙ (ap (λ m. m.entries) c.get_mut.follows.holds-at-none ∙ (turned_none c.self.inside.subs.entries c.args.id.now c.args.state w.in_default.ensures.value
          ∙ ap (turned c.args.state c.args.id.now) c.self.view_is))
      | in_default+in-Waiting-1 w ↦
          ap (λ s. s.subs.entries) w.self-inside-is
          ∙ (ap (λ m. m.entries) c.get_mut.follows.holds-at-none ∙ (turned_none c.self.inside.subs.entries c.args.id.now c.args.state w.in_default.ensures.value
          ∙ ap (turned c.args.state c.args.id.now) c.self.view_is))
    ]
