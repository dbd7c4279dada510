use Rattle.std.proofs.Common.{refl, ap, subst, ◌∙◌}
use Rattle.std.specs.Prelude.{IsSome}
use Rattle.map_model.specs.Maps.{at, set}
use Rattle.value_model.specs.Order.{text_cmp}
use Rattle.client_model.specs.Asking.{stopped}
use Rattle.client_core.proofs.Turning.{put_is, stopped_is, stopped_none}
use Rattle.client_core.proofs.subs.Subs.stop.Goals.{in-Some, in_default}
use Rattle.client_core.proofs.subs.Subs.stop.Goals as goal

pub returns : goal.returns
returns c =
    elim c.match-get_mut.branch [
      | in-Some w ↦
          let after = w.stop.new.self in
          let holds = c.get_mut.follows.holds after in
          let there = subst IsSome w.in-Some.ensures.value refl in
          let put = put_is c.self.inside.subs.entries (c.get_mut.follows.lender after).entries c.args.id.now after c.self.invariant holds.4 (holds.3 there).0 in
          ap (λ s. s.subs.entries) w.self-inside-is
          ∙ stopped_is c.self.inside.subs.entries (c.get_mut.follows.lender after).entries c.args.id.now w.in-Some.sub.now after w.in-Some.ensures.value w.stop.ensures put
          ∙ ap (λ subs. set text_cmp subs c.args.id.now (stopped (at text_cmp subs c.args.id.now))) c.self.view_is
      | in_default w ↦
          ap (λ s. s.subs.entries) w.self-inside-is
          ∙ (ap (λ m. m.entries) c.get_mut.follows.holds-at-none ∙ (stopped_none c.self.inside.subs.entries c.args.id.now c.self.invariant w.in_default.ensures.value
          ∙ ap (λ subs. set text_cmp subs c.args.id.now (stopped (at text_cmp subs c.args.id.now))) c.self.view_is))
    ]
