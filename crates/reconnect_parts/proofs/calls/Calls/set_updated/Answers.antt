use Rattle.std.proofs.Common.{List, ℕ, true, refl, ap, subst, ◌∙◌}
use Rattle.std.specs.Prelude.{Some, IsSome}
use Rattle.map_model.specs.Maps.{at}
use Rattle.value_model.specs.Order.{text_cmp}
use Rattle.reconnect_model.specs.Revival.{Called}
use Rattle.reconnect_model.specs.Giving.{changed_from}
use Rattle.reconnect_parts.proofs.Changing.{put_is, changed_is, changed_none}
use Rattle.reconnect_parts.proofs.calls.Calls.set_updated.Goals.{in-Some, in_default}
use Rattle.reconnect_parts.proofs.calls.Calls.set_updated.Goals as goal

pub returns : goal.returns
returns c =
    let old = c.self.inside.calls.entries in
    let id = c.args.id.now in
    let moved = ap (λ (m : List (List ℕ × Called)). changed_from (λ (x : Called). Some (record x { is_updated = true })) id m (at text_cmp m id)) c.self.view_is in
    elim c.match-get_mut.branch [
      | in-Some w ↦
          let after = w.set_updated.new.self in
          let holds = c.get_mut.follows.holds after in
          let there = subst IsSome w.in-Some.ensures.value refl in
          let put = put_is old (c.get_mut.follows.lender after).entries id after c.self.invariant holds.4 (holds.3 there).0 in
          ap (λ s. s.calls.entries) w.self-inside-is
          ∙ changed_is (λ (x : Called). Some (record x { is_updated = true })) old (c.get_mut.follows.lender after).entries id w.in-Some.call.now after w.in-Some.ensures.value (ap Some w.set_updated.ensures) put
          ∙ moved
      | in_default w ↦
          ap (λ s. s.calls.entries) w.self-inside-is
          ∙ (ap (λ m. m.entries) c.get_mut.follows.holds-at-none ∙ (changed_none (λ (x : Called). Some (record x { is_updated = true })) old id w.in_default.ensures.value ∙ moved))
    ]
