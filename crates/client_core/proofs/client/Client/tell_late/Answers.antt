use Rattle.map_model.specs.Maps.{at}
use Rattle.map_model.specs.Differences.{taken}
use Rattle.value_model.specs.Order.{text_cmp}
use Rattle.ejson_value.specs.Key.{key_cmp}
use Rattle.ejson_value.specs.Messages.{said}
use Rattle.client_core.specs.State.{state_of}
use Rattle.client_core.proofs.Shown.{told_shown}
use Rattle.client_core.proofs.client.Client.tell_late.Goals as goal

pub invariant_of-self-in-Data-1 : goal.invariant_of-self-in-Data-1
invariant_of-self-in-Data-1 c =
    let s = c.self-in-Data.inside in
    let m = said c.in-Data.message in
    told_shown (state_of s.session s.is_failed s.broken s.waiting.items s.view s.subs s.calls.items) m.0 (taken text_cmp (at key_cmp s.view.server m.0) m.1) c.apply.new.self c.in_ok-apply-in-Data.ensures.ok
    c.self-in-Data.invariant
