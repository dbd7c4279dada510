-- A span of a subscription that is known whole.
use Rattle.std.specs.Prelude.{ℕ, ◌≡◌, ◌≤◌, List}
use Rattle.std.specs.Arc.{arc_value}
use Rattle.std.proofs.Common.{sym, subst, arith}
use Rattle.session_state.specs.declared.subs.Sub.{Sub}
use Rattle.store_machine.specs.State.{MachineState}
use Rattle.world_news_laws.specs.multiplexer.Looks.{known_in}
use Rattle.world_news_laws.specs.multiplexer.Spans.{IsLent, IsKnownWhole}
use Rattle.world_news_laws.specs.multiplexer.Telling.{ASource}
use Rattle.world_news_laws.specs.multiplexer.declared.news.Lent.{Lent}

pub known_whole : (sources : List ASource) (sub : Sub) (m : MachineState) (from until : ℕ) (lent : Lent) → IsLent m sub from until lent → IsKnownWhole sources lent →
    until ≤ known_in sources sub.name sub.params from until
known_whole sources sub m from until lent is known =
    let e : known_in sources sub.name sub.params from until ≡ until =
    subst (λ ps. known_in sources sub.name ps from until ≡ until) is.params
    (subst (λ (name : List ℕ). known_in sources name (arc_value lent.params) from until ≡ until) is.name
    (subst (λ (f : ℕ). known_in sources lent.name (arc_value lent.params) f until ≡ until) is.asked.begins
    (subst (λ (u : ℕ). known_in sources lent.name (arc_value lent.params) lent.span.from u ≡ u) is.asked.ends known))) in
    omega (arith, e)
