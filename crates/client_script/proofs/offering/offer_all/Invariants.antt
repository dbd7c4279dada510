use Rattle.std.proofs.Common.{◌≡◌, []}
use Rattle.client_script.specs.Moving.{Moves}
use Rattle.client_script.proofs.offering.offer_all.Given as goal

abbrev pub invariant-loop : goal.invariant-loop
invariant-loop g l = record {
  moves : Moves g.S.Speaker.look g.S.Speaker.does g.L.Link.steps l.fn.speaker l.fn.link l.fn.kept l.speaker l.link l.kept [] [];
  faults : g.L.Link.faults l.link ≡ g.L.Link.faults l.fn.link;
}
