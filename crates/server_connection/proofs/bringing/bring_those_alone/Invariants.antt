use Rattle.std.specs.Prelude.{◌≡◌}
use Rattle.server_connection.specs.Looks.{Works}
use Rattle.server_connection.proofs.bringing.bring_those_alone.Given as goal

abbrev pub invariant-loop-place : goal.invariant-loop-place
invariant-loop-place g l = record {
  works : Works g.N.StoreName.app l.fn.caller l.fn.caller l.fn.pass l.fn.pass l.fn.session l.session;
  same : l.pass ≡ l.fn.pass;
}
