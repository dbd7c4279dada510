use Rattle.std.proofs.Common.{Some, sym, ap, ◌∙◌}
use Rattle.ddp_messages.specs.Wire.{own_of}
use Rattle.ddp_messages.specs.WireLaws.{own_ok, own_only}
use Rattle.ddp_messages.proofs.wire.own_id.Goals as goal

pub returns-in_ok-from_str-in-Some-clause-found : goal.returns-in_ok-from_str-in-Some-clause-found
returns-in_ok-from_str-in-Some-clause-found c =
    own_ok c.args.wire.now c.in_ok-from_str-in-Some.field-0 (ap own_of (sym c.as_str.ensures) ∙ sym c.in-Some.ensures ∙ ap Some (sym c.in_ok-from_str-in-Some.ensures))

pub returns-in_ok-from_str-in-Some-clause-only : goal.returns-in_ok-from_str-in-Some-clause-only
returns-in_ok-from_str-in-Some-clause-only c id is =
    ap Some c.in_ok-from_str-in-Some.ensures ∙ c.in-Some.ensures ∙ ap own_of c.as_str.ensures ∙ own_only c.args.wire.now id is

pub returns-in-None-clause-only : goal.returns-in-None-clause-only
returns-in-None-clause-only c id is = absurd (cc (c.in-None.ensures ∙ ap own_of c.as_str.ensures ∙ own_only c.args.wire.now id is))
