use Rattle.std.proofs.Common.{refl}
use Rattle.timed_link.proofs.Polling.{offered_text}
use Rattle.timed_link.proofs.timed.TimedLinkLink.send.Goals as goal

pub returns-clause-made : goal.returns-clause-made
returns-clause-made g c = rw (← c.self.view_is) (offered_text g.L.Link.steps g.C.Clock.told _ _ c.args.text c.send.result c.send.ensures.made refl refl)
