use Rattle.std.proofs.Common.{refl, ◌∙◌}
use Rattle.client_script.specs.Moving.{offer_failed}
use Rattle.client_script.proofs.LinesRun.{no_move, offered_more, nothing_left, counts_from}
use Rattle.client_script.proofs.offering.offer_all.Goals as goal

pub loop-init : goal.loop-init
loop-init g c = record { moves = no_move g.S.Speaker.look g.S.Speaker.does g.L.Link.steps c.args.speaker.now c.args.link.now c.args.kept.now; faults = refl }

pub loop-preserved : goal.loop-preserved
loop-preserved g c = record {
  moves = offered_more g.S.Speaker.look g.S.Speaker.does g.L.Link.steps c.args.speaker.now c.args.link.now c.args.kept.now c.loop.speaker c.loop.link c.loop.kept c.fetch.new.speaker c.fetch.new.kept
      c.offer.new.link c.offer.new.kept c.offer.result c.loop.invariant.moves c.fetch.ensures c.offer.ensures.offers;
  faults = c.in-Taken.ensures.faults ∙ c.loop.invariant.faults;
}

pub returns-in_default : goal.returns-in_default
returns-in_default g c = record {
  moves = offered_more g.S.Speaker.look g.S.Speaker.does g.L.Link.steps c.args.speaker.now c.args.link.now c.args.kept.now c.loop.speaker c.loop.link c.loop.kept c.fetch.new.speaker c.fetch.new.kept
      c.offer.new.link c.offer.new.kept c.offer.result c.loop.invariant.moves c.fetch.ensures c.offer.ensures.offers;
  nothing = λ is. nothing_left g.S.Speaker.look g.S.Speaker.does g.L.Link.steps c.loop.speaker c.loop.link c.loop.kept c.fetch.new.speaker c.fetch.new.kept
      c.offer.new.link c.offer.new.kept c.offer.result c.fetch.ensures c.offer.ensures.offers is;
  faults = counts_from (offer_failed c.offer.result) (g.L.Link.faults c.args.link.now) (g.L.Link.faults c.loop.link) (g.L.Link.faults c.offer.new.link) c.loop.invariant.faults c.offer.ensures.faults;
}
