use Rattle.std.proofs.Common.{◌≡◌, drop, map}
use Rattle.live_observer.specs.Answering.{put_told}
use Rattle.live_observer.proofs.told.put_shown.Given as goal

abbrev pub invariant-loop-one : goal.invariant-loop-one
invariant-loop-one l =
    put_told l.name l.answer.entries (map (λ one. (one.id, one.doc)) (drop l.one-index l.shown)) ≡ put_told l.name l.initial.answer.entries (map (λ one. (one.id, one.doc)) l.shown)
