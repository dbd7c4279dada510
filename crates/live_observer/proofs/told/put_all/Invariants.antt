use Rattle.std.proofs.Common.{◌≡◌, drop}
use Rattle.live_observer.specs.Answering.{put_all}
use Rattle.live_observer.proofs.told.put_all.Given as goal

abbrev pub invariant-loop-one : goal.invariant-loop-one
invariant-loop-one l = put_all l.answer.entries (drop l.one-index l.told) ≡ put_all l.initial.answer.entries l.told
