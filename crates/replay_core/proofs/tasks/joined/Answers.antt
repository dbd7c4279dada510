use Rattle.std.proofs.Common.{refl, rules}
use Rattle.replay_core.specs.Tasks.{ReadsAll}
use Rattle.replay_core.proofs.Batches.{both_read, if_ok}
use Rattle.replay_core.proofs.tasks.joined.Goals as goal

pub returns : goal.returns
returns c =
    let halves = c.args.halves in
    let first : ReadsAll halves.one.now c.in_ok-read.read.items = search rules in
    let second : ReadsAll halves.other.now c.in_ok-more.more.items = if_ok c.args.other c.in_ok-more.more c.in_ok-more.was (λ read. ReadsAll halves.other.now read.items) c.requires.other in
    λ lines place cut. both_read lines place halves c.in_ok-read.read.items c.in_ok-more.more.items (record { read = c.append.new.self; rest = halves.rest }) first second c.in_ok-append.ensures.items refl cut
