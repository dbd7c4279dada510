use Rattle.std.proofs.Common.{[], None, refl}
use Rattle.session_core.specs.session_model.Items.{unblocked}
use Rattle.session_core.specs.session_journal_laws.declared.stored.Stored.TheVariants.{Unblocked}
use Rattle.session_core.specs.session_state.declared.own.Step.TheVariants.{Unblock}
use Rattle.session_core.specs.declared.adding.Addition.{Addition}
use Rattle.session_core.specs.declared.inner.Inner.{Inner}
use Rattle.session_core.proofs.Keeping.{HasMoved, HasStayed}
use Rattle.session_core.proofs.Learnt.{learnt, learnt_kept}
use Rattle.session_core.proofs.learning.unblock.Goals as goal

pub returns-clause-learnt : goal.returns-clause-learnt
returns-clause-learnt c =
    let old = c.args.inner.now in
    let mid = c.add.new.inner in
    let new : Inner = record mid { queue = c.free.new.queue } in
    let a : Addition = record { item = Unblocked c.args.k; id = None; step = Unblock c.args.k; words = c.new.result } in
    let d = c.in_ok-add.ensures.added in
    let m : HasMoved mid new = record { app = refl; number = refl; journal = refl; outbox = refl; own = refl; fences = refl; shown = refl; dropped = refl } in
    let s : HasStayed mid new = record { taken = refl; limit = c.free.ensures.limit; waiting = c.free.ensures.waiting; places = refl } in
    learnt a old mid new d m s (unblocked c.args.k) [] refl refl refl c.new.ensures.items refl refl

pub returns-clause-kept : goal.returns-clause-kept
returns-clause-kept c =
    let old = c.args.inner.now in
    let mid = c.add.new.inner in
    let new : Inner = record mid { queue = c.free.new.queue } in
    let a : Addition = record { item = Unblocked c.args.k; id = None; step = Unblock c.args.k; words = c.new.result } in
    let d = c.in_ok-add.ensures.added in
    let m : HasMoved mid new = record { app = refl; number = refl; journal = refl; outbox = refl; own = refl; fences = refl; shown = refl; dropped = refl } in
    let s : HasStayed mid new = record { taken = refl; limit = c.free.ensures.limit; waiting = c.free.ensures.waiting; places = refl } in
    learnt_kept a old mid new d m s c.args.k c.requires.kept c.requires.room c.free.ensures.blocks refl
