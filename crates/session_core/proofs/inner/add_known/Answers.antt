use Rattle.std.proofs.Common.{refl}
use Rattle.std.proofs.lemmas.Result.{on_ok_weaker}
use Rattle.session_core.specs.session_state.Own.{as_state}
use Rattle.session_core.specs.Additions.{call_by}
use Rattle.session_core.specs.declared.inner.Inner.{Inner}
use Rattle.session_core.proofs.Counted.{can_step}
use Rattle.session_core.proofs.Keeping.{room_left, is_added}
use Rattle.session_core.proofs.inner.add_known.Goals as goal

pub add-requires-clause-few : goal.add-requires-clause-few
add-requires-clause-few c = room_left c.args.inner.now c.requires.room

pub add-requires-clause-steps : goal.add-requires-clause-steps
add-requires-clause-steps c = can_step c.args.addition.step (as_state c.args.inner.now.parts.own) c.requires.follows

pub returns-clause-added : goal.returns-clause-added
returns-clause-added c =
    let old = c.args.inner.now in
    let new : Inner = record old { parts = c.add.new.self } in
    on_ok_weaker c.add.result (λ g. is_added c.args.addition (call_by c.args.news.now) old new c.requires.kept c.requires.follows g (record { app = refl; number = refl; taken = refl; queue = refl; places = refl; dropped = refl })) c.add.ensures.gained

pub add-requires-clause-right : goal.add-requires-clause-right
add-requires-clause-right c = c.requires.right

pub returns-clause-learnt : goal.returns-clause-learnt
returns-clause-learnt c = c.add.ensures.learnt
