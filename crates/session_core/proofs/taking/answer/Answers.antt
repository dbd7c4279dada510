use Rattle.std.proofs.Common.{◌+◌, None, refl, sym, arith}
use Rattle.session_core.specs.session_state.declared.own.Step.{Step}
use Rattle.session_core.specs.session_state.Own.{as_state}
use Rattle.session_core.specs.declared.adding.Addition.{Addition}
use Rattle.session_core.specs.declared.inner.Inner.{Inner}
use Rattle.session_core.specs.Adding.{Follows}
use Rattle.session_core.proofs.Keeping.{HasMoved}
use Rattle.session_core.proofs.Answering.{answers_follow, answered, answered_kept}
use Rattle.std.proofs.Common.{subst}
use Rattle.session_core.proofs.taking.answer.Goals as goal

pub add-requires-clause-follows : goal.add-requires-clause-follows
add-requires-clause-follows c = subst (λ (s : Step). Follows s (as_state c.args.inner.now.parts.own)) (sym c.step_of.ensures) (answers_follow c.args.answer (as_state c.args.inner.now.parts.own))

pub returns-clause-answered : goal.returns-clause-answered
returns-clause-answered c =
    let old = c.args.inner.now in
    let mid = c.add.new.inner in
    let new : Inner = record mid { taken = mid.taken + 1 } in
    let a : Addition = record { item = c.item_of.result; id = None; step = c.step_of.result; words = c.in_ok-words.words } in
    let d = c.in_ok-add.ensures.added in
    let m : HasMoved mid new = record { app = refl; number = refl; journal = refl; outbox = refl; own = refl; fences = refl; shown = refl; dropped = refl } in
    answered a c.args.answer old mid new d m c.step_of.ensures c.item_of.ensures refl c.in_ok-words.ensures (omega (arith, d.stays.taken)) d.stays.queue d.stays.places refl

pub returns-clause-kept : goal.returns-clause-kept
returns-clause-kept c =
    let old = c.args.inner.now in
    let mid = c.add.new.inner in
    let new : Inner = record mid { taken = mid.taken + 1 } in
    let a : Addition = record { item = c.item_of.result; id = None; step = c.step_of.result; words = c.in_ok-words.words } in
    let d = c.in_ok-add.ensures.added in
    let m : HasMoved mid new = record { app = refl; number = refl; journal = refl; outbox = refl; own = refl; fences = refl; shown = refl; dropped = refl } in
    answered_kept a c.args.answer old mid new d m c.step_of.ensures c.requires.kept c.requires.room (omega (arith, d.stays.taken)) d.stays.queue d.stays.places
