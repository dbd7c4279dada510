use Rattle.std.proofs.Common.{◌∷◌, [], refl}
use Rattle.merge_box.specs.declared.plan.Word.TheVariants.{Known}
use Rattle.merge_box.specs.Inside.{step_of}
use Rattle.merge_box.specs.Words.{HasSaid, HasTold}
use Rattle.merge_box.proofs.MakePlan.{on_ok}
use Rattle.merge_box.proofs.Words.{said_told}
use Rattle.merge_box.proofs.plan.tell.Goals as goal

pub returns-then-is_known : goal.returns-then-is_known
returns-then-is_known c =
    let known = c.if-is_known.ensures refl in
    record { words = Known c.args.place ∷ []; more = c.in_ok-push.ensures.items; told = (refl, known.0, known.1) }

pub returns : goal.returns
returns c =
    let before = c.args.words.now.items in
    let now = c.say.new.words.items in
    let step = step_of c.args.held.now c.args.change.now in
    on_ok c.say.result (HasSaid c.place_for-at.result c.args.key.now step before now) (HasTold c.args.sub c.args.texts.now c.args.place c.args.key.now c.args.held.now.publishers step before now)
    (λ said. said_told c.args.sub c.args.texts.now c.args.place c.args.key.now c.args.held.now.publishers step before now c.place_for-at.result c.place_for-at.ensures said) c.say.ensures
