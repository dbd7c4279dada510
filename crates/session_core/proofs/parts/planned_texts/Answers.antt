use Rattle.std.proofs.Common.{◌++◌, List, ℕ, map, ap, subst, ◌∙◌}
use Rattle.merge_model.specs.Kept.{merged}
use Rattle.merge_box.specs.State.{KeptDocs, Told, IsBoxAfter, Tells}
use Rattle.merge_box.specs.Words.{seen_in, said_all}
use Rattle.merge_box.specs.declared.plan.Word.{Word}
use Rattle.ddp_messages.specs.Texts.{server_text}
use Rattle.session_model.specs.Shown.{difference}
use Rattle.session_model.specs.Out.{about}
use Rattle.session_core.specs.Additions.{call_by, updated_text}
use Rattle.session_core.specs.Known.{text_about, sub_by, news_by}
use Rattle.session_core.proofs.Known.{nothing_learnt, words_by}
use Rattle.session_core.proofs.Said.{texts_are, told_is}
use Rattle.session_core.proofs.parts.planned_texts.Goals as goal

pub returns-clause-after : goal.returns-clause-after
returns-clause-after c = subst (λ (o : KeptDocs). IsBoxAfter (call_by c.args.news.now) o c.plan_of.new.shown.planned) c.plan_of.ensures.same c.in_ok-plan.ensures.planned.after

pub returns-clause-texts : goal.returns-clause-texts
returns-clause-texts c =
    let old = c.args.shown.now.kept in
    let new = c.plan_of.new.shown.planned in
    let handed = c.args.news.now in
    let right = c.requires.right in
    let told = said_all (seen_in old) (news_by handed) c.in_ok-plan.plan.items in
    let tells : Tells old new told = subst (λ (o : KeptDocs). Tells o new told) c.plan_of.ensures.same c.in_ok-plan.ensures.planned.told in
    let are = words_by handed old c.args.known.now c.in_ok-plan.plan.items c.as_slice.result.now c.as_slice.ensures.value right c.in_ok-plan.ensures.words in
    let others = c.args.words.now.items ++ map updated_text c.in_ok-updated.updated in
    c.in_ok-texts.ensures.texts (sub_by handed) old (news_by handed) right are
    ∙ ap (λ (ts : List (List ℕ)). ts ++ others) (ap (λ (ws : List Word). map text_about (said_all (seen_in old) (news_by handed) ws)) c.as_slice.ensures.value ∙ texts_are told ∙ ap (λ (ms : Told). map server_text (map about ms)) (told_is old new told c.known.ensures.planned tells))
    ∙ ap (λ (ids : List (List ℕ)). map server_text (map about (difference (merged old) (merged new))) ++ (c.args.words.now.items ++ map updated_text ids)) c.in_ok-updated.ensures

-- what is learnt of the texts, also where memory ends in them
pub returns-clause-learnt : goal.returns-clause-learnt
returns-clause-learnt c =
    let handed = c.args.news.now in
    let old = c.args.shown.now.kept in
    c.texts_of.ensures.learnt (sub_by handed) old (news_by handed) c.requires.right
    (words_by handed old c.args.known.now c.in_ok-plan.plan.items c.as_slice.result.now c.as_slice.ensures.value c.requires.right c.in_ok-plan.ensures.words)

pub returns-in_err-texts-clause-learnt : goal.returns-in_err-texts-clause-learnt
returns-in_err-texts-clause-learnt c =
    let handed = c.args.news.now in
    let old = c.args.shown.now.kept in
    c.texts_of.ensures.learnt (sub_by handed) old (news_by handed) c.requires.right
    (words_by handed old c.args.known.now c.in_ok-plan.plan.items c.as_slice.result.now c.as_slice.ensures.value c.requires.right c.in_ok-plan.ensures.words)

-- nothing is, where there are no texts
pub returns-in_err-updated-clause-learnt : goal.returns-in_err-updated-clause-learnt
returns-in_err-updated-clause-learnt c = nothing_learnt (sub_by c.args.news.now) c.args.shown.now.kept (news_by c.args.news.now) c.args.known.now c.requires.right

pub returns-in_err-plan-clause-learnt : goal.returns-in_err-plan-clause-learnt
returns-in_err-plan-clause-learnt c = nothing_learnt (sub_by c.args.news.now) c.args.shown.now.kept (news_by c.args.news.now) c.args.known.now c.requires.right
