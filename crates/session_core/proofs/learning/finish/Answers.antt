use Rattle.std.proofs.Common.{◌≡◌, List, ℕ, [], ◌∷◌, ◌++◌, map, None, Some, refl, ap, sym, subst, ◌∙◌}
use Rattle.program_steps.specs.Runs.{End, outcome_view}
use Rattle.session_core.specs.session_model.Items.{finished}
use Rattle.session_core.specs.session_model.Methods.{id_at}
use Rattle.ddp_messages.specs.Texts.{server_text}
use Rattle.session_core.specs.session_model.Out.{result_by}
use Rattle.session_core.specs.session_journal_laws.declared.stored.Stored.TheVariants.{Finished}
use Rattle.session_core.specs.session_state.declared.own.Step.TheVariants.{Finish}
use Rattle.session_core.specs.session_state.declared.calls.Method.{Method}
use Rattle.session_core.specs.session_state.Calls.{as_method}
use Rattle.session_core.specs.declared.adding.Addition.{Addition}
use Rattle.session_core.specs.session_laws.Events.{IsLearnt}
use Rattle.session_core.specs.declared.inner.Inner.{Inner}
use Rattle.session_core.specs.Kept.{seen}
use Rattle.session_core.proofs.Keeping.{HasMoved, HasStayed}
use Rattle.session_core.proofs.Learnt.{learnt, learnt_kept, has_id}
use Rattle.session_core.proofs.learning.finish.Goals as goal

pub returns-clause-learnt : goal.returns-clause-learnt
returns-clause-learnt c =
    let old = c.args.inner.now in
    let mid = c.add.new.inner in
    let end = c.end.inside in
    let new : Inner = record mid { queue = c.stop.new.queue } in
    let a : Addition = record { item = Finished c.args.k end.at; id = None; step = Finish c.args.k end.at; words = c.push_back.new.self } in
    let d = c.in_ok-add.ensures.added in
    let m : HasMoved mid new = record { app = refl; number = refl; journal = refl; outbox = refl; own = refl; fences = refl; shown = refl; dropped = refl } in
    let s : HasStayed mid new = record { taken = refl; limit = c.stop.ensures.limit; waiting = c.stop.ensures.waiting; places = refl } in
    let st = (seen old).carried.own in
    let ids : c.in-Some.id.now ∷ [] ≡ id_at c.args.k st.methods = c.in-Some.ensures ∙ ap (λ (ms : List Method). id_at c.args.k (map as_method ms)) c.as_slice.ensures.value in
    let text : List (List ℕ) → List (List ℕ) = λ xs. xs ++ c.in_ok-text.text ∷ [] in
    let words = c.in_ok-push_back.ensures.items ∙ (ap text c.new-words.ensures.items ∙ (ap (λ (t : List ℕ). t ∷ []) c.in_ok-text.ensures ∙ ap (λ (ids : List (List ℕ)). map server_text (map (result_by (outcome_view end.outcome)) ids)) ids)) in
    subst (λ (e : End). IsLearnt c.args.k (Some e) (seen old) (seen new)) c.end.view_is
    (learnt a old mid new d m s (finished c.args.k end.at) (map (result_by (outcome_view end.outcome)) (id_at c.args.k st.methods)) refl refl refl words refl refl)

pub returns-clause-kept : goal.returns-clause-kept
returns-clause-kept c =
    let old = c.args.inner.now in
    let mid = c.add.new.inner in
    let end = c.end.inside in
    let new : Inner = record mid { queue = c.stop.new.queue } in
    let a : Addition = record { item = Finished c.args.k end.at; id = None; step = Finish c.args.k end.at; words = c.push_back.new.self } in
    let d = c.in_ok-add.ensures.added in
    let m : HasMoved mid new = record { app = refl; number = refl; journal = refl; outbox = refl; own = refl; fences = refl; shown = refl; dropped = refl } in
    let s : HasStayed mid new = record { taken = refl; limit = c.stop.ensures.limit; waiting = c.stop.ensures.waiting; places = refl } in
    learnt_kept a old mid new d m s c.args.k c.requires.kept c.requires.room c.stop.ensures.blocks refl

pub returns-in_default-clause-learnt : goal.returns-in_default-clause-learnt
returns-in_default-clause-learnt c =
    let none = c.in_default.ensures ∙ ap (λ (ms : List Method). id_at c.args.k (map as_method ms)) c.as_slice.ensures.value in
    absurd (has_id c.args.k (seen c.args.inner.now).carried.own.methods c.requires.runs (sym none))
