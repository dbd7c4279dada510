use Rattle.std.proofs.Common.{◌≡◌, List, [], ◌∷◌, map, None, refl, ap, sym, ◌∙◌}
use Rattle.session_core.specs.session_model.Items.{refused}
use Rattle.session_core.specs.session_model.Methods.{id_at}
use Rattle.ddp_messages.specs.Texts.{server_text}
use Rattle.session_core.specs.session_model.Out.{history_full, all_refused_with}
use Rattle.session_core.specs.session_journal_laws.declared.stored.Stored.TheVariants.{Refused}
use Rattle.session_core.specs.session_state.declared.own.Step.TheVariants.{Refuse}
use Rattle.session_core.specs.session_state.declared.calls.Method.{Method}
use Rattle.session_core.specs.session_state.Calls.{as_method}
use Rattle.session_core.specs.declared.adding.Addition.{Addition}
use Rattle.session_core.specs.declared.inner.Inner.{Inner}
use Rattle.session_core.specs.Kept.{seen}
use Rattle.session_core.proofs.Keeping.{HasMoved, HasStayed}
use Rattle.session_core.proofs.Learnt.{learnt, learnt_kept, has_id, words_refused, refused_runs}
use Rattle.session_core.proofs.learning.turn_down.Goals as goal

pub add-requires-clause-follows : goal.add-requires-clause-follows
add-requires-clause-follows c = refused_runs c.args.k (seen c.args.inner.now) c.requires.can.enabled c.requires.kept.counted.runs

pub returns-clause-refused : goal.returns-clause-refused
returns-clause-refused c =
    let old = c.args.inner.now in
    let mid = c.add.new.inner in
    let new : Inner = record mid { queue = c.stop.new.queue } in
    let a : Addition = record { item = Refused c.args.k c.args.at; id = None; step = Refuse c.args.k; words = c.in_ok-words.words } in
    let d = c.in_ok-add.ensures.added in
    let m : HasMoved mid new = record { app = refl; number = refl; journal = refl; outbox = refl; own = refl; fences = refl; shown = refl; dropped = refl } in
    let s : HasStayed mid new = record { taken = refl; limit = c.stop.ensures.limit; waiting = c.stop.ensures.waiting; places = refl } in
    let st = (seen old).carried.own in
    let ids : c.in-Some.id.now ∷ [] ≡ id_at c.args.k st.methods = c.in-Some.ensures ∙ ap (λ (ms : List Method). id_at c.args.k (map as_method ms)) c.as_slice.ensures.value in
    let words = c.in_ok-words.ensures ∙ ap (map server_text) (words_refused history_full c.in-Some.id.now (id_at c.args.k st.methods) ids) in
    learnt a old mid new d m s (refused c.args.k c.args.at) (all_refused_with history_full (id_at c.args.k st.methods)) refl refl refl words refl refl

pub returns-clause-kept : goal.returns-clause-kept
returns-clause-kept c =
    let old = c.args.inner.now in
    let mid = c.add.new.inner in
    let new : Inner = record mid { queue = c.stop.new.queue } in
    let a : Addition = record { item = Refused c.args.k c.args.at; id = None; step = Refuse c.args.k; words = c.in_ok-words.words } in
    let d = c.in_ok-add.ensures.added in
    let m : HasMoved mid new = record { app = refl; number = refl; journal = refl; outbox = refl; own = refl; fences = refl; shown = refl; dropped = refl } in
    let s : HasStayed mid new = record { taken = refl; limit = c.stop.ensures.limit; waiting = c.stop.ensures.waiting; places = refl } in
    learnt_kept a old mid new d m s c.args.k c.requires.kept c.requires.can.room c.stop.ensures.blocks refl

pub returns-in_default-clause-refused : goal.returns-in_default-clause-refused
returns-in_default-clause-refused c =
    let none = c.in_default.ensures ∙ ap (λ (ms : List Method). id_at c.args.k (map as_method ms)) c.as_slice.ensures.value in
    absurd (has_id c.args.k (seen c.args.inner.now).carried.own.methods (refused_runs c.args.k (seen c.args.inner.now) c.requires.can.enabled c.requires.kept.counted.runs) (sym none))
