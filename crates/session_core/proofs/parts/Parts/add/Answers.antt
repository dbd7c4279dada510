use Rattle.std.proofs.Common.{◌≡◌, ◌∷◌, [], ◌++◌, List, ℕ, length, ap, ap₂, sym, subst, ◌∙◌}
use Rattle.std.specs.Prelude.{is_ok, if◌then◌else◌}
use Rattle.merge_box.specs.State.{KeptDocs, IsBoxAfter}
use Rattle.session_model.specs.State.{State}
use Rattle.session_journal_laws.specs.Fired.{unfired}
use Rattle.session_journal_laws.specs.Stands.{fired_state}
use Rattle.session_state.specs.declared.journal.Line.{Line}
use Rattle.session_state.specs.Journal.{AJournal}
use Rattle.session_state.specs.declared.progress.Progress.{Progress}
use Rattle.session_state.specs.Own.{as_state, stepped, observers_after}
use Rattle.session_core.specs.Additions.{call_by, armed_by}
use Rattle.session_core.specs.Parts.{gained_texts, line_of}
use Rattle.session_core.proofs.parts.Parts.add.Goals as goal

pub returns-clause-gained : goal.returns-clause-gained
returns-clause-gained c =
    let old = c.args.self.now in
    let st = as_state old.own in
    let step = c.args.addition.step in
    let state = stepped step st in
    let words = c.args.addition.words.items in
    let kept = c.commit.new.self.kept in
    let texts : c.in_ok-texts.texts.items ≡ gained_texts state words old.shown.kept kept =
    c.in_ok-texts.ensures.texts ∙ ap (λ (n : KeptDocs). gained_texts state words old.shown.kept n) (sym c.commit.ensures.kept) in
    let with_texts : List (List ℕ) → List (List ℕ) = λ xs. xs ++ c.in_ok-texts.texts.items in
    record {
      lines = ap (λ (j : AJournal). j.lines) c.push.ensures ∙ ap (λ (ls : List Line). ls ++ line_of c.args.addition ∷ []) c.reserve.ensures.lines;
      counts = ap (λ (j : AJournal). j.counts) c.push.ensures ∙ (ap (λ (ns : List ℕ). ns ++ c.count_of-count.result ∷ []) c.reserve.ensures.counts ∙ ap (λ (n : ℕ). old.journal.counts ++ n ∷ []) (c.count_of-count.ensures ∙ ap length texts));
      outbox = c.append.ensures.items ∙ (ap (λ r. if is_ok r then with_texts c.reserve.new.outbox.items else c.reserve.new.outbox.items) c.unwrap.ensures ∙ (ap with_texts c.reserve.ensures.outbox ∙ ap (λ (ts : List (List ℕ)). old.outbox.items ++ ts) texts));
      own = c.take.ensures.fired ∙ ap (λ (s : State). fired_state (stepped step s)) c.reserve.ensures.own.state;
      observers = c.take.ensures.observers ∙ ap₂ (observers_after step) (ap (λ (s : State). s.subs) c.reserve.ensures.own.state) c.reserve.ensures.own.observers;
      fences = c.fire_all.ensures ∙ (ap (unfired c.progress_after-progress.result.opening c.progress_after-progress.result.least) c.in_ok-arm.ensures.ok ∙ ap (λ (p : Progress). unfired p.opening p.least (armed_by step old.fences)) c.progress_after-progress.ensures);
      shown = subst (λ (n : KeptDocs). IsBoxAfter (call_by c.args.news.now) old.shown.kept n) (sym c.commit.ensures.kept) c.in_ok-texts.ensures.after;
      whole = c.known-3.ensures.kept;
      rising = c.known-2.ensures;
    }
