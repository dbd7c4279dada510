use Rattle.std.proofs.Common.{◌≤◌, ℕ, List, Option, map, ap, ap₂, sym, subst, ◌∙◌}
use Rattle.std.specs.Prelude.{IfSome}
use Rattle.session_state.specs.declared.calls.Method.{Method}
use Rattle.session_state.specs.declared.progress.Progress.{Progress}
use Rattle.session_state.specs.Calls.{as_method, told_from, are_settled}
use Rattle.session_state.specs.Own.{as_state, ended_by}
use Rattle.session_state.proofs.Telling.{told_is}
use Rattle.session_state.proofs.Settled.{fewer, passed_least, passed_before}
use Rattle.session_state.proofs.kept.Own.told.Goals as goal

pub updated_ids-requires-clause-settled : goal.updated_ids-requires-clause-settled
updated_ids-requires-clause-settled c =
    let own = c.args.self.now in
    let passed = c.passed_by-passed.result in
    let le : passed ≤ own.settled = subst (λ (n : ℕ). n ≤ own.settled) (sym c.passed_by-passed.ensures) (passed_least own.settled c.ended-ended.result) in
    ap (λ (ms : List Method). are_settled passed (map as_method ms)) c.as_slice.ensures.value ∙ fewer own.settled passed (map as_method own.methods.items) le own.known

pub updated_ids-requires-clause-before : goal.updated_ids-requires-clause-before
updated_ids-requires-clause-before c =
    let ended = c.ended-ended.result in
    subst (λ (n : ℕ). IfSome ended (λ (e : ℕ × ℕ). n ≤ e.0)) (sym c.passed_by-passed.ensures) (passed_before c.args.self.now.settled ended)

pub returns : goal.returns
returns c =
    let st = as_state c.args.self.now in
    c.in_ok-ids.ensures
    ∙ (ap₂ (λ (e : Option (ℕ × ℕ)) (ms : List Method). told_from c.args.progress.now e 0 (map as_method ms)) c.ended-ended.ensures c.as_slice.ensures.value
    ∙ (ap (λ (p : Progress). told_from p (ended_by c.args.step.now) 0 st.methods) c.requires.progress ∙ told_is c.args.step.now st c.requires.can))
