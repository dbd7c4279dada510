use Rattle.std.proofs.Common.{◌+◌, refl, ap, sym, ◌∙◌, arith}
use Rattle.ejson_value.specs.Measure.{capped}
use Rattle.history_model.specs.History.{entries_with}
use Rattle.store_machine.specs.declared.parts.Parts.{Parts}
use Rattle.store_machine.specs.State.{held_by}
use Rattle.store_machine.specs.Standing.{seen}
use Rattle.store_machine.proofs.Standings.{bounds, stand_kept, seen_kept, on_err}
use Rattle.store_machine.proofs.Beginnings.{full_begin, begins, steps_fit, status_seen}
use Rattle.store_machine.proofs.beginning.begin_new.Goals as goal

pub returns-then-past : goal.returns-then-past
returns-then-past c =
    let app = c.args.app.now in
    let p = c.args.parts.now in
    let h = held_by (seen app p) in
    let counts = c.entries_with-entries.ensures ∙ ap (λ n. capped (entries_with h n)) c.step_count-steps.ensures in
    let past = sym c.is_past-past.ensures ∙ c.if-past.true in
    record {
      stands = c.requires.stands;
      gives = full_begin app p c.args.session c.args.k c.args.method.now c.args.params.now c.args.seed.now _ _ c.requires.stands c.requires.none counts c.kept_with-kept.ensures past;
      status = tt;
      refused = refl;
    }

pub overflow_add-parts : goal.overflow_add-parts
overflow_add-parts c =
    let app = c.args.app.now in
    let p = c.args.parts.now in
    let h = held_by (seen app p) in
    let many = c.step_count-steps.ensures in
    let counts = c.entries_with-entries.ensures ∙ ap (λ n. capped (entries_with h n)) many in
    let past = sym c.is_past-past.ensures ∙ c.if-past.false in
    omega (arith, many, steps_fit app p c.add_call.new.parts c.args.session c.args.k c.args.method.now c.args.params.now c.args.seed.now _ _ c.requires.stands counts past c.in_ok-status.ensures.keeps)

pub returns : goal.returns
returns c =
    let app = c.args.app.now in
    let p = c.args.parts.now in
    let q = c.add_call.new.parts in
    let h = held_by (seen app p) in
    let many = c.step_count-steps.ensures in
    let counts = c.entries_with-entries.ensures ∙ ap (λ n. capped (entries_with h n)) many in
    let past = sym c.is_past-past.ensures ∙ c.if-past.false in
    let p' : Parts = record q { kept = c.kept_with-kept.result; reserved = q.reserved + c.step_count-steps.result } in
    let is =
    begins app p q p' c.args.session c.args.k c.args.method.now c.args.params.now c.args.seed.now _ _ c.requires.stands c.requires.known c.requires.next c.requires.none counts c.kept_with-kept.ensures past c.add_call.ensures.names c.in_ok-status.ensures.keeps
    (ap (λ n. let x : Parts = record q { kept = c.kept_with-kept.result; reserved = q.reserved + n } in x) many) in
    record { stands = is.stands; gives = is.answer; status = status_seen app p' c.args.session c.args.k is.stands ∙ c.in_ok-status.ensures.status; refused = tt }

pub returns-in_err-status-clause-stands : goal.returns-in_err-status-clause-stands
returns-in_err-status-clause-stands c = stand_kept c.args.app.now c.args.parts.now c.add_call.new.parts c.requires.stands c.add_call.ensures.names c.in_err-status.ensures.err

pub returns-in_err-status-clause-refused : goal.returns-in_err-status-clause-refused
returns-in_err-status-clause-refused c = on_err c.from_residual.result (seen_kept c.args.app.now c.args.parts.now c.add_call.new.parts c.in_err-status.ensures.err)

pub add_call-requires : goal.add_call-requires
add_call-requires c = omega (arith, (bounds c.args.app.now c.args.parts.now c.requires.stands).1)
