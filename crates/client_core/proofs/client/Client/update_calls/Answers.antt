use Rattle.std.specs.Prelude.{None, Some, option_map}
use Rattle.std.proofs.Common.{◌≡◌, ◌≢◌, ℕ, List, Vec, Global, sym, ap, subst, ◌∙◌}
use Rattle.view_model.specs.Views.{released}
use Rattle.ejson_value.specs.Key.{key_cmp}
use Rattle.ddp_messages.specs.ServerMessage as server
use Rattle.client_model.specs.Client.{Call}
use Rattle.client_model.specs.Taking.{message_refusal, told_message, all_changed, with_update}
use Rattle.client_core.specs.Numbered.{AreUpdated}
use Rattle.client_core.specs.State.{Own, state_of}
use Rattle.client_core.proofs.Shown.{updated_shown}
use Rattle.client_core.proofs.Told.{updated_told, given}
use Rattle.client_core.proofs.client.Client.update_calls.Goals as goal

pub invariant_of-self-2 : goal.invariant_of-self-2
invariant_of-self-2 c =
    let s = c.self.inside in
    updated_shown (state_of s.session s.is_failed s.broken s.waiting.items s.view s.subs s.calls.items) c.in-Some.numbers.items c.release.new.self c.update.new.calls.items
    (c.in_ok-release.ensures.ok ∙ ap (λ ns. released key_cmp ns s.view) c.as_slice-2.ensures.value)
    (c.update.ensures ∙ ap (λ ns. all_changed ns with_update s.calls.items) c.as_slice-3.ensures.value) c.self.invariant

pub returns : goal.returns
returns c =
    let s = c.self.inside in
    let methods = c.args.methods.now in
    let own : Own = record { app = s.app; name = s.name; client = state_of s.session s.is_failed s.broken s.waiting.items s.view s.subs s.calls.items } in
    let new : Own = record own { client = record own.client { documents = c.release.new.self; calls = c.update.new.calls.items } } in
    let later : own.client.session ≢ None = subst (λ (old : Own). old.client.session ≢ None) (sym c.self.view_is) c.requires in
    let are : AreUpdated s.calls.items methods (Some c.in-Some.numbers.items) =
    given (λ (ns : Vec ℕ Global). ns.items) s.calls.items methods c.in_ok-numbers.field-0 c.in-Some.numbers c.in-Some.is
    (subst (λ (calls : List Call). AreUpdated calls methods (option_map (λ (ns : Vec ℕ Global). ns.items) c.in_ok-numbers.field-0)) c.as_slice.ensures.value c.in_ok-numbers.ensures) in
    subst (λ (old : Own). (message_refusal old.client (server.updated methods) ≡ None) × (new ≡ record old { client = told_message old.client (server.updated methods) })) c.self.view_is
    (updated_told own methods c.in-Some.numbers.items c.release.new.self c.update.new.calls.items later are
    (c.in_ok-release.ensures.ok ∙ ap (λ ns. released key_cmp ns s.view) c.as_slice-2.ensures.value)
    (c.update.ensures ∙ ap (λ ns. all_changed ns with_update s.calls.items) c.as_slice-3.ensures.value))
