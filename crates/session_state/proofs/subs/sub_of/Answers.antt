use Rattle.std.proofs.Common.{◌≡◌, Option, None, Some, map, option_map, refl, ap, sym, ◌∙◌, arith, Bor}
use Rattle.std.specs.Prelude.{slice_get, option_and_then}
use Rattle.std.specs.Option.{option_copied}
use Rattle.std.specs.ControlFlow.{continue_value}
use Rattle.session_state.specs.declared.subs.Sub.{Sub}
use Rattle.session_state.specs.Subs.{as_live, place_in}
use Rattle.session_state.proofs.InPlace.{item_there}
use Rattle.session_state.proofs.Places.{live_at, live_none, seen_at, seen_none}
use Rattle.session_state.proofs.subs.sub_of.Goals as goal

live_copied : (r : Option (Bor Sub)) → option_map (λ (s : Bor Sub). as_live s.now) r ≡ option_map as_live (option_copied r)
live_copied None = refl
live_copied (Some s) = refl

seen_copied : (r : Option (Bor Sub)) → option_and_then (λ (s : Bor Sub). s.now.observer) r ≡ option_and_then (λ (s : Sub). s.observer) (option_copied r)
seen_copied None = refl
seen_copied (Some s) = refl

pub returns-in_err-place-clause-live : goal.returns-in_err-place-clause-live
returns-in_err-place-clause-live c =
    let ls = map as_live c.args.subs.now in
    let none : place_in c.args.number ls ≡ None = sym c.place_of.ensures ∙ (c.branch-place.ensures ∙ ap continue_value c.in_err-place.is) in
    ap (option_map (λ (s : Bor Sub). as_live s.now)) c.from_residual.ensures ∙ live_none c.args.number 0 ls none

pub returns-in_err-place-clause-observer : goal.returns-in_err-place-clause-observer
returns-in_err-place-clause-observer c =
    let none : place_in c.args.number (map as_live c.args.subs.now) ≡ None = sym c.place_of.ensures ∙ (c.branch-place.ensures ∙ ap continue_value c.in_err-place.is) in
    ap (option_and_then (λ (s : Bor Sub). s.now.observer)) c.from_residual.ensures ∙ seen_none c.args.number 0 c.args.subs.now none

pub returns-clause-live : goal.returns-clause-live
returns-clause-live c =
    let p = c.in_ok-place.place in
    let subs = c.args.subs.now in
    let got : option_copied c.get.result ≡ slice_get subs p = item_there subs p c.get.result c.get.ensures.lookup in
    let there : place_in c.args.number (map as_live subs) ≡ Some p = sym c.place_of.ensures ∙ (c.branch-place.ensures ∙ ap continue_value c.in_ok-place.is) in
    live_copied c.get.result ∙ (ap (option_map as_live) got ∙ live_at c.args.number 0 p p subs (omega arith) there)

pub returns-clause-observer : goal.returns-clause-observer
returns-clause-observer c =
    let p = c.in_ok-place.place in
    let subs = c.args.subs.now in
    let got : option_copied c.get.result ≡ slice_get subs p = item_there subs p c.get.result c.get.ensures.lookup in
    let there : place_in c.args.number (map as_live subs) ≡ Some p = sym c.place_of.ensures ∙ (c.branch-place.ensures ∙ ap continue_value c.in_ok-place.is) in
    seen_copied c.get.result ∙ (ap (option_and_then (λ (s : Sub). s.observer)) got ∙ seen_at c.args.number 0 p p subs (omega arith) there)
