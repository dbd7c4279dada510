use Rattle.std.proofs.Common.{subst, ◌≡◌, None}
use Rattle.client_model.specs.Showing.{IsShown}
use Rattle.revived_client.specs.State.{RevivedState}
use Rattle.revived_client.specs.Faithful.{HasWhatWasGiven, HasWhatWasSent}
use Rattle.revived_client.proofs.Keeping.{view_of, has_given, has_sent, shown_quiet, whole_going}
use Rattle.revived_client.proofs.client.RevivedClient.known.Goals as goal

pub returns-clause-shown : goal.returns-clause-shown
returns-clause-shown c =
    let P : RevivedState → Type 0 = λ v. IsShown v.own.client in
    subst P c.self.view_is (shown_quiet c.self.inside.client c.client.result.now c.client.ensures c.known.ensures.shown)

pub returns-clause-whole : goal.returns-clause-whole
returns-clause-whole c =
    let P : RevivedState → Type 0 = λ v. v.stop ≡ None → v.own.client.broken ≡ None in
    subst P c.self.view_is (whole_going c.self.inside.client c.self.inside.reviver c.self.inside.last c.self.inside.stop c.self.invariant)

pub returns-clause-given : goal.returns-clause-given
returns-clause-given c =
    let P : RevivedState → Type 0 = λ v. HasWhatWasGiven v in
    subst P c.self.view_is (has_given c.self.inside.client c.self.inside.reviver c.self.inside.last c.self.inside.stop c.self.invariant)

pub returns-clause-sent : goal.returns-clause-sent
returns-clause-sent c =
    let P : RevivedState → Type 0 = λ v. HasWhatWasSent v in
    subst P c.self.view_is (has_sent c.self.inside.client c.self.inside.reviver c.self.inside.last c.self.inside.stop c.self.invariant)
