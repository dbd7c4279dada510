-- What a client that lives through several links has.
use Rattle.std.specs.Prelude.{◌≡◌, true, None}
use Rattle.revived_client.specs.State.{RevivedState}

-- while no text was refused, its copy of the server's documents is what it was given: until the epoch is revived, what it had at the loss
abbrev pub HasWhatWasGiven : RevivedState → Type 0
HasWhatWasGiven v = v.stop ≡ None → v.own.client.documents.server ≡ v.revival.given

-- while the epoch is revived and no text was refused, its copy of the server's documents is what the present session sent
abbrev pub HasWhatWasSent : RevivedState → Type 0
HasWhatWasSent v = v.stop ≡ None → v.revival.is_revived ≡ true → v.own.client.documents.server ≡ v.revival.copy
