-- What a session keeps of an item, and what a print of it shows.
use Rattle.std.specs.Prelude.{ℕ, List, Option, Some, None}
use Rattle.session_model.specs.Items.{Item, id_of}
use Rattle.session_model.specs.Items as item
use Rattle.session_journal_laws.specs.declared.stored.Stored.{Stored}
use Rattle.session_journal_laws.specs.declared.stored.Stored.TheVariants as stored

-- the item that is kept for it, the message's text having this place
abbrev pub kept_as : ℕ → Item → Stored
kept_as place item.connect = stored.Connect
kept_as place item.fail = stored.Fail
kept_as place (item.ping id) = stored.Ping place
kept_as place item.pong = stored.Pong
kept_as place (item.bad reason offending) = stored.Bad place
kept_as place (item.subscribe s message cursors) = stored.Open s place
kept_as place (item.same message) = stored.Same place
kept_as place (item.nosub message fault) = stored.Nosub place fault
kept_as place (item.close s message) = stored.Close s place
kept_as place (item.call k message seed) = stored.Call k place
kept_as place (item.unknown message) = stored.Unknown place
kept_as place (item.load s at) = stored.Load s at
kept_as place (item.advance s count) = stored.Advance s count
kept_as place (item.refused k at) = stored.Refused k at
kept_as place (item.unblocked k) = stored.Unblocked k
kept_as place (item.finished k at) = stored.Finished k at

-- the id that a print of it shows
abbrev pub shown_id : Item → Option (List ℕ)
shown_id (item.subscribe s message cursors) = Some (id_of message)
shown_id (item.same message) = Some (id_of message)
shown_id (item.nosub message fault) = Some (id_of message)
shown_id (item.close s message) = Some (id_of message)
shown_id (item.call k message seed) = Some (id_of message)
shown_id (item.unknown message) = Some (id_of message)
shown_id i = None
