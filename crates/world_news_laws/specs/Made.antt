-- Each live subscription of a journal that fits has the cursors that its publication makes with its parameters.
use Rattle.std.specs.Prelude.{[]}
use Rattle.connection_laws.specs.publication.Cursors.{ACursors}
use Rattle.connection_laws.specs.session_model.Items.{Item}
use Rattle.connection_laws.specs.session_model.Items as item

-- ---- a subscription that is opened

-- the cursors of an item that opens one
abbrev pub cursors_said : Item → ACursors
cursors_said (item.subscribe s message cursors) = cursors
cursors_said i = []
