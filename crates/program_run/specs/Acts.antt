-- The write that an act of a client is (Meteor's documentation, "allow" and "deny").
use Rattle.std.specs.Prelude.{[], Bool, true, false, Ok, Err}
use Rattle.value_model.specs.Val.{Val, object}
use Rattle.ejson_value.specs.View.{view}
use Rattle.selector_match.specs.Reading.{has_operator}
use Rattle.modifier_apply.specs.Change.{Modification, changed_by}
use Rattle.modifier_apply.specs.Reading.{Reading, reading}
use Rattle.program_model.specs.Guarded.{Write, inserts, updates, removes}
use Rattle.program_run.specs.declared.act.Act.{Act}
use Rattle.program_run.specs.declared.act.Act.TheVariants as act

-- some name of the object begins with `$`
abbrev pub has_operators : Val → Bool
has_operators (object fs) = has_operator fs
has_operators v = false

-- The modifier is read and is no replacement: only operators change a document by its id.
abbrev pub is_operators : Reading Modification → Bool
is_operators (Ok (changed_by cs)) = true
is_operators outcome = false

abbrev pub modification_in : Reading Modification → Modification
modification_in (Ok modification) = modification
modification_in (Err e) = changed_by []

-- the write that an act is, where its modifier is read
abbrev pub write_of : Act → Write
write_of (act.Insert id doc) = inserts id doc
write_of (act.Update id modifier) = updates id (modification_in (reading (view modifier)))
write_of (act.Remove id) = removes id

abbrev pub is_write : Act → Bool
is_write (act.Update id modifier) = is_operators (reading (view modifier))
is_write a = true
