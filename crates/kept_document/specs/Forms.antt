-- The forms in which a document is kept.
use Rattle.merge_model.specs.Kept.{nothing_kept}
use Rattle.kept_document.specs.declared.held.Form.{Form}
use Rattle.kept_document.specs.declared.held.Form.TheVariants.{Nobody, One, Several}
use Rattle.kept_document.specs.Held.{KeptDoc, alone}

-- what is kept, whichever way
abbrev pub kept_of : Form → KeptDoc
kept_of Nobody = nothing_kept
kept_of (One sub doc) = alone sub doc
kept_of (Several e) = e
