-- What a span that is lent says, and how it is put back.
use Rattle.known_texts.specs.Places.{Texts}
use Rattle.multiplexer.specs.declared.news.Lent.{Lent}

-- the same span with these texts
abbrev pub with_texts : Lent → Texts → Lent
with_texts lent texts = record lent { span = record lent.span { texts = texts } }
