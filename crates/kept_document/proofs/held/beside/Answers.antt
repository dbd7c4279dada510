use Rattle.std.proofs.Common.{option_copied, ap, sym, subst₂, ◌∙◌}
use Rattle.kept_document.specs.declared.held.Change.TheVariants.{Whole}
use Rattle.kept_document.specs.Held.{alone}
use Rattle.kept_document.specs.Changes.{IsChange}
use Rattle.kept_document.proofs.Alone.{held_alone, untouched, whole_is}
use Rattle.kept_document.proofs.held.beside.Goals as goal

pub returns-in_ok-copy-in-None : goal.returns-in_ok-copy-in-None
returns-in_ok-copy-in-None c =
    subst₂ (λ added held. IsChange c.args.sub added (alone c.args.first c.args.doc.now) (Whole held)) (sym (ap option_copied c.in-None.is))
    (sym (c.one.ensures ∙ ap (alone c.args.first) c.in_ok-copy-in-None.ensures))
    (untouched c.args.sub c.args.first c.args.doc.now c.requires (held_alone c.args.first c.args.doc.now c.known.ensures.names))

pub returns-in_ok-shared-in-Some : goal.returns-in_ok-shared-in-Some
returns-in_ok-shared-in-Some c =
    subst₂ (λ added held. IsChange c.args.sub added (alone c.args.first c.args.doc.now) (Whole held)) (sym (ap option_copied c.in-Some.is)) (sym c.several.ensures)
    (whole_is c.args.sub _ (alone c.args.first c.args.doc.now) c.in_ok-shared-in-Some.shared (held_alone c.args.first c.args.doc.now c.known.ensures.names) c.known-in-Some.ensures.held c.in_ok-shared-in-Some.ensures)
