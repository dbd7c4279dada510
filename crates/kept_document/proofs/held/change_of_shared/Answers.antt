use Rattle.std.proofs.Common.{option_copied, ap, sym, subst, ◌∙◌}
use Rattle.kept_document.specs.declared.held.Change.TheVariants.{Whole}
use Rattle.kept_document.specs.Held.{is_shared, sole, publishers_with}
use Rattle.kept_document.specs.Changes.{IsChange}
use Rattle.kept_document.proofs.Alone.{shared_left, left_is}
use Rattle.kept_document.proofs.KeptAfter.{is_some-copied}
use Rattle.kept_document.proofs.held.change_of_shared.Goals as goal

pub part-requires-clause-shared : goal.part-requires-clause-shared
part-requires-clause-shared c =
    ap is_shared c.in_ok-publishers.ensures
    ∙ shared_left c.args.sub c.is_some.result c.args.shared.now.publishers c.known.ensures.shared (ap sole (sym (c.as_slice.ensures.value ∙ c.in_ok-publishers.ensures)) ∙ sym c.in-None.ensures)

pub returns-in_ok-left_to-in-Some : goal.returns-in_ok-left_to-in-Some
returns-in_ok-left_to-in-Some c =
    let now = c.in_ok-publishers.ensures ∙ ap (λ b. publishers_with c.args.sub b c.args.shared.now.publishers) (c.is_some.ensures ∙ is_some-copied c.args.doc) in
    subst (λ held. IsChange c.args.sub (option_copied c.args.doc) c.args.shared.now (Whole held)) (sym c.in_ok-left_to-in-Some.ensures)
    (left_is c.args.sub (option_copied c.args.doc) c.args.shared.now c.in-Some.publisher c.known.ensures.held c.known.ensures.shared (ap sole (sym (c.as_slice.ensures.value ∙ now)) ∙ sym c.in-Some.ensures))
