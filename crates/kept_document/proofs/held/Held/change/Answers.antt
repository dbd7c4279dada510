use Rattle.std.proofs.Common.{None, Some, option_copied, ap, sym, subst, subst₂, ◌∙◌, true≢false}
use Rattle.kept_document.specs.declared.held.Change.TheVariants.{Whole}
use Rattle.kept_document.specs.Held.{alone, has_other, IsHeld}
use Rattle.kept_document.specs.Forms.{kept_of}
use Rattle.kept_document.specs.Changes.{IsChange}
use Rattle.kept_document.proofs.Alone.{alone_is, any_other, other_one}
use Rattle.kept_document.proofs.Places.{nothing_held}
use Rattle.kept_document.proofs.held.Held.change.Goals as goal

pub returns-in_ok-held-in-Nobody-clause-is : goal.returns-in_ok-held-in-Nobody-clause-is
returns-in_ok-held-in-Nobody-clause-is c =
    let doc = option_copied c.args.doc in
    let made = c.in_ok-held-in-Nobody.ensures in
    subst₂ (λ e held. IsChange c.args.sub doc e (Whole held)) (ap kept_of (sym c.in-Nobody.is) ∙ c.self.view_is) (sym made)
    (alone_is c.args.sub None doc nothing_held (subst IsHeld made c.known.ensures))

pub returns-in_ok-held-in-One-clause-is : goal.returns-in_ok-held-in-One-clause-is
returns-in_ok-held-in-One-clause-is c =
    let doc = option_copied c.args.doc in
    let made = c.in_ok-held-in-One.ensures in
    let old = c.in-One.old in
    let now = ap kept_of c.in-One.is ∙ ap (λ s. alone s old) (sym c.if-sub-first.true) in
    subst₂ (λ e held. IsChange c.args.sub doc e (Whole held)) (sym now ∙ c.self.view_is) (sym made)
    (alone_is c.args.sub (Some old) doc (subst IsHeld now c.self.invariant) (subst IsHeld made c.known-then-sub-first.ensures))

pub returns-in_ok-held-in-Nobody-clause-alone : goal.returns-in_ok-held-in-Nobody-clause-alone
returns-in_ok-held-in-Nobody-clause-alone c = λ _. ap Whole c.in_ok-held-in-Nobody.ensures

pub returns-in_ok-held-in-One-clause-alone : goal.returns-in_ok-held-in-One-clause-alone
returns-in_ok-held-in-One-clause-alone c = λ _. ap Whole c.in_ok-held-in-One.ensures

pub returns-in_ok-beside-in-One-clause-alone : goal.returns-in_ok-beside-in-One-clause-alone
returns-in_ok-beside-in-One-clause-alone c = λ alone.
    let it = ap (λ e. has_other c.args.sub e.publishers) (ap kept_of (sym c.in-One.is) ∙ c.self.view_is) ∙ alone in
    absurd (true≢false (sym (other_one c.args.sub c.in-One.first c.if-sub-first.false) ∙ it))

pub returns-in-Several-clause-alone : goal.returns-in-Several-clause-alone
returns-in-Several-clause-alone c = λ alone.
    let it = ap (λ e. has_other c.args.sub e.publishers) (ap kept_of (sym c.in-Several.is) ∙ c.self.view_is) ∙ alone in
    absurd (true≢false (sym (any_other c.args.sub c.in-Several.shared.publishers c.known-in-Several.ensures.shared) ∙ it))
