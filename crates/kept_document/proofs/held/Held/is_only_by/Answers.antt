use Rattle.std.proofs.Common.{◌≡◌, ◌==◌, ◌||◌, Bool, true, false, not, ap, sym, refl, ◌∙◌}
use Rattle.kept_document.specs.Forms.{kept_of}
use Rattle.kept_document.specs.Held.{has_other}
use Rattle.kept_document.proofs.Alone.{any_other}
use Rattle.kept_document.proofs.held.Held.is_only_by.Goals as goal

twice : (b : Bool) → b ≡ not (not b || false)
twice true = refl
twice false = refl

pub returns-in-One : goal.returns-in-One
returns-in-One c = twice (c.in-One.publisher == c.args.sub) ∙ ap (λ e. not (has_other c.args.sub e.publishers)) (ap kept_of (sym c.in-One.is) ∙ c.self.view_is)

pub returns-in-Several : goal.returns-in-Several
returns-in-Several c = sym (ap not (any_other c.args.sub c.in-Several.shared.publishers c.known.ensures.shared)) ∙ ap (λ e. not (has_other c.args.sub e.publishers)) (ap kept_of (sym c.in-Several.is) ∙ c.self.view_is)
