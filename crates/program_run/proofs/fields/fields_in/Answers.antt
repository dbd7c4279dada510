use Rattle.std.proofs.Common.{◌≡◌, ℕ, List, IfOk, ap, sym, subst, ◌∙◌}
use Rattle.ejson_value.specs.View.{view}
use Rattle.program_model.specs.Guarded.{fields_in}
use Rattle.program_run.specs.declared.act.Act.{Act}
use Rattle.program_run.specs.Acts.{write_of, is_write}
use Rattle.program_run.proofs.Parts.{parts-read}
use Rattle.program_run.proofs.fields.fields_in.Goals as goal

pub returns-in-Update : goal.returns-in-Update
returns-in-Update c =
    let is = c.in-Update.is in
    subst (λ (xs : List (List ℕ)). IfOk c.parts_in.result (λ parts. parts ≡ xs))
    (parts-read c.in-Update.id (view c.in-Update.modifier) (ap (λ (a : Act). is_write a) (sym is) ∙ c.requires) ∙ ap (λ (a : Act). fields_in (write_of a)) (sym is))
    c.parts_in.ensures
