use Rattle.std.proofs.Common.{ℕ, length, take, Some, None, lit<, ap, sym, ◌∙◌, take_all, arith}
use Rattle.std.proofs.lemmas.Str.Pattern.{split_once_first}
use Rattle.program_run.proofs.fields.first_part.Goals as goal

pub returns-in-Some : goal.returns-in-Some
returns-in-Some c = (split_once_first 46 c.args.path.now (Some (c.in-Some.first, c.in-Some.field-0-1)) c.in-Some.ensures.cases (lit< tt)).1

pub returns-in-None : goal.returns-in-None
returns-in-None c =
    let whole = split_once_first 46 c.args.path.now None c.in-None.ensures.cases (lit< tt) in
    sym (ap (λ (n : ℕ). take n c.args.path.now) whole ∙ take_all (length c.args.path.now) c.args.path.now (omega arith))
